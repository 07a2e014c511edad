-- The calls for a group are those that name it, and a run of calls is their promises (`OwnCalls`, `RunIs` of `specs/Isolation.antt`). Assumes
-- nothing.
use mathlib.Core.Path.{◌≡◌, refl, ap, ◌∙◌}
use mathlib.Core.Bool.{Bool, true, false, cond}
use mathlib.Core.List.{List, [], ◌∷◌, ◌++◌}
use Prim.Native.Nat.{ℕ, suc}
use native.Mathlib.Omega.{arith}
use lib.Dec.{eqb}
use lib.ListN.{length}
use borrow.Author.Tests.{eq-eqb, ne_eqb}
use Rattle.groups.specs.declared.Record.{Record}
use Rattle.modes.specs.Call.{CallInput}
use Rattle.isolation.proofs.Alone.{wrap-step, unwrap-step, open_step}
use Rattle.isolation.specs.Calls.{Opened, Wrapped, Unwrapped, opening, wrap, unwrap, GroupCall, Given, Run, none, opened, wrapped, unwrapped, calls_for, given_to}
use Rattle.isolation.specs.Isolation.{RunIs, OwnCalls}

-- one more in front, or not
front : {A : Type 0} (b : Bool) (x : A) (s t u : List A) → u ≡ s ++ t → cond b (x ∷ u) u ≡ cond b (x ∷ s) s ++ t
front true x s t u e = ap (λ (v : List _). x ∷ v) e
front false x s t u e = e

each_given : (allowance : ℕ) {cs : List GroupCall} {gs : List Given} {from to : List Record} → Run allowance cs from gs to → length cs ≡ length gs
each_given allowance none = refl
each_given allowance (opened e run) = ap suc (each_given allowance run)
each_given allowance (wrapped e run) = ap suc (each_given allowance run)
each_given allowance (unwrapped e run) = ap suc (each_given allowance run)

module _ (allowance : ℕ) where
  no_call : {from to : List Record} {gs : List Given} → Run allowance [] from gs to → (gs ≡ []) × (to ≡ from)
  no_call none = (refl, refl)

  one_opening : {from to : List Record} {group : ℕ} {key : List ℕ} {x : Given}
      → Run allowance (record { group = group; request = opening key } ∷ []) from (x ∷ []) to → Opened allowance from group key x.answer to
  one_opening (opened {cs} {gs} {from} {next} {to} {group} {key} {r} e (none {from = last})) = e

  one_wrap : {from to : List Record} {group : ℕ} {i : CallInput} {x : Given}
      → Run allowance (record { group = group; request = wrap i } ∷ []) from (x ∷ []) to → Wrapped allowance from group i x.answer to x.out x.tag
  one_wrap (wrapped {cs} {gs} {from} {next} {to} {group} {i} {r} {out} {tag} e (none {from = last})) = e

  one_unwrap : {from to : List Record} {group : ℕ} {i : CallInput} {x : Given}
      → Run allowance (record { group = group; request = unwrap i } ∷ []) from (x ∷ []) to → Unwrapped allowance from group i x.answer to x.out x.tag
  one_unwrap (unwrapped {cs} {gs} {from} {next} {to} {group} {i} {r} {out} {tag} e (none {from = last})) = e

  size : {cs : List GroupCall} {gs : List Given} {from to : List Record} → Run allowance cs from gs to → length to ≡ length from
  size none = refl
  size (opened {cs} {gs} {from} {next} {to} {group} {key} {r} e run) = size run ∙ (open_step allowance from next group key r e).size
  size (wrapped {cs} {gs} {from} {next} {to} {group} {i} {r} {out} {tag} e run) = size run ∙ (wrap-step allowance from next group i r out tag e).size
  size (unwrapped {cs} {gs} {from} {next} {to} {group} {i} {r} {out} {tag} e run) = size run ∙ (unwrap-step allowance from next group i r out tag e).size

  pub run_is : RunIs allowance
  run_is =
      record {
        no_call = λ from to gs run. no_call run;
        one_opening = λ from to group key x run. one_opening run;
        one_wrap = λ from to group i x run. one_wrap run;
        one_unwrap = λ from to group i x run. one_unwrap run;
        size = λ cs gs from to run. size run;
      }

module _ (g : ℕ) where
  parts : (cs ds : List GroupCall) → calls_for g (cs ++ ds) ≡ calls_for g cs ++ calls_for g ds
  unfolding calls_for
  parts [] ds = refl
  parts (c ∷ cs) ds = front (eqb c.group g) c (calls_for g cs) (calls_for g ds) (calls_for g (cs ++ ds)) (parts cs ds)

  parts_given : (cs ds : List GroupCall) (gs hs : List Given) → length cs ≡ length gs → given_to g (cs ++ ds) (gs ++ hs) ≡ given_to g cs gs ++ given_to g ds hs
  unfolding given_to
  parts_given [] ds [] hs e = refl
  parts_given [] ds (x ∷ gs) hs e = absurd (omega arith)
  parts_given (c ∷ cs) ds [] hs e = absurd (omega arith)
  parts_given (c ∷ cs) ds (x ∷ gs) hs e =
      front (eqb c.group g) x (given_to g cs gs) (given_to g ds hs) (given_to g (cs ++ ds) (gs ++ hs)) (parts_given cs ds gs hs (omega arith))

  pub own-calls : OwnCalls g
  unfolding calls_for given_to
  own-calls =
      record {
        own = λ c e. ap (λ (b : Bool). cond b (c ∷ []) []) (eq-eqb c.group g e);
        other = λ c n. ap (λ (b : Bool). cond b (c ∷ []) []) (ne_eqb c.group g n);
        parts = parts;
        own_given = λ c x e. ap (λ (b : Bool). cond b (x ∷ []) []) (eq-eqb c.group g e);
        other_given = λ c x n. ap (λ (b : Bool). cond b (x ∷ []) []) (ne_eqb c.group g n);
        parts_given = parts_given;
        each_given = λ allowance cs gs from to run. each_given allowance run;
      }
