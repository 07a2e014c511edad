-- A ledger's history has no string exactly where no message was accepted at its end. Assumes nothing.
use mathlib.Core.Bool.{Bool, true, false, cond}
use mathlib.Core.List.{List, [], ◌∷◌, map}
use mathlib.Core.Logic.{◌↔◌, ◌≢◌, ◌⊎◌, inl, inr}
use mathlib.Core.Path.{◌≡◌, refl, sym, subst}
use Prim.Native.Nat.{ℕ, zero, suc, ◌+◌, ◌≤◌}
use native.Mathlib.Omega.{arith}
use lib.ListN.{length}
use Rattle.deck.specs.declared.DeckState.{DeckState}
use Rattle.deck.specs.Strings.{Str}
use Rattle.deck.specs.Deck.{index_of}
use Rattle.modes.specs.Call.{CallInput, Side, office, group, Call, wrap, unwrap, side_of}
use Rattle.modes.specs.Rules.{Outcome, growth}
use Rattle.modes.specs.Paper.{PaperResult}
use Rattle.modes.specs.Ledger.{PaperMode, Ledger, string_a, Entry, equal_tags, wrap_finds, unwrap_finds, check_before11, on_check, accepts, refuses11, ledger_wrap, ledger_unwrap}
use Rattle.modes.specs.TwoEnds.{Ledgers, ledger_at, set_ledger, ledger_step, next_ledgers, entries, finish_ledgers}
use Rattle.modes.specs.Demand3.{outcome_of}
use Rattle.modes.specs.CodeLists.{NoneAccepted}
use Rattle.modes.proofs.Entries.{PaperLaws}
use Rattle.modes.proofs.Codes.{index-none}

-- a call that is accepted moves the index
growth-some : (a n : ℕ) → 1 ≤ growth a n
unfolding growth
growth-some a zero = omega arith
growth-some zero (suc n) = omega arith
growth-some (suc a) (suc n) = omega arith

longer : (g h : List Str) (a n : ℕ) → index_of g ≡ index_of h + growth a n → g ≢ []
longer g h a n e z = omega (arith, e, growth-some a n, (index-none g).1 z)

module _ {m : PaperMode} (laws : PaperLaws m) (l : Ledger) (i : CallInput) where
  wrap-empty : ((ledger_wrap m l i).ledger.history ≡ []) ↔ ((l.history ≡ []) × ((ledger_wrap m l i).answer.number ≢ 0))
  unfolding ledger_wrap
  wrap-empty = go (check_before11 m (wrap_finds m l i) i)
    where
      r : PaperResult
      r = wrap_finds m l i

      go : (n : ℕ) → ((on_check m n l i (accepts m l i r r.tag)).ledger.history ≡ [])
          ↔ ((l.history ≡ []) × ((on_check m n l i (accepts m l i r r.tag)).answer.number ≢ 0))
      go zero = (
        λ e. absurd (longer r.history l.history (length (string_a i)) (length i.text) (laws.wraps_index l.key l.history l.toggle (string_a i) i.text) e),
        λ w. absurd (w.1 refl),
      )
      go (suc n) = (λ e. (e, λ z. omega arith), λ w. w.0)

  unwrap-empty : ((ledger_unwrap m l i).ledger.history ≡ []) ↔ ((l.history ≡ []) × ((ledger_unwrap m l i).answer.number ≢ 0))
  unfolding ledger_unwrap
  unwrap-empty = go (check_before11 m (unwrap_finds m l i) i) (equal_tags i.tag (unwrap_finds m l i).tag)
    where
      r : PaperResult
      r = unwrap_finds m l i

      go : (n : ℕ) (q : Bool) → ((on_check m n l i (cond q (accepts m l i r i.tag) (refuses11 m l i))).ledger.history ≡ [])
          ↔ ((l.history ≡ []) × ((on_check m n l i (cond q (accepts m l i r i.tag) (refuses11 m l i))).answer.number ≢ 0))
      go zero true = (
        λ e.
            absurd
            (longer r.history l.history (length (string_a i)) (length i.text) (laws.unwraps_index l.key l.history l.toggle (string_a i) i.text i.tag) e),
        λ w. absurd (w.1 refl),
      )
      go zero false = (λ e. (e, λ z. omega arith), λ w. w.0)
      go (suc n) q = (λ e. (e, λ z. omega arith), λ w. w.0)

-- the two ends are apart
abbrev IsOffice : Side → Type 0
IsOffice office = Unit {0}
IsOffice group = ⊥

apart : office ≢ group
apart e = subst IsOffice e tt

-- what is not made elsewhere was refused
here : {P Q R : Type 0} (x : Side) → P ↔ (Q × R) → P ↔ (Q × ((x ≢ x) ⊎ R))
here {P} {Q} {R} x (to, from) = (λ z. ((to z).0, inr (to z).1), λ w. back w.0 w.1)
  where
    back : Q → (x ≢ x) ⊎ R → P
    back h (inl z) = absurd (z refl)
    back h (inr z) = from (h, z)

module _ {m : PaperMode} (laws : PaperLaws m) where
  -- one call: the ledger of the end x has no string after it exactly where it had none, and the call was made elsewhere or refused
  set-empty : (x y : Side) (e : Entry) (p : Ledgers) → (e.ledger.history ≡ []) ↔ (((ledger_at y p).history ≡ []) × (e.answer.number ≢ 0))
      → ((ledger_at x (set_ledger y e.ledger p)).history ≡ []) ↔ (((ledger_at x p).history ≡ []) × ((y ≢ x) ⊎ (e.answer.number ≢ 0)))
  set-empty office office e p f = here office f
  set-empty group group e p f = here group f
  set-empty office group e p f = (λ z. (z, inl (λ g. apart (sym g))), λ w. w.0)
  set-empty group office e p f = (λ z. (z, inl apart), λ w. w.0)

  step-empty : (x : Side) (c : Call) (p : Ledgers) → ((ledger_at x (next_ledgers m c p)).history ≡ [])
      ↔ (((ledger_at x p).history ≡ []) × ((side_of c ≢ x) ⊎ ((ledger_step m c p).answer.number ≢ 0)))
  step-empty x (wrap y i) p = set-empty x y (ledger_wrap m (ledger_at y p) i) p (wrap-empty laws (ledger_at y p) i)
  step-empty x (unwrap y i) p = set-empty x y (ledger_unwrap m (ledger_at y p) i) p (unwrap-empty laws (ledger_at y p) i)

  -- every list
  pub none-accepted : (x : Side) (cs : List Call) (p : Ledgers) → ((ledger_at x (finish_ledgers m cs p)).history ≡ [])
      ↔ (((ledger_at x p).history ≡ []) × NoneAccepted x cs (map outcome_of (entries m cs p)))
  unfolding entries finish_ledgers
  none-accepted x [] p = (λ e. (e, NoneAccepted.none), λ w. w.0)
  none-accepted x (c ∷ cs) p = let ih = none-accepted x cs (next_ledgers m c p) in (λ e. to (ih.0 e), λ w. from ih.1 w.0 w.1)
    where
      later : List (Outcome DeckState)
      later = map outcome_of (entries m cs (next_ledgers m c p))

      more : (side_of c ≢ x) ⊎ ((ledger_step m c p).answer.number ≢ 0) → NoneAccepted x cs later → NoneAccepted x (c ∷ cs) (outcome_of (ledger_step m c p) ∷ later)
      more (inl z) n = NoneAccepted.elsewhere z n
      more (inr z) n = NoneAccepted.refused z n

      to : ((ledger_at x (next_ledgers m c p)).history ≡ []) × NoneAccepted x cs later
          → ((ledger_at x p).history ≡ []) × NoneAccepted x (c ∷ cs) (outcome_of (ledger_step m c p) ∷ later)
      to (e, n) = let w = (step-empty x c p).0 e in (w.0, more w.1 n)

      from : (((ledger_at x (next_ledgers m c p)).history ≡ []) × NoneAccepted x cs later → (ledger_at x (finish_ledgers m cs (next_ledgers m c p))).history ≡ [])
          → (ledger_at x p).history ≡ [] → NoneAccepted x (c ∷ cs) (outcome_of (ledger_step m c p) ∷ later)
          → (ledger_at x (finish_ledgers m cs (next_ledgers m c p))).history ≡ []
      from ih e (NoneAccepted.refused z n) = ih ((step-empty x c p).1 (e, inr z), n)
      from ih e (NoneAccepted.elsewhere z n) = ih ((step-empty x c p).1 (e, inl z), n)
