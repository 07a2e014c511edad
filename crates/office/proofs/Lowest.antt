-- What the nearly-full question's answer says: the lowest group that is open above the mark, or none, and no other answer says so
-- (`FoundExactly`, `FoundDecided` of `specs/Exactly.antt`). Assumes nothing.
use mathlib.Core.Path.{◌≡◌, refl, sym, ap, ap₂, ◌∙◌, subst}
use mathlib.Core.Bool.{Bool, true, false, ◌&&◌}
use mathlib.Core.List.{[], ◌∷◌}
use mathlib.Core.Logic.{◌⊎◌, inl, inr}
use Prim.Native.Nat.{ℕ, zero, suc, ◌+◌, ◌<◌}
use native.Mathlib.Omega.{arith}
use lib.Dec.{eqb}
use lib.ListN.{length}
use borrow.Author.Tests.{ltb-true, lt-ltb, eqb-true, eqb-false}
use borrow.Author.Count.{below_none}
use Rattle.std.specs.Prelude.{Result, Ok, Err, Option, Some, None}
use Rattle.refusals.specs.declared.Refusal.{Refusal}
use Rattle.refusals.proofs.Numbers.{number-tells, number-positive}
use Rattle.office.specs.Table.{Table, session_at, above_mark, TableFinding, group_named, none_named, refused_finding, nearly_full_at, nearly_full_result}
use Rattle.office.specs.Exactly.{OpenAbove, LowestAbove, FoundExactly, FoundDecided}
use Rattle.office.proofs.Search.{never, NoneBelow, names, names-none, asked, refused}

-- ---- the lowest

-- the test as a statement
both : (u v : Bool) → (u && v) ≡ true → (u ≡ true) × (v ≡ true)
both true v e = (refl, e)
both false v e = never (sym e)

above-is : (t : Table) (mark g : ℕ) → g < 32 → above_mark (session_at t g) mark ≡ true → OpenAbove t mark g
above-is t mark g less e =
    let w = both (session_at t g).opened _ e in
    record { in_table = less; opened = w.0; above = ltb-true mark (session_at t g).history.index w.1 }

is-above : (t : Table) (mark g : ℕ) → OpenAbove t mark g → above_mark (session_at t g) mark ≡ true
is-above t mark g o = ap₂ ◌&&◌ o.opened (lt-ltb mark (session_at t g).history.index o.above)

-- where the first record stands that is open above the mark
abbrev First : Table → (mark : ℕ) → Type 0
First t mark = (g : ℕ) × (g < length t) × NoneBelow t mark g × (above_mark (session_at t g) mark ≡ true)

-- there is a first one, or there is none
first_or_none : (t : Table) (mark : ℕ) → First t mark ⊎ NoneBelow t mark (length t)
first_or_none [] mark = inr (below_none _)
first_or_none (r ∷ t) mark = go (above_mark r.session mark) refl (first_or_none t mark)
  where
    more : (g : ℕ) → above_mark r.session mark ≡ false → NoneBelow t mark g → NoneBelow (r ∷ t) mark (suc g)
    more g e none zero less = e
    more g e none (suc k) less = none k (omega arith)

    go : (b : Bool) → above_mark r.session mark ≡ b → First t mark ⊎ NoneBelow t mark (length t)
        → First (r ∷ t) mark ⊎ NoneBelow (r ∷ t) mark (length (r ∷ t))
    go true e _ = inl (0, omega arith, below_none _, e)
    go false e (inl (g, less, none, here)) = inl (suc g, omega arith, more g e none, here)
    go false e (inr none) = inr (more (length t) e none)

-- there is one lowest
one-lowest : (t : Table) (mark g k : ℕ) → LowestAbove t mark g → LowestAbove t mark k → g ≡ k
one-lowest t mark g k a b =
    let f : g < k → ⊥ = λ less. b.no_lower g less a.above in let h : k < g → ⊥ = λ less. a.no_lower k less b.above in omega arith

-- ---- the claim holds of the search

module _ (t : Table) (mark : ℕ) (is32 : length t ≡ 32) where
  not-above : (g k : ℕ) → NoneBelow t mark g → k < g → OpenAbove t mark k → ⊥
  not-above g k none less o = never (sym (is-above t mark k o) ∙ none k less)

  -- a group is named
  named-claim : (g : ℕ) → LowestAbove t mark g → FoundExactly t mark (group_named g)
  named-claim g low =
      record {
        three = (λ e. absurd (omega (arith, e)), λ n. absurd (n is32));
        answered = (λ _. is32, λ _. refl);
        three_names_none = λ e. absurd (omega (arith, e));
        named = λ k. (λ w. (is32, subst (LowestAbove t mark) w.1 low), λ w. (refl, one-lowest t mark g k low w.1));
        none = (λ w. never w.1, λ w. absurd (w.1 g low.above));
        unnamed = λ e. never e;
      }

  -- none is
  none-claim : NoneBelow t mark (length t) → FoundExactly t mark none_named
  none-claim none =
      record {
        three = (λ e. absurd (omega (arith, e)), λ n. absurd (n is32));
        answered = (λ _. is32, λ _. refl);
        three_names_none = λ _. refl;
        named = λ k. (λ w. never (sym w.0), λ w. absurd (nowhere k w.1.above));
        none = (λ _. (is32, nowhere), λ _. (refl, refl));
        unnamed = λ _. refl;
      }
    where
      nowhere : (k : ℕ) → OpenAbove t mark k → ⊥
      nowhere k o = not-above (length t) k none (subst (λ (n : ℕ). k < n) (sym is32) o.in_table) o

  found-of-32 : First t mark ⊎ NoneBelow t mark (length t) → FoundExactly t mark (nearly_full_at t mark)
  found-of-32 (inl (g, less, none, here)) =
      let low : LowestAbove t mark g =
      record { above = above-is t mark g (subst (λ (n : ℕ). g < n) is32 less) here; no_lower = λ k lower. not-above g k none lower } in
      let same : g ≡ 0 + g = omega arith in
      subst (FoundExactly t mark) (ap group_named same ∙ sym (asked t mark is32 ∙ names 0 t mark g less none here)) (named-claim g low)
  found-of-32 (inr none) = subst (FoundExactly t mark) (sym (asked t mark is32 ∙ names-none 0 t mark none)) (none-claim none)

found-of-others : (t : Table) (mark : ℕ) → (length t ≡ 32 → ⊥) → FoundExactly t mark (nearly_full_at t mark)
found-of-others t mark other = subst (FoundExactly t mark) (sym (refused t mark other)) claim
  where
    claim : FoundExactly t mark refused_finding
    claim =
        record {
          three = (λ _. other, λ _. refl);
          answered = (λ e. absurd (omega (arith, e)), λ l. absurd (other l));
          three_names_none = λ _. refl;
          named = λ k. (λ w. never (sym w.0), λ w. absurd (other w.0));
          none = (λ w. absurd (omega (arith, w.0)), λ w. absurd (other w.0));
          unnamed = λ _. refl;
        }

-- the lowest group is named, or none where there is none
pub found-exactly : (t : Table) (mark : ℕ) → FoundExactly t mark (nearly_full_at t mark)
found-exactly t mark = go (eqb (length t) 32) refl
  where
    go : (b : Bool) → eqb (length t) 32 ≡ b → FoundExactly t mark (nearly_full_at t mark)
    go true e = found-of-32 t mark (eqb-true (length t) 32 e) (first_or_none t mark)
    go false e = found-of-others t mark (eqb-false (length t) 32 e)

-- whatever it says, its group is one of the 32
pub group-below : (t : Table) (mark : ℕ) → (nearly_full_at t mark).group < 32
group-below t mark = go (nearly_full_at t mark).found refl
  where
    go : (b : Bool) → (nearly_full_at t mark).found ≡ b → (nearly_full_at t mark).group < 32
    go true e = (((found-exactly t mark).named (nearly_full_at t mark).group).0 (e, refl)).1.above.in_table
    go false e = let zero-group : (nearly_full_at t mark).group ≡ 0 = (found-exactly t mark).unnamed e in omega arith

-- ---- and of nothing else

same-finding : (r s : TableFinding) → r.number ≡ s.number → r.found ≡ s.found → r.group ≡ s.group → r ≡ s
same-finding r s n f g =
    ap₂ (λ (n : ℕ) (b : Bool). record { number = n; found = b; group = r.group }) n f
    ∙ ap (λ (g : ℕ). record { number = s.number; found = s.found; group = g }) g

module _ (t : Table) (mark : ℕ) (r s : TableFinding) (x : FoundExactly t mark r) (y : FoundExactly t mark s) where
  same_number : r.number ≡ s.number
  same_number = go (eqb (length t) 32) refl
    where
      go : (b : Bool) → eqb (length t) 32 ≡ b → r.number ≡ s.number
      go true e = let l = eqb-true (length t) 32 e in x.answered.1 l ∙ sym (y.answered.1 l)
      go false e = let n = eqb-false (length t) 32 e in x.three.1 n ∙ sym (y.three.1 n)

  two-findings : r ≡ s
  two-findings = go r.found s.found refl refl
    where
      -- what r names s names too
      agrees : r.found ≡ true → (s.found ≡ true) × (s.group ≡ r.group)
      agrees e = (y.named r.group).1 ((x.named r.group).0 (e, refl))

      go : (u v : Bool) → r.found ≡ u → s.found ≡ v → r ≡ s
      go true v e f = same-finding r s same_number (e ∙ sym (agrees e).0) (sym (agrees e).1)
      go false true e f = let w = (x.named s.group).1 ((y.named s.group).0 (f, refl)) in never (sym w.0 ∙ e)
      go false false e f = same-finding r s same_number (e ∙ sym f) (x.unnamed e ∙ sym (y.unnamed f))

-- the cases of the program's answer have different values
same_answer : (r s : Result (Option ℕ) Refusal) → nearly_full_result r ≡ nearly_full_result s → r ≡ s
same_answer (Err e) (Err f) h = ap Err (number-tells e f (ap (λ (f : TableFinding). f.number) h))
same_answer (Err e) (Ok None) h = let p = number-positive e in absurd (omega (arith, ap (λ (f : TableFinding). f.number) h))
same_answer (Err e) (Ok (Some g)) h = let p = number-positive e in absurd (omega (arith, ap (λ (f : TableFinding). f.number) h))
same_answer (Ok None) (Err e) h = let p = number-positive e in absurd (omega (arith, ap (λ (f : TableFinding). f.number) h))
same_answer (Ok (Some g)) (Err e) h = let p = number-positive e in absurd (omega (arith, ap (λ (f : TableFinding). f.number) h))
same_answer (Ok None) (Ok None) h = refl
same_answer (Ok None) (Ok (Some g)) h = never (sym (ap (λ (f : TableFinding). f.found) h))
same_answer (Ok (Some g)) (Ok None) h = never (ap (λ (f : TableFinding). f.found) h)
same_answer (Ok (Some g)) (Ok (Some k)) h = ap (λ (n : ℕ). Ok (Some n)) (ap (λ (f : TableFinding). f.group) h)

pub found-decided : (t : Table) (mark : ℕ) → FoundDecided t mark
found-decided t mark =
    record {
      search = λ r. (
        λ x. two-findings t mark r (nearly_full_at t mark) x (found-exactly t mark),
        λ e. subst (FoundExactly t mark) (sym e) (found-exactly t mark),
      );
      two = two-findings t mark;
      answers = λ r s x y. same_answer r s (two-findings t mark (nearly_full_result r) (nearly_full_result s) x y);
    }
