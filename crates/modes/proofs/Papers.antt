-- The modes over the whole history are the papers' algorithms as printed, and their counts document 01's. Assumes nothing.
use mathlib.Core.Bool.{Bool, true, false, not, cond}
use mathlib.Core.List.{List, [], ◌∷◌}
use mathlib.Core.Path.{◌≡◌, refl, sym, ap, ap₂, ◌∙◌}
use Prim.Native.Nat.{ℕ, zero, suc, ◌+◌, ◌/◌, ◌%◌}
use native.Mathlib.Omega.{arith}
use borrow.Author.Tests.{lt-ltb, eqb-true, eqb-false}
use lib.Bits.{bit_xor}
use lib.Dec.{eqb, eqb-suc-zero}
use lib.ListN.{length, replicate}
use Rattle.word.specs.Lists.{tabulate, sum}
use Rattle.word.proofs.Lists.{cons, tabulate-ext, zeros-sum}
use Rattle.deck.specs.Strings.{Str}
use Rattle.deck.specs.Deck.{run, deck}
use Rattle.modes.specs.Mode.{Mode, StepResult, whole_history, with_a, siv_body, siv_wrap, siv_unwrap, sanse, sanse_parameters, sanse_count, ceiling48}
use Rattle.modes.specs.Paper.{PaperResult, plus_from, ◌⊞◌, first32, newest, some, after_a, sanse_wrap, sanse_unwrap}
use Rattle.modes.specs.Ledger.{PaperMode, sanse_paper, sanse_permutations}

-- ---- a mode as the papers would give it

-- what steps find, with e after them
abbrev pub to_paper : Mode → Bool → StepResult (List Str) → PaperResult
to_paper m e r = record { history = r.after; toggle = m.parameters.next_toggle e; text = r.body; tag = r.tag }

unfoldable pub paper_of : Mode → PaperMode
paper_of m =
    record {
      letter = m.parameters.letter;
      tag_length = m.parameters.tag_length;
      count = m.parameters.count;
      wraps = λ key h e a x. to_paper m e (m.wraps (whole_history key) h e a x);
      unwraps = λ key h e a c t. to_paper m e (m.unwraps (whole_history key) h e a c t);
    }

-- ---- the papers' sum is that of the modes

plus_from-is : (i : ℕ) (x : List ℕ) (f : ℕ → ℕ) → plus_from i x f ≡ sum x (run f i (length x))
unfolding sum tabulate
plus_from-is i [] f = refl
plus_from-is i (y ∷ x) f =
    cons (ap (λ (j : ℕ). bit_xor y (f j)) (omega arith))
    (plus_from-is (suc i) x f ∙ ap (sum x) (tabulate-ext (length x) (λ j. f (suc i + j)) (λ j. f (i + suc j)) (λ j h. ap f (omega arith))))

first32-is : (f : ℕ → ℕ) → first32 f ≡ run f 0 32
first32-is f =
    plus_from-is 0 (replicate 32 0) f ∙ zeros-sum 32 _

-- ---- the count

pub ceiling-is : (M : ℕ) → ceiling48 M ≡ cond (eqb (M % 48) 0) (M / 48) (M / 48 + 1)
ceiling-is M = go (eqb (M % 48) 0) refl
  where
    go : (t : Bool) → eqb (M % 48) 0 ≡ t → ceiling48 M ≡ cond t (M / 48) (M / 48 + 1)
    go true h = omega (arith, eqb-true (M % 48) 0 h)
    go false h = omega (arith, eqb-false (M % 48) 0 h)

count-is : (A M : ℕ) → sanse_count A M ≡ sanse_permutations A M
unfolding sanse_count sanse_permutations
count-is A zero = refl
count-is zero (suc M) = rw (eqb-suc-zero M) (ap (λ (n : ℕ). 0 + (suc M / 48 + 1) + 4 + n) (ceiling-is (suc M)))
count-is (suc A) (suc M) = rw (eqb-suc-zero M, eqb-suc-zero A) (ap (λ (n : ℕ). (suc A / 48 + 1) + (suc M / 48 + 1) + 4 + n) (ceiling-is (suc M)))

-- ---- the steps

module _ (key : List ℕ) (h : List Str) (e : Bool) where
  some_more : (y : ℕ) (x : List ℕ) → some (y ∷ x) ≡ true
  some_more y x = lt-ltb 0 (length (y ∷ x)) (omega arith)

  after_a-is : (a x : List ℕ) → after_a h e a x ≡ with_a sanse_parameters (whole_history key) h e a x
  after_a-is [] [] = refl
  after_a-is [] (y ∷ x) = rw (eqb-suc-zero (length x)) refl
  after_a-is (z ∷ a) x = rw (some_more z a) refl

  -- a tag of the modes is the papers', of equal histories
  tag_is : {g g' : List Str} → g ≡ g' → run (deck key g) 0 32 ≡ first32 (deck key g')
  tag_is {g} {g'} q = ap (λ (r : List Str). run (deck key r) 0 32) q ∙ sym (first32-is (deck key g'))

  -- and so is a text with keystream, of equal histories and tags
  body_is : {g g' : List Str} {t t' : List ℕ} (x : List ℕ) → g ≡ g' → t ≡ t'
      → siv_body sanse_parameters (whole_history key) g e x t ≡ x ⊞ deck key (newest g' t' (true ∷ true ∷ e ∷ []))
  body_is {g} {g'} {t} {t'} x q r =
      ap₂ (λ (g : List Str) (t : List ℕ). siv_body sanse_parameters (whole_history key) g e x t) q r
      ∙ sym (plus_from-is 0 x (deck key (newest g' t' (true ∷ true ∷ e ∷ []))))

  pub sanse-wraps : (a x : List ℕ) → to_paper sanse e (sanse.wraps (whole_history key) h e a x) ≡ sanse_wrap key h e a x
  unfolding siv_wrap sanse_wrap sum
  sanse-wraps a [] = let g = sym (after_a-is a []) in λ i. record { history = g i; toggle = not e; text = []; tag = tag_is g i }
  sanse-wraps a (y ∷ x) =
      let g = sym (after_a-is a (y ∷ x)) in
      let k = ap (λ (r : List Str). newest r (y ∷ x) (false ∷ true ∷ e ∷ [])) g in
      rw (some_more y x, sanse_wrap) (λ i. record { history = k i; toggle = not e; text = body_is (y ∷ x) g (tag_is k) i; tag = tag_is k i })

  pub sanse-unwraps : (a c t : List ℕ) → to_paper sanse e (sanse.unwraps (whole_history key) h e a c t) ≡ sanse_unwrap key h e a c t
  unfolding siv_unwrap sanse_unwrap sum tabulate
  sanse-unwraps a [] t = let g = sym (after_a-is a []) in λ i. record { history = g i; toggle = not e; text = []; tag = tag_is g i }
  sanse-unwraps a (y ∷ c) t =
      let g = sym (after_a-is a (y ∷ c)) in
      let k = body_is {t = t} (y ∷ c) g refl in
      let j = ap₂ (λ (r : List Str) (p : List ℕ). newest r p (false ∷ true ∷ e ∷ [])) g k in
      rw (some_more y c, sanse_unwrap) (λ i. record { history = j i; toggle = not e; text = k i; tag = tag_is j i })

-- the papers' SANSE is the mode SANSE
pub sanse-paper : paper_of sanse ≡ sanse_paper
unfolding paper_of
sanse-paper =
    λ i. record {
      letter = 83;
      tag_length = 32;
      count = λ A M. count-is A M i;
      wraps = λ key h e a x. sanse-wraps key h e a x i;
      unwraps = λ key h e a c t. sanse-unwraps key h e a c t i;
    }
