-- SANE over the whole history is Algorithm 2 as printed, and its count is request 2's. Assumes nothing.
use mathlib.Core.Bool.{Bool, true, false, not}
use mathlib.Core.List.{List, [], ◌∷◌}
use mathlib.Core.Path.{◌≡◌, refl, ap}
use Prim.Native.Nat.{ℕ, zero, suc, ◌+◌, ◌/◌}
use lib.Dec.{eqb-suc-zero}
use Rattle.deck.specs.Strings.{Str}
use Rattle.envelope.specs.Layout.{letter_n}
use Rattle.modes.specs.Mode.{whole_history, sane, sane_count}
use Rattle.modes.specs.PaperSane.{sane_wrap, sane_unwrap}
use Rattle.modes.specs.Ledger.{sane_paper, sane_permutations}
use Rattle.modes.proofs.Papers.{paper_of, to_paper, ceiling-is}
use Rattle.modes.proofs.PapersStream.{stream-wraps, stream-unwraps}

-- ---- the count

pub sane-count-is : (A M : ℕ) → sane_count A M ≡ sane_permutations A M
unfolding sane_count sane_permutations
sane-count-is A zero = refl
sane-count-is zero (suc M) = rw (eqb-suc-zero M) (ap (λ (n : ℕ). 0 + (suc M / 48 + 1) + 3 + n) (ceiling-is (suc M + 16)))
sane-count-is (suc A) (suc M) = rw (eqb-suc-zero M, eqb-suc-zero A) (ap (λ (n : ℕ). (suc A / 48 + 1) + (suc M / 48 + 1) + 3 + n) (ceiling-is (suc M + 16)))

-- ---- the steps

module _ (key : List ℕ) (h : List Str) (e : Bool) where
  pub sane-wraps : (a x : List ℕ) → to_paper sane e (sane.wraps (whole_history key) h e a x) ≡ sane_wrap key h e a x
  unfolding sane_wrap
  sane-wraps = stream-wraps letter_n (λ e. false ∷ e ∷ []) (λ e. true ∷ e ∷ []) not key h e

  pub sane-unwraps : (a c t : List ℕ) → to_paper sane e (sane.unwraps (whole_history key) h e a c t) ≡ sane_unwrap key h e a c t
  unfolding sane_unwrap
  sane-unwraps = stream-unwraps letter_n (λ e. false ∷ e ∷ []) (λ e. true ∷ e ∷ []) not key h e

-- the papers' SANE is the mode SANE
pub sane-paper : paper_of sane ≡ sane_paper
unfolding paper_of
sane-paper =
    λ i. record {
      letter = 78;
      tag_length = 16;
      count = λ A M. sane-count-is A M i;
      wraps = λ key h e a x. sane-wraps key h e a x i;
      unwraps = λ key h e a c t. sane-unwraps key h e a c t i;
    }
