-- Laws of the first check and of the strings that enter the history, over plain values. Assumes nothing.
use mathlib.Core.Path.{◌≡◌, refl, ap}
use mathlib.Core.Logic.{◌≢◌}
use mathlib.Core.Bool.{Bool, true, false, not, ◌||◌, cond}
use mathlib.Core.List.{List, [], ◌∷◌, ◌++◌}
use Prim.Native.Nat.{ℕ, zero, suc, ◌+◌, ◌/◌, ◌≤◌}
use native.Mathlib.Omega.{arith}
use lib.Dec.{ltb, eqb}
use lib.ListN.{length}
use borrow.Author.Tests.{ltb-false, eqb-true}
use Rattle.deck.specs.declared.DeckState.{DeckState}
use Rattle.deck.specs.Strings.{Str}
use Rattle.deck.specs.Closing.{closed_by}
use Rattle.deck.proofs.Strings.{closed-blocks}
use Rattle.xoofff.specs.declared.Compressed.{Compressed}
use Rattle.xoofff.specs.Leaves.{compressed}
use Rattle.modes.specs.Mode.{is_empty}
use Rattle.modes.specs.Rules.{growth, first_check_of, longest, highest_index}
use Rattle.steps.specs.Steps.{compressed_if}

-- ---- growth

pub growth-bare : (a n : ℕ) → n ≡ 0 → a / 48 + 2 ≡ growth a n
unfolding growth
growth-bare a zero h = omega arith
growth-bare a (suc n) h = omega arith

pub growth-text : (a n : ℕ) → n ≢ 0 → a ≡ 0 → n / 48 + 2 ≡ growth a n
unfolding growth
growth-text a zero h z = absurd (h refl)
growth-text zero (suc n) h z = omega arith
growth-text (suc a) (suc n) h z = omega arith

pub growth-both : (a n : ℕ) → n ≢ 0 → a ≢ 0 → a / 48 + n / 48 + 4 ≡ growth a n
unfolding growth
growth-both a zero h z = absurd (h refl)
growth-both zero (suc n) h z = absurd (z refl)
growth-both (suc a) (suc n) h z = omega arith

-- ---- what a call that meets none of the checks 5 to 9 has shown

pub record Passed (after l a n t o : ℕ) : Type 0 where
  pub metadata : a ≤ 16384
  pub text : n ≤ 16384
  pub tag : t ≡ l
  pub holds : n ≤ o
  pub index : after ≤ 1048576

pub passed : (is_open : Bool) (index l a n t o : ℕ) → first_check_of is_open index l a n t o ≡ 0 → Passed index l a n t o
passed is_open index l a n t o h = go (not is_open) (ltb longest a) (ltb longest n) (eqb t l) (ltb o n) (ltb highest_index index) refl refl refl refl refl h
  where
    go : (b₁ b₂ b₃ b₄ b₅ b₆ : Bool) → ltb longest a ≡ b₂ → ltb longest n ≡ b₃ → eqb t l ≡ b₄ → ltb o n ≡ b₅ → ltb highest_index index ≡ b₆
        → ◌≡◌ {A = ℕ} (cond b₁ 5 (cond (b₂ || b₃) 6 (cond (not b₄) 7 (cond b₅ 8 (cond b₆ 9 0))))) 0 → Passed index l a n t o
    go true b₂ b₃ b₄ b₅ b₆ p q r s u z = absurd (omega arith)
    go false true b₃ b₄ b₅ b₆ p q r s u z = absurd (omega arith)
    go false false true b₄ b₅ b₆ p q r s u z = absurd (omega arith)
    go false false false false b₅ b₆ p q r s u z = absurd (omega arith)
    go false false false true true b₆ p q r s u z = absurd (omega arith)
    go false false false true false true p q r s u z = absurd (omega arith)
    go false false false true false false p q r s u z =
        record {
          metadata = ltb-false longest a p;
          text = ltb-false longest n q;
          tag = eqb-true t l r;
          holds = ltb-false o n s;
          index = ltb-false highest_index index u;
        }

-- ---- strings that may be left out

-- A with a header before the metadata
pub headed-a : (d : DeckState) (r : Compressed) (head a m : List ℕ) (s : Str) → length head ≢ 0 → r ≡ compressed d s
    → r ≡ compressed_if (not (is_empty (head ++ a)) || is_empty m) d s
headed-a d r [] a m s h e = absurd (h refl)
headed-a d r (x ∷ head) a m s h e = e

-- what a string costs is little
pub few-of : (d : DeckState) (r : Compressed) (x : List ℕ) (c : ℕ) → r ≡ compressed d (closed_by x c) → length x ≤ 16401 → r.count ≤ 16402
unfolding compressed
few-of d r x c e h = omega (arith, ap (λ (u : Compressed). u.count) e, closed-blocks x c, h)
