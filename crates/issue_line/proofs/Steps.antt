-- What each test of the code that reads a line comes to. Assumes nothing.
use Rattle.std.specs.Bool.{then_some}
use Rattle.std.proofs.Common.{sym, ℕ, zero, suc, ◌+◌, ◌-◌, ◌*◌, ◌^◌, ◌<◌, ◌≤◌, ◌≡◌, refl, ap, ◌∙◌, List, [], ◌∷◌, length, drop, get_or, eqb, add-one, arith}
use Rattle.std.specs.Prelude.{Option, Some, None, option_and_then}
use native.Mathlib.Nat.{pow-suc, pow-le-pow_right}
use lib.ListN.{get_or-eq_default, length-drop}
use Rattle.decimal.specs.Decimal.{digit_of}
use Rattle.decimal.proofs.Steps.{from_place}
use Rattle.sizes.specs.Sizes.{size_of}
use Rattle.issue_line.specs.Layout.{line_feed}
use Rattle.issue_line.specs.Read.{read_size, read_digits, read_day}

-- no size stands where the bytes end
pub size_out : (s : List ℕ) (at : ℕ) → length s ≤ at → read_size s at ≡ None
unfolding read_size size_of
size_out s at h = rw (get_or-eq_default s 0 h)

-- too few bytes are no day
digits-short : (left v i : ℕ) (s : List ℕ) → length s ≤ left → read_digits left v i s ≡ None
unfolding read_digits
digits-short zero v i [] h = refl
digits-short zero v i (b ∷ s) h = absurd (omega arith)
digits-short (suc left) v i [] h = refl
digits-short (suc left) v i (b ∷ s) h = go (digit_of b) (λ d. digits-short left (v * 10 + d) (i + 1) s (omega arith))
  where
    go : (o : Option ℕ) → ((d : ℕ) → read_digits left (v * 10 + d) (i + 1) s ≡ None) → option_and_then (λ d. read_digits left (v * 10 + d) (i + 1) s) o ≡ None
    go None ih = refl
    go (Some d) ih = ih d

pub day-short : (s : List ℕ) (at : ℕ) → length s ≤ at + 8 → read_day s at ≡ None
unfolding read_day
day-short s at h = digits-short 8 0 at (drop at s) (omega (arith, length-drop at s))

-- digits that are left to read, at the place at + k after k of them
module _ (t : List ℕ) (at v k : ℕ) where
  pub day-more : k < 8 → k < length t
      → read_digits (8 - k) v (at + k) (drop k t)
      ≡ option_and_then (λ d. read_digits (8 - (k + 1)) (v * 10 + d) (at + (k + 1)) (drop (k + 1) t)) (digit_of (get_or t k 0))
  unfolding read_digits
  day-more few inside =
      let left : 8 - k ≡ suc (8 - (k + 1)) = omega arith in
      let place : at + k + 1 ≡ at + (k + 1) = omega arith in
      ap (λ (n : ℕ). read_digits n v (at + k) (drop k t)) left
      ∙ ap (read_digits (suc (8 - (k + 1))) v (at + k)) (from_place t k inside)
      ∙ ap (λ (i : ℕ). option_and_then (λ d. read_digits (8 - (k + 1)) (v * 10 + d) i (drop (k + 1) t)) (digit_of (get_or t k 0))) place

  -- after eight digits, by the byte x behind them
  pub day-end : k ≡ 8 → 8 < length t → (x : ℕ) → x ≡ get_or t 8 0
      → then_some (eqb x line_feed) (record { value = v; next = at + 9 }) ≡ read_digits (8 - k) v (at + k) (drop k t)
  unfolding read_digits
  day-end eight inside x is =
      let place : at + 8 + 1 ≡ at + 9 = omega arith in
      ap (λ (b : ℕ). then_some (eqb b line_feed) (record { value = v; next = at + 9 })) is
      ∙ sym
      (ap (λ (n : ℕ). read_digits (8 - n) v (at + n) (drop n t)) eight
      ∙ ap (read_digits 0 v (at + 8)) (from_place t 8 inside)
      ∙ ap (λ (i : ℕ). then_some (eqb (get_or t 8 0) line_feed) (record { value = v; next = i })) place)

pub day-start : (s : List ℕ) (at : ℕ) → read_digits (8 - 0) 0 (at + 0) (drop 0 (drop at s)) ≡ read_day s at
unfolding read_day
day-start s at = let e : at + 0 ≡ at = omega arith in ap (λ (i : ℕ). read_digits 8 0 i (drop at s)) e

-- powers of ten, up to the eighth
pub pow_small : (k : ℕ) → k ≤ 8 → 10 ^ k ≤ 100000000
pow_small k h = pow-le-pow_right (omega arith) h

pub pow-next : (k : ℕ) → 10 ^ (k + 1) ≡ 10 ^ k * 10
pow-next k = ap (λ (n : ℕ). 10 ^ n) (add-one k) ∙ pow-suc 10 k
