-- One step of reading a number, by the place in the bytes: what each test of the reader's code comes to. Assumes nothing.
use Rattle.std.specs.Prelude.{Some, None, option_and_then}
use Prim.Native.Nat.{ℕ, ◌+◌, ◌<◌, ◌≤◌}
use mathlib.Core.Path.{◌≡◌, ap, ◌∙◌}
use mathlib.Core.List.{List, ◌∷◌}
use native.Mathlib.Numerals.{add-one}
use lib.ListN.{length, drop, get_or, drop_of_length-le}
use lib.Seq.{drop-cons}
use borrow.Author.Tests.{eq-eqb, ne_eqb}
use Rattle.decimal.specs.Decimal.{digit_of, up_to, with_digit, read_more, read_first, read_decimal}

-- the bytes from a place on are the byte there and those after it
pub from_place : (s : List ℕ) (i : ℕ) → i < length s → drop i s ≡ get_or s i 0 ∷ drop (i + 1) s
from_place s i h = rw (add-one, drop-cons s i 0)

module _ (max end : ℕ) (s : List ℕ) where
  -- the first byte of a number
  pub first_out : (at : ℕ) → length s ≤ at → read_decimal max end s at ≡ None
  unfolding read_decimal read_first
  first_out at h = ap (read_first max end at) (drop_of_length-le s h)

  pub first_read : (at : ℕ) → at < length s
      → read_decimal max end s at ≡ option_and_then (λ v. read_more max end v (at + 1) (drop (at + 1) s)) (option_and_then (up_to max) (digit_of (get_or s at 0)))
  unfolding read_decimal read_first
  first_read at h = ap (read_first max end at) (from_place s at h)

  -- any later byte, where the number so far is v
  module _ (v i : ℕ) where
    pub more-out : length s ≤ i → read_more max end v i (drop i s) ≡ None
    unfolding read_more
    more-out h = ap (read_more max end v i) (drop_of_length-le s h)

    module _ (inside : i < length s) where
      pub more-ends : get_or s i 0 ≡ end → read_more max end v i (drop i s) ≡ Some (record { value = v; next = i + 1 })
      unfolding read_more
      more-ends h = ap (read_more max end v i) (from_place s i inside) ∙ simp (eq-eqb (get_or s i 0) end h)

      pub more-read : (get_or s i 0 ≡ end → ⊥)
          → read_more max end v i (drop i s) ≡ option_and_then (λ w. read_more max end w (i + 1) (drop (i + 1) s)) (with_digit max v (get_or s i 0))
      unfolding read_more
      more-read h = ap (read_more max end v i) (from_place s i inside) ∙ simp (ne_eqb (get_or s i 0) end h)
