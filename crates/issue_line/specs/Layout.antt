-- The layout of an issue line: document 02, request 6. Assumes nothing.
use Rattle.std.specs.Prelude.{ℕ, zero, suc, ◌/◌, ◌%◌, ◌≤◌, ◌≡◌, List, [], ◌∷◌, ◌++◌}
use Rattle.decimal.specs.Decimal.{digit_char, decimal}

-- the characters `,`, line feed, `A` and `H`
abbrev pub comma : ℕ
comma = 44

abbrev pub line_feed : ℕ
line_feed = 10

abbrev pub letter_a : ℕ
letter_a = 65

abbrev pub letter_h : ℕ
letter_h = 72

-- the largest group, and the largest number of a ring
abbrev pub max_group : ℕ
max_group = 31

abbrev pub max_ring : ℕ
max_ring = 99999999

-- the last digits of n, as many as the width says, leading zeros included
unfoldable pub last_digits : (width n : ℕ) → List ℕ
last_digits zero n = []
last_digits (suc width) n = last_digits width (n / 10) ++ (digit_char (n % 10) ∷ [])

-- a line's bytes: `group,size,first,last,day` and a line feed; the day has eight digits
unfoldable pub line : (group size first last day : ℕ) → List ℕ
line group size first last day =
    decimal group ++ (comma ∷ size ∷ comma ∷ (decimal first ++ (comma ∷ (decimal last ++ (comma ∷ (last_digits 8 day ++ (line_feed ∷ [])))))))

-- the bytes s are a line with these fields, each within its range
pub record IsLine (s : List ℕ) (group size first last day : ℕ) : Type 0 where
  pub group_in_range : group ≤ max_group
  pub size_from : letter_a ≤ size
  pub size_to : size ≤ letter_h
  pub first_some : 1 ≤ first
  pub in_order : first ≤ last
  pub last_fits : last ≤ max_ring
  pub day_fits : day ≤ 99999999
  pub bytes : s ≡ line group size first last day
