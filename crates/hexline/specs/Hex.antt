-- How the programs over test vectors print bytes: two hexadecimal digits for each, the higher first. Of no section of the papers.
use Rattle.std.specs.Prelude.{ℕ, ◌/◌, ◌%◌, List, [], ◌∷◌, false}
use Rattle.std.specs.List.{flat_map}
use Rattle.std.specs.Fmt.{digit_glyph}

-- a byte's two digits
abbrev pub two_digits : ℕ → List ℕ
two_digits b = digit_glyph false (b / 16) ∷ digit_glyph false (b % 16) ∷ []

-- the digits of some bytes
abbrev pub hex_of : List ℕ → List ℕ
hex_of s = flat_map two_digits s
