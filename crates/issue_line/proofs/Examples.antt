-- The line of document 02, request 6, and bytes that are close to it and no line: with a leading zero, without the line feed, with a byte behind
-- it, with a carriage return before it; and no bytes at all. Assumes nothing.
use mathlib.Core.Path.{◌≡◌, refl}
use mathlib.Core.List.{[], ◌∷◌}
use Rattle.decimal.specs.Decimal.{digit_of, read_more, read_first, read_decimal}
use Rattle.sizes.specs.Sizes.{size_of}
use Rattle.issue_line.specs.Read.{read_size, read_digits, read_day, no_line, a_line, line_of, read_fields, read_line}

-- `7,C,12001,12100,20250304` and a line feed
example-line : read_line (55 ∷ 44 ∷ 67 ∷ 44 ∷ 49 ∷ 50 ∷ 48 ∷ 48 ∷ 49 ∷ 44 ∷ 49 ∷ 50 ∷ 49 ∷ 48 ∷ 48 ∷ 44 ∷ 50 ∷ 48 ∷ 50 ∷ 53 ∷ 48 ∷ 51 ∷ 48 ∷ 52 ∷ 10 ∷ []) ≡ a_line 7 67 12001 12100 20250304
unfolding read_line read_fields line_of read_decimal read_first read_more digit_of read_size size_of read_day read_digits
example-line = refl

-- `07,C,12001,12100,20250304` and a line feed
example-leading-zero : read_line (48 ∷ 55 ∷ 44 ∷ 67 ∷ 44 ∷ 49 ∷ 50 ∷ 48 ∷ 48 ∷ 49 ∷ 44 ∷ 49 ∷ 50 ∷ 49 ∷ 48 ∷ 48 ∷ 44 ∷ 50 ∷ 48 ∷ 50 ∷ 53 ∷ 48 ∷ 51 ∷ 48 ∷ 52 ∷ 10 ∷ []) ≡ no_line
unfolding read_line read_fields line_of read_decimal read_first read_more digit_of read_size size_of read_day read_digits
example-leading-zero = refl

-- `7,C,12001,12100,20250304`
example-no-line-feed : read_line (55 ∷ 44 ∷ 67 ∷ 44 ∷ 49 ∷ 50 ∷ 48 ∷ 48 ∷ 49 ∷ 44 ∷ 49 ∷ 50 ∷ 49 ∷ 48 ∷ 48 ∷ 44 ∷ 50 ∷ 48 ∷ 50 ∷ 53 ∷ 48 ∷ 51 ∷ 48 ∷ 52 ∷ []) ≡ no_line
unfolding read_line read_fields line_of read_decimal read_first read_more digit_of read_size size_of read_day read_digits
example-no-line-feed = refl

-- `7,C,12001,12100,20250304` and two line feeds
example-byte-behind : read_line (55 ∷ 44 ∷ 67 ∷ 44 ∷ 49 ∷ 50 ∷ 48 ∷ 48 ∷ 49 ∷ 44 ∷ 49 ∷ 50 ∷ 49 ∷ 48 ∷ 48 ∷ 44 ∷ 50 ∷ 48 ∷ 50 ∷ 53 ∷ 48 ∷ 51 ∷ 48 ∷ 52 ∷ 10 ∷ 10 ∷ []) ≡ no_line
unfolding read_line read_fields line_of read_decimal read_first read_more digit_of read_size size_of read_day read_digits
example-byte-behind = refl

-- `7,C,12001,12100,20250304`, a carriage return and a line feed
example-carriage-return : read_line (55 ∷ 44 ∷ 67 ∷ 44 ∷ 49 ∷ 50 ∷ 48 ∷ 48 ∷ 49 ∷ 44 ∷ 49 ∷ 50 ∷ 49 ∷ 48 ∷ 48 ∷ 44 ∷ 50 ∷ 48 ∷ 50 ∷ 53 ∷ 48 ∷ 51 ∷ 48 ∷ 52 ∷ 13 ∷ 10 ∷ []) ≡ no_line
unfolding read_line read_fields line_of read_decimal read_first read_more digit_of read_size size_of read_day read_digits
example-carriage-return = refl

-- no bytes
example-empty : read_line [] ≡ no_line
unfolding read_line read_fields line_of read_decimal read_first read_more digit_of read_size size_of read_day read_digits
example-empty = refl
