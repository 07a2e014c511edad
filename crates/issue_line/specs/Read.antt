-- What a reader of issue lines finds in some bytes, and what is claimed of it: document 02, request 6, 13. proofs/Reading.antt has the proof that
-- this is exactly what the layout says. Assumes nothing.
use Rattle.std.specs.Prelude.{ℕ, zero, suc, ◌+◌, ◌*◌, ◌≡◌, Bool, true, false, ◌&&◌, ◌↔◌, Option, Some, None, option_and_then, List, [], ◌∷◌, length, drop, get_or, leb, eqb}
use Rattle.std.specs.Bool.{then_some}
use Rattle.decimal.specs.Decimal.{digit_of, read_decimal}
use Rattle.decimal.specs.declared.Number.{Number}
use Rattle.sizes.specs.Sizes.{letter_of, size_of}
use Rattle.issue_line.specs.Layout.{comma, line_feed, max_group, max_ring, IsLine}
use Rattle.issue_line.specs.declared.Line.{Line as LineFields}
use Rattle.issue_line.specs.declared.FoundSize.{FoundSize}

-- the size at the place `at` of the bytes s: a letter A to H and a comma
unfoldable pub read_size : List ℕ → ℕ → Option FoundSize
read_size s at =
    option_and_then (λ size. then_some (eqb (get_or s (at + 1) 0) comma) (record { size = size; next = at + 2 })) (size_of (get_or s at 0))

-- digits that are left to read, and a line feed: `value` is the number so far, `i` the place of the first of these bytes
unfoldable pub read_digits : (left value i : ℕ) → List ℕ → Option Number
read_digits zero value i [] = None
read_digits zero value i (b ∷ s) = then_some (eqb b line_feed) (record { value = value; next = i + 1 })
read_digits (suc left) value i [] = None
read_digits (suc left) value i (b ∷ s) = option_and_then (λ d. read_digits left (value * 10 + d) (i + 1) s) (digit_of b)

-- the day at the place `at` of the bytes s: eight digits and a line feed
unfoldable pub read_day : List ℕ → ℕ → Option Number
read_day s at = read_digits 8 0 at (drop at s)

-- these fields of n bytes make a line: the first ring is at least 1 and not above the last, and the line ends with the bytes
unfoldable pub line_of : (n : ℕ) → Number → FoundSize → Number → Number → Number → Option LineFields
line_of n g z f l d =
    then_some (leb 1 f.value && (leb f.value l.value && eqb d.next n))
    (record { group = g.value; size = z.size; first = f.value; last = l.value; day = d.value })

-- the fields of the line that the bytes s are: each is read at the place after the one before it
unfoldable pub read_fields : List ℕ → Option LineFields
read_fields s =
    option_and_then (λ g.
    option_and_then (λ z.
    option_and_then (λ f.
    option_and_then (λ l.
    option_and_then (line_of (length s) g z f l)
    (read_day s l.next))
    (read_decimal max_ring comma s f.next))
    (read_decimal max_ring comma s z.next))
    (read_size s g.next))
    (read_decimal max_group comma s 0)

-- What was found, as laws have it: the size is the byte of its letter.
pub record Line : Type 0 where
  pub found : Bool
  pub group : ℕ
  pub size : ℕ
  pub first : ℕ
  pub last : ℕ
  pub day : ℕ

-- the bytes are no line
abbrev pub no_line : Line
no_line = record { found = false; group = 0; size = 0; first = 0; last = 0; day = 0 }

-- a line with these fields
abbrev pub a_line : (group size first last day : ℕ) → Line
a_line group size first last day = record { found = true; group = group; size = size; first = first; last = last; day = day }

-- what a reader gives, in these words
abbrev pub found_line : Option LineFields → Line
found_line None = no_line
found_line (Some x) = a_line x.group (letter_of x.size) x.first x.last x.day

-- the line that the bytes s are
unfoldable pub read_line : List ℕ → Line
read_line s = found_line (read_fields s)

-- What is claimed of reading the bytes s: a line with these fields is found exactly where they are it, and none exactly where they are none.
pub record ReadsExactly (s : List ℕ) : Type 0 where
  pub one : (group size first last day : ℕ) → (read_line s ≡ a_line group size first last day) ↔ IsLine s group size first last day
  pub none : (read_line s ≡ no_line) ↔ ((group size first last day : ℕ) → IsLine s group size first last day → ⊥)
