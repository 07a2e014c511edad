-- Decimal numbers in bytes, as document 01 has them in "Envelope": decimal without leading zeros, zero being `0`.
-- First what the bytes of a number are; then what a reader finds who looks for a number up to a maximum and the byte that ends it.
-- proofs/Reading.antt shows that the reader finds exactly the numbers that are spelled so. Assumes nothing.
use Rattle.std.specs.Prelude.{ℕ, suc, zero, ◌+◌, ◌-◌, ◌*◌, ◌/◌, ◌%◌, ◌≤◌, ◌≡◌, cond, ◌&&◌, Option, Some, None, option_and_then, List, [], ◌∷◌, ◌++◌, drop, ltb, leb, eqb}
use Rattle.decimal.specs.declared.Number.{Number}

-- the character of a digit 0 to 9
abbrev pub digit_char : ℕ → ℕ
digit_char d = 48 + d

-- the characters of n, the last digit split off `steps` times at most
unfoldable pub decimal_within : ℕ → ℕ → List ℕ
decimal_within zero n = digit_char n ∷ []
decimal_within (suc steps) n =
    let longer = decimal_within steps (n / 10) ++ (digit_char (n % 10) ∷ []) in
    cond (ltb n 10) (digit_char n ∷ []) longer

-- the number n in decimal: one digit below 10, else n / 10 in decimal and then the last digit
unfoldable pub decimal : ℕ → List ℕ
decimal n = decimal_within n n

-- the number that digits stand for, where v is the number of those before them
unfoldable pub value_from : ℕ → List ℕ → ℕ
value_from v [] = v
value_from v (b ∷ s) = value_from (v * 10 + (b - 48)) s

-- the bytes s are a number n, at most max, in decimal, then the byte end, and then the bytes rest
abbrev pub Spelled : (max end : ℕ) → List ℕ → ℕ → List ℕ → Type 0
Spelled max end s n rest = (n ≤ max) × (s ≡ decimal n ++ (end ∷ rest))

-- the digit that a byte is the character of, if it is one
unfoldable pub digit_of : ℕ → Option ℕ
digit_of b = cond (leb 48 b && leb b 57) (Some (b - 48)) None

-- a number that is at most max
abbrev pub up_to : (max n : ℕ) → Option ℕ
up_to max n = cond (leb n max) (Some n) None

-- The number so far with the digit of the byte b behind it: there has to be one, which may not follow a 0 and may not lead past `max`.
abbrev pub with_digit : (max value b : ℕ) → Option ℕ
with_digit max value b = option_and_then (λ d. cond (eqb value 0) None (up_to max (value * 10 + d))) (digit_of b)

-- The bytes after a number's first digit: `value` is the number so far, `i` the place of the first byte of these.
-- The byte `end` ends the number. Any other byte has to be one more digit.
unfoldable pub read_more : (max end value i : ℕ) → List ℕ → Option Number
read_more max end value i [] = None
read_more max end value i (b ∷ s) =
    cond (eqb b end) (Some (record { value = value; next = i + 1 }))
    (option_and_then (λ v. read_more max end v (i + 1) s) (with_digit max value b))

-- A number from its first byte, which stands at the place `at`
unfoldable pub read_first : (max end at : ℕ) → List ℕ → Option Number
read_first max end at [] = None
read_first max end at (b ∷ s) = option_and_then (λ v. read_more max end v (at + 1) s) (option_and_then (up_to max) (digit_of b))

-- What stands at the place `at` of the bytes s: a number up to `max` and the byte `end`, with the place after that byte, or no number
unfoldable pub read_decimal : (max end : ℕ) → List ℕ → ℕ → Option Number
read_decimal max end s at = read_first max end at (drop at s)
