-- Words as their bits by position: position 0 is the least significant (003, Table 1 and Table 2). Assumes nothing.
use Rattle.std.specs.Prelude.{Bool, true, false, not, ◌&&◌, ℕ, zero, suc, ◌+◌, ◌*◌, ◌-◌, ◌/◌, ◌%◌, ◌^◌, eqb, leb}

-- the sum of two bits: exclusive or
abbrev pub ◌⊕◌ : Bool → Bool → Bool
true ⊕ b = not b
false ⊕ b = b

infixl 6 ◌⊕◌
-- the bit of n at position z: is the digit of 2 ^ z there?
unfoldable pub bit : ℕ → ℕ → Bool
bit n z = eqb (n / 2 ^ z % 2) 1

-- a bit as a digit
abbrev pub digit : Bool → ℕ
digit false = 0
digit true = 1

-- the word of w bits whose bit at each position z below w is f z: the sum of f z * 2 ^ z
unfoldable pub of_bits : ℕ → (ℕ → Bool) → ℕ
of_bits zero f = 0
of_bits (suc w) f = digit (f w) * 2 ^ w + of_bits w f

-- the bits of a word of w bits, shifted cyclically by v: the bit at z has moved to z + v mod w (003, Table 3, <<<)
abbrev pub rotate_left : (w v : ℕ) → (ℕ → Bool) → ℕ → Bool
rotate_left w v f z = f ((z + (w - v)) % w)

-- the bits of a word, shifted by v: the bit at z has moved to z + v, and the positions below v hold 0 (003, Table 3, <<)
abbrev pub shift_left : ℕ → (ℕ → Bool) → ℕ → Bool
shift_left v f z = leb v z && f (z - v)
