-- Strings, their padding and their blocks (001, section 3, pad10* and Algorithm 1; document 01, "The deck function"). Assumes nothing.
use Rattle.std.specs.Prelude.{Bool, true, false, List, [], ◌∷◌, ◌++◌, ℕ, ◌+◌, ◌*◌, ◌-◌, ◌/◌, ◌%◌, length, get_or, replicate}
use Rattle.word.specs.Word.{bit}
use Rattle.state.specs.Bytes.{from_string}

-- a string: whole bytes, and the frame bits after them
pub record Str : Type 0 where
  pub bytes : List ℕ
  pub frame : List Bool

-- bytes and the frame bits after them
abbrev pub framed : List ℕ → List Bool → Str
framed x f = record { bytes = x; frame = f }

-- the eight bits of a byte, the lowest first
abbrev pub bits_of_byte : ℕ → List Bool
bits_of_byte b = bit b 0 ∷ bit b 1 ∷ bit b 2 ∷ bit b 3 ∷ bit b 4 ∷ bit b 5 ∷ bit b 6 ∷ bit b 7 ∷ []

-- the bits of a run of bytes
unfoldable pub bits_of_bytes : List ℕ → List Bool
bits_of_bytes [] = []
bits_of_bytes (b ∷ bs) = bits_of_byte b ++ bits_of_bytes bs

-- the bits of a string
unfoldable pub bits_of : Str → List Bool
bits_of s = bits_of_bytes s.bytes ++ s.frame

-- pad10*: one 1-bit and the fewest 0-bits that reach a multiple of 384
unfoldable pub padded : List Bool → List Bool
padded m = m ++ true ∷ replicate (383 - length m % 384) false

-- the number of blocks of the padded string
unfoldable pub blocks : Str → ℕ
blocks s = length (padded (bits_of s)) / 384

-- block j of the padded string, as the lanes of a state
unfoldable pub block : Str → ℕ → List ℕ
block s j = from_string (λ i. get_or (padded (bits_of s)) (384 * j + i) false)

-- document 01's b(L): the blocks of a string of L bytes
abbrev pub b : ℕ → ℕ
b L = L / 48 + 1
