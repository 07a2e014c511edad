-- A state as a string of 384 bits (003, section 2, last paragraph) and as 48 bytes (document 01, "The permutation": bit 0 of a byte is
-- its least significant). Assumes nothing.
use Rattle.std.specs.Prelude.{Bool, List, ℕ, ◌+◌, ◌*◌, ◌/◌, ◌%◌, get_or}
use Rattle.word.specs.Word.{bit, of_bits}
use Rattle.word.specs.Lists.{tabulate}
use Rattle.state.specs.State.{State, lanes}

-- the state of a string: bit i of it is the bit at (x, y, z), where i = z + 32 (x + 4 y)
abbrev pub string_state : (ℕ → Bool) → State
string_state s x y z = s (z + 32 * (x + 4 * y))

-- the lanes of a string
unfoldable pub from_string : (ℕ → Bool) → List ℕ
from_string s = lanes (string_state s)

-- bit i of the string of twelve lanes
abbrev pub string_bit : List ℕ → ℕ → Bool
string_bit l i = bit (get_or l (i / 32) 0) (i % 32)

-- bit i of a run of bytes, each from its lowest bit on
abbrev pub byte_bit : List ℕ → ℕ → Bool
byte_bit b i = bit (get_or b (i / 8) 0) (i % 8)

-- the lanes of 48 bytes
abbrev pub from_bytes : List ℕ → List ℕ
from_bytes b = from_string (byte_bit b)

-- byte i of the string of twelve lanes
unfoldable pub state_byte : List ℕ → ℕ → ℕ
state_byte l i = of_bits 8 (λ z. string_bit l (8 * i + z))

-- the 48 bytes of twelve lanes
abbrev pub to_bytes : List ℕ → List ℕ
to_bytes l = tabulate 48 (state_byte l)
