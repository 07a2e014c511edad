-- That the definitions say what the paper and document 01 say, in their own words. Assumes nothing.
use mathlib.Core.Path.{◌≡◌, ap, ap₂, ◌∙◌}
use mathlib.Core.Bool.{Bool}
use mathlib.Core.List.{List}
use Prim.Native.Nat.{ℕ, ◌+◌, ◌*◌, ◌/◌, ◌%◌, ◌≤◌, ◌<◌}
use native.Mathlib.Omega.{arith}
use lib.ListN.{get_or, length}
use Rattle.word.specs.Word.{bit, ◌⊕◌}
use Rattle.word.specs.Lists.{sum}
use Rattle.word.proofs.Bit.{move-back, bit-xor, bit-of_bits, of_bits-lt}
use Rattle.word.proofs.Lists.{sum-at, tabulate-at}
use Rattle.state.specs.State.{Plane, shift, bits}
use Rattle.state.specs.Bytes.{string_state, from_string, string_bit, byte_bit, state_byte, to_bytes}
use Rattle.state.proofs.Lanes.{bits-of-lanes, lanes-length}

-- ---- 003, Table 1: shifting a plane by (t, v) moves the bit at (x, z) to (x + t mod 4, z + v mod 32)
pub shift-moves : (t v : ℕ) → t ≤ 4 → v ≤ 32 → (p : Plane) (x z : ℕ) → x < 4 → z < 32 → shift t v p ((x + t) % 4) ((z + v) % 32) ≡ p x z
shift-moves t v ht hv p x z hx hz = ap₂ p (move-back 4 t x ht hx) (move-back 32 v z hv hz)

-- ---- 003, section 2: bit i of the 384-bit string is the bit at (x, y, z), where i = z + 32 (x + 4 y)

-- of a state that is made from a string
pub string-to-state : (s : ℕ → Bool) (x y z : ℕ) → x < 4 → y < 3 → z < 32 → bits (from_string s) x y z ≡ s (z + 32 * (x + 4 * y))
unfolding from_string
string-to-state s = bits-of-lanes (string_state s)

-- of a state's string
pub state-to-string : (l : List ℕ) (x y z : ℕ) → z < 32 → string_bit l (z + 32 * (x + 4 * y)) ≡ bits l x y z
state-to-string l x y z h =
    let q : (z + 32 * (x + 4 * y)) / 32 ≡ x + 4 * y = omega arith in
    let r : (z + 32 * (x + 4 * y)) % 32 ≡ z = omega arith in
    ap₂ (λ (i j : ℕ). bit (get_or l i 0) j) q r

-- and in bytes, each from its lowest bit on: bit z of byte i is bit 8 i + z of the string
pub state_byte-bit : (l : List ℕ) (i z : ℕ) → z < 8 → bit (state_byte l i) z ≡ string_bit l (8 * i + z)
unfolding state_byte
state_byte-bit l i z h = bit-of_bits 8 (λ z. string_bit l (8 * i + z)) z h

pub state_byte-lt : (l : List ℕ) (i : ℕ) → state_byte l i < 256
unfolding state_byte
state_byte-lt l i = of_bits-lt 8 (λ z. string_bit l (8 * i + z))

-- so bit i of the 48 bytes is bit i of the string
pub string-in-bytes : (l : List ℕ) (i : ℕ) → i < 384 → byte_bit (to_bytes l) i ≡ string_bit l i
string-in-bytes l i h =
    let e : 8 * (i / 8) + i % 8 ≡ i = omega arith in
    ap (λ (n : ℕ). bit n (i % 8)) (tabulate-at 48 (state_byte l) (i / 8) (omega arith)) ∙ state_byte-bit l (i / 8) (i % 8) (omega arith) ∙ ap (string_bit l) e

-- ---- the sum of two states is the sum of their bits
pub sum-of-bits : (l m : List ℕ) → length l ≡ 12 → length m ≡ 12 → (x y z : ℕ) → x < 4 → y < 3 → bits (sum l m) x y z ≡ bits l x y z ⊕ bits m x y z
sum-of-bits l m hl hm x y z hx hy =
    ap (λ (n : ℕ). bit n z) (sum-at l m (x + 4 * y) (omega (arith, hl)) (omega (arith, hm)))
    ∙ bit-xor (get_or l (x + 4 * y) 0) (get_or m (x + 4 * y) 0) z

-- ---- a string's state has twelve lanes
pub from_string-length : (s : ℕ → Bool) → length (from_string s) ≡ 12
unfolding from_string
from_string-length s = lanes-length _
