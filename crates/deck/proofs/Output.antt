-- The bytes of the output as bits of the output blocks, and as bytes of them. Assumes nothing.
use mathlib.Core.Path.{◌≡◌, ap, ap₂, ◌∙◌}
use mathlib.Core.List.{List}
use Prim.Native.Nat.{ℕ, ◌+◌, ◌*◌, ◌-◌, ◌/◌, ◌%◌, ◌<◌, ◌≤◌}
use native.Mathlib.Omega.{arith}
use lib.ListN.{get_or}
use Rattle.word.specs.Word.{bit}
use Rattle.word.specs.Lists.{sum}
use Rattle.word.proofs.Lists.{tabulate-at}
use Rattle.state.specs.Bytes.{string_bit, state_byte, to_bytes}
use Rattle.state.proofs.Facts.{state_byte-bit}
use Rattle.xoodoo.specs.Xoodoo.{perm}
use Rattle.rolling.specs.Rolling.{roll_out}
use Rattle.deck.specs.Deck.{iterate, output_block, output_byte}

-- bit z of byte i of the output is bit 8 i + z of the output blocks, one after another
pub output_byte-bit : (y k : List ℕ) (i z : ℕ) → z < 8 → bit (output_byte y k i) z ≡ string_bit (output_block y k ((8 * i + z) / 384)) ((8 * i + z) % 384)
unfolding output_byte
output_byte-bit y k i z h =
    let q : i / 48 ≡ (8 * i + z) / 384 = omega arith in
    let r : 8 * (i % 48) + z ≡ (8 * i + z) % 384 = omega arith in
    state_byte-bit (output_block y k (i / 48)) (i % 48) z h ∙ ap₂ (λ (j n : ℕ). string_bit (output_block y k j) n) q r

-- what the bytes of one output block are in the output: from byte p on, in the block that p lies in
pub output_byte-block : (y k' z : List ℕ) (p j n k : ℕ) → p / 48 ≡ j → z ≡ iterate j roll_out y → n ≤ 48 - p % 48 → k < n
    → get_or (to_bytes (sum (perm z) k')) (p % 48 + k) 0 ≡ output_byte y k' (p + k)
unfolding output_byte output_block
output_byte-block y k' z p j n k ej ez hn hk =
    let q : j ≡ (p + k) / 48 = omega arith in
    let r : p % 48 + k ≡ (p + k) % 48 = omega arith in
    tabulate-at 48 (state_byte (sum (perm z) k')) (p % 48 + k) (omega arith)
    ∙ ap₂ state_byte (ap (λ (u : List ℕ). sum (perm u) k') (ez ∙ ap (λ (i : ℕ). iterate i roll_out y) q)) r
