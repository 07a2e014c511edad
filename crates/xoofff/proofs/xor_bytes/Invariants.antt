-- `xoofff::xor_bytes` meets its contract. The loop's invariant: the bytes below i have their sums, and the others stand. Assumes nothing.
use mathlib.Core.Path.{◌≡◌}
use Prim.Native.Nat.{ℕ, ◌≤◌}
use lib.Bits.{bit_xor}
use lib.ListN.{get_or}
use Rattle.word.proofs.Lists.{Filled}
use Rattle.xoofff.proofs.xor_bytes.Given as goal

abbrev pub invariant-loop-i : goal.invariant-loop-i
invariant-loop-i l =
    Filled (λ k. bit_xor (get_or l.initial.out k 0) (get_or l.bytes k 0)) l.out l.i × ((k : ℕ) → l.i ≤ k → get_or l.out k 0 ≡ get_or l.initial.out k 0)
