-- `compress4::add_row` meets its contract. The loop's invariant: the lanes below i of the four states have their sums. Assumes nothing.
use mathlib.Core.Path.{◌≡◌}
use Prim.Native.Nat.{◌*◌}
use lib.Bits.{bit_xor}
use lib.ListN.{length, get_or}
use Rattle.word.proofs.Lists.{Filled}
use Rattle.xoodoo4.specs.Four.{laid}
use Rattle.xoodoo4.proofs.Four.{beside_lane}
use Rattle.compress4.proofs.add_row.Given as goal

abbrev pub invariant-loop-i : goal.invariant-loop-i
invariant-loop-i l = (length l.t ≡ 48) × Filled (λ q. bit_xor (get_or l.w q 0) (beside_lane (laid l.row.at 3 1 l.row.words) q)) l.t (4 * l.i)
