-- `compress4::blocks_beside` meets its contract. The loop's invariant: the lanes below i of the four blocks stand. Assumes nothing.
use mathlib.Core.Path.{◌≡◌}
use Prim.Native.Nat.{◌*◌}
use lib.ListN.{length}
use Rattle.word.proofs.Lists.{Filled}
use Rattle.xoodoo4.proofs.Four.{beside_lane}
use Rattle.compress4.specs.Four.{block_at}
use Rattle.compress4.proofs.blocks_beside.Given as goal

abbrev pub invariant-loop-i : goal.invariant-loop-i
invariant-loop-i l = (length l.w ≡ 48) × Filled (beside_lane (block_at l.s 0)) l.w (4 * l.i)
