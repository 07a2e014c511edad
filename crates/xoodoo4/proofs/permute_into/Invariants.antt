-- `xoodoo4::permute_into` meets its contract. The loop's invariant: the lanes of the states below i are read. Assumes nothing.
use Rattle.std.proofs.Common.{◌≡◌, ◌*◌, length}
use Rattle.word.proofs.Lists.{Filled}
use Rattle.xoodoo4.specs.Four.{laid}
use Rattle.xoodoo4.proofs.Four.{beside_lane}
use Rattle.xoodoo4.proofs.permute_into.Given as goal

abbrev pub invariant-loop-i : goal.invariant-loop-i
invariant-loop-i l = record { size : length l.t ≡ 48; lanes : Filled (beside_lane (laid l.n l.dx l.dy l.a)) l.t (4 * l.i) }
