-- `xoodoo4::put` meets its contract. The loop's invariant: the lanes below i are stored. Assumes nothing.
use Rattle.std.proofs.Common.{◌≡◌}
use Rattle.xoodoo4.specs.Four.{put}
use Rattle.xoodoo4.proofs.put.Given as goal

abbrev pub invariant-loop-i : goal.invariant-loop-i
invariant-loop-i l = l.w ≡ put l.i l.j l.s l.initial.w
