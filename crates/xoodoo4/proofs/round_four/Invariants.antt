-- `xoodoo4::round_four` meets its contract. The loop's invariant: the states below j have done the round. Assumes nothing.
use Rattle.xoodoo.specs.Xoodoo.{round}
use Rattle.xoodoo4.proofs.Four.{Done}
use Rattle.xoodoo4.proofs.round_four.Given as goal

abbrev pub invariant-loop-j : goal.invariant-loop-j
invariant-loop-j l = Done (round l.c) l.w l.j l.r
