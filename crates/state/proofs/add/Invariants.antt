-- `state::add` meets its contract. The loop's invariant: the lanes below i have their sums. Assumes nothing.
use Rattle.word.proofs.Lists.{Summed}
use Rattle.state.proofs.add.Given as goal

abbrev pub invariant-loop-i : goal.invariant-loop-i
invariant-loop-i g l = Summed l.initial.a l.b l.i l.a
