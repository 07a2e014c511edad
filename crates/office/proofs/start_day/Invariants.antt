-- The loop of `office::start_day`. Assumes nothing.
use Rattle.office.proofs.Days.{Turn}
use Rattle.office.proofs.start_day.Given as goal

abbrev pub invariant-loop-r : goal.invariant-loop-r
invariant-loop-r l = Turn l.initial.records l.records l.r-index
