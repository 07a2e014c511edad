-- `state::add_bytes` meets its contract. The loop's invariant: the bytes of the lanes below i are added, and the others stand as they
-- did. Assumes nothing.
use Rattle.std.proofs.Common.{◌*◌}
use Rattle.word.proofs.Lists.{Summed}
use Rattle.state.specs.Bytes.{to_bytes}
use Rattle.state.proofs.add_bytes.Given as goal

abbrev pub invariant-loop-i : goal.invariant-loop-i
invariant-loop-i l = Summed l.initial.out (to_bytes l.s) (4 * l.i) l.out
