-- `envelope::read_parts` meets its contract: a header that was found is small, so that no sum wraps. Assumes nothing.
use Rattle.std.proofs.Common.{arith}
use Rattle.envelope.proofs.PartSteps.{Small, small}
use Rattle.envelope.proofs.read_parts.Goals as goal

pub overflow_add-body : goal.overflow_add-body
overflow_add-body c =
    let h : Small c.args.s.now c.in_ok-h.h = small c.args.s.now c.in_ok-h.h (grind arith) in
    omega arith
