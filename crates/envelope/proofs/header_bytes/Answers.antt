-- `envelope::header_bytes` meets its contract: the header ends within the bytes. Assumes nothing.
use Rattle.std.proofs.Common.{sym, arith}
use lib.Seq.{length-take-le}
use Rattle.envelope.proofs.Reading.{in_order}
use Rattle.envelope.proofs.header_bytes.Goals as goal

pub slice_bounds-result-end : goal.slice_bounds-result-end
slice_bounds-result-end c = sym (length-take-le _ c.args.s.now (omega (arith, in_order c.args.s.now c.in-Ok.p (grind arith))))
