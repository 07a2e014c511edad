-- `office::start_day` meets its contract. Assumes nothing.
use native.Mathlib.Omega.{arith}
use Rattle.office.proofs.Days.{one-more-as, day-started}
use Rattle.office.proofs.start_day.Goals as goal

pub loop-r-preserved : goal.loop-r-preserved
loop-r-preserved c =
    one-more-as c.args.records.now c.loop-r.records c.loop-r.r-index c.loop-r.invariant (omega arith) c.new_day.result _ c.new_day.ensures _ (grind arith)

pub returns : goal.returns
returns c = day-started c.args.records.now c.loop-r.records c.loop-r.r-index c.args.allowance c.loop-r.invariant (omega arith)
