-- `groups::open` meets its contract. Assumes nothing.
use Rattle.std.proofs.Common.{arith}
use Rattle.groups.proofs.Laws.{open-short, open-long, open_above, open-fits, open-charged}
use Rattle.groups.proofs.open.Goals as goal
use Rattle.groups.proofs.open.Goals.{then-key-lt16-via-then-key-lt16, then-key-lt16-via-else-key-lt16+then-key-gt-LONGEST_KEY}

pub returns-then-key-lt16 : goal.returns-then-key-lt16
returns-then-key-lt16 c =
    let z = c.args in
    elim c.then-key-lt16.branch [
      | then-key-lt16-via-then-key-lt16 w ↦ open-short _ _ _ _ w.if-key-lt16.true c.refused.ensures
      | then-key-lt16-via-else-key-lt16+then-key-gt-LONGEST_KEY w ↦ open-long z.allowance z.r z.key.now _ w.if-key-lt16.false (omega arith) c.refused.ensures
    ]

pub returns-then-above_allowance : goal.returns-then-above_allowance
returns-then-above_allowance c =
    open_above _ _ _ c.if-key-lt16.false (omega arith) _ c.above_allowance.ensures _ c.if-above_allowance.true c.refused-then-above_allowance.ensures

pub charged-requires : goal.charged-requires
charged-requires c =
    let z = c.args in
    open-fits z.allowance z.r z.key.now c.if-key-lt16.false (omega arith) _ c.above_allowance.ensures c.start.result
    c.if-above_allowance.false c.start.ensures

pub returns : goal.returns
returns c =
    open-charged _ _ _ c.if-key-lt16.false (omega arith) _ c.above_allowance.ensures _ _ c.if-above_allowance.false
    c.start.ensures c.charged.ensures
