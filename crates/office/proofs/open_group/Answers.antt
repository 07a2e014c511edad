-- `office::open_group` meets its contract: check 3, or the group's own opening, with its record written back. Assumes nothing.
use Rattle.office.proofs.Laws.{open-refused, open-stored}
use Rattle.office.proofs.open_group.Goals as goal

pub returns-in-Err : goal.returns-in-Err
returns-in-Err c =
    let a = c.args in open-refused a.allowance a.key.now a.table.now a.group c.in-Err.e c.in-Err.ensures c.refused.result c.refused.ensures

pub returns : goal.returns
returns c =
    let a = c.args in
    open-stored a.allowance a.key.now a.table.now a.group c.in_default.ensures
    c.open-r.result _ c.open-r.ensures c.into.result c.into.ensures
