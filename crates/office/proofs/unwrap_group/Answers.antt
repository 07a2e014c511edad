-- `office::unwrap_group` meets its contract: check 3, or the group's own call, with its record written back. Assumes nothing.
use mathlib.Core.Path.{refl}
use Rattle.modes.specs.Mode.{sanse, incremental}
use Rattle.modes.specs.Rules.{unwrap_from5}
use Rattle.sanse.specs.Session.{handed}
use Rattle.office.proofs.Laws.{bare-refused, bare-stored}
use Rattle.office.proofs.unwrap_group.Goals as goal

pub returns-in-Err : goal.returns-in-Err
returns-in-Err c =
    let a = c.args in
    let i = handed a.metadata.now a.cryptogram.now a.out.now a.tag.now in
    bare-refused (unwrap_from5 sanse incremental) a.allowance i refl a.table.now a.group c.in-Err.e c.in-Err.ensures
    c.refused.result c.refused.ensures

pub returns : goal.returns
returns c =
    let a = c.args in
    let i = handed a.metadata.now a.cryptogram.now a.out.now a.tag.now in
    bare-stored (unwrap_from5 sanse incremental) a.allowance i refl a.table.now a.group c.in_default.ensures
    c.unwrap-r.result _ c.unwrap-r.ensures c.into.result c.into.ensures
