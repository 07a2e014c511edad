-- `office_envelope::wrap_envelope_group` meets its contract: check 1 or 3, or the group's own call, with its record written back. Assumes nothing.
use lib.ListN.{length}
use Rattle.modes.specs.Mode.{sanse, incremental}
use Rattle.modes.specs.Rules.{wrap_from5}
use Rattle.sanse.specs.Session.{handed_for}
use Rattle.office.proofs.Laws.{call-refused, call-stored}
use Rattle.office_envelope.proofs.Laws.{goes-inside, goes-short}
use Rattle.office_envelope.proofs.wrap_envelope_group.Goals as goal

pub returns-in-Err : goal.returns-in-Err
returns-in-Err c =
    let a = c.args in
    let i = handed_for a.header.now a.metadata.now a.message.now a.out.now a.tag.now in
    call-refused (wrap_from5 sanse incremental) a.allowance i a.table.now a.group c.in-Err.e c.in-Err.ensures c.refused.result c.refused.ensures

pub wrap_string-r-requires : goal.wrap_string-r-requires
wrap_string-r-requires c =
    let a = c.args in goes-short a.header.now (length a.metadata.now) (length a.message.now) (length a.table.now) a.group c.in_default.ensures

pub returns : goal.returns
returns c =
    let a = c.args in
    let i = handed_for a.header.now a.metadata.now a.message.now a.out.now a.tag.now in
    call-stored (wrap_from5 sanse incremental) a.allowance i a.table.now a.group c.in_default.ensures
    (goes-inside a.header.now (length a.metadata.now) (length a.message.now) (length a.table.now) a.group c.in_default.ensures)
    c.wrap_string-r.result _ c.wrap_string-r.ensures c.into.result c.into.ensures
