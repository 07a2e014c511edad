-- `groups::wrap_string` meets its contract. Assumes nothing.
use Rattle.std.proofs.Common.{refl}
use Rattle.refusals.proofs.Numbers.{number-positive}
use Rattle.groups.proofs.Counts.{wrap-count}
use Rattle.groups.proofs.Laws.{call-refused, call_fits, call-charged}
use Rattle.groups.proofs.wrap_string.Goals as goal

pub returns-in-Err : goal.returns-in-Err
returns-in-Err c =
    let z = c.args in
    call-refused z.allowance z.r z.head.now z.metadata.now z.message.now z.out.now z.tag.now _ c.in-Err.ensures _ _
    (number-positive c.in-Err.e) c.refused.ensures

pub charged-requires : goal.charged-requires
charged-requires c =
    let z = c.args in
    call_fits z.allowance z.r z.head.now z.metadata.now z.message.now z.out.now z.tag.now 0 c.in_default.ensures _
    c.wrap_string-given.result _ _ (wrap-count _ _) refl c.wrap_string-given.ensures

pub returns : goal.returns
returns c =
    let z = c.args in
    call-charged z.allowance z.r z.head.now z.metadata.now z.message.now z.out.now z.tag.now 0 c.in_default.ensures _
    c.wrap_string-given.result _ _ _ refl c.wrap_string-given.ensures c.charged.ensures
