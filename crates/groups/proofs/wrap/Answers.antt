-- `groups::wrap` meets its contract. Assumes nothing.
use mathlib.Core.Path.{◌∙◌}
use Rattle.groups.specs.Groups.{record_of}
use Rattle.groups.proofs.Laws.{bare-wrap-day}
use Rattle.groups.proofs.wrap.Goals as goal

pub returns : goal.returns
returns c =
    let z = c.args in
    c.wrap_string.ensures ∙ bare-wrap-day z.allowance (record_of z.r) z.metadata.now z.message.now z.out.now z.tag.now
