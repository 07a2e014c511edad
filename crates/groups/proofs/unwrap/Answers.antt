-- `groups::unwrap` meets its contract. Assumes nothing.
use mathlib.Core.Path.{◌∙◌}
use Rattle.groups.specs.Groups.{record_of}
use Rattle.groups.proofs.Laws.{bare-unwrap-day}
use Rattle.groups.proofs.unwrap.Goals as goal

pub returns : goal.returns
returns c =
    let z = c.args in
    c.unwrap_string.ensures ∙ bare-unwrap-day z.allowance (record_of z.r) z.metadata.now z.cryptogram.now z.out.now z.tag.now
