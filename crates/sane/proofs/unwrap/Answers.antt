-- `sane::unwrap` meets its contract: a header of no bytes. Assumes nothing.
use mathlib.Core.Path.{◌∙◌}
use Rattle.modes.specs.Mode.{sane}
use Rattle.steps.proofs.Calls.{bare-unwrap}
use Rattle.sane.specs.Session.{state_of}
use Rattle.sane.proofs.unwrap.Goals as goal

pub returns : goal.returns
returns c =
    let a = c.args in
    c.unwrap_string.ensures ∙ bare-unwrap sane (state_of a.s) a.metadata.now a.cryptogram.now a.out.now a.tag.now
