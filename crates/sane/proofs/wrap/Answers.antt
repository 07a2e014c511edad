-- `sane::wrap` meets its contract: a header of no bytes. Assumes nothing.
use mathlib.Core.Path.{◌∙◌}
use Rattle.modes.specs.Mode.{sane}
use Rattle.steps.proofs.Calls.{bare-wrap}
use Rattle.sane.specs.Session.{state_of}
use Rattle.sane.proofs.wrap.Goals as goal

pub returns : goal.returns
returns c =
    let a = c.args in
    c.wrap_string.ensures ∙ bare-wrap sane (state_of a.s) a.metadata.now a.message.now a.out.now a.tag.now
