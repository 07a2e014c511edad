-- `sanse::wrap` meets its contract: a header of no bytes. Assumes nothing.
use mathlib.Core.Path.{◌∙◌}
use Rattle.modes.specs.Mode.{sanse}
use Rattle.steps.proofs.Calls.{bare-wrap}
use Rattle.sanse.specs.Session.{state_of}
use Rattle.sanse.proofs.wrap.Goals as goal

pub returns : goal.returns
returns c =
    let a = c.args in
    c.wrap_string.ensures ∙ bare-wrap sanse (state_of a.s) a.metadata.now a.message.now a.out.now a.tag.now
