-- `sanse::wrap_envelope` meets its contract: check 1, and then A is the header's bytes and the metadata. Assumes nothing.
use mathlib.Core.Path.{sym, ap, ◌∙◌}
use Rattle.envelope.specs.Layout.{letter_s}
use Rattle.headers.proofs.Exactly.{fits-short}
use Rattle.modes.specs.Mode.{sanse}
use Rattle.steps.specs.declared.CallResult.{CallResult}
use Rattle.steps.proofs.Calls.{fitted-wrap, unfitted-wrap}
use Rattle.sanse.specs.declared.Session.{Session}
use Rattle.sanse.specs.Session.{state_of, call_result, handed_for}
use Rattle.sanse.proofs.wrap_envelope.Goals as goal

pub returns-then-not-fits : goal.returns-then-not-fits
returns-then-not-fits c =
    let a = c.args in
    let i = handed_for a.header.now a.metadata.now a.message.now a.out.now a.tag.now in
    ap (λ (r : CallResult Session). call_result r i.out i.tag) c.refused.ensures ∙ unfitted-wrap sanse (state_of a.s) i (sym c.fits.ensures ∙ c.if-not-fits.true)

pub wrap_string-requires : goal.wrap_string-requires
wrap_string-requires c = fits-short letter_s _ _ _ (sym c.fits.ensures ∙ c.if-not-fits.false)

pub returns : goal.returns
returns c =
    let a = c.args in
    let i = handed_for a.header.now a.metadata.now a.message.now a.out.now a.tag.now in
    c.wrap_string.ensures ∙ fitted-wrap sanse (state_of a.s) i (sym c.fits.ensures ∙ c.if-not-fits.false)
