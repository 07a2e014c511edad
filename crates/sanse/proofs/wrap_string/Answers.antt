-- `sanse::wrap_string` meets its contract. Assumes nothing.
use mathlib.Core.Path.{refl, ap, ◌∙◌}
use native.Mathlib.Omega.{arith}
use Rattle.modes.specs.Mode.{sanse}
use Rattle.steps.specs.declared.CallResult.{CallResult}
use Rattle.steps.proofs.Calls.{begins, begun-index, within, first-of, begun-of, wrap-refused, wrap-accepted}
use Rattle.sanse.specs.declared.Session.{Session}
use Rattle.sanse.specs.Session.{state_of, call_result, handed_for}
use Rattle.sanse.proofs.Calls.{short, wrap-done, wrap-worked}
use Rattle.sanse.proofs.wrap_string.Goals as goal

pub returns-in-Err : goal.returns-in-Err
returns-in-Err c =
    let a = c.args in
    let i = handed_for a.head.now a.metadata.now a.message.now a.out.now a.tag.now in
    ap (λ (r : CallResult Session). call_result r i.out i.tag) c.refused.ensures
    ∙ wrap-refused sanse (state_of a.s) i c.in-Err.e (first-of sanse (state_of a.s) a.head.now a.metadata.now a.message.now a.out.now a.tag.now c.in-Err.ensures)

pub append_metadata-h-requires : goal.append_metadata-h-requires
append_metadata-h-requires c =
    let a = c.args in
    let i = handed_for a.head.now a.metadata.now a.message.now a.out.now a.tag.now in
    let s = state_of a.s in
    let k = first-of sanse s a.head.now a.metadata.now a.message.now a.out.now a.tag.now c.in_default.ensures in
    begins sanse s i (within sanse s i k) c.requires

pub append_text-g-requires : goal.append_text-g-requires
append_text-g-requires c =
    let a = c.args in
    let i = handed_for a.head.now a.metadata.now a.message.now a.out.now a.tag.now in
    let s = state_of a.s in
    let h = begun-of sanse s a.head.now a.metadata.now a.message.now a.out.now a.tag.now c.in_default.ensures c.closing_a.ensures c.requires c.append_metadata-h.ensures.gives in (
      omega (arith, (within sanse s i h.none).text),
      begun-index short h,
    )

pub add_body-c-requires : goal.add_body-c-requires
add_body-c-requires c =
    let a = c.args in
    let i = handed_for a.head.now a.metadata.now a.message.now a.out.now a.tag.now in
    let s = state_of a.s in
    let h = begun-of sanse s a.head.now a.metadata.now a.message.now a.out.now a.tag.now c.in_default.ensures c.closing_a.ensures c.requires c.append_metadata-h.ensures.gives in
    let w = within sanse s i h.none in (
      omega (arith, c.tag_of-t.auto.tag, w.tag),
      begun-index short h,
      w.text,
      w.holds,
    )

pub returns : goal.returns
returns c =
    let a = c.args in
    let i = handed_for a.head.now a.metadata.now a.message.now a.out.now a.tag.now in
    let s = state_of a.s in
    let h = begun-of sanse s a.head.now a.metadata.now a.message.now a.out.now a.tag.now c.in_default.ensures c.closing_a.ensures c.requires c.append_metadata-h.ensures.gives in
    let t = c.tag_of-t.ensures in
    let x = c.add_body-c.ensures in
    let k = wrap-done {i = i} h c.closing_m.ensures c.append_text-g.ensures.gives (t.fills, t.counts) c.tag_of-t.auto.tag c.closing_t.ensures (x.adds, x.counts) in
    ap (λ (r : CallResult Session). call_result r c.add_body-c.new.out c.tag_of-t.new.tag) c.accepted.ensures
    ∙ wrap-accepted sanse s i (wrap-worked k refl refl)
