-- `sane::wrap_string` meets its contract. Assumes nothing.
use mathlib.Core.Path.{refl, ap, ◌∙◌}
use Prim.Native.Nat.{◌≤◌}
use native.Mathlib.Omega.{arith}
use lib.ListN.{length}
use lib.Seq.{length-take-le}
use Rattle.modes.specs.Mode.{sane}
use Rattle.steps.specs.declared.CallResult.{CallResult}
use Rattle.steps.proofs.Calls.{begins, begun-index, within, first-of, begun-of, wrap-refused, wrap-accepted}
use Rattle.sane.specs.declared.SaneSession.{SaneSession}
use Rattle.sane.specs.Session.{state_of, call_result, handed_for}
use Rattle.sane.proofs.Calls.{short, done-of, wrap-worked}
use Rattle.sane.proofs.wrap_string.Goals as goal

pub returns-in-Err : goal.returns-in-Err
returns-in-Err c =
    let a = c.args in
    let s = state_of a.s in
    let i = handed_for a.head.now a.metadata.now a.message.now a.out.now a.tag.now in
    ap (λ (r : CallResult SaneSession). call_result r i.out i.tag) c.refused.ensures
    ∙ wrap-refused sane s i c.in-Err.e (first-of sane s a.head.now a.metadata.now a.message.now a.out.now a.tag.now c.in-Err.ensures)

pub append_metadata-h-requires : goal.append_metadata-h-requires
append_metadata-h-requires c =
    let a = c.args in
    let s = state_of a.s in
    let i = handed_for a.head.now a.metadata.now a.message.now a.out.now a.tag.now in
    let k = first-of sane s a.head.now a.metadata.now a.message.now a.out.now a.tag.now c.in_default.ensures in
    begins sane s i (within sane s i k) c.requires

pub finish-g-requires : goal.finish-g-requires
finish-g-requires c =
    let a = c.args in
    let s = state_of a.s in
    let i = handed_for a.head.now a.metadata.now a.message.now a.out.now a.tag.now in
    let h = begun-of sane s a.head.now a.metadata.now a.message.now a.out.now a.tag.now c.in_default.ensures c.closing.ensures c.requires c.append_metadata-h.ensures.gives in
    let w = within sane s i h.none in
    let l : length a.message.now ≤ length c.add_stream-c.new.out = omega (arith, w.holds, c.add_stream-c.auto.out) in (
      omega (arith, length-take-le _ _ l, w.text),
      omega (arith, w.tag),
      begun-index short h,
    )

pub returns : goal.returns
returns c =
    let a = c.args in
    let s = state_of a.s in
    let i = handed_for a.head.now a.metadata.now a.message.now a.out.now a.tag.now in
    let h = begun-of sane s a.head.now a.metadata.now a.message.now a.out.now a.tag.now c.in_default.ensures c.closing.ensures c.requires c.append_metadata-h.ensures.gives in
    let w = within sane s i h.none in
    let l : length a.message.now ≤ length c.add_stream-c.new.out = omega (arith, w.holds, c.add_stream-c.auto.out) in
    let x = c.add_stream-c.ensures in
    let g = c.finish-g.ensures in
    let k = done-of h x.adds x.counts (length-take-le _ _ l) c.closing-2.ensures w.tag g.gains g.fills g.counts in
    ap (λ (r : CallResult SaneSession). call_result r c.add_stream-c.new.out c.finish-g.new.tag) c.accepted.ensures
    ∙ wrap-accepted sane s i (wrap-worked k refl)
