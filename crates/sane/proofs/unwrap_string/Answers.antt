-- `sane::unwrap_string` meets its contract. Assumes nothing.
use mathlib.Core.Path.{refl, sym, ap, ◌∙◌}
use native.Mathlib.Omega.{arith}
use Rattle.modes.specs.Mode.{sane}
use Rattle.steps.specs.declared.CallResult.{CallResult}
use Rattle.steps.proofs.Calls.{begins, begun-index, within, first-of, begun-of, unwrap-refused, unwrap-accepted, unwrap-wrong}
use Rattle.sane.specs.declared.SaneSession.{SaneSession}
use Rattle.sane.specs.Session.{state_of, call_result, handed_for}
use Rattle.sane.proofs.Calls.{short, done-of, unwrap-worked}
use Rattle.sane.proofs.unwrap_string.Goals as goal

pub returns-in-Err : goal.returns-in-Err
returns-in-Err c =
    let a = c.args in
    let s = state_of a.s in
    let i = handed_for a.head.now a.metadata.now a.cryptogram.now a.out.now a.tag.now in
    ap (λ (r : CallResult SaneSession). call_result r i.out i.tag) c.refused.ensures
    ∙ unwrap-refused sane s i c.in-Err.e (first-of sane s a.head.now a.metadata.now a.cryptogram.now a.out.now a.tag.now c.in-Err.ensures)

pub append_metadata-h-requires : goal.append_metadata-h-requires
append_metadata-h-requires c =
    let a = c.args in
    let s = state_of a.s in
    let i = handed_for a.head.now a.metadata.now a.cryptogram.now a.out.now a.tag.now in
    let k = first-of sane s a.head.now a.metadata.now a.cryptogram.now a.out.now a.tag.now c.in_default.ensures in
    begins sane s i (within sane s i k) c.requires

pub finish-g-requires : goal.finish-g-requires
finish-g-requires c =
    let a = c.args in
    let s = state_of a.s in
    let i = handed_for a.head.now a.metadata.now a.cryptogram.now a.out.now a.tag.now in
    let h = begun-of sane s a.head.now a.metadata.now a.cryptogram.now a.out.now a.tag.now c.in_default.ensures c.closing.ensures c.requires c.append_metadata-h.ensures.gives in (
      omega (arith, (within sane s i h.none).text),
      omega arith,
      begun-index short h,
    )

pub returns-then-same_bytes : goal.returns-then-same_bytes
returns-then-same_bytes c =
    let a = c.args in
    let s = state_of a.s in
    let i = handed_for a.head.now a.metadata.now a.cryptogram.now a.out.now a.tag.now in
    let h = begun-of sane s a.head.now a.metadata.now a.cryptogram.now a.out.now a.tag.now c.in_default.ensures c.closing.ensures c.requires c.append_metadata-h.ensures.gives in
    let x = c.add_stream-c.ensures in
    let g = c.finish-g.ensures in
    let k = done-of h x.adds x.counts refl c.closing-2.ensures refl g.gains g.fills g.counts in
    ap (λ (r : CallResult SaneSession). call_result r c.add_stream-c.new.out i.tag) c.accepted.ensures
    ∙ unwrap-accepted sane s i (unwrap-worked k refl) (sym c.same_bytes.ensures ∙ c.if-same_bytes.true)

pub returns : goal.returns
returns c =
    let a = c.args in
    let s = state_of a.s in
    let i = handed_for a.head.now a.metadata.now a.cryptogram.now a.out.now a.tag.now in
    let h = begun-of sane s a.head.now a.metadata.now a.cryptogram.now a.out.now a.tag.now c.in_default.ensures c.closing.ensures c.requires c.append_metadata-h.ensures.gives in
    let x = c.add_stream-c.ensures in
    let g = c.finish-g.ensures in
    let k = done-of h x.adds x.counts refl c.closing-2.ensures refl g.gains g.fills g.counts in
    ap (λ (r : CallResult SaneSession). call_result r c.clear.new.out i.tag) c.refused-2.ensures
    ∙ unwrap-wrong sane s i (unwrap-worked k refl) (sym c.same_bytes.ensures ∙ c.if-same_bytes.false) c.clear.new.out c.clear.ensures
