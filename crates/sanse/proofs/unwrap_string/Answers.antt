-- `sanse::unwrap_string` meets its contract. Assumes nothing.
use mathlib.Core.Path.{refl, sym, ap, ◌∙◌}
use native.Mathlib.Omega.{arith}
use Rattle.modes.specs.Mode.{sanse}
use Rattle.steps.specs.declared.CallResult.{CallResult}
use Rattle.steps.proofs.Calls.{begins, begun-index, within, first-of, begun-of, unwrap-refused, unwrap-accepted, unwrap-wrong}
use Rattle.sanse.specs.declared.Session.{Session}
use Rattle.sanse.specs.Session.{state_of, call_result, handed_for}
use Rattle.sanse.proofs.Calls.{short, taken, unwrap-done, unwrap-worked}
use Rattle.sanse.proofs.unwrap_string.Goals as goal

pub returns-in-Err : goal.returns-in-Err
returns-in-Err c =
    let a = c.args in
    let i = handed_for a.head.now a.metadata.now a.cryptogram.now a.out.now a.tag.now in
    ap (λ (r : CallResult Session). call_result r i.out i.tag) c.refused.ensures
    ∙ unwrap-refused sanse (state_of a.s) i c.in-Err.e (first-of sanse (state_of a.s) a.head.now a.metadata.now a.cryptogram.now a.out.now a.tag.now c.in-Err.ensures)

pub append_metadata-h-requires : goal.append_metadata-h-requires
append_metadata-h-requires c =
    let a = c.args in
    let i = handed_for a.head.now a.metadata.now a.cryptogram.now a.out.now a.tag.now in
    let s = state_of a.s in
    let k = first-of sanse s a.head.now a.metadata.now a.cryptogram.now a.out.now a.tag.now c.in_default.ensures in
    begins sanse s i (within sanse s i k) c.requires

pub add_body-c-requires : goal.add_body-c-requires
add_body-c-requires c =
    let a = c.args in
    let i = handed_for a.head.now a.metadata.now a.cryptogram.now a.out.now a.tag.now in
    let s = state_of a.s in
    let h = begun-of sanse s a.head.now a.metadata.now a.cryptogram.now a.out.now a.tag.now c.in_default.ensures c.closing_a.ensures c.requires c.append_metadata-h.ensures.gives in
    let w = within sanse s i h.none in (
      omega (arith, w.tag),
      begun-index short h,
      w.text,
      w.holds,
    )

pub append_text-g-requires : goal.append_text-g-requires
append_text-g-requires c =
    let a = c.args in
    let i = handed_for a.head.now a.metadata.now a.cryptogram.now a.out.now a.tag.now in
    let s = state_of a.s in
    let h = begun-of sanse s a.head.now a.metadata.now a.cryptogram.now a.out.now a.tag.now c.in_default.ensures c.closing_a.ensures c.requires c.append_metadata-h.ensures.gives in (
      omega (arith, taken sanse s i h _ c.add_body-c.auto.out, (within sanse s i h.none).text),
      begun-index short h,
    )

pub returns-then-same_bytes : goal.returns-then-same_bytes
returns-then-same_bytes c =
    let a = c.args in
    let i = handed_for a.head.now a.metadata.now a.cryptogram.now a.out.now a.tag.now in
    let s = state_of a.s in
    let h = begun-of sanse s a.head.now a.metadata.now a.cryptogram.now a.out.now a.tag.now c.in_default.ensures c.closing_a.ensures c.requires c.append_metadata-h.ensures.gives in
    let t = c.tag_of-t.ensures in
    let x = c.add_body-c.ensures in
    let k = unwrap-done {i = i} h c.add_body-c.auto.out c.closing_m.ensures c.append_text-g.ensures.gives (t.fills, t.counts) c.closing_t.ensures (x.adds, x.counts) in
    ap (λ (r : CallResult Session). call_result r c.add_body-c.new.out i.tag) c.accepted.ensures
    ∙ unwrap-accepted sanse s i (unwrap-worked k refl refl) (sym c.same_bytes.ensures ∙ c.if-same_bytes.true)

pub returns : goal.returns
returns c =
    let a = c.args in
    let i = handed_for a.head.now a.metadata.now a.cryptogram.now a.out.now a.tag.now in
    let s = state_of a.s in
    let h = begun-of sanse s a.head.now a.metadata.now a.cryptogram.now a.out.now a.tag.now c.in_default.ensures c.closing_a.ensures c.requires c.append_metadata-h.ensures.gives in
    let t = c.tag_of-t.ensures in
    let x = c.add_body-c.ensures in
    let k = unwrap-done {i = i} h c.add_body-c.auto.out c.closing_m.ensures c.append_text-g.ensures.gives (t.fills, t.counts) c.closing_t.ensures (x.adds, x.counts) in
    ap (λ (r : CallResult Session). call_result r c.clear.new.out i.tag) c.refused-2.ensures
    ∙ unwrap-wrong sanse s i (unwrap-worked k refl refl) (sym c.same_bytes.ensures ∙ c.if-same_bytes.false) c.clear.new.out c.clear.ensures
