-- `sae::unwrap` meets its contract. Assumes nothing.
use mathlib.Core.Path.{sym, ap, ◌∙◌}
use native.Mathlib.Omega.{arith}
use Rattle.steps.specs.declared.CallResult.{CallResult}
use Rattle.steps.proofs.Calls.{begun-index, within, unwrap-refused, unwrap-accepted, unwrap-wrong}
use Rattle.sae_mode.specs.Sae.{sae, input_of}
use Rattle.sae_mode.proofs.Papers.{short}
use Rattle.sae.specs.declared.SaeSession.{SaeSession}
use Rattle.sae.specs.Session.{state_of, call_result, handed}
use Rattle.sae.proofs.Calls.{first-of, begun-of, done-of, unwrap-worked, from-5}
use Rattle.sae.proofs.unwrap.Goals as goal

pub returns-in-Err : goal.returns-in-Err
returns-in-Err c =
    let a = c.args in
    let s = state_of a.s in
    let l = handed a.metadata.now a.cryptogram.now a.out.now a.tag.now in
    ap (λ (r : CallResult SaeSession). call_result r l.out l.tag) c.refused.ensures
    ∙ unwrap-refused sae s (input_of l) c.in-Err.e (first-of s l c.in-Err.ensures) ∙ from-5 s l

pub finish-g-requires : goal.finish-g-requires
finish-g-requires c =
    let a = c.args in
    let s = state_of a.s in
    let l = handed a.metadata.now a.cryptogram.now a.out.now a.tag.now in
    let h = begun-of s l c.in_default.ensures c.append_metadata-h.ensures.gives in
    (omega (arith, (within sae s (input_of l) h.none).text), omega arith, begun-index short h)

pub returns-then-same_bytes : goal.returns-then-same_bytes
returns-then-same_bytes c =
    let a = c.args in
    let s = state_of a.s in
    let l = handed a.metadata.now a.cryptogram.now a.out.now a.tag.now in
    let h = begun-of s l c.in_default.ensures c.append_metadata-h.ensures.gives in
    let x = c.add_stream-c.ensures in
    let g = c.finish-g.ensures in
    let k = done-of h x.adds x.counts g.gains g.fills g.counts in
    unwrap-accepted sae s (input_of l) (unwrap-worked k) (sym c.same_bytes.ensures ∙ c.if-same_bytes.true) ∙ from-5 s l

pub returns : goal.returns
returns c =
    let a = c.args in
    let s = state_of a.s in
    let l = handed a.metadata.now a.cryptogram.now a.out.now a.tag.now in
    let h = begun-of s l c.in_default.ensures c.append_metadata-h.ensures.gives in
    let x = c.add_stream-c.ensures in
    let g = c.finish-g.ensures in
    let k = done-of h x.adds x.counts g.gains g.fills g.counts in
    ap (λ (r : CallResult SaeSession). call_result r c.clear.new.out l.tag) c.refused-2.ensures
    ∙ unwrap-wrong sae s (input_of l) (unwrap-worked k) (sym c.same_bytes.ensures ∙ c.if-same_bytes.false) c.clear.new.out c.clear.ensures
    ∙ from-5 s l
