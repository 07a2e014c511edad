-- `sane::start` meets its contract. Assumes nothing.
use mathlib.Core.Path.{ap, ◌∙◌}
use native.Mathlib.Omega.{arith}
use Rattle.steps.specs.declared.CallResult.{CallResult}
use Rattle.steps.proofs.History.{few-of}
use Rattle.sane.specs.declared.SaneSession.{SaneSession}
use Rattle.sane.specs.Session.{nonce_result}
use Rattle.sane.proofs.Calls.{fits, start-refused, start-accepted}
use Rattle.sane.proofs.start.Goals as goal

pub returns-in-Err : goal.returns-in-Err
returns-in-Err c =
    let a = c.args in
    ap (λ (r : CallResult SaneSession). nonce_result r a.tag.now) c.refused.ensures ∙ start-refused a.key.now a.nonce.now a.tag.now c.in-Err.e c.in-Err.ensures

pub overflow_add-result : goal.overflow_add-result
overflow_add-result c =
    let a = c.args in
    let n = fits a.key.now a.nonce.now a.tag.now c.in_default.ensures in
    omega (arith, few-of _ c.compress-h.result a.nonce.now 1 c.compress-h.ensures (omega (arith, n.nonce-short)))

pub overflow_add-result-2 : goal.overflow_add-result-2
overflow_add-result-2 c =
    let a = c.args in
    let n = fits a.key.now a.nonce.now a.tag.now c.in_default.ensures in
    omega (arith, few-of _ c.compress-h.result a.nonce.now 1 c.compress-h.ensures (omega (arith, n.nonce-short)), c.tag_of-t.ensures.few)

pub returns : goal.returns
returns c =
    let a = c.args in
    let t = c.tag_of-t.ensures in
    start-accepted a.key.now a.nonce.now a.tag.now c.in_default.ensures c.key_mask.ensures c.compress-h.ensures t.fills t.counts
