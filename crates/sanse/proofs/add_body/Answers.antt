-- `sanse::add_body` meets its contract. Assumes nothing.
use native.Mathlib.Omega.{arith}
use Rattle.deck.specs.Incremental.{append, output}
use Rattle.deck.specs.Closing.{closed_by}
use Rattle.steps.proofs.Buffers.{none-added}
use Rattle.steps.proofs.History.{few-of}
use Rattle.sanse.proofs.Calls.{body-added, body-counted}
use Rattle.sanse.proofs.add_body.Goals as goal

pub returns-then-text-eq0-clause-adds : goal.returns-then-text-eq0-clause-adds
returns-then-text-eq0-clause-adds c =
    let a = c.args in
    none-added (output (append a.d (closed_by a.tag.now a.closing.byte))) 0 a.text.now a.out.now c.if-text-eq0.true

pub overflow_add-result : goal.overflow_add-result
overflow_add-result c =
    let a = c.args in
    omega (arith, few-of a.d c.compress-h.result a.tag.now a.closing.byte c.compress-h.ensures (omega arith), c.add_keystream.ensures.few)

pub returns-clause-few : goal.returns-clause-few
returns-clause-few c =
    let a = c.args in
    omega (arith, few-of a.d c.compress-h.result a.tag.now a.closing.byte c.compress-h.ensures (omega arith), c.add_keystream.ensures.few)

pub returns-clause-adds : goal.returns-clause-adds
returns-clause-adds c =
    let a = c.args in
    let x = c.add_keystream in
    let h = c.compress-h in
    body-added a.d h.result a.text.now a.tag.now a.out.now x.new.out a.closing.byte x.result h.ensures x.ensures.counts x.ensures.adds

pub returns-clause-counts : goal.returns-clause-counts
returns-clause-counts c =
    let a = c.args in
    let x = c.add_keystream in
    let h = c.compress-h in
    body-counted a.d h.result a.text.now a.tag.now a.out.now x.new.out a.closing.byte x.result h.ensures x.ensures.counts c.if-text-eq0.false
