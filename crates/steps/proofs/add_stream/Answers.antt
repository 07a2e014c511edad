-- `steps::add_stream` meets its contract. Assumes nothing.
use Rattle.deck.specs.Incremental.{output}
use Rattle.steps.proofs.Buffers.{none-added}
use Rattle.steps.proofs.add_stream.Goals as goal

pub returns-then-text-eq0-clause-adds : goal.returns-then-text-eq0-clause-adds
returns-then-text-eq0-clause-adds c =
    let a = c.args in
    none-added (output a.d) a.offset a.text.now a.out.now c.if-text-eq0.true
