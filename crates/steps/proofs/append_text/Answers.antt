-- `steps::append_text` meets its contract. Assumes nothing.
use Rattle.std.proofs.Common.{arith}
use Rattle.steps.proofs.History.{few-of}
use Rattle.steps.proofs.append_text.Goals as goal

pub returns-then-four-clause-few : goal.returns-then-four-clause-few
returns-then-four-clause-few c = let a = c.args in few-of a.d c.compress_four.result a.text.now a.closing.byte c.compress_four.ensures (omega arith)

pub returns-clause-few : goal.returns-clause-few
returns-clause-few c = let a = c.args in few-of a.d c.compress.result a.text.now a.closing.byte c.compress.ensures (omega arith)
