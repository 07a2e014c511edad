-- `steps::append_metadata` meets its contract. Assumes nothing.
use mathlib.Core.List.{◌++◌}
use Rattle.std.proofs.Common.{length-append, arith}
use Rattle.deck.specs.Closing.{closed_by}
use Rattle.steps.proofs.History.{headed-a, few-of}
use Rattle.steps.proofs.append_metadata.Goals as goal

pub returns-then-head-ne0-clause-gives : goal.returns-then-head-ne0-clause-gives
returns-then-head-ne0-clause-gives c =
    let a = c.args in
    headed-a a.d c.compress_joined.result a.head.now a.a.now a.m.now (closed_by (a.head.now ++ a.a.now) a.closing.byte) c.if-head-ne0.true c.compress_joined.ensures

pub returns-then-head-ne0-clause-few : goal.returns-then-head-ne0-clause-few
returns-then-head-ne0-clause-few c =
    let a = c.args in
    few-of a.d c.compress_joined.result (a.head.now ++ a.a.now) a.closing.byte c.compress_joined.ensures (omega (arith, length-append a.head.now a.a.now))

pub returns-then-m-eq0-clause-few : goal.returns-then-m-eq0-clause-few
returns-then-m-eq0-clause-few c = let a = c.args in few-of a.d c.compress_by.result a.a.now a.closing.byte c.compress_by.ensures (omega arith)
