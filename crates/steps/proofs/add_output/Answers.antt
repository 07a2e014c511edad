-- `steps::add_output` meets its contract. Assumes nothing.
use mathlib.Core.Path.{ap, ◌∙◌}
use mathlib.Core.List.{List}
use Prim.Native.Nat.{ℕ}
use native.Mathlib.Omega.{arith}
use lib.ListN.{length}
use Rattle.word.specs.Lists.{sum}
use Rattle.deck.specs.Deck.{run, output_byte}
use Rattle.deck.specs.Incremental.{output}
use Rattle.xoofff.proofs.Leaves.{blocks-most}
use Rattle.steps.proofs.add_output.Goals as goal

pub overflow_add-result : goal.overflow_add-result
overflow_add-result c =
    let a = c.args in
    omega (arith, blocks-most a.offset (length a.buffer.now), c.expand_by.ensures.1)

pub returns-clause-adds : goal.returns-clause-adds
unfolding output
returns-clause-adds c =
    let x = c.expand_by in
    let a = c.args in
    let o = a.buffer.now in
    x.ensures.0 ∙ ap (λ (y : List ℕ). sum o (run (output_byte y a.d.mask) a.offset (length o))) c.permute-y.ensures

pub returns-clause-few : goal.returns-clause-few
returns-clause-few c =
    let a = c.args in
    omega (arith, blocks-most a.offset (length a.buffer.now), c.expand_by.ensures.1)
