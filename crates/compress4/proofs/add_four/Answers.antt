-- `compress4::add_four` meets its contract. Assumes nothing.
use mathlib.Core.Path.{ap, ap₂, ◌∙◌}
use Rattle.word.specs.Lists.{sum}
use Rattle.compress4.proofs.add_four.Goals as goal

pub returns : goal.returns
returns c =
    let x = c in
    let y = c in
    let z = c in
    c.add.ensures
    ∙ ap₂ sum (z.add-r.ensures ∙ ap₂ sum (y.add-q.ensures ∙ ap₂ sum (x.add-p.ensures ∙ ap (sum _) x.part.ensures) y.part-2.ensures) z.part-3.ensures)
    c.part-4.ensures
