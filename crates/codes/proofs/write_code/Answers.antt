-- `codes::write_code` meets its contract: output that is added to eight zeros. Assumes nothing.
use mathlib.Core.List.{List}
use mathlib.Core.Path.{ap, ◌∙◌}
use Rattle.word.proofs.Lists.{zeros-sum}
use Rattle.modes.specs.Rules.{written}
use Prim.Native.Nat.{ℕ}
use Rattle.codes.proofs.Laws.{counts-two}
use Rattle.codes.proofs.write_code.Goals as goal

pub returns : goal.returns
returns c =
    let a = c.args in
    let x = c.add_keystream.ensures in
    (x.adds ∙ ap (λ (code : List ℕ). written code a.out.now) (zeros-sum 8 _), x.counts ∙ counts-two a.packet)
