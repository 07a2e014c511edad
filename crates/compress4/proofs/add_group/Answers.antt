-- `compress4::add_group` meets its contract. Assumes nothing.
use mathlib.Core.Path.{ap, ◌∙◌}
use mathlib.Core.List.{List}
use Prim.Native.Nat.{ℕ}
use Rattle.word.specs.Lists.{sum}
use Rattle.xoodoo4.specs.Four.{beside, laid}
use Rattle.xoodoo4.proofs.Four.{laid-length}
use Rattle.compress4.proofs.Compress.{group-permuted}
use Rattle.compress4.proofs.add_group.Goals as goal

pub returns : goal.returns
returns c =
    let a = c.args in
    let n = a.row.now.at in
    let r = a.row.now.words in
    c.permute_into.ensures
    ∙ ap (sum a.sums.now)
    (group-permuted a.s.now 0 (laid n 3 1 r) (laid-length n 3 1 r)
    (c.add_row-w.ensures ∙ ap (λ (v : List ℕ). sum v (beside (laid n 3 1 r))) c.blocks_beside.ensures))
