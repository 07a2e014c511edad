-- `xoodoo::permute` meets its contract. Assumes nothing.
use Rattle.std.proofs.Common.{◌≡◌, List, ℕ, ◌∙◌, ap, fold, arith, rules}
use Rattle.std.proofs.lemmas.Grind.{common_steps}
use Rattle.xoodoo.specs.Xoodoo.{perm, round, constants}
use Rattle.xoodoo.proofs.Steps.{fold-rounds}
use Rattle.xoodoo.proofs.permute.Goals as goal

pub returns : goal.returns
unfolding perm
returns c =
    let w = c.fold.ensures.runs in
    let e = w.3 (λ (s : List ℕ) (k : ℕ). round k s) (search rules) in
    let i : w.0.items ≡ constants = grind (arith, common_steps) in
    e ∙ ap (fold (λ (s : List ℕ) (k : ℕ). round k s) c.args.a) i ∙ fold-rounds constants c.args.a
