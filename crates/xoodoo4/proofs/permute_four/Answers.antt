-- `xoodoo4::permute_four` meets its contract. Assumes nothing.
use Rattle.std.proofs.Common.{◌≡◌, List, ℕ, ◌∙◌, ap, fold, arith, rules}
use Rattle.std.proofs.lemmas.Grind.{common_steps}
use Rattle.xoodoo.specs.Xoodoo.{perm, round, constants}
use Rattle.xoodoo4.specs.Four.{each}
use Rattle.xoodoo4.proofs.Four.{fold-each}
use Rattle.xoodoo4.proofs.permute_four.Goals as goal

pub returns : goal.returns
unfolding perm
returns c =
    let w = c.fold.ensures.runs in
    let e = w.3 (λ (s : List ℕ) (k : ℕ). each (round k) s) (search rules) in
    let i : w.0.items ≡ constants = grind (arith, common_steps) in
    e ∙ ap (fold (λ (s : List ℕ) (k : ℕ). each (round k) s) c.args.w) i ∙ fold-each constants c.args.w (search rules)
