-- `state::add` meets its contract. Assumes nothing.
use Rattle.std.proofs.Common.{ℕ, refl, ap, ap₂, get_or, bit_xor, rules, arith}
use Rattle.word.proofs.Lists.{summed-none, summed-more, summed-all}
use Rattle.state.proofs.add.Goals as goal

pub loop-i-init : goal.loop-i-init
loop-i-init g c = summed-none _ _

pub loop-i-preserved : goal.loop-i-preserved
loop-i-preserved g c =
    let m = c.loop-i.invariant in
    summed-more _ _ _ _ _ (search rules) refl (ap₂ bit_xor (m.rest _ (omega arith)) (ap (λ (k : ℕ). get_or c.args.b k 0) (search rules))) m

pub returns : goal.returns
returns g c = summed-all _ _ _ _ (search rules) (search rules) c.loop-i.invariant
