-- `rows::state_at` meets its contract. Assumes nothing.
use mathlib.Core.Path.{◌≡◌, ap}
use Prim.Native.Nat.{ℕ, ◌+◌, ◌*◌, ◌/◌, ◌%◌}
use native.Mathlib.Omega.{arith}
use lib.ListN.{get_or, length-set}
use borrow.Author.Rules.{rules}
use Rattle.word.proofs.Lists.{filled_more, tabulate-is}
use Rattle.xoodoo4.specs.Four.{laid}
use Rattle.rows.proofs.state_at.Goals as goal

pub loop-i-init : goal.loop-i-init
loop-i-init c = (search rules, λ q h. absurd (omega arith))

pub loop-i-preserved : goal.loop-i-preserved
loop-i-preserved c =
    let l = c.loop-i in
    let a = c.args in
    let e : 3 * (l.i % 4) + l.i / 4 + a.n ≡ a.n + 3 * (l.i % 4) + 1 * (l.i / 4) + 0 = omega arith in
    (simp length-set l.invariant.0, filled_more (λ q. get_or a.r.now (a.n + 3 * (q % 4) + 1 * (q / 4) + 0) 0) l.k l.i _ (omega (arith, l.invariant.0)) (ap (λ (m : ℕ). get_or a.r.now m 0) e) l.invariant.1)

pub returns : goal.returns
unfolding laid
returns c =
    let l = c.loop-i in
    let a = c.args in
    tabulate-is 12 (λ q. get_or a.r.now (a.n + 3 * (q % 4) + 1 * (q / 4) + 0) 0) l.k l.invariant.0 (λ q h. l.invariant.1 q (omega arith))
