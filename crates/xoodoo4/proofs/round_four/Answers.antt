-- `xoodoo4::round_four` meets its contract. The loop's invariant: the states below j have done the round. Assumes nothing.
use Rattle.std.proofs.Common.{◌≡◌, ℕ, ap, ◌∙◌, subst, arith, rules}
use Rattle.xoodoo.specs.Xoodoo.{round}
use Rattle.xoodoo4.proofs.Four.{Done, done_none, done_more, done_all}
use Rattle.xoodoo4.proofs.round_four.Goals as goal

pub loop-j-init : goal.loop-j-init
loop-j-init c = done_none _ _ _ (search rules)

pub loop-j-preserved : goal.loop-j-preserved
loop-j-preserved c =
    let l = c.loop-j in
    let a = c.args in
    let s = c.round_step in
    done_more (round a.c) a.w l.j l.r s.result (omega arith) (search rules) (s.ensures ∙ ap (round a.c) c.part.ensures) c.put.ensures l.invariant

pub returns : goal.returns
returns c =
    let l = c.loop-j in
    let a = c.args in
    let e : l.j ≡ 4 = omega arith in
    done_all (round a.c) a.w l.r (subst (λ (n : ℕ). Done (round a.c) a.w n l.r) e l.invariant)
