-- `xoodoo4::put` meets its contract. The loop's invariant: the lanes below i are stored. Assumes nothing.
use Rattle.std.proofs.Common.{refl, ap, sym, ◌∙◌, ◌+◌, ◌*◌, List, ℕ, set, get_or}
use Rattle.xoodoo4.specs.Four.{put}
use Rattle.xoodoo4.proofs.Four.{put-more}
use Rattle.xoodoo4.proofs.put.Goals as goal

pub loop-i-init : goal.loop-i-init
unfolding put
loop-i-init c = refl

pub loop-i-preserved : goal.loop-i-preserved
loop-i-preserved c =
    let l = c.loop-i in
    let a = c.args in
    ap (λ (w : List ℕ). set w (4 * l.i + a.j) (get_or a.s l.i 0)) l.invariant ∙ sym (put-more l.i a.j a.s a.w.now)
