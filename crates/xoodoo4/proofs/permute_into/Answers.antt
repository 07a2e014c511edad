-- `xoodoo4::permute_into` meets its contract. The loop's invariant: the lanes of the states below i are read. Assumes nothing.
use Rattle.std.proofs.Common.{◌≡◌, ap, ◌∙◌, ℕ, ◌+◌, ◌-◌, ◌*◌, ◌/◌, ◌%◌, ◌<◌, get_or, length-set, take, drop, arith, rules}
use lib.Dec.{lit<}
use Rattle.word.specs.Lists.{sum}
use Rattle.state.proofs.Bytes.{filled-four}
use Rattle.xoodoo4.specs.Four.{laid}
use Rattle.xoodoo4.proofs.Four.{beside_lane, laid-read, laid-permuted, into-sum, into-place}
use Rattle.xoodoo4.proofs.permute_into.Goals as goal

pub loop-i-init : goal.loop-i-init
loop-i-init c = record { size = search rules; lanes = λ k h. absurd (omega arith) }

pub loop-i-preserved : goal.loop-i-preserved
loop-i-preserved c =
    let l = c.loop-i in
    let a = c.args in
    let m = l.invariant in
    let p = a.n + a.dx * (l.i % 4) + a.dy * (l.i / 4) in
    let lane : (j : ℕ) → j < 4 → get_or (take (p + 4 - p) (drop p a.a.now)) j 0 ≡ beside_lane (laid a.n a.dx a.dy a.a.now) (4 * l.i + j) =
    λ j h. laid-read a.n a.dx a.dy a.a.now l.i j (p + 4 - p) (omega arith) h (omega arith) in record {
      size = simp length-set m.size;
      lanes = filled-four (beside_lane (laid a.n a.dx a.dy a.a.now)) l.t l.i (omega arith) (lane 0 (lit< tt)) (lane 1 (lit< tt)) (lane 2 (lit< tt)) (lane 3 (lit< tt)) m.lanes;
    }

pub returns-then-add : goal.returns-then-add
returns-then-add c =
    let l = c.loop-i in
    let a = c.args in
    let m = l.invariant in
    into-sum a.w.now _ c.if-add.true
    (c.add.ensures ∙ ap (sum a.w.now) (laid-permuted a.n a.dx a.dy a.a.now l.t m.size (λ q h. m.lanes q (omega arith)) c.permute_four-s.ensures))

pub returns-else-add : goal.returns-else-add
returns-else-add c =
    let l = c.loop-i in
    let a = c.args in
    let m = l.invariant in
    into-place a.w.now _ c.if-add.false (laid-permuted a.n a.dx a.dy a.a.now l.t m.size (λ q h. m.lanes q (omega arith)) c.permute_four-s.ensures)
