-- `compress4::blocks_beside` meets its contract. The loop's invariant: the lanes below i of the four blocks stand. Assumes nothing.
use Prim.Native.Nat.{◌+◌, ◌*◌}
use native.Mathlib.Omega.{arith}
use lib.Dec.{lit<}
use borrow.Author.Rules.{rules}
use Rattle.state.proofs.Bytes.{filled-four}
use Rattle.xoodoo4.proofs.Four.{beside_lane, beside-lane, beside-filled}
use Rattle.compress4.specs.Four.{block_at}
use Rattle.compress4.proofs.Compress.{block-lane}
use Rattle.compress4.proofs.blocks_beside.Goals as goal

pub loop-i-init : goal.loop-i-init
loop-i-init c = (search rules, λ q h. absurd (omega arith))

pub loop-i-preserved : goal.loop-i-preserved
loop-i-preserved c =
    let l = c.loop-i in
    let a = c.args in
    let s = a.s.now in
    let f = block_at s 0 in (
      search rules,
      filled-four (beside_lane f) l.w l.i (omega (arith, l.invariant.0))
          (beside-lane f l.i 0 (lit< tt) (block-lane s (0 + 48 * 0) l.i (4 * l.i) (omega arith) (omega arith) c.lane_at.ensures))
          (beside-lane f l.i 1 (lit< tt) (block-lane s (0 + 48 * 1) l.i (4 * l.i + 48) (omega arith) (omega arith) c.lane_at-in-loop-i.ensures))
          (beside-lane f l.i 2 (lit< tt) (block-lane s (0 + 48 * 2) l.i (4 * l.i + 96) (omega arith) (omega arith) c.lane_at-in-loop-i-2.ensures))
          (beside-lane f l.i 3 (lit< tt) (block-lane s (0 + 48 * 3) l.i (4 * l.i + 144) (omega arith) (omega arith) c.lane_at-in-loop-i-3.ensures)) l.invariant.1,
    )

pub returns : goal.returns
returns c =
    let l = c.loop-i in
    let a = c.args in
    beside-filled (block_at a.s.now 0) l.w l.invariant.0 (λ q h. l.invariant.1 q (omega arith))
