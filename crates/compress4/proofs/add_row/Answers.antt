-- `compress4::add_row` meets its contract. The loop's invariant: the lanes below i of the four states have their sums. Assumes nothing.
use mathlib.Core.Path.{◌≡◌, ap, ap₂}
use mathlib.Core.List.{List}
use Prim.Native.Nat.{ℕ, ◌<◌, ◌+◌, ◌*◌, ◌/◌, ◌%◌}
use native.Mathlib.Omega.{arith}
use lib.Dec.{lit<}
use lib.Bits.{bit_xor}
use lib.ListN.{get_or, length-set}
use borrow.Author.Rules.{rules}
use Rattle.state.proofs.Bytes.{filled-four, sum-filled}
use Rattle.xoodoo4.specs.Four.{laid, beside}
use Rattle.xoodoo4.proofs.Four.{beside_lane, beside-lane, laid-lane}
use Rattle.compress4.proofs.add_row.Goals as goal

pub loop-i-init : goal.loop-i-init
loop-i-init c = (search rules, λ q h. absurd (omega arith))

pub loop-i-preserved : goal.loop-i-preserved
loop-i-preserved c =
    let l = c.loop-i in
    let a = c.args in
    let r = a.row.now.words in
    let n = a.row.now.at in
    let f : ℕ → List ℕ = laid n 3 1 r in
    let z : 4 * l.i ≡ 4 * l.i + 0 = omega arith in
    let lane : (j m : ℕ) → j < 4 → m ≡ n + 3 * (l.i % 4) + l.i / 4 + j → get_or r m 0 ≡ beside_lane f (4 * l.i + j) =
    λ j m h e. beside-lane f l.i j h (laid-lane n 3 1 r l.i j m (omega arith) (omega arith)) in (
      simp length-set l.invariant.0,
      filled-four (λ q. bit_xor (get_or a.w q 0) (beside_lane f q)) l.t l.i (omega (arith, l.invariant.0))
          (ap₂ (λ (x y : ℕ). bit_xor (get_or a.w x 0) y) z (lane 0 _ (lit< tt) (omega arith))) (ap (bit_xor (get_or a.w (4 * l.i + 1) 0)) (lane 1 _ (lit< tt) (omega arith)))
          (ap (bit_xor (get_or a.w (4 * l.i + 2) 0)) (lane 2 _ (lit< tt) (omega arith))) (ap (bit_xor (get_or a.w (4 * l.i + 3) 0)) (lane 3 _ (lit< tt) (omega arith))) l.invariant.1,
    )

pub returns : goal.returns
unfolding beside
returns c =
    let l = c.loop-i in
    let a = c.args in
    sum-filled (beside_lane (laid a.row.now.at 3 1 a.row.now.words)) 48 a.w l.t (search rules) l.invariant.0 (λ q h. l.invariant.1 q (omega arith))
