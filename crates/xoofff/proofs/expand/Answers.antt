-- `xoofff::expand` meets its contract. The loop's invariant: the bytes below `at` have their sums, from the blocks that hold
-- them, and z is the state that the next block is made from. Assumes nothing.
use mathlib.Core.Path.{◌≡◌, refl, ap, ◌∙◌}
use Prim.Native.Nat.{◌+◌, ◌-◌, ◌/◌, ◌%◌}
use native.Mathlib.Omega.{arith}
use lib.ListN.{length, take, drop, length-take, length-drop}
use Rattle.state.specs.Bytes.{state_byte}
use Rattle.xoofff.specs.Leaves.{output_blocks}
use Rattle.xoofff.proofs.Leaves.{added-all, no_blocks, blocks_more, blocks-most, expanded-none, expanded-more, place-more, added-rest}
use Rattle.xoofff.proofs.expand.Goals as goal

pub loop-at-init : goal.loop-at-init
loop-at-init c = (omega arith, refl, no_blocks _, (λ h. omega arith), λ y e. expanded-none y _ _ _ _ e)

pub overflow_add-count : goal.overflow_add-count
overflow_add-count c =
    let l = c.loop-at in
    let a = c.args in
    omega (arith, blocks-most a.from l.at, l.invariant.2)

pub loop-at-preserved : goal.loop-at-preserved
loop-at-preserved c =
    let x = c.xor_block-at in
    let l = c.loop-at in
    let a = c.args in
    let b = c.output_block-b in
    let d = added-rest (λ k. state_byte b.result ((a.from + l.at) % 48 + k)) l.at x.result l.out x.new.out (omega arith) x.ensures.1 in
    let w : length (take (length l.out - l.at) (drop l.at l.out)) ≡ length l.out - l.at =
    omega (arith, length-take (length l.out - l.at) (drop l.at l.out), length-drop l.at l.out) in
    let h : (a.from + l.at) / 48 ≡ a.from / 48 + l.count = l.invariant.3 (omega arith) in (
      omega (arith, x.ensures.0),
      d.size ∙ l.invariant.1,
      blocks_more a.from l.at x.result l.count h (omega arith) (omega arith),
      (λ q. place-more a.from l.at x.result l.count (length a.out.now) h (omega arith) q),
      λ y e.
          expanded-more y a.mask.now a.from a.out.now l.z l.out _ l.at x.result l.count b.result c.roll_out.result
          h (omega arith) b.ensures c.roll_out.ensures d (l.invariant.4 y e),
    )

pub returns : goal.returns
returns c =
    let l = c.loop-at in
    let a = c.args in
    let e : l.at ≡ length a.out.now = omega arith in (
      added-all _ l.at a.out.now l.out e (l.invariant.4 a.y c.roll_by-z.ensures).added,
      l.invariant.2 ∙ ap (output_blocks a.from) e,
    )
