-- `xoofff::xor_block` meets its contract. Assumes nothing.
use mathlib.Core.Path.{ap, refl, ◌∙◌}
use Prim.Native.Nat.{◌+◌, ◌-◌}
use native.Mathlib.Omega.{arith}
use lib.ListN.{take, drop}
use Rattle.word.specs.Lists.{sum}
use Rattle.state.specs.Bytes.{state_byte}
use Rattle.xoofff.proofs.Leaves.{added-lent, added-block, block-part}
use Rattle.xoofff.proofs.xor_block.Goals as goal

pub returns-then-n-lt48 : goal.returns-then-n-lt48
returns-then-n-lt48 c =
    let n = c.min-n in
    let a = c.args in
    let l = a.block.now in
    let o = a.out.now in (
      n.ensures,
      added-lent (λ k. state_byte l (a.skip + k)) 0 n.result (n.result - 0) o c.xor_bytes.new.out (omega arith) (omega arith)
          (c.xor_bytes.ensures ∙ ap (sum (take (n.result - 0) (drop 0 o))) (block-part l a.skip n.result (a.skip + n.result - a.skip) c.to_bytes-b.ensures (omega arith) (omega arith))),
    )

pub returns-else-n-lt48 : goal.returns-else-n-lt48
returns-else-n-lt48 c =
    let n = c.min-n in
    let a = c.args in
    (n.ensures, added-block a.block.now a.skip 0 n.result 48 a.out.now c.add_bytes.new.out (omega (arith, n.ensures)) (omega arith) refl c.add_bytes.ensures)
