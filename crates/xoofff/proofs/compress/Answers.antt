-- `xoofff::compress` meets its contract. Assumes nothing.
use mathlib.Core.Path.{◌≡◌, refl, sym, ap, ◌∙◌}
use Prim.Native.Nat.{ℕ, ◌+◌, ◌/◌}
use native.Mathlib.Omega.{arith}
use lib.ListN.{length}
use borrow.Author.Rules.{rules}
use Rattle.deck.specs.Strings.{block}
use Rattle.deck.specs.Closing.{closed_by}
use Rattle.deck.specs.Deck.{add_blocks, mask_at}
use Rattle.deck.proofs.Strings.{closed-blocks}
use Rattle.deck.proofs.Deck.{add_blocks-none, mask_at-none}
use Rattle.xoofff.proofs.Leaves.{full_block, block-added, mask-rolled, all-added}
use Rattle.xoofff.proofs.compress.Goals as goal

pub loop-j-init : goal.loop-j-init
loop-j-init c = (sym (add_blocks-none _ 0 _ _), sym (mask_at-none _), refl)

pub loop-j-preserved : goal.loop-j-preserved
loop-j-preserved c =
    let l = c.loop-j in
    let a = c.args in
    let s = closed_by a.s.now a.closing.byte in (
      block-added a.d.mask s l.j a.d.acc l.acc l.mask l.invariant.0 l.invariant.1
          (c.from_bytes_at-b.ensures ∙ full_block a.s.now a.closing.byte l.j (search rules) (search rules) (omega arith)) c.add_block.ensures,
      mask-rolled a.d.mask l.j l.mask c.roll_in.result l.invariant.1 c.roll_in.ensures,
      omega (arith, l.invariant.2),
    )

pub returns : goal.returns
returns c =
    let l = c.loop-j in
    let a = c.args in
    let k = a.d.mask in
    let s = closed_by a.s.now a.closing.byte in
    let n : ℕ = l.turns in
    let j : l.j ≡ n = sym l.invariant.2 in
    let e : length a.s.now / 48 ≡ n = omega (arith, l.invariant.2) in
    let x : l.acc ≡ add_blocks k 0 s n a.d.acc = l.invariant.0 ∙ ap (λ (i : ℕ). add_blocks k 0 s i a.d.acc) j in
    let m : l.mask ≡ mask_at k n = l.invariant.1 ∙ ap (mask_at k) j in
    all-added a.d s _ c.roll_in-blank.result (n + 1) _ (ap (λ (i : ℕ). i + 1) (sym e) ∙ sym (closed-blocks a.s.now a.closing.byte))
    (block-added k s n a.d.acc l.acc l.mask x m (c.last_block-b.ensures ∙ ap (block s) e) c.add_block-x.ensures)
    (mask-rolled k (n + 1) c.roll_in-2.result c.roll_in-blank.result
    (mask-rolled k n l.mask c.roll_in-2.result m c.roll_in-2.ensures) c.roll_in-blank.ensures) refl
