-- `joined::compress_joined` meets its contract. Assumes nothing.
use mathlib.Core.Path.{refl, ap, ◌∙◌}
use mathlib.Core.List.{List}
use Prim.Native.Nat.{ℕ}
use native.Mathlib.Omega.{arith}
use lib.ListN.{length-take}
use borrow.Author.Rules.{rules}
use Rattle.deck.specs.Closing.{closed_by}
use Rattle.xoofff.specs.Leaves.{compressed}
use Rattle.compress4.proofs.Compress.{compressed-index, compressed-count}
use Rattle.joined.proofs.Joined.{all-assembled, first-added}
use Rattle.joined.proofs.compress_joined.Goals as goal

pub slice_bounds-compress-end : goal.slice_bounds-compress-end
slice_bounds-compress-end c = simp length-take (omega arith)

pub compress-requires : goal.compress-requires
compress-requires c = (simp length-take (omega arith), search rules)

pub returns-then-n-lt48 : goal.returns-then-n-lt48
returns-then-n-lt48 c =
    let a = c.args in
    let y = c.assemble-b in
    c.compress.ensures
    ∙ ap (λ (l : List ℕ). compressed a.d (closed_by l a.closing.byte)) (all-assembled a.head.now a.s.now y.result _ refl y.ensures.1)

pub overflow_add-state : goal.overflow_add-state
overflow_add-state c =
    let q = c in
    omega (arith, q.requires.1, q.requires.2, compressed-index _ _ _ c.compress_by-rest.ensures)

pub overflow_add-count : goal.overflow_add-count
overflow_add-count c =
    let q = c in
    omega (arith, q.requires.1, compressed-count _ _ _ c.compress_by-rest.ensures)

pub returns : goal.returns
returns c =
    let z = c.compress_by-rest in
    let m = c.roll_in-rolled in
    let k = c.add_block-added in
    let f = c.from_bytes-x in
    let y = c.assemble-b-2 in
    let q = c in
    let a = q.args in
    first-added a.d a.head.now a.s.now y.result a.closing.byte (omega (arith, q.requires.0)) y.ensures.0 y.ensures.1
    f.ensures k.ensures m.ensures z.ensures
