-- `expand4::expand_groups` meets its contract. Assumes nothing.
use mathlib.Core.Path.{◌≡◌, refl, sym, ap, ◌∙◌, subst}
use Prim.Native.Nat.{ℕ, ◌+◌, ◌*◌, ◌-◌, ◌/◌}
use native.Mathlib.Omega.{arith}
use lib.ListN.{length}
use borrow.Author.Rules.{rules}
use Rattle.word.proofs.Lists.{Words}
use Rattle.state.proofs.Lanes.{fits-of}
use Rattle.xoodoo4.specs.Four.{laid}
use Rattle.xoodoo4.proofs.Four.{beside-length}
use Rattle.rolling.specs.Rolling.{roll_out}
use Rattle.deck.specs.Deck.{iterate, output_byte}
use Rattle.rows.proofs.Rows.{rolling-out, RowFrom, rolled-on, row-state, row-begins, row-further, row-anew, row-less}
use Rattle.xoofff.proofs.Leaves.{blocks-most, added-lent}
use Rattle.expand4.specs.Four.{four_byte}
use Rattle.expand4.proofs.Expand.{back, Groups, groups_none, groups-more, groups-all, groups-count, part-added, rest-blocks}
use Rattle.expand4.proofs.expand_groups.Goals as goal

pub loop-j-init : goal.loop-j-init
unfolding iterate
loop-j-init c =
    let y = c.args.y in
    let h : length y ≡ 12 = search rules in
    let w : Words 32 y = λ i. fits-of (search rules) in
    let n = c.new-row.ensures in
    (refl, groups_none _ _ _, subst (λ (p : ℕ). RowFrom roll_out y p 20 c.new-row.result.words) (sym n.0) (row-begins roll_out rolling-out y h w n.1), refl)

pub loop-j-preserved : goal.loop-j-preserved
loop-j-preserved c =
    let l = c.loop-j in
    let a = c.args in
    let y = a.y in
    let k = a.mask.now in
    let o = a.out.now in
    let at : ℕ = 192 * l.j in
    let z : length l.out ≡ length o = l.invariant.1.added.size in
    let e : 192 * l.j + 192 ≡ 192 * (l.j + 1) = omega arith in
    let g = rolled-on roll_out y at l.invariant.1.whole ∙ ap (λ (m : ℕ). iterate (m / 48) roll_out y) e in (
      ap length c.four_out.ensures.0 ∙ beside-length _,
      subst (λ (m : ℕ). Groups y k o m (back at (at + 192 - at) l.out c.four_out.new.out)) e
          (groups-more y k o at l.row.at l.out l.row.words (omega arith) (row-less roll_out _ l.row.at 16 20 l.row.words (omega arith) l.invariant.2)
          (added-lent (four_byte (laid l.row.at 3 1 l.row.words) k) at 192 (at + 192 - at) l.out c.four_out.new.out (omega arith) (omega arith) c.four_out.ensures.1)
          l.invariant.1),
      search (
        row-further roll_out rolling-out (iterate (at / 48) roll_out y) l.row.at l.row.words (iterate (192 * (l.j + 1) / 48) roll_out y) l.row.room l.row.whole g l.invariant.2,
        row-anew roll_out rolling-out (iterate (at / 48) roll_out y) l.row.at l.row.words (iterate (192 * (l.j + 1) / 48) roll_out y) g l.invariant.2,
      ),
      omega (arith, l.invariant.3),
    )

pub overflow_add-result : goal.overflow_add-result
overflow_add-result c =
    let l = c.loop-j in
    let at : ℕ = 192 * (length c.args.out.now / 192) in
    let z : length l.out ≡ length c.args.out.now = l.invariant.1.added.size in
    omega (arith, l.invariant.3, rest-blocks at l.out (omega arith) c.expand-count.ensures.1, blocks-most 0 (length l.out - at))

pub returns : goal.returns
returns c =
    let l = c.loop-j in
    let a = c.args in
    let y = a.y in
    let k = a.mask.now in
    let o = a.out.now in
    let at : ℕ = 192 * (length o / 192) in
    let x = c.expand-count in
    let q : l.j ≡ length o / 192 = omega arith in
    let d = subst (λ (n : ℕ). Groups y k o (192 * n) l.out) q l.invariant.1 in
    let r = subst (λ (n : ℕ). RowFrom roll_out (iterate (192 * n / 48) roll_out y) l.row.at 20 l.row.words) q l.invariant.2 in
    let s : length l.out ≡ length o = d.added.size in
    let m : ℕ = length l.out - at in
    let e : at + m ≡ length o = omega arith in
    let h : l.given ≡ at / 48 = omega (arith, l.invariant.3) in (
      groups-all y k o at m c.state.result l.out e
          (c.state.ensures ∙ row-state roll_out rolling-out (iterate (at / 48) roll_out y) l.row.at 20 l.row.words (omega arith) r) d
          (part-added (output_byte c.state.result k) 0 at m l.out (omega arith) x.ensures.0),
      ap (λ (n : ℕ). n + x.result) h ∙ groups-count at m x.result (length o) d.whole e (rest-blocks at l.out (omega arith) x.ensures.1),
    )
