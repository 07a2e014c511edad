-- `compress4::compress_four` meets its contract. Assumes nothing.
use mathlib.Core.Path.{◌≡◌, refl, sym, ap, ◌∙◌, subst}
use mathlib.Core.List.{List}
use Prim.Native.Nat.{ℕ, ◌+◌, ◌*◌, ◌-◌, ◌/◌}
use native.Mathlib.Omega.{arith}
use lib.ListN.{length, take, drop}
use borrow.Author.Rules.{rules}
use Rattle.word.specs.Lists.{sum}
use Rattle.word.proofs.Lists.{Words}
use Rattle.state.proofs.Lanes.{fits-of}
use Rattle.rolling.specs.Rolling.{roll_in}
use Rattle.deck.specs.Deck.{iterate}
use Rattle.deck.specs.Closing.{closed_by}
use Rattle.deck.specs.declared.DeckState.{DeckState}
use Rattle.xoodoo4.specs.Four.{laid}
use Rattle.rows.proofs.Rows.{rolling-in, RowFrom, rolled-on, row-state, row-begins, row-further, row-anew, row-less}
use Rattle.xoofff.specs.Leaves.{compressed}
use Rattle.compress4.specs.Four.{add_four}
use Rattle.compress4.proofs.Compress.{after, Taken, taken_none, taken_more, blocks-lent, rest-count, rest-index, rest-compressed}
use Rattle.compress4.proofs.compress_four.Goals as goal

-- a state with its index set aside
abbrev aside : (acc mask : List ℕ) → DeckState
aside acc mask = record { acc = acc; mask = mask; index = 0 }

pub loop-j-init : goal.loop-j-init
unfolding iterate
loop-j-init c =
    let a = c.args in
    let k = a.d.mask in
    let h : length k ≡ 12 = search rules in
    let w : Words 32 k = λ i. fits-of (search rules) in
    let n = c.new-row.ensures in
    (taken_none a.d a.s.now a.closing.byte (search rules), subst (λ (p : ℕ). RowFrom roll_in k p 20 c.new-row.result.words) (sym n.0) (row-begins roll_in rolling-in k h w n.1), refl)

pub loop-j-preserved : goal.loop-j-preserved
loop-j-preserved c =
    let l = c.loop-j in
    let a = c.args in
    let d = a.d in
    let e : 192 * l.j + 192 ≡ 192 * (l.j + 1) = omega arith in
    let g = rolled-on roll_in d.mask (192 * l.j) l.invariant.0.whole ∙ ap (λ (m : ℕ). iterate (m / 48) roll_in d.mask) e in (
      subst (Taken d a.s.now a.closing.byte c.add_group.new.sums) e
          (taken_more d a.s.now a.closing.byte l.sums (192 * l.j) l.row.at l.row.words (omega arith) (row-less roll_in _ l.row.at 16 20 l.row.words (omega arith) l.invariant.1)
          (c.add_group.ensures ∙ ap (sum l.sums) (blocks-lent a.s.now (192 * l.j) (laid l.row.at 3 1 l.row.words) (omega arith))) l.invariant.0),
      search (
        row-further roll_in rolling-in (iterate (192 * l.j / 48) roll_in d.mask) l.row.at l.row.words (iterate (192 * (l.j + 1) / 48) roll_in d.mask) l.row.room l.row.whole g l.invariant.1,
        row-anew roll_in rolling-in (iterate (192 * l.j / 48) roll_in d.mask) l.row.at l.row.words (iterate (192 * (l.j + 1) / 48) roll_in d.mask) g l.invariant.1,
      ),
      omega (arith, l.invariant.2),
    )

pub overflow_add-state : goal.overflow_add-state
overflow_add-state c =
    let a = c.args in
    omega (arith, c.loop-j.invariant.2, rest-index (aside c.add_four-acc.result c.state-mask.result) a.s.now a.closing.byte (192 * (length a.s.now / 192)) c.compress-r.ensures)

pub overflow_add-count : goal.overflow_add-count
overflow_add-count c =
    let a = c.args in
    omega (arith, c.loop-j.invariant.2, rest-count (aside c.add_four-acc.result c.state-mask.result) a.s.now a.closing.byte (192 * (length a.s.now / 192)) c.compress-r.ensures)

pub returns : goal.returns
returns c =
    let l = c.loop-j in
    let a = c.args in
    let d = a.d in
    let s = a.s.now in
    let at : ℕ = 192 * (length s / 192) in
    let e : l.j ≡ length s / 192 = omega arith in
    let v = subst (λ (n : ℕ). Taken d s a.closing.byte l.sums (192 * n)) e l.invariant.0 in
    let w = subst (λ (n : ℕ). RowFrom roll_in (iterate (192 * n / 48) roll_in d.mask) l.row.at 20 l.row.words) e l.invariant.1 in
    let k = iterate (at / 48) roll_in d.mask in
    let p : c.add_four-acc.result ≡ add_four d.acc l.sums = c.add_four-acc.ensures in
    let q : c.state-mask.result ≡ k = c.state-mask.ensures ∙ row-state roll_in rolling-in k l.row.at 20 l.row.words (omega arith) w in
    let r = c.compress-r.result in
    let h : l.taken ≡ at / 48 = omega (arith, l.invariant.2) in
    (λ t. record { state = record { acc = r.state.acc; mask = r.state.mask; index = r.state.index + (d.index + h t) }; count = h t + r.count })
    ∙ rest-compressed d (after d l.sums at) s a.closing.byte at r v.fits v.whole v.same
    (c.compress-r.ensures ∙ λ t. compressed (aside (p t) (q t)) (closed_by (take (length s - at) (drop at s)) a.closing.byte))
