-- `xoofff::roll_by` meets its contract. Assumes nothing.
use mathlib.Core.Path.{◌≡◌, refl, sym, ap, ◌∙◌}
use Prim.Native.Nat.{ℕ}
use native.Mathlib.Omega.{arith}
use Rattle.rolling.specs.Rolling.{roll_out}
use Rattle.deck.specs.Deck.{iterate}
use Rattle.deck.proofs.Deck.{iterate-more}
use Rattle.xoofff.proofs.roll_by.Goals as goal

pub loop-init : goal.loop-init
unfolding iterate
loop-init c = refl

pub loop-preserved : goal.loop-preserved
loop-preserved c =
    let l = c.loop in
    c.roll_out-t.ensures ∙ ap roll_out l.invariant ∙ sym (iterate-more roll_out l.counter c.args.y)

pub returns : goal.returns
returns c =
    let l = c.loop in
    let a = c.args in
    let e : l.counter ≡ a.n = omega arith in l.invariant ∙ ap (λ (k : ℕ). iterate k roll_out a.y) e
