-- `rows::row_of` meets its contract. Assumes nothing.
use mathlib.Core.Path.{◌≡◌, sym, ap, ◌∙◌}
use mathlib.Core.List.{List}
use Prim.Native.Nat.{ℕ}
use native.Mathlib.Omega.{arith}
use lib.ListN.{get_or, set, replicate}
use Rattle.rows.specs.Row.{lane_of, begun}
use Rattle.rows.proofs.Rows.{begun-none, begun_more}
use Rattle.rows.proofs.row_of.Goals as goal

pub loop-p-init : goal.loop-p-init
loop-p-init c = sym (begun-none _ _)

pub loop-p-preserved : goal.loop-p-preserved
loop-p-preserved c =
    let l = c.loop-p in
    let k = c.args.k in
    ap (λ (m : List ℕ). set m l.p (get_or k (lane_of l.p) 0)) l.invariant ∙ sym (begun_more l.p k (replicate 80 0))

pub returns : goal.returns
returns c =
    let l = c.loop-p in
    let e : l.p ≡ 12 = omega arith in
    l.invariant ∙ ap (λ (n : ℕ). begun n c.args.k (replicate 80 0)) e
