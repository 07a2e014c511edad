-- `envelope_write::put` meets its contract. Assumes nothing.
use Prim.Native.Nat.{ℕ, ◌<◌, ◌+◌}
use mathlib.Core.Path.{◌≡◌, refl, sym, ap, ◌∙◌}
use mathlib.Core.List.{List, [], ◌∷◌, ◌++◌}
use native.Mathlib.Omega.{arith}
use native.Mathlib.Numerals.{add-one}
use lib.ListN.{length, take, get_or, set}
use lib.Seq.{take-suc, take_all, length-take-le}
use Rattle.decimal.specs.Buffer.{written_at}
use Rattle.decimal.proofs.Buffers.{written_at-none, written_at-after}
use Rattle.envelope_write.proofs.put.Goals as goal

pub loop-i-init : goal.loop-i-init
loop-i-init c = sym (written_at-none _ _)

pub loop-i-preserved : goal.loop-i-preserved
loop-i-preserved c =
    let s = c.args.src.now in
    let i = c.loop-i.i in
    let inside : i < length s = omega arith in
    let taken : length (take i s) ≡ i = length-take-le i s (omega arith) in
    let longer : take i s ++ (get_or s i 0 ∷ []) ≡ take (i + 1) s = sym (ap (λ (k : ℕ). take k s) (add-one i) ∙ take-suc s i 0 inside) in
    ap (λ (l : List ℕ). set l i (get_or s i 0)) c.loop-i.invariant
    ∙ written_at-after c.args.out.now 0 (take i s) i (get_or s i 0) (omega (arith, taken)) (omega arith)
    ∙ ap (written_at c.args.out.now 0) longer

pub returns : goal.returns
returns c = (refl, c.loop-i.invariant ∙ ap (written_at _ _) (take_all _ _ (omega arith)))
