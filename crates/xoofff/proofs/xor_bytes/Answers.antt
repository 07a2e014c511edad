-- `xoofff::xor_bytes` meets its contract. Assumes nothing.
use mathlib.Core.Path.{refl, sym, ap, ◌∙◌}
use Prim.Native.Nat.{ℕ}
use native.Mathlib.Omega.{arith}
use lib.Bits.{bit_xor}
use lib.ListN.{length, get_or}
use lib.Seq.{get_or-set_other}
use Rattle.word.specs.Lists.{sum}
use Rattle.word.proofs.Lists.{filled_more, tabulate-is}
use Rattle.state.proofs.Bytes.{sum-filled}
use Rattle.xoofff.proofs.xor_bytes.Goals as goal

pub loop-i-init : goal.loop-i-init
loop-i-init c = (λ k h. absurd (omega arith), λ k h. refl)

pub loop-i-preserved : goal.loop-i-preserved
loop-i-preserved c =
    let l = c.loop-i in
    let a = c.args in
    let s = a.bytes.now in
    let o = a.out.now in (
      filled_more (λ k. bit_xor (get_or o k 0) (get_or s k 0)) l.out l.i _ (omega arith)
          (ap (λ (x : ℕ). bit_xor x (get_or s l.i 0)) (l.invariant.1 l.i (omega arith))) l.invariant.0,
      λ k h. get_or-set_other l.out l.i k _ 0 (λ e. omega (arith, e)) ∙ l.invariant.1 k (omega arith),
    )

pub returns : goal.returns
returns c =
    let l = c.loop-i in
    let a = c.args in
    let s = a.bytes.now in
    let o = a.out.now in
    sum-filled (λ k. get_or s k 0) (length o) o l.out refl (omega arith) (λ k h. l.invariant.0 k (omega arith))
    ∙ ap (sum o) (sym (tabulate-is (length o) (λ k. get_or s k 0) s c.requires (λ k h. refl)))
