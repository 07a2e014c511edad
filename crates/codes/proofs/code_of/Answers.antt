-- `codes::code_of` meets its contract. Assumes nothing.
use mathlib.Core.Path.{ap, ◌∙◌}
use Prim.Native.Nat.{ℕ}
use Rattle.codes.specs.Code.{code_result}
use Rattle.codes.proofs.Laws.{passed, refused, given}
use Rattle.codes.proofs.code_of.Goals as goal

pub returns-in-Err : goal.returns-in-Err
returns-in-Err c =
    let a = c.args in
    ap (λ (n : ℕ). code_result (record { number = n; count = 0 }) a.out.now) c.into.ensures ∙ refused a.s a.packet a.out.now c.in-Err.e c.in-Err.ensures

pub write_code-count-requires : goal.write_code-count-requires
write_code-count-requires c =
    let a = c.args in
    passed a.s a.packet a.out.now c.in_default.ensures

pub returns : goal.returns
returns c =
    let a = c.args in
    let w = c.write_code-count in
    given a.s a.packet a.out.now _ _ c.in_default.ensures w.ensures.0 w.ensures.1
