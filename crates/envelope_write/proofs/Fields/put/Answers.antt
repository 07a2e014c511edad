-- `envelope_write::Fields::put` meets its contract: letter and comma, and then the three numbers, one behind the other, are the header. Assumes nothing.
use mathlib.Core.Path.{refl, ap, ◌∙◌}
use mathlib.Core.List.{List, [], ◌∷◌, ◌++◌, append_assoc}
use Prim.Native.Nat.{ℕ}
use native.Mathlib.Omega.{arith}
use lib.ListN.{length-append}
use Rattle.decimal.specs.Buffer.{written_at}
use Rattle.decimal.proofs.Buffers.{written_at-pair}
use Rattle.envelope.specs.Layout.{field, header}
use Rattle.envelope.proofs.Layouts.{field-length, header-length}
use Rattle.envelope_write.proofs.WriteSteps.{written-behind}
use Rattle.envelope_write.proofs.Fields.put.Goals as goal

pub returns : goal.returns
unfolding header
returns c =
    let a = c.args.self in
    let out = c.args.out.now in
    let group = field a.group in
    let alen = field a.alen in
    let mlen = field a.mlen in
    let start = a.letter ∷ 44 ∷ [] in
    let total = header-length a.letter a.group a.alen a.mlen in
    let g = field-length a.group in
    let l = field-length a.alen in
    let m = field-length a.mlen in
    let n₁ = length-append start group in
    let n₂ = length-append (start ++ group) alen in
    let w₀ = written_at-pair out a.letter 44 (omega arith) in
    let w₁ = written-behind out start group 2 refl (omega arith) w₀ c.write_field-p.ensures.1 in
    let w₂ = written-behind out (start ++ group) alen _ (omega arith) (omega arith) w₁ c.write_field.ensures.1 in
    let w₃ = written-behind out ((start ++ group) ++ alen) mlen _ (omega arith) (omega arith) w₂ c.write_field-2.ensures.1 in
    (omega arith, w₃ ∙ ap (written_at out 0) (ap (λ (x : List ℕ). a.letter ∷ 44 ∷ x) (append_assoc group alen mlen)))
