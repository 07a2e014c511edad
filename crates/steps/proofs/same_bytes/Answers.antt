-- `steps::same_bytes` meets its contract. Assumes nothing.
use Rattle.std.specs.Prelude.{fold, bit_or, bit_xor}
use Rattle.std.specs.List.{zip}
use Rattle.std.proofs.Common.{ℕ, ◌≡◌, ap, ◌∙◌, eqb, arith}
use Rattle.std.proofs.lemmas.Grind.{common_steps}
use Rattle.steps.proofs.Buffers.{same-if-none}
use Rattle.steps.proofs.same_bytes.Goals as goal

pub returns : goal.returns
returns c =
    let all : c.differing.result ≡ fold (λ d p. bit_or d (bit_xor p.0 p.1)) 0 (zip c.args.a.now c.args.b.now) =
    grind (arith, common_steps, c.differing.ensures) in
    ap (λ (n : ℕ). eqb n 0) all ∙ same-if-none c.args.a.now c.args.b.now 0 c.requires
