-- `envelope_write::write_field` meets its contract: the number's digits, and one byte behind them. Assumes nothing.
use mathlib.Core.Path.{ap, ◌∙◌}
use mathlib.Core.List.{List}
use Prim.Native.Nat.{ℕ}
use native.Mathlib.Omega.{arith}
use lib.ListN.{set}
use Rattle.decimal.specs.Decimal.{decimal}
use Rattle.decimal.proofs.Buffers.{written_at-after}
use Rattle.envelope.specs.Layout.{field}
use Rattle.envelope.proofs.Layouts.{field-length}
use Rattle.envelope_write.proofs.write_field.Goals as goal

pub returns : goal.returns
unfolding field
returns c =
    let e = c.write_decimal-len.ensures in (
      omega (arith, field-length c.args.n, e.0),
      ap (λ (l : List ℕ). set l c.write_decimal-len.result 44) e.1
          ∙ written_at-after c.args.out.now 0 (decimal c.args.n) c.write_decimal-len.result 44 (omega (arith, e.0)) (omega (arith, field-length c.args.n, e.0, c.requires)),
    )
