-- `decimal::write_decimal` meets its contract. The loop's invariant: the digits written from the place i on are the last ones of n, and those of v
-- are the others; i is at least the place. Assumes nothing.
use Prim.Native.Nat.{ℕ, ◌≤◌, ◌-◌}
use mathlib.Core.Path.{◌≡◌}
use mathlib.Core.List.{List, ◌++◌}
use Rattle.decimal.specs.Decimal.{decimal}
use Rattle.decimal.specs.Buffer.{written_at}
use Rattle.decimal.proofs.Laws.{digits}
use Rattle.decimal.proofs.write_decimal.Given as goal

abbrev pub invariant-loop-i : goal.invariant-loop-i
invariant-loop-i l = (l.at ≤ l.i) × (tail : List ℕ) × (digits (l.i - l.at) l.v ++ tail ≡ decimal l.n) × (l.out ≡ written_at l.initial.out l.i tail)
