-- `decimal::read_decimal` meets its contract. The loop's invariant: what is found from the place i on, with the number so far, is what is found
-- at the place `at`. Assumes nothing.
use mathlib.Core.Path.{◌≡◌}
use lib.ListN.{drop}
use Rattle.decimal.specs.Decimal.{read_more, read_decimal}
use Rattle.decimal.proofs.read_decimal.Given as goal

abbrev pub invariant-loop-i : goal.invariant-loop-i
invariant-loop-i l = read_more l.max l.end l.value l.i (drop l.i l.s) ≡ read_decimal l.max l.end l.s l.at
