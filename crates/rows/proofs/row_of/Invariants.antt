-- `rows::row_of` meets its contract. The loop's invariant: the words below p stand. Assumes nothing.
use mathlib.Core.Path.{◌≡◌}
use Rattle.rows.specs.Row.{begun}
use Rattle.rows.proofs.row_of.Given as goal

abbrev pub invariant-loop-p : goal.invariant-loop-p
invariant-loop-p l = l.r ≡ begun l.p l.k l.initial.r
