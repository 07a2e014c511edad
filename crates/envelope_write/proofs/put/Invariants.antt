-- `envelope_write::put` meets its contract. The loop's invariant: the first i bytes are written. Assumes nothing.
use mathlib.Core.Path.{◌≡◌}
use lib.ListN.{take}
use Rattle.decimal.specs.Buffer.{written_at}
use Rattle.envelope_write.proofs.put.Given as goal

abbrev pub invariant-loop-i : goal.invariant-loop-i
invariant-loop-i l = l.out ≡ written_at l.initial.out 0 (take l.i l.src)
