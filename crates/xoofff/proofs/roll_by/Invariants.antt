-- `xoofff::roll_by` meets its contract. The loop's invariant: z is y rolled as often as the loop has run. Assumes nothing.
use mathlib.Core.Path.{◌≡◌}
use Rattle.rolling.specs.Rolling.{roll_out}
use Rattle.deck.specs.Deck.{iterate}
use Rattle.xoofff.proofs.roll_by.Given as goal

abbrev pub invariant-loop : goal.invariant-loop
invariant-loop l = l.z ≡ iterate l.counter roll_out l.initial.z
