-- `xoofff::expand` meets its contract. The loop's invariant: the bytes below `at` have their sums, from the blocks that hold
-- them, and z is the state that the next block is made from. Assumes nothing.
use mathlib.Core.Path.{◌≡◌}
use mathlib.Core.List.{List}
use Prim.Native.Nat.{ℕ, ◌≤◌, ◌<◌, ◌+◌, ◌-◌, ◌/◌}
use lib.ListN.{length}
use Rattle.rolling.specs.Rolling.{roll_out}
use Rattle.deck.specs.Deck.{iterate}
use Rattle.xoofff.specs.Leaves.{output_blocks}
use Rattle.xoofff.proofs.Leaves.{Expanded}
use Rattle.xoofff.proofs.expand.Given as goal

abbrev pub invariant-loop-at : goal.invariant-loop-at
invariant-loop-at l =
    (l.at ≤ length l.initial.out) × (length l.out ≡ length l.initial.out) × (l.count ≡ output_blocks l.from l.at) × (l.at < length l.initial.out → (l.from + l.at) / 48 ≡ l.from / 48 + l.count)
    × ((y : List ℕ) → l.initial.z ≡ iterate (l.from / 48) roll_out y → Expanded y l.mask l.from l.initial.out l.at l.z l.out l.count)

abbrev pub decreases-loop-at : goal.decreases-loop-at
decreases-loop-at l = length l.initial.out - l.at
