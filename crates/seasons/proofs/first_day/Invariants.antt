-- `seasons::first_day` meets its contract. The loop's invariant is what the search knows of the day that it looks at; the measure is how far that
-- day is from the end of the calendar. Assumes nothing.
use Prim.Native.Nat.{◌+◌, ◌-◌}
use mathlib.Core.Path.{◌≡◌}
use mathlib.Core.Bool.{true}
use Rattle.days.specs.Days.{last_day}
use Rattle.seasons.specs.Seasons.{passes16}
use Rattle.seasons.proofs.Search.{At}
use Rattle.seasons.proofs.first_day.Given as goal

abbrev pub invariant-loop-d : goal.invariant-loop-d
invariant-loop-d l = (passes16 l.w l.day ≡ true) × At l.w l.day l.d

abbrev pub decreases-loop-d : goal.decreases-loop-d
decreases-loop-d l = last_day + 1 - l.d
