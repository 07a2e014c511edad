-- `seasons::first_day` meets its contract. The loop's invariant is what the search knows of the day that it looks at; the measure is how far that
-- day is from the end of the calendar. Assumes nothing.
use mathlib.Core.Path.{sym, ◌∙◌, subst}
use Rattle.std.proofs.Common.{rules}
use native.Mathlib.Omega.{arith}
use Rattle.days.proofs.Next.{next-later}
use Rattle.seasons.proofs.Search.{At, passed, starts, step, answer-refused, answer-found, answer-none}
use Rattle.seasons.proofs.first_day.Goals as goal

pub returns-in_err-check_dates : goal.returns-in_err-check_dates
returns-in_err-check_dates c =
    answer-refused _ _ _ c.window_of-w.ensures _ c.in_err-check_dates.field-0.0 (search rules) c.in_err-check_dates.ensures

pub loop-d-init : goal.loop-d-init
loop-d-init c =
    let there = passed _ _ c.in_ok-check_dates.ensures in
    (there, starts _ _ there)

pub returns-then-open_on : goal.returns-then-open_on
returns-then-open_on c =
    answer-found _ _ _ c.window_of-w.ensures _ c.loop-d.invariant.0 c.loop-d.invariant.1 (omega (arith, c.loop-d-test.true))
    (sym c.open_on.ensures ∙ c.if-open_on.true)

pub loop-d-smaller : goal.loop-d-smaller
loop-d-smaller c = omega (arith, c.next_day-d.ensures, next-later c.loop-d.d, c.loop-d-test.true)

pub loop-d-preserved : goal.loop-d-preserved
loop-d-preserved c =
    let next = step _ _ _ c.loop-d.invariant.1 (omega (arith, c.loop-d-test.true)) (sym c.open_on.ensures ∙ c.if-open_on.false) in
    (c.loop-d.invariant.0, subst (At _ _) (sym c.next_day-d.ensures) next)

pub returns : goal.returns
returns c =
    answer-none _ _ _ c.window_of-w.ensures _ c.loop-d.invariant.0 c.loop-d.invariant.1 c.loop-d-test.false
