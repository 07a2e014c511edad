-- Dates as numbers: their order is that of the calendar. Assumes nothing.
use Prim.Native.Nat.{ℕ, ◌+◌, ◌*◌, ◌<◌}
use mathlib.Core.Path.{◌≡◌, refl}
use mathlib.Core.Bool.{Bool, true, false}
use mathlib.Core.Logic.{◌↔◌, ◌⊎◌, inl, inr}
use native.Mathlib.Omega.{arith}
use lib.Dec.{ltb}
use borrow.Author.Tests.{ltb-true, ltb-false}
use Rattle.days.specs.Days.{is_leap}
use Rattle.days.proofs.Rules.{lasts-right}
use Rattle.days.proofs.Next.{few-days}
use Rattle.windows.specs.Windows.{InLeapYear}
use Rattle.windows.specs.Computed.{DatesExactly}

-- a date has two digits at most
within-month : (month day : ℕ) → InLeapYear month day → day < 100
within-month month day h =
    let d = h.2 in
    omega (arith, d.date_to, ((lasts-right h.0 month d.days).1 d.lasts).0, few-days (is_leap h.0) month)

-- by month, then by day
by-month-and-day : (m d m' d' : ℕ) → d < 100 → d' < 100 → (m * 100 + d < m' * 100 + d') ↔ ((m < m') ⊎ ((m ≡ m') × (d < d')))
by-month-and-day m d m' d' a b = ((λ h. to (ltb m m') refl h), (λ h. back h))
  where
    to : (t : Bool) → ltb m m' ≡ t → m * 100 + d < m' * 100 + d' → (m < m') ⊎ ((m ≡ m') × (d < d'))
    to true p h = inl (ltb-true m m' p)
    to false p h = let le = ltb-false m m' p in inr (omega arith, omega arith)

    back : (m < m') ⊎ ((m ≡ m') × (d < d')) → m * 100 + d < m' * 100 + d'
    back (inl h) = omega arith
    back (inr h) = omega (arith, h.0, h.1)

-- All that is claimed of dates.
pub dates-exactly : DatesExactly
dates-exactly =
    record { of_day = λ day. omega arith; order = λ m d m' d' a b. by-month-and-day m d m' d' (within-month m d a) (within-month m' d' b) }
