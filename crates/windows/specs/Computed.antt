-- What is computed of windows, and what is claimed of it: document 02, request 8. proofs/Right.antt and proofs/February.antt have the proofs. Assumes
-- nothing.
use Rattle.std.specs.Prelude.{ℕ, ◌+◌, ◌*◌, ◌<◌, ◌≡◌, Bool, true, false, cond, ◌&&◌, ◌||◌, ◌↔◌, ◌⊎◌, leb, eqb}
use Rattle.days.specs.Calendar.{Leap}
use Rattle.days.specs.Days.{year_of, month_of, date_of, is_leap, month_length}
use Rattle.windows.specs.declared.Window.{Window}
use Rattle.windows.specs.Windows.{opening, closing, in_year, leap_day, first_of_march, last_of_february, Open, InLeapYear, NoSuchDate}

-- a window of these months and days
abbrev pub a_window : (opening_month opening_day closing_month closing_day : ℕ) → Window
a_window a b c d = record { open_month = a; open_day = b; close_month = c; close_day = d }

-- the date that a written one stands for, in a leap year or another
unfoldable pub date_in : (leap : Bool) (written instead : ℕ) → ℕ
date_in leap written instead = cond leap written (cond (eqb written leap_day) instead written)

-- those of a window in the year of a day
abbrev pub opens_at : Window → ℕ → ℕ
opens_at w day = date_in (is_leap (year_of day)) (opening w) first_of_march

abbrev pub closes_at : Window → ℕ → ℕ
closes_at w day = date_in (is_leap (year_of day)) (closing w) last_of_february

-- whether a window is open on a day
unfoldable pub open_on : Window → ℕ → Bool
open_on w day =
    cond (leb (opening w) (closing w))
    (leb (opens_at w day) (in_year day) && leb (in_year day) (closes_at w day))
    (leb (opens_at w day) (in_year day) || leb (in_year day) (closes_at w day))

-- whether a leap year has a date, and both dates of a window
unfoldable pub leap_year_has : (month day : ℕ) → Bool
leap_year_has month day = leb 1 day && leb day (month_length true month)

unfoldable pub good_window : Window → Bool
good_window w = leap_year_has w.open_month w.open_day && leap_year_has w.close_month w.close_day

-- What is claimed of a window's tests: it is open on a day, or a leap year has its dates, exactly by the rules.
pub record WindowExactly (w : Window) : Type 0 where
  pub is_open : (day : ℕ) → (open_on w day ≡ true) ↔ Open w day
  pub is_shut : (day : ℕ) → (open_on w day ≡ false) ↔ (Open w day → ⊥)
  pub good : (good_window w ≡ true) ↔ (NoSuchDate w → ⊥)
  pub bad : (good_window w ≡ false) ↔ NoSuchDate w

-- What is claimed of dates as numbers: that of a day is its month's and its date's; of two dates that leap years have, the later one is the larger
-- number, later being in a later month, or later in the same.
pub record DatesExactly : Type 0 where
  pub of_day : (day : ℕ) → in_year day ≡ month_of day * 100 + date_of day
  pub order : (m d m' d' : ℕ) → InLeapYear m d → InLeapYear m' d' → (m * 100 + d < m' * 100 + d') ↔ ((m < m') ⊎ ((m ≡ m') × (d < d')))

-- What is claimed of windows with 29 February on a day that exists: the window of that date alone is open on it and on no other day, so in a common year
-- never; the one from it to the day before is open always.
pub record February (day : ℕ) : Type 0 where
  pub alone : Open (a_window 2 29 2 29) day ↔ (in_year day ≡ leap_day)
  pub never : (Leap (year_of day) → ⊥) → Open (a_window 2 29 2 29) day → ⊥
  pub always : Open (a_window 2 29 2 28) day

-- What is claimed of a window whose two dates are one, not 29 February: it is open on that date and on no other.
abbrev pub OneDate : Window → Type 0
OneDate w = opening w ≡ closing w → (opening w ≡ leap_day → ⊥) → (day : ℕ) → Open w day ↔ (in_year day ≡ opening w)
