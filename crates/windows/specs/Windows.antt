-- Windows of the year, and on which days they are open: document 02, request 8. A date is the number month * 100 + day here, so that a later date of a
-- year is a larger number. Assumes nothing.
use Rattle.std.specs.Prelude.{ℕ, ◌+◌, ◌*◌, ◌%◌, ◌<◌, ◌≤◌, ◌≡◌, ◌⊎◌}
use Rattle.days.specs.Calendar.{Leap, IsDate}
use Rattle.days.specs.Days.{year_of}
use Rattle.windows.specs.declared.Window.{Window}

-- the two dates of a window as they are written
abbrev pub opening : Window → ℕ
opening w = w.open_month * 100 + w.open_day

abbrev pub closing : Window → ℕ
closing w = w.close_month * 100 + w.close_day

-- the date of a day in its year
abbrev pub in_year : ℕ → ℕ
in_year day = day % 10000

-- 29 February, and what it stands for in a year without it: as an opening 1 March, as a closing 28 February
abbrev pub leap_day : ℕ
leap_day = 229

abbrev pub first_of_march : ℕ
first_of_march = 301

abbrev pub last_of_february : ℕ
last_of_february = 228

-- the date that a written one stands for in a year: itself, where the year has 29 February or it is not that; else the one that is put instead
pub data StandsFor (year written instead : ℕ) : ℕ → Type 0 where
  leap-year : Leap year → StandsFor year written instead written
  other-date : (written ≡ leap_day → ⊥) → StandsFor year written instead written
  common-year : (Leap year → ⊥) → written ≡ leap_day → StandsFor year written instead instead

-- a window opens, or closes, on a date in a year
abbrev pub OpensOn : Window → (year date : ℕ) → Type 0
OpensOn w year date = StandsFor year (opening w) first_of_march date

abbrev pub ClosesOn : Window → (year date : ℕ) → Type 0
ClosesOn w year date = StandsFor year (closing w) last_of_february date

-- A window is open on a day. Which way it runs is told from the dates as written: one that opens later than it closes runs over New Year, any other from
-- its opening to its closing. Both are included.
pub data Open (w : Window) (day : ℕ) : Type 0 where
  within : {from to : ℕ} → opening w ≤ closing w → OpensOn w (year_of day) from → ClosesOn w (year_of day) to → from ≤ in_year day → in_year day ≤ to
      → Open w day
  to-new-year : {from : ℕ} → closing w < opening w → OpensOn w (year_of day) from → from ≤ in_year day → Open w day
  from-new-year : {to : ℕ} → closing w < opening w → ClosesOn w (year_of day) to → in_year day ≤ to → Open w day

-- some leap year has a date
abbrev pub InLeapYear : (month day : ℕ) → Type 0
InLeapYear month day = (year : ℕ) × Leap year × IsDate year month day

-- a date of a window is one that no leap year has
abbrev pub NoSuchDate : Window → Type 0
NoSuchDate w = (InLeapYear w.open_month w.open_day → ⊥) ⊎ (InLeapYear w.close_month w.close_day → ⊥)
