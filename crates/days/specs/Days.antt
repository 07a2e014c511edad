-- Days as numbers, what is computed of them, and what is claimed of that: document 02, request 8. A day is the number that its eight digits are, year,
-- month and day of the month. proofs/Rules.antt and proofs/Next.antt have the proofs. Assumes nothing.
use Rattle.std.specs.Prelude.{ℕ, ◌+◌, ◌*◌, ◌/◌, ◌%◌, ◌<◌, ◌≤◌, ◌≡◌, Bool, cond, true, false, not, ◌&&◌, ◌||◌, ◌↔◌, ltb, leb, eqb}
use Rattle.days.specs.Calendar.{Leap, IsDate, Before}

-- the parts of a day's eight digits: its year, its month, and its date in the month
abbrev pub year_of : ℕ → ℕ
year_of day = day / 10000

abbrev pub month_of : ℕ → ℕ
month_of day = day / 100 % 100

abbrev pub date_of : ℕ → ℕ
date_of day = day % 100

-- the day of such parts
abbrev pub day_of : (year month date : ℕ) → ℕ
day_of year month date = year * 10000 + (month * 100 + date)

-- a day exists: its parts are a date by the calendar's rules
abbrev pub Exists : ℕ → Type 0
Exists day = IsDate (year_of day) (month_of day) (date_of day)

-- the last day
abbrev pub last_day : ℕ
last_day = 21991231

-- a leap year, computed
unfoldable pub is_leap : ℕ → Bool
is_leap year = eqb (year % 4) 0 && (not (eqb (year % 100) 0) || eqb (year % 400) 0)

-- the days of a month, in a leap year or another; 0 where there is no such month
unfoldable pub month_length : (leap : Bool) (month : ℕ) → ℕ
month_length leap month =
    cond (eqb month 2) (cond leap 29 28)
    (cond (eqb month 4) 30
    (cond (eqb month 6) 30
    (cond (eqb month 9) 30
    (cond (eqb month 11) 30
    (cond (ltb month 1) 0
    (cond (ltb 12 month) 0 31))))))

-- the days of the month of a day
abbrev pub length_at : ℕ → ℕ
length_at day = month_length (is_leap (year_of day)) (month_of day)

-- whether a day exists, computed
unfoldable pub is_day : ℕ → Bool
is_day day = leb 1900 (year_of day) && (leb (year_of day) 2199 && (leb 1 (date_of day) && leb (date_of day) (length_at day)))

-- the next day: of the same month, else the first of the next month, else the first of the next year
unfoldable pub next_day : ℕ → ℕ
next_day day =
    cond (ltb (date_of day) (length_at day)) (day + 1)
    (cond (ltb (month_of day) 12) (day / 100 * 100 + 101) (year_of day * 10000 + 10101))

-- What is claimed of a day's tests: it is one exactly where the calendar has it, in a leap year exactly by the rule.
pub record DayExactly (day : ℕ) : Type 0 where
  pub yes : (is_day day ≡ true) ↔ Exists day
  pub no : (is_day day ≡ false) ↔ (Exists day → ⊥)
  pub leap : (is_leap (year_of day) ≡ true) ↔ Leap (year_of day)

-- What is claimed of the digits: the parts of a date's day are its own, so a day is one date; every day is that of its parts; and the order of days is
-- the order of their dates.
pub record DigitsExactly : Type 0 where
  pub parts : (year month date : ℕ) → month < 100 → date < 100
      → (year_of (day_of year month date) ≡ year) × (month_of (day_of year month date) ≡ month) × (date_of (day_of year month date) ≡ date)
  pub whole : (day : ℕ) → day_of (year_of day) (month_of day) (date_of day) ≡ day
  pub order : (a b : ℕ) → (a < b) ↔ Before (year_of a) (month_of a) (date_of a) (year_of b) (month_of b) (date_of b)

-- What is claimed of the next day of a day that exists: it is later, it exists where the day was not the last, and no day that exists lies between.
pub record NextExactly (day : ℕ) : Type 0 where
  pub later : day < next_day day
  pub exists : day < last_day → Exists (next_day day)
  pub nothing_between : (other : ℕ) → Exists other → day < other → next_day day ≤ other
  pub not_past : day ≤ last_day
