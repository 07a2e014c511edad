-- The Gregorian calendar's rules, years 1900 to 2199: document 02, request 8. Assumes nothing.
use Rattle.std.specs.Prelude.{ℕ, ◌%◌, ◌<◌, ◌≤◌, ◌≡◌, ◌⊎◌}

-- a leap year: 4 divides it, and 100 does not or 400 does
abbrev pub Leap : ℕ → Type 0
Leap year = (year % 4 ≡ 0) × ((year % 100 ≡ 0 → ⊥) ⊎ (year % 400 ≡ 0))

-- how many days a month of a year has: February 29 in a leap year and 28 in any other, April, June, September and November 30, all the rest 31
pub data Lasts (year : ℕ) : (month days : ℕ) → Type 0 where
  leap-february : Leap year → Lasts year 2 29
  february : (Leap year → ⊥) → Lasts year 2 28
  april : Lasts year 4 30
  june : Lasts year 6 30
  september : Lasts year 9 30
  november : Lasts year 11 30
  the_rest : {month : ℕ} → 1 ≤ month → month ≤ 12 → (month ≡ 2 → ⊥) → (month ≡ 4 → ⊥) → (month ≡ 6 → ⊥) → (month ≡ 9 → ⊥) → (month ≡ 11 → ⊥)
      → Lasts year month 31

-- a date that exists, in these years
pub record IsDate (year month date : ℕ) : Type 0 where
  pub from : 1900 ≤ year
  pub to : year ≤ 2199
  pub days : ℕ
  pub lasts : Lasts year month days
  pub date_from : 1 ≤ date
  pub date_to : date ≤ days

-- one date is before another: in an earlier year; in the same year and an earlier month; in the same month and earlier in it
pub data Before : (year month date year' month' date' : ℕ) → Type 0 where
  by-year : {y m d y' m' d' : ℕ} → y < y' → Before y m d y' m' d'
  by-month : {y m d m' d' : ℕ} → m < m' → Before y m d y m' d'
  by-date : {y m d d' : ℕ} → d < d' → Before y m d y m d'
