-- The next day is the one after a day: it comes later, it exists unless the day was the last, and no day lies between. Assumes nothing.
use Prim.Native.Nat.{ℕ, ◌+◌, ◌*◌, ◌/◌, ◌<◌, ◌≤◌}
use mathlib.Core.Path.{◌≡◌, refl, ap, ap₂, ◌∙◌}
use mathlib.Core.Bool.{Bool, true, false}
use native.Mathlib.Omega.{arith}
use lib.Dec.{ltb}
use borrow.Author.Tests.{ltb-true, ltb-false}
use Rattle.days.specs.Days.{year_of, month_of, date_of, Exists, is_leap, month_length, length_at, last_day, is_day, next_day, NextExactly}
use Rattle.days.proofs.Rules.{no-month-below, no-month-above, Parts, parts, of_parts, day-right}
use Rattle.std.proofs.lemmas.Bool.Decides.{nat_tests}

-- the month of a day that exists is one of the twelve
pub month-within : (day : ℕ) → is_day day ≡ true → (1 ≤ month_of day) × (month_of day ≤ 12)
month-within day e = (low (ltb (month_of day) 1) refl, high (ltb 12 (month_of day)) refl)
  where
    some : 1 ≤ length_at day
    some = omega (arith, (parts day e).date_from, (parts day e).date_to)

    low : (t : Bool) → ltb (month_of day) 1 ≡ t → 1 ≤ month_of day
    low true p = let bad : ⊥ = omega (arith, some, no-month-below (is_leap (year_of day)) (month_of day) (ltb-true (month_of day) 1 p)) in absurd bad
    low false p = ltb-false (month_of day) 1 p

    high : (t : Bool) → ltb 12 (month_of day) ≡ t → month_of day ≤ 12
    high true p = let bad : ⊥ = omega (arith, some, no-month-above (is_leap (year_of day)) (month_of day) (ltb-true 12 (month_of day) p)) in absurd bad
    high false p = ltb-false 12 (month_of day) p

-- a month has a first day and no thirty-second
pub some-days : (leap : Bool) (month : ℕ) → 1 ≤ month → month ≤ 12 → 1 ≤ month_length leap month
unfolding month_length
some-days true month from to = grind (arith, nat_tests)
some-days false month from to = grind (arith, nat_tests)

pub few-days : (leap : Bool) (month : ℕ) → month_length leap month ≤ 31
unfolding month_length
few-days true month = grind (arith, nat_tests)
few-days false month = grind (arith, nat_tests)

-- December has 31 days
december : (leap : Bool) (month : ℕ) → month ≡ 12 → month_length leap month ≡ 31
unfolding month_length
december leap month e = ap (month_length leap) e

-- the three cases of the next day
pub data Following (day : ℕ) : Type 0 where
  same-month : date_of day < length_at day → next_day day ≡ day + 1 → Following day
  new-month : length_at day ≤ date_of day → month_of day < 12 → next_day day ≡ day / 100 * 100 + 101 → Following day
  new-year : length_at day ≤ date_of day → 12 ≤ month_of day → next_day day ≡ year_of day * 10000 + 10101 → Following day

pub following : (day : ℕ) → Following day
unfolding next_day
following day = go (ltb (date_of day) (length_at day)) (ltb (month_of day) 12) refl refl
  where
    go : (s t : Bool) → ltb (date_of day) (length_at day) ≡ s → ltb (month_of day) 12 ≡ t → Following day
    go true t p q = same-month (ltb-true (date_of day) (length_at day) p) (simp p)
    go false true p q = new-month (ltb-false (date_of day) (length_at day) p) (ltb-true (month_of day) 12 q) (simp (p, q))
    go false false p q = new-year (ltb-false (date_of day) (length_at day) p) (ltb-false (month_of day) 12 q) (simp (p, q))

-- it comes later
pub next-later : (day : ℕ) → day < next_day day
next-later day = go (following day)
  where
    go : Following day → day < next_day day
    go (same-month h e) = omega arith
    go (new-month h m e) = omega arith
    go (new-year h m e) = omega arith

-- No day lies between.
pub next-nothing-between : (day other : ℕ) → is_day day ≡ true → is_day other ≡ true → day < other → next_day day ≤ other
next-nothing-between day other e f lt = go (following day) (parts other f) (month-within day e) (month-within other f)
  where
    -- no day of the same month, where the day was its last
    same : year_of other ≡ year_of day → month_of other ≡ month_of day → date_of other ≤ length_at other → length_at day ≤ date_of day → ⊥
    same y m d h =
        let long : length_at other ≡ length_at day = ap₂ (λ (a b : ℕ). month_length (is_leap a) b) y m in
        omega arith

    month-new : (t : Bool) → ltb (day / 100) (other / 100) ≡ t → Parts other → length_at day ≤ date_of day → next_day day ≡ day / 100 * 100 + 101
        → next_day day ≤ other
    month-new true b q h n = omega (arith, ltb-true (day / 100) (other / 100) b)
    month-new false b q h n =
        let le = ltb-false (day / 100) (other / 100) b in
        absurd (same (omega arith) (omega arith) q.date_to h)

    year-new : (t : Bool) → ltb (year_of day) (year_of other) ≡ t → Parts other → 12 ≤ month_of day → (1 ≤ month_of other) × (month_of other ≤ 12)
        → length_at day ≤ date_of day
        → next_day day ≡ year_of day * 10000 + 10101 → next_day day ≤ other
    year-new true b q m w h n = omega (arith, ltb-true (year_of day) (year_of other) b)
    year-new false b q m w h n =
        let le = ltb-false (year_of day) (year_of other) b in
        absurd (same (omega arith) (omega arith) q.date_to h)

    go : Following day → Parts other → (1 ≤ month_of day) × (month_of day ≤ 12) → (1 ≤ month_of other) × (month_of other ≤ 12) → next_day day ≤ other
    go (same-month h n) q v w = omega arith
    go (new-month h m n) q v w = month-new (ltb (day / 100) (other / 100)) refl q h n
    go (new-year h m n) q v w = year-new (ltb (year_of day) (year_of other)) refl q m w h n

-- It exists, unless the day was the last.
pub next-exists : (day : ℕ) → is_day day ≡ true → day < last_day → is_day (next_day day) ≡ true
next-exists day e lt = go (following day) (parts day e) (month-within day e)
  where
    is : (d : ℕ) → next_day day ≡ d → is_day d ≡ true → is_day (next_day day) ≡ true
    is d n h = ap is_day n ∙ h

    go : Following day → Parts day → (1 ≤ month_of day) × (month_of day ≤ 12) → is_day (next_day day) ≡ true
    go (same-month h n) p w =
        let few = few-days (is_leap (year_of day)) (month_of day) in
        let y : year_of (day + 1) ≡ year_of day = omega arith in
        let m : month_of (day + 1) ≡ month_of day = omega arith in
        let long : length_at (day + 1) ≡ length_at day = ap₂ (λ (a b : ℕ). month_length (is_leap a) b) y m in
        is (day + 1) n (of_parts (day + 1) (omega arith) (omega arith) (omega arith) (omega arith))
    go (new-month h m n) p w =
        let some = some-days (is_leap (year_of (day / 100 * 100 + 101))) (month_of (day / 100 * 100 + 101)) (omega arith) (omega arith) in
        is (day / 100 * 100 + 101) n (of_parts (day / 100 * 100 + 101) (omega arith) (omega arith) (omega arith) (omega arith))
    go (new-year h m n) p w =
        let last = december (is_leap (year_of day)) (month_of day) (omega arith) in
        let some = some-days (is_leap (year_of (year_of day * 10000 + 10101))) (month_of (year_of day * 10000 + 10101)) (omega arith) (omega arith) in
        is (year_of day * 10000 + 10101) n (of_parts (year_of day * 10000 + 10101) (omega arith) (omega arith) (omega arith) (omega arith))

-- A day that exists is not past the last.
not_past : (day : ℕ) → is_day day ≡ true → day ≤ last_day
not_past day e = omega (arith, (parts day e).to, (parts day e).date_to, (month-within day e).1, few-days (is_leap (year_of day)) (month_of day))

-- All that is claimed of the next day.
pub next-exactly : (day : ℕ) → Exists day → NextExactly day
next-exactly day is =
    let e = (day-right day).1 is in
    record {
      later = next-later day;
      exists = λ lt. (day-right (next_day day)).0 (next-exists day e lt);
      nothing_between = λ other there lt. next-nothing-between day other e ((day-right other).1 there) lt;
      not_past = not_past day e;
    }
