-- What is computed of months, years and days is what the calendar's rules say. Assumes nothing.
use Prim.Native.Nat.{ℕ, ◌%◌, ◌<◌, ◌≤◌}
use mathlib.Core.Path.{◌≡◌, refl, sym, ap, ◌∙◌, subst}
use mathlib.Core.Bool.{Bool, true, false, not, ◌&&◌, ◌||◌, true≢false, false≢true}
use mathlib.Core.Logic.{◌↔◌, ◌⊎◌, inl, inr}
use native.Mathlib.Omega.{arith}
use lib.Dec.{ltb, eqb}
use Rattle.std.proofs.lemmas.Bool.Decides.{nat_tests}
use borrow.Author.Tests.{eq-eqb, ne_eqb, ltb-true, ltb-false, eqb-true, eqb-false}
use Rattle.days.specs.Calendar.{Leap, Lasts, leap-february, february, april, june, september, november, the_rest, Before, by-year, by-month, by-date}
use Rattle.days.specs.Days.{year_of, month_of, date_of, day_of, Exists, is_leap, month_length, length_at, is_day, DayExactly, DigitsExactly}

-- A year is a leap year exactly by the rule.
pub leap-right : (year : ℕ) → (is_leap year ≡ true) ↔ Leap year
unfolding is_leap
leap-right year = ((λ e. to e), (λ h. from h.0 h.1))
  where
    to : is_leap year ≡ true → Leap year
    to e = go (eqb (year % 4) 0) (eqb (year % 100) 0) (eqb (year % 400) 0) refl refl refl e
      where
        go : (a b c : Bool) → eqb (year % 4) 0 ≡ a → eqb (year % 100) 0 ≡ b → eqb (year % 400) 0 ≡ c → a && (not b || c) ≡ true → Leap year
        go true false c p q r t = (eqb-true (year % 4) 0 p, inl (eqb-false (year % 100) 0 q))
        go true true true p q r t = (eqb-true (year % 4) 0 p, inr (eqb-true (year % 400) 0 r))
        go true true false p q r t = absurd (false≢true t)
        go false b c p q r t = absurd (false≢true t)

    from : year % 4 ≡ 0 → (year % 100 ≡ 0 → ⊥) ⊎ (year % 400 ≡ 0) → is_leap year ≡ true
    from f (inl h) = simp (eq-eqb (year % 4) 0 f, ne_eqb (year % 100) 0 h)
    from f (inr h) = let hundred : year % 100 ≡ 0 = omega arith in simp (eq-eqb (year % 4) 0 f, eq-eqb (year % 100) 0 hundred, eq-eqb (year % 400) 0 h)

pub common-right : (year : ℕ) → (is_leap year ≡ false) ↔ (Leap year → ⊥)
common-right year = ((λ e h. true≢false (sym ((leap-right year).1 h) ∙ e)), (λ never. go (is_leap year) refl never))
  where
    go : (t : Bool) → is_leap year ≡ t → (Leap year → ⊥) → is_leap year ≡ false
    go true e never = absurd (never ((leap-right year).0 e))
    go false e never = e

-- the months
module _ (leap : Bool) (month : ℕ) where
  pub no-month-below : month < 1 → month_length leap month ≡ 0
  unfolding month_length
  no-month-below h = grind (arith, nat_tests)

  pub no-month-above : 12 < month → month_length leap month ≡ 0
  unfolding month_length
  no-month-above h = grind (arith, nat_tests)

  pub other-month : (month ≡ 2 → ⊥) → (month ≡ 4 → ⊥) → (month ≡ 6 → ⊥) → (month ≡ 9 → ⊥) → (month ≡ 11 → ⊥) → 1 ≤ month → month ≤ 12
      → month_length leap month ≡ 31
  unfolding month_length
  other-month two four six nine eleven from to = grind (arith, nat_tests)

-- A month has as many days as the rules say, and it is a month where that is at least one.
pub lasts-right : (year month days : ℕ) → ((month_length (is_leap year) month ≡ days) × (1 ≤ days)) ↔ Lasts year month days
unfolding month_length
lasts-right year month days = ((λ h. to h.0 h.1), (λ h. from h))
  where
    from : {m d : ℕ} → Lasts year m d → (month_length (is_leap year) m ≡ d) × (1 ≤ d)
    from (leap-february h) = (ap (λ (t : Bool). month_length t 2) ((leap-right year).1 h), omega arith)
    from (february h) = (ap (λ (t : Bool). month_length t 2) ((common-right year).1 h), omega arith)
    from april = (refl, omega arith)
    from june = (refl, omega arith)
    from september = (refl, omega arith)
    from november = (refl, omega arith)
    from (the_rest a b two four six nine eleven) = (other-month (is_leap year) _ two four six nine eleven a b, omega arith)

    of : {m d : ℕ} → month ≡ m → month_length (is_leap year) m ≡ d → month_length (is_leap year) month ≡ days → Lasts year m d → Lasts year month days
    of {m} {d} p q e l =
        let same : d ≡ days = sym q ∙ ap (month_length (is_leap year)) (sym p) ∙ e in
        subst (λ (k : ℕ). Lasts year k days) (sym p) (subst (Lasts year m) same l)

    two-of : (t : Bool) → is_leap year ≡ t → month ≡ 2 → month_length (is_leap year) month ≡ days → Lasts year month days
    two-of true t p e = of p (ap (λ (b : Bool). month_length b 2) t) e (leap-february ((leap-right year).0 t))
    two-of false t p e = of p (ap (λ (b : Bool). month_length b 2) t) e (february ((common-right year).0 t))

    to : month_length (is_leap year) month ≡ days → 1 ≤ days → Lasts year month days
    to e some = go (eqb month 2) (eqb month 4) (eqb month 6) (eqb month 9) (eqb month 11) (ltb month 1) (ltb 12 month) refl refl refl refl refl refl refl
      where
        go : (a b c d f g h : Bool) → eqb month 2 ≡ a → eqb month 4 ≡ b → eqb month 6 ≡ c → eqb month 9 ≡ d → eqb month 11 ≡ f → ltb month 1 ≡ g
            → ltb 12 month ≡ h
            → Lasts year month days
        go true b c d f g h pa pb pc pd pf pg ph = two-of (is_leap year) refl (eqb-true month 2 pa) e
        go false true c d f g h pa pb pc pd pf pg ph = of (eqb-true month 4 pb) refl e april
        go false false true d f g h pa pb pc pd pf pg ph = of (eqb-true month 6 pc) refl e june
        go false false false true f g h pa pb pc pd pf pg ph = of (eqb-true month 9 pd) refl e september
        go false false false false true g h pa pb pc pd pf pg ph = of (eqb-true month 11 pf) refl e november
        go false false false false false true h pa pb pc pd pf pg ph =
            let no : ⊥ = omega (arith, no-month-below (is_leap year) month (ltb-true month 1 pg)) in absurd no
        go false false false false false false true pa pb pc pd pf pg ph =
            let no : ⊥ = omega (arith, no-month-above (is_leap year) month (ltb-true 12 month ph)) in absurd no
        go false false false false false false false pa pb pc pd pf pg ph =
            let from_one : 1 ≤ month = ltb-false month 1 pg in
            let to-twelve : month ≤ 12 = ltb-false 12 month ph in
            let two = eqb-false month 2 pa in
            let four = eqb-false month 4 pb in
            let six = eqb-false month 6 pc in
            let nine = eqb-false month 9 pd in
            let eleven = eqb-false month 11 pf in
            of refl (other-month (is_leap year) month two four six nine eleven from_one to-twelve) e (the_rest from_one to-twelve two four six nine eleven)

-- both parts of a conjunction
pub both : (a b : Bool) → a && b ≡ true → (a ≡ true) × (b ≡ true)
both true b e = (refl, e)
both false b e = absurd (false≢true e)

-- what the tests of a day say together
pub record Parts (day : ℕ) : Type 0 where
  pub from : 1900 ≤ year_of day
  pub to : year_of day ≤ 2199
  pub date_from : 1 ≤ date_of day
  pub date_to : date_of day ≤ length_at day

pub parts : (day : ℕ) → is_day day ≡ true → Parts day
unfolding is_day
parts day e =
    record { from = grind (arith, nat_tests); to = grind (arith, nat_tests); date_from = grind (arith, nat_tests); date_to = grind (arith, nat_tests) }

pub of_parts : (day : ℕ) → 1900 ≤ year_of day → year_of day ≤ 2199 → 1 ≤ date_of day → date_of day ≤ length_at day → is_day day ≡ true
unfolding is_day
of_parts day a b c d = grind (arith, nat_tests)

-- A day exists exactly where its year, month and day of the month are a date by the rules.
pub day-right : (day : ℕ) → (is_day day ≡ true) ↔ Exists day
day-right day = ((λ e. to (parts day e)), (λ d. from d))
  where
    to : Parts day → Exists day
    to p = record {
      from = p.from;
      to = p.to;
      days = length_at day;
      lasts = (lasts-right (year_of day) (month_of day) (length_at day)).0 (refl, omega (arith, p.date_from, p.date_to));
      date_from = p.date_from;
      date_to = p.date_to;
    }

    from : Exists day → is_day day ≡ true
    from d =
        let long : length_at day ≡ d.days = ((lasts-right (year_of day) (month_of day) d.days).1 d.lasts).0 in
        of_parts day d.from d.to d.date_from (omega (arith, long, d.date_to))

-- A day that does not exist is not a date.
pub no-day-right : (day : ℕ) → (is_day day ≡ false) ↔ (Exists day → ⊥)
no-day-right day = ((λ e d. true≢false (sym ((day-right day).1 d) ∙ e)), (λ never. go (is_day day) refl never))
  where
    go : (t : Bool) → is_day day ≡ t → (Exists day → ⊥) → is_day day ≡ false
    go true e never = absurd (never ((day-right day).0 e))
    go false e never = e

-- the parts of a date's day are its own
parts-of-date : (year month date : ℕ) → month < 100 → date < 100
    → (year_of (day_of year month date) ≡ year) × (month_of (day_of year month date) ≡ month) × (date_of (day_of year month date) ≡ date)
parts-of-date year month date m d = (omega arith, omega arith, omega arith)

date-of-parts : (day : ℕ) → day_of (year_of day) (month_of day) (date_of day) ≡ day
date-of-parts day = omega arith

-- The order of days is the order of their dates.
order-right : (a b : ℕ) → (a < b) ↔ Before (year_of a) (month_of a) (date_of a) (year_of b) (month_of b) (date_of b)
order-right a b = ((λ h. to h), (λ h. back _ _ _ _ _ _ h refl refl refl refl refl refl))
  where
    back : (y m d y' m' d' : ℕ) → Before y m d y' m' d' → year_of a ≡ y → month_of a ≡ m → date_of a ≡ d → year_of b ≡ y' → month_of b ≡ m' → date_of b ≡ d' → a < b
    back _ _ _ _ _ _ (by-year h) ya ma da yb mb db = omega arith
    back _ _ _ _ _ _ (by-month h) ya ma da yb mb db = omega arith
    back _ _ _ _ _ _ (by-date h) ya ma da yb mb db = omega arith

    to : a < b → Before (year_of a) (month_of a) (date_of a) (year_of b) (month_of b) (date_of b)
    to h = go (ltb (year_of a) (year_of b)) (ltb (month_of a) (month_of b)) refl refl
      where
        go : (s t : Bool) → ltb (year_of a) (year_of b) ≡ s → ltb (month_of a) (month_of b) ≡ t
            → Before (year_of a) (month_of a) (date_of a) (year_of b) (month_of b) (date_of b)
        go true t p q = by-year (ltb-true (year_of a) (year_of b) p)
        go false true p q =
            let le : year_of b ≤ year_of a = ltb-false (year_of a) (year_of b) p in
            let lt : month_of a < month_of b = ltb-true (month_of a) (month_of b) q in
            let y : year_of a ≡ year_of b = omega arith in
            subst (λ (k : ℕ). Before (year_of a) (month_of a) (date_of a) k (month_of b) (date_of b)) y (by-month lt)
        go false false p q =
            let le : year_of b ≤ year_of a = ltb-false (year_of a) (year_of b) p in
            let lt : month_of b ≤ month_of a = ltb-false (month_of a) (month_of b) q in
            let y : year_of a ≡ year_of b = omega arith in
            let m : month_of a ≡ month_of b = omega arith in
            let d : date_of a < date_of b = omega arith in
            subst (λ (k : ℕ). Before (year_of a) (month_of a) (date_of a) k (month_of b) (date_of b)) y
            (subst (λ (k : ℕ). Before (year_of a) (month_of a) (date_of a) (year_of a) k (date_of b)) m (by-date d))

-- All that is claimed of a day's tests, and of its digits.
pub day-exactly : (day : ℕ) → DayExactly day
day-exactly day = record { yes = day-right day; no = no-day-right day; leap = leap-right (year_of day) }

pub digits-exactly : DigitsExactly
digits-exactly = record { parts = parts-of-date; whole = date-of-parts; order = order-right }
