-- What is computed of windows is what the rules say. Assumes nothing.
use Prim.Native.Nat.{ℕ, ◌≤◌}
use mathlib.Core.Path.{◌≡◌, refl, sym, ap, ◌∙◌, subst}
use mathlib.Core.Bool.{Bool, true, false, cond, ◌&&◌, ◌||◌, and-false, or-true, true≢false, false≢true}
use mathlib.Core.Logic.{◌↔◌, inl, inr}
use native.Mathlib.Omega.{arith}
use lib.Dec.{leb, eqb}
use borrow.Author.Tests.{le-leb, lt-leb, leb-true, leb-false, eqb-true, eqb-false}
use Rattle.days.specs.Calendar.{Leap, IsDate}
use Rattle.days.specs.Days.{year_of, is_leap, month_length}
use Rattle.days.proofs.Rules.{both, leap-right, common-right, lasts-right}
use Rattle.windows.specs.declared.Window.{Window}
use Rattle.windows.specs.Windows.{opening, closing, in_year, leap_day, first_of_march, last_of_february, StandsFor, leap-year, other-date, common-year, Open, within, to-new-year, from-new-year, InLeapYear, NoSuchDate}
use Rattle.windows.specs.Computed.{date_in, opens_at, closes_at, open_on, leap_year_has, good_window, WindowExactly}
use Rattle.std.proofs.lemmas.Bool.Decides.{nat_tests}

-- the date that a written one stands for
module _ (leap : Bool) (written instead : ℕ) where
  pub in-leap-year : leap ≡ true → date_in leap written instead ≡ written
  unfolding date_in
  in-leap-year e = simp e

  pub in-no-leap-year : leap ≡ false → written ≡ leap_day → date_in leap written instead ≡ instead
  unfolding date_in
  in-no-leap-year e is = grind (arith, nat_tests)

  pub another-date : (written ≡ leap_day → ⊥) → date_in leap written instead ≡ written
  unfolding date_in
  another-date other = grind (arith, nat_tests)

-- A written date stands for the one that is computed, and for no other.
module _ (year written instead : ℕ) where
  pub stands : StandsFor year written instead (date_in (is_leap year) written instead)
  stands = go (is_leap year) (eqb written leap_day) refl refl
    where
      here : {d : ℕ} → date_in (is_leap year) written instead ≡ d → StandsFor year written instead d
          → StandsFor year written instead (date_in (is_leap year) written instead)
      here e s = subst (StandsFor year written instead) (sym e) s

      go : (s t : Bool) → is_leap year ≡ s → eqb written leap_day ≡ t → StandsFor year written instead (date_in (is_leap year) written instead)
      go true t p q = here (in-leap-year (is_leap year) written instead p) (leap-year ((leap-right year).0 p))
      go false true p q =
          let is = eqb-true written leap_day q in
          here (in-no-leap-year (is_leap year) written instead p is) (common-year ((common-right year).0 p) is)
      go false false p q =
          let other = eqb-false written leap_day q in
          here (another-date (is_leap year) written instead other) (other-date other)

  pub stands-only : (date : ℕ) → StandsFor year written instead date → date_in (is_leap year) written instead ≡ date
  stands-only _ (leap-year h) = in-leap-year (is_leap year) written instead ((leap-right year).1 h)
  stands-only _ (other-date other) = another-date (is_leap year) written instead other
  stands-only _ (common-year h is) = in-no-leap-year (is_leap year) written instead ((common-right year).1 h) is

-- A window is open on a day exactly by the rule.
module _ (w : Window) (day : ℕ) where
  opens : StandsFor (year_of day) (opening w) first_of_march (opens_at w day)
  opens = stands (year_of day) (opening w) first_of_march

  closes : StandsFor (year_of day) (closing w) last_of_february (closes_at w day)
  closes = stands (year_of day) (closing w) last_of_february

  pub open-right : (open_on w day ≡ true) ↔ Open w day
  unfolding open_on
  open-right = (
    (λ e. to (leb (opening w) (closing w)) (leb (opens_at w day) (in_year day)) (leb (in_year day) (closes_at w day)) refl refl refl e),
    (λ o. from o),
  )
    where
      to : (a b c : Bool) → leb (opening w) (closing w) ≡ a → leb (opens_at w day) (in_year day) ≡ b → leb (in_year day) (closes_at w day) ≡ c
          → cond a (b && c) (b || c) ≡ true → Open w day
      to true true true p q r e =
          within (leb-true (opening w) (closing w) p) opens closes (leb-true (opens_at w day) (in_year day) q) (leb-true (in_year day) (closes_at w day) r)
      to true true false p q r e = absurd (false≢true e)
      to true false c p q r e = absurd (false≢true e)
      to false true c p q r e = to-new-year (leb-false (opening w) (closing w) p) opens (leb-true (opens_at w day) (in_year day) q)
      to false false true p q r e = from-new-year (leb-false (opening w) (closing w) p) closes (leb-true (in_year day) (closes_at w day) r)
      to false false false p q r e = absurd (false≢true e)

      from-the : (date : ℕ) → StandsFor (year_of day) (opening w) first_of_march date → date ≤ in_year day → opens_at w day ≤ in_year day
      from-the date s le = omega (arith, stands-only (year_of day) (opening w) first_of_march date s)

      to-the : (date : ℕ) → StandsFor (year_of day) (closing w) last_of_february date → in_year day ≤ date → in_year day ≤ closes_at w day
      to-the date s le = omega (arith, stands-only (year_of day) (closing w) last_of_february date s)

      from : Open w day → open_on w day ≡ true
      from (within a o c b d) =
          simp (le-leb (opening w) (closing w) a, le-leb (opens_at w day) (in_year day) (from-the _ o b), le-leb (in_year day) (closes_at w day) (to-the _ c d))
      from (to-new-year a o b) = simp (lt-leb (opening w) (closing w) a, le-leb (opens_at w day) (in_year day) (from-the _ o b))
      from (from-new-year a c d) =
          simp (lt-leb (opening w) (closing w) a, le-leb (in_year day) (closes_at w day) (to-the _ c d)) (or-true (leb (opens_at w day) (in_year day)))

  shut-right : (open_on w day ≡ false) ↔ (Open w day → ⊥)
  shut-right = ((λ e o. true≢false (sym (open-right.1 o) ∙ e)), (λ never. go (open_on w day) refl never))
    where
      go : (t : Bool) → open_on w day ≡ t → (Open w day → ⊥) → open_on w day ≡ false
      go true e never = absurd (never (open-right.0 e))
      go false e never = e

-- A leap year has a date exactly where some leap year has it: 2000 has all of them.
leap-date-right : (month day : ℕ) → (leap_year_has month day ≡ true) ↔ InLeapYear month day
unfolding leap_year_has
leap-date-right month day = ((λ e. to e), (λ d. from d.0 d.1 d.2))
  where
    leap-2000 : Leap 2000
    leap-2000 = (refl, inr refl)

    to : leap_year_has month day ≡ true → InLeapYear month day
    to e =
        let k = both (leb 1 day) (leb day (month_length true month)) e in
        let some = leb-true 1 day k.0 in
        let few = leb-true day (month_length true month) k.1 in
        let long : month_length (is_leap 2000) month ≡ month_length true month = ap (λ (t : Bool). month_length t month) ((leap-right 2000).1 leap-2000) in (
          2000,
          leap-2000,
          record {
            from = omega arith;
            to = omega arith;
            days = month_length true month;
            lasts = (lasts-right 2000 month (month_length true month)).0 (long, omega arith);
            date_from = some;
            date_to = few;
          },
        )

    from : (year : ℕ) → Leap year → IsDate year month day → leap_year_has month day ≡ true
    from year is-leap d =
        let long : month_length true month ≡ d.days =
        ap (λ (t : Bool). month_length t month) (sym ((leap-right year).1 is-leap)) ∙ ((lasts-right year month d.days).1 d.lasts).0 in
        let few : day ≤ month_length true month = omega (arith, long, d.date_to) in
        simp (le-leb 1 day d.date_from, le-leb day (month_length true month) few)

-- No leap year has a date of the window exactly where it is not good.
module _ (w : Window) where
  bad-right : (good_window w ≡ false) ↔ NoSuchDate w
  unfolding good_window
  bad-right = (
    (λ e. to (leap_year_has w.open_month w.open_day) (leap_year_has w.close_month w.close_day) refl refl e),
    (λ h. from h),
  )
    where
      gone : (month day : ℕ) → leap_year_has month day ≡ false → InLeapYear month day → ⊥
      gone month day e d = true≢false (sym ((leap-date-right month day).1 d) ∙ e)

      not_there : (month day : ℕ) (t : Bool) → leap_year_has month day ≡ t → (InLeapYear month day → ⊥) → leap_year_has month day ≡ false
      not_there month day true e h = absurd (h ((leap-date-right month day).0 e))
      not_there month day false e h = e

      to : (a b : Bool) → leap_year_has w.open_month w.open_day ≡ a → leap_year_has w.close_month w.close_day ≡ b → a && b ≡ false
          → NoSuchDate w
      to false b p q e = inl (gone w.open_month w.open_day p)
      to true false p q e = inr (gone w.close_month w.close_day q)
      to true true p q e = absurd (true≢false e)

      from : NoSuchDate w → good_window w ≡ false
      from (inl h) = simp (not_there w.open_month w.open_day (leap_year_has w.open_month w.open_day) refl h)
      from (inr h) =
          simp (not_there w.close_month w.close_day (leap_year_has w.close_month w.close_day) refl h)
          (and-false (leap_year_has w.open_month w.open_day))

  good_right : (good_window w ≡ true) ↔ (NoSuchDate w → ⊥)
  good_right = ((λ e h. true≢false (sym e ∙ bad-right.1 h)), (λ never. go (good_window w) refl never))
    where
      go : (t : Bool) → good_window w ≡ t → (NoSuchDate w → ⊥) → good_window w ≡ true
      go true e never = e
      go false e never = absurd (never (bad-right.0 e))

-- All that is claimed of a window's tests.
pub window-exactly : (w : Window) → WindowExactly w
window-exactly w = record { is_open = open-right w; is_shut = shut-right w; good = good_right w; bad = bad-right w }
