-- Windows with 29 February, and windows of one date. Assumes nothing.
use Prim.Native.Nat.{ℕ, ◌<◌, ◌≤◌}
use mathlib.Core.Path.{◌≡◌, refl, ◌∙◌}
use mathlib.Core.Bool.{Bool, true, false}
use mathlib.Core.Logic.{◌↔◌}
use native.Mathlib.Omega.{arith}
use lib.Dec.{ltb}
use borrow.Author.Tests.{ltb-true, ltb-false}
use Rattle.days.specs.Calendar.{Leap, Lasts, leap-february, february, april, june, september, november, the_rest}
use Rattle.days.specs.Days.{year_of, Exists, is_leap}
use Rattle.days.proofs.Rules.{leap-right, common-right}
use Rattle.windows.specs.declared.Window.{Window}
use Rattle.windows.specs.Windows.{opening, closing, in_year, leap_day, first_of_march, last_of_february, StandsFor, leap-year, other-date, common-year, Open, within, to-new-year, from-new-year}
use Rattle.windows.specs.Computed.{a_window, February, OneDate}

abbrev alone : Window
alone = a_window 2 29 2 29

abbrev always : Window
always = a_window 2 29 2 28

-- 29 February exists in leap years only
leap-day-leap : (day : ℕ) → Exists day → in_year day ≡ leap_day → Leap (year_of day)
leap-day-leap day is e = go is.lasts (omega arith) (omega (arith, is.date_to))
  where
    go : {month days : ℕ} → Lasts (year_of day) month days → month ≡ 2 → 29 ≤ days → Leap (year_of day)
    go (leap-february h) m d = h
    go (february h) m d = let bad : ⊥ = omega arith in absurd bad
    go april m d = let bad : ⊥ = omega arith in absurd bad
    go june m d = let bad : ⊥ = omega arith in absurd bad
    go september m d = let bad : ⊥ = omega arith in absurd bad
    go november m d = let bad : ⊥ = omega arith in absurd bad
    go (the_rest a b two four six nine eleven) m d = absurd (two m)

-- the window of 29 February alone
alone-right : (day : ℕ) → Exists day → Open alone day ↔ (in_year day ≡ leap_day)
alone-right day is = ((λ o. to o), (λ e. within (omega arith) (leap-year (leap-day-leap day is e)) (leap-year (leap-day-leap day is e)) (omega arith) (omega arith)))
  where
    dates : {from until : ℕ} → StandsFor (year_of day) 229 first_of_march from → StandsFor (year_of day) 229 last_of_february until → from ≤ in_year day
        → in_year day ≤ until
        → in_year day ≡ leap_day
    dates (leap-year h) (leap-year k) a b = omega arith
    dates (leap-year h) (other-date other) a b = omega arith
    dates (leap-year h) (common-year never k) a b = absurd (never h)
    dates (other-date other) c a b = absurd (other refl)
    dates (common-year never k) (leap-year h) a b = absurd (never h)
    dates (common-year never k) (other-date other) a b = absurd (other refl)
    dates (common-year never k) (common-year never2 k2) a b = let bad : ⊥ = omega arith in absurd bad

    to : Open alone day → in_year day ≡ leap_day
    to (within way o c a b) = dates o c a b
    to (to-new-year way o a) = let bad : ⊥ = omega arith in absurd bad
    to (from-new-year way c b) = let bad : ⊥ = omega arith in absurd bad

-- the window from 29 to 28 February: in a common year it opens on 1 March, and no day lies between
always-open : (day : ℕ) → Exists day → Open always day
always-open day is = go (is_leap (year_of day)) refl (ltb 228 (in_year day)) refl (ltb (in_year day) 301) refl
  where
    go : (s : Bool) → is_leap (year_of day) ≡ s → (t : Bool) → ltb 228 (in_year day) ≡ t → (u : Bool) → ltb (in_year day) 301 ≡ u → Open always day
    go s p false q u r = from-new-year (omega arith) (other-date (λ e. let bad : ⊥ = omega arith in absurd bad)) (ltb-false 228 (in_year day) q)
    go true p true q u r = to-new-year (omega arith) (leap-year ((leap-right (year_of day)).0 p)) (ltb-true 228 (in_year day) q)
    go false p true q false r = to-new-year (omega arith) (common-year ((common-right (year_of day)).0 p) refl) (ltb-false (in_year day) 301 r)
    go false p true q true r =
        absurd ((common-right (year_of day)).0 p (leap-day-leap day is (between (ltb-true 228 (in_year day) q) (ltb-true (in_year day) 301 r))))
      where
        few : {month days : ℕ} → Lasts (year_of day) month days → month ≡ 2 → days ≤ 29
        few (leap-february h) m = omega arith
        few (february h) m = omega arith
        few april m = let bad : ⊥ = omega arith in absurd bad
        few june m = let bad : ⊥ = omega arith in absurd bad
        few september m = let bad : ⊥ = omega arith in absurd bad
        few november m = let bad : ⊥ = omega arith in absurd bad
        few (the_rest a b two four six nine eleven) m = absurd (two m)

        between : 228 < in_year day → in_year day < 301 → in_year day ≡ leap_day
        between a b = split (ltb 299 (in_year day)) refl
          where
            split : (v : Bool) → ltb 299 (in_year day) ≡ v → in_year day ≡ leap_day
            split true v = let zero : ⊥ = omega (arith, ltb-true 299 (in_year day) v, is.date_from) in absurd zero
            split false v = let few' = few is.lasts (omega (arith, ltb-false 299 (in_year day) v)) in omega (arith, few', is.date_to, ltb-false 299 (in_year day) v)

-- All that is claimed of windows with 29 February.
pub february-windows : (day : ℕ) → Exists day → February day
february-windows day is =
    record {
      alone = alone-right day is;
      never = λ common o. common (leap-day-leap day is ((alone-right day is).0 o));
      always = always-open day is;
    }

-- A window whose two dates are one.
pub one-date : (w : Window) → OneDate w
one-date w same other day = ((λ o. to o), (λ e. within (omega arith) (other-date other) (other-date (λ k. other (same ∙ k))) (omega arith) (omega arith)))
  where
    itself : {instead date : ℕ} (written : ℕ) → (written ≡ leap_day → ⊥) → StandsFor (year_of day) written instead date → date ≡ written
    itself written other (leap-year h) = refl
    itself written other (other-date h) = refl
    itself written other (common-year h is) = absurd (other is)

    to : Open w day → in_year day ≡ opening w
    to (within way o c a b) = omega (arith, itself (opening w) other o, itself (closing w) (λ k. other (same ∙ k)) c)
    to (to-new-year way o a) = let bad : ⊥ = omega arith in absurd bad
    to (from-new-year way c b) = let bad : ⊥ = omega arith in absurd bad
