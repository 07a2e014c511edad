-- The window of a size, the number of a day and the first permitted day by example. Assumes nothing.
use Prim.Native.Nat.{ℕ, ◌%◌, ◌<◌, ◌≤◌}
use mathlib.Core.Path.{◌≡◌, refl}
use mathlib.Core.Logic.{◌⊎◌, inl, inr}
use mathlib.Core.List.{[], ◌∷◌}
use native.Mathlib.Omega.{arith}
use Rattle.days.specs.Days.{year_of, is_leap, month_length, is_day}
use Rattle.days.proofs.Rules.{day-exactly}
use Rattle.windows.specs.declared.Window.{Window}
use Rattle.windows.specs.Windows.{in_year}
use Rattle.windows.specs.Computed.{a_window, date_in, open_on, leap_year_has, good_window}
use Rattle.windows.proofs.Right.{window-exactly}
use Rattle.windows.proofs.February.{february-windows}
use Rattle.seasons.specs.declared.Windows.{Windows}
use Rattle.seasons.specs.Seasons.{window_of, passes16, season_number}
use Rattle.seasons.specs.FirstDay.{found_day, no_day, FirstDay, found, none}
use Rattle.seasons.proofs.Right.{not-met-16}

-- the sizes A to H have the eight windows in their order: A the first, C the third, H the last
abbrev eight : Windows
eight =
    record {
      sizes =
          a_window 1 1 1 1 ∷ a_window 2 2 2 2 ∷ a_window 3 3 3 3 ∷ a_window 4 4 4 4 ∷ a_window 5 5 5 5 ∷ a_window 6 6 6 6 ∷ a_window 7 7 7 7
          ∷ a_window 8 8 8 8 ∷ [];
    }

window-a : window_of eight 65 ≡ a_window 1 1 1 1
window-a = refl

window-c : window_of eight 67 ≡ a_window 3 3 3 3
window-c = refl

window-h : window_of eight 72 ≡ a_window 8 8 8 8
window-h = refl

-- 29 February alone: from 1 March 2096 the first day is in 2104, as 2100 is no leap year; from 1 March 2196 there is none
abbrev alone : Window
alone = a_window 2 29 2 29

from-2096 : FirstDay alone 20960301 (found_day 21040229)
unfolding passes16 good_window leap_year_has is_day month_length is_leap open_on date_in
from-2096 =
    found 21040229 ((not-met-16 alone 20960301).0 refl)
    (record {
      exists = (day-exactly 21040229).yes.0 refl;
      is_open = ((window-exactly alone).is_open 21040229).0 refl;
      not_before = omega arith;
      no_earlier = λ d is o a b. (february-windows d is).never (λ leap. between d ((february-windows d is).alone.0 o) leap.0 leap.1 a b) o;
    })
  where
    between : (d : ℕ) → in_year d ≡ 229 → year_of d % 4 ≡ 0 → (year_of d % 100 ≡ 0 → ⊥) ⊎ (year_of d % 400 ≡ 0) → 20960301 ≤ d → d < 21040229 → ⊥
    between d date four (inl h) a b = h (omega arith)
    between d date four (inr h) a b = omega arith

from-2196 : FirstDay alone 21960301 no_day
unfolding passes16 good_window leap_year_has is_day month_length is_leap
from-2196 =
    none ((not-met-16 alone 21960301).0 refl)
    (λ d is o a. (february-windows d is).never (λ leap. after d ((february-windows d is).alone.0 o) leap.0 is.to a) o)
  where
    after : (d : ℕ) → in_year d ≡ 229 → year_of d % 4 ≡ 0 → year_of d ≤ 2199 → 21960301 ≤ d → ⊥
    after d date four to a = omega arith

-- the number that a day gets: 0, 17, and 16 for the window's date and for the day
on-the-day : season_number (a_window 12 31 1 1) 20251231 ≡ 0
unfolding season_number passes16 good_window leap_year_has is_day month_length is_leap open_on date_in
on-the-day = refl

not-in-2025 : season_number alone 20250228 ≡ 17
unfolding season_number passes16 good_window leap_year_has is_day month_length is_leap open_on date_in
not-in-2025 = refl

no-such-window : season_number (a_window 2 30 3 1) 20250301 ≡ 16
unfolding season_number passes16 good_window leap_year_has is_day month_length is_leap
no-such-window = refl

no-such-day : season_number (a_window 3 1 2 28) 21000229 ≡ 16
unfolding season_number passes16 good_window leap_year_has is_day month_length is_leap
no-such-day = refl
