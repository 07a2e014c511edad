-- Windows by example. Assumes nothing.
use mathlib.Core.Path.{◌≡◌, refl}
use mathlib.Core.Bool.{true, false}
use Rattle.days.specs.Days.{is_leap, month_length}
use Rattle.windows.specs.Computed.{a_window, date_in, open_on, leap_year_has, good_window}

-- over New Year
new-years-eve : open_on (a_window 12 31 1 1) 20251231 ≡ true
unfolding open_on date_in is_leap
new-years-eve = refl

new-years-day-after : open_on (a_window 12 31 1 1) 20260102 ≡ false
unfolding open_on date_in is_leap
new-years-day-after = refl

-- 1 March to 28 February: every day but 29 February
march-to-february : open_on (a_window 3 1 2 28) 20240229 ≡ false
unfolding open_on date_in is_leap
march-to-february = refl

-- closing on 29 February in a common year: 28 February is the last day
closing-common : open_on (a_window 2 1 2 29) 20250228 ≡ true
unfolding open_on date_in is_leap
closing-common = refl

closing-common-after : open_on (a_window 2 1 2 29) 20250301 ≡ false
unfolding open_on date_in is_leap
closing-common-after = refl

-- 30 February is no date, 29 February is one
no-30-february : good_window (a_window 2 30 3 1) ≡ false
unfolding good_window leap_year_has month_length
no-30-february = refl

from-29-february : good_window (a_window 2 29 3 1) ≡ true
unfolding good_window leap_year_has month_length
from-29-february = refl
