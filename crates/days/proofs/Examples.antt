-- Days by example. Assumes nothing.
use mathlib.Core.Path.{◌≡◌, refl}
use mathlib.Core.Bool.{true, false}
use Rattle.days.specs.Days.{is_leap, month_length, is_day, next_day}

-- 1900 and 2100 are no leap years, 2000 is
day-1900 : is_day 19000229 ≡ false
unfolding is_day month_length is_leap
day-1900 = refl

day-2000 : is_day 20000229 ≡ true
unfolding is_day month_length is_leap
day-2000 = refl

day-2100 : is_day 21000229 ≡ false
unfolding is_day month_length is_leap
day-2100 = refl

-- the first and the last day, and the years before and after them
first-of-all : is_day 19000101 ≡ true
unfolding is_day month_length is_leap
first-of-all = refl

last-of-all : is_day 21991231 ≡ true
unfolding is_day month_length is_leap
last-of-all = refl

day-1899 : is_day 18991231 ≡ false
unfolding is_day month_length is_leap
day-1899 = refl

day-2200 : is_day 22000101 ≡ false
unfolding is_day month_length is_leap
day-2200 = refl

-- the day after
after-february : next_day 20240228 ≡ 20240229
unfolding next_day month_length is_leap
after-february = refl

after-common-february : next_day 21000228 ≡ 21000301
unfolding next_day month_length is_leap
after-common-february = refl

after-december : next_day 19991231 ≡ 20000101
unfolding next_day month_length is_leap
after-december = refl
