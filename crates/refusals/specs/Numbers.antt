-- The fixed numbers of the checks that stop a call: document 01, "What stops a call", 1 to 11, and document 02, 12 to 19 and 22. Assumes nothing.
use Rattle.std.specs.Prelude.{ℕ, Result, Ok, Err}
use Rattle.refusals.specs.declared.Refusal.{Refusal}
use Rattle.refusals.specs.declared.Refusal.TheVariants.{BadHeader, TooFewBytes, BadGroup, BadKey, NotOpen, TooLong, BadTagLength, NoRoom, IndexFull, Allowance, WrongTag, NoCode, BadLine, Pooled, PoolFull, NoSuchDay, OutOfSeason, ReadOnly, NotSold, TillFull}

-- the number of a check
abbrev pub number_of : Refusal → ℕ
number_of BadHeader = 1
number_of TooFewBytes = 2
number_of BadGroup = 3
number_of BadKey = 4
number_of NotOpen = 5
number_of TooLong = 6
number_of BadTagLength = 7
number_of NoRoom = 8
number_of IndexFull = 9
number_of Allowance = 10
number_of WrongTag = 11
number_of NoCode = 12
number_of BadLine = 13
number_of Pooled = 14
number_of PoolFull = 15
number_of NoSuchDay = 16
number_of OutOfSeason = 17
number_of ReadOnly = 18
number_of NotSold = 19
number_of TillFull = 22

-- the number of what some checks gave: that of the one that was met, or 0
abbrev pub number_given : Result Unit Refusal → ℕ
number_given (Ok _) = 0
number_given (Err e) = number_of e
