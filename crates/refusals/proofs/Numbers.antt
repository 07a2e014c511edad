-- A number tells its check: no two checks have the same, and none has 0, which is the number where nothing stopped a call. Assumes nothing.
use Rattle.std.specs.Prelude.{Result, Ok, Err}
use Rattle.std.proofs.Common.{ℕ, ◌≡◌, refl, ap, sym, ◌∙◌, ◌<◌, cond, eqb, arith}
use Rattle.refusals.specs.declared.Refusal.{Refusal}
use Rattle.refusals.specs.declared.Refusal.TheVariants.{BadHeader, TooFewBytes, BadGroup, BadKey, NotOpen, TooLong, BadTagLength, NoRoom, IndexFull, Allowance, WrongTag, NoCode, BadLine, Pooled, PoolFull, NoSuchDay, OutOfSeason, ReadOnly, NotSold, TillFull}
use Rattle.refusals.specs.Numbers.{number_of, number_given}

-- the check with a number; the last, where no other has it
check_of : ℕ → Refusal
check_of n =
    cond (eqb n 1) BadHeader
    (cond (eqb n 2) TooFewBytes
    (cond (eqb n 3) BadGroup
    (cond (eqb n 4) BadKey
    (cond (eqb n 5) NotOpen
    (cond (eqb n 6) TooLong
    (cond (eqb n 7) BadTagLength
    (cond (eqb n 8) NoRoom
    (cond (eqb n 9) IndexFull
    (cond (eqb n 10) Allowance
    (cond (eqb n 11) WrongTag
    (cond (eqb n 12) NoCode
    (cond (eqb n 13) BadLine
    (cond (eqb n 14) Pooled
    (cond (eqb n 15) PoolFull
    (cond (eqb n 16) NoSuchDay
    (cond (eqb n 17) OutOfSeason
    (cond (eqb n 18) ReadOnly
    (cond (eqb n 19) NotSold
    TillFull))))))))))))))))))

check-of-number : (e : Refusal) → check_of (number_of e) ≡ e
unfolding check_of
check-of-number BadHeader = refl
check-of-number TooFewBytes = refl
check-of-number BadGroup = refl
check-of-number BadKey = refl
check-of-number NotOpen = refl
check-of-number TooLong = refl
check-of-number BadTagLength = refl
check-of-number NoRoom = refl
check-of-number IndexFull = refl
check-of-number Allowance = refl
check-of-number WrongTag = refl
check-of-number NoCode = refl
check-of-number BadLine = refl
check-of-number Pooled = refl
check-of-number PoolFull = refl
check-of-number NoSuchDay = refl
check-of-number OutOfSeason = refl
check-of-number ReadOnly = refl
check-of-number NotSold = refl
check-of-number TillFull = refl

-- two checks with one number are one
pub number-tells : (e f : Refusal) → number_of e ≡ number_of f → e ≡ f
number-tells e f h = sym (check-of-number e) ∙ (ap check_of h ∙ check-of-number f)

-- no check has the number 0
pub number-positive : (e : Refusal) → 0 < number_of e
number-positive BadHeader = omega arith
number-positive TooFewBytes = omega arith
number-positive BadGroup = omega arith
number-positive BadKey = omega arith
number-positive NotOpen = omega arith
number-positive TooLong = omega arith
number-positive BadTagLength = omega arith
number-positive NoRoom = omega arith
number-positive IndexFull = omega arith
number-positive Allowance = omega arith
number-positive WrongTag = omega arith
number-positive NoCode = omega arith
number-positive BadLine = omega arith
number-positive Pooled = omega arith
number-positive PoolFull = omega arith
number-positive NoSuchDay = omega arith
number-positive OutOfSeason = omega arith
number-positive ReadOnly = omega arith
number-positive NotSold = omega arith
number-positive TillFull = omega arith

-- what some checks gave is told by its number
pub given-tells : (r s : Result Unit Refusal) → number_given r ≡ number_given s → r ≡ s
given-tells (Ok _) (Ok _) h = refl
given-tells (Ok _) (Err f) h = let p = number-positive f in let bad : ⊥ = omega (arith, h, p) in elim bad [ ]
given-tells (Err e) (Ok _) h = let p = number-positive e in let bad : ⊥ = omega (arith, h, p) in elim bad [ ]
given-tells (Err e) (Err f) h = ap Err (number-tells e f h)
