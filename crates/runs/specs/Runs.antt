-- Runs of ring numbers and lists of them: document 02, request 6. specs/Meaning.antt says which numbers a list holds. Assumes nothing.
use Rattle.std.specs.Prelude.{ℕ, ◌+◌, ◌-◌, Bool, false, cond, ◌&&◌, ◌||◌, List, [], ◌∷◌, ltb, leb, eqb}
use Rattle.runs.specs.declared.Run.{Run}

-- the run of the numbers first to last of a size
abbrev pub a_run : (size first last : ℕ) → Run
a_run size first last = record { size = size; first = first; last = last }

-- two runs have a number of one size in common
unfoldable pub meets : Run → Run → Bool
meets q r = eqb q.size r.size && (leb q.first r.last && leb r.first q.last)

-- two runs of one size touch: the last of one plus 1 is the first of the other
unfoldable pub touches : Run → Run → Bool
touches q r = eqb q.size r.size && (eqb (q.last + 1) r.first || eqb (r.last + 1) q.first)

-- two runs that touch, as one
unfoldable pub join : Run → Run → Run
join q r = cond (ltb q.last r.first) (a_run r.size q.first r.last) (a_run r.size r.first q.last)

-- some run of a list meets r
unfoldable pub any_meets : Run → List Run → Bool
any_meets r [] = false
any_meets r (q ∷ l) = meets q r || any_meets r l

-- a list with one run more: it is joined with each run that touches it, and stands last
unfoldable pub with_run : Run → List Run → List Run
with_run r [] = r ∷ []
with_run r (q ∷ l) = cond (touches q r) (with_run (join q r) l) (q ∷ with_run r l)

-- how many rings a run has, and a list of runs
abbrev pub rings_in : Run → ℕ
rings_in q = q.last + 1 - q.first

unfoldable pub rings_of : List Run → ℕ
rings_of [] = 0
rings_of (q ∷ l) = rings_in q + rings_of l
