-- Which numbers a list of runs holds, and which lists keep their runs apart: document 02, request 6. proofs/Joining.antt has what one run more
-- does to a list, and proofs/Fewest.antt that no other list with the same numbers has fewer runs. Assumes nothing.
use Rattle.std.specs.Prelude.{ℕ, ◌+◌, ◌<◌, ◌≤◌, ◌≡◌, ◌↔◌, ◌⊎◌, List, [], ◌∷◌}
use Rattle.runs.specs.declared.Run.{Run}

-- a run has a number: its first is not above its last
abbrev pub Valid : Run → Type 0
Valid q = q.first ≤ q.last

-- the number x of a size is in a run
abbrev pub In : (size x : ℕ) → Run → Type 0
In size x q = (q.size ≡ size) × (q.first ≤ x) × (x ≤ q.last)

-- the number x of a size is in some run of a list
pub data Holds (size x : ℕ) : List Run → Type 0 where
  here : {q : Run} {l : List Run} → In size x q → Holds size x (q ∷ l)
  there : {q : Run} {l : List Run} → Holds size x l → Holds size x (q ∷ l)

-- two lists hold the same numbers
abbrev pub SameNumbers : List Run → List Run → Type 0
SameNumbers l m = (size x : ℕ) → Holds size x l ↔ Holds size x m

-- two runs neither meet nor touch: they differ in size, or there is a number between them
abbrev pub Apart : Run → Run → Type 0
Apart q r = q.size ≡ r.size → (q.last + 1 < r.first) ⊎ (r.last + 1 < q.first)

-- a run is apart from each run of a list
pub data Away (q : Run) : List Run → Type 0 where
  away-none : Away q []
  away-more : {k : Run} {l : List Run} → Apart q k → Away q l → Away q (k ∷ l)

-- each run of a list has a number, and no two meet or touch
pub data GoodRuns : List Run → Type 0 where
  good_none : GoodRuns []
  good_more : {q : Run} {l : List Run} → Valid q → Away q l → GoodRuns l → GoodRuns (q ∷ l)

-- a run is one of a list
pub data Among (q : Run) : List Run → Type 0 where
  first_one : {k : Run} {l : List Run} → k ≡ q → Among q (k ∷ l)
  later-one : {k : Run} {l : List Run} → Among q l → Among q (k ∷ l)

-- two lists have the same runs, whatever their order
abbrev pub SameRunSet : List Run → List Run → Type 0
SameRunSet l m = (q : Run) → Among q l ↔ Among q m
