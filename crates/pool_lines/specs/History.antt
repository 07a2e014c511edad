-- Lists of byte strings, added to the empty pool one after the other, and what is claimed of them: document 02, request 6. The claims are over any way
-- to add, so that one which meets more checks can be held to them too; `add_line` is the one of this request. proofs/Lists.antt and
-- proofs/History.antt have the proofs. Assumes nothing.
use Rattle.std.specs.Prelude.{ℕ, ◌+◌, ◌-◌, ◌≤◌, ◌≡◌, cond, true, ◌↔◌, List, [], ◌∷◌, length, eqb}
use Rattle.issue_line.specs.Read.{Line}
use Rattle.issue_line.specs.Layout.{IsLine}
use Rattle.issue_line.specs.Read.{read_line}
use Rattle.runs.specs.Runs.{a_run, any_meets, rings_of}
use Rattle.runs.specs.Meaning.{SameRunSet}
use Rattle.pool.specs.declared.Pool.{Pool}
use Rattle.pool.specs.Pool.{Added}
use Rattle.pool.specs.Pool.{runs_of, empty_pool}
use Rattle.pool.specs.Good.{Good, InPool}
use Rattle.pool_lines.specs.Lines.{add_line}

-- a way to add byte strings to pools
abbrev pub Adding : Type 0
Adding = Pool → List ℕ → Added

-- the conditions of its numbers, where `Pooled` says which numbers are pooled
abbrev pub Stops : Type 1
Stops = (Pooled : (size x : ℕ) → Type 0) → List ℕ → ℕ → Type 0

-- the pool after a list of byte strings
unfoldable pub after : Adding → Pool → List (List ℕ) → Pool
after add p [] = p
after add p (bytes ∷ rest) = after add (add p bytes).pool rest

-- the lines of a list that were accepted, which is number 0
unfoldable pub accepted : Adding → Pool → List (List ℕ) → List Line
accepted add p [] = []
accepted add p (bytes ∷ rest) =
    let more = accepted add (add p bytes).pool rest in
    cond (eqb (add p bytes).number 0) (read_line bytes ∷ more) more

-- some line of a list holds the number x of a size
pub data Held (size x : ℕ) : List Line → Type 0 where
  in-first : {l : Line} {rest : List Line} → l.size ≡ size → l.first ≤ x → x ≤ l.last → Held size x (l ∷ rest)
  in-later : {l : Line} {rest : List Line} → Held size x rest → Held size x (l ∷ rest)

-- how many rings the lines of a list have: last - first + 1 of each
unfoldable pub rings_of_lines : List Line → ℕ
rings_of_lines [] = 0
rings_of_lines (l ∷ rest) = l.last - l.first + 1 + rings_of_lines rest

-- the pool that a list leaves, the lines of it that were accepted, and the numbers that these hold
abbrev pub pool_after : Adding → List (List ℕ) → Pool
pool_after add lines = after add empty_pool lines

abbrev pub taken : Adding → List (List ℕ) → List Line
taken add lines = accepted add empty_pool lines

abbrev pub HeldBy : Adding → List (List ℕ) → (size x : ℕ) → Type 0
HeldBy add lines size x = Held size x (taken add lines)

-- What is claimed of every list, refused byte strings included.
pub record ListPooled (add : Adding) (Stop : Stops) (lines : List (List ℕ)) : Type 0 where
  -- its pool keeps its runs apart
  pub good : Good (pool_after add lines)
  -- a number of a size is in the pool exactly where an accepted line of that size held it, and the question for it is answered so
  pub holds : (size x : ℕ) → InPool (pool_after add lines) size x ↔ HeldBy add lines size x
  pub asked : (size x : ℕ) → (any_meets (a_run size x x) (runs_of (pool_after add lines)) ≡ true) ↔ HeldBy add lines size x
  -- the rings pooled are the sum of last - first + 1 over the accepted lines
  pub rings : rings_of (runs_of (pool_after add lines)) ≡ rings_of_lines (taken add lines)
  -- the next byte string gets the number whose condition holds of the lines accepted so far, and leaves the pool as it was where it is refused
  pub next : (bytes : List ℕ) (n : ℕ) → ((add (pool_after add lines) bytes).number ≡ n) ↔ Stop (HeldBy add lines) bytes n
  pub refused : (bytes : List ℕ) → ((add (pool_after add lines) bytes).number ≡ 0 → ⊥) → (add (pool_after add lines) bytes).pool ≡ pool_after add lines

-- two good pools that hold the same numbers, as two lists leave where their accepted lines held the same
pub record Alike (p q : Pool) : Type 0 where
  pub left : Good p
  pub right : Good q
  pub same : (size x : ℕ) → InPool p size x ↔ InPool q size x

-- What is claimed of two such pools, at once and after any byte strings that both are given: they have the same runs, and as many, and give the next
-- byte string the same number.
pub record SamePool (add : Adding) (p q : Pool) : Type 0 where
  pub runs : SameRunSet (runs_of p) (runs_of q)
  pub count : length (runs_of p) ≡ length (runs_of q)
  pub numbers : (bytes : List ℕ) → (add p bytes).number ≡ (add q bytes).number

-- What is claimed of the first byte string: it is accepted exactly where it is a line.
abbrev pub FirstLine : List ℕ → Type 0
FirstLine bytes =
    ((add_line empty_pool bytes).number ≡ 0)
    ↔ ((group : ℕ) × (size : ℕ) × (first : ℕ) × (last : ℕ) × (day : ℕ) × IsLine bytes group size first last day)
