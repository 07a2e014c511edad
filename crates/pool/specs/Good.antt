-- Which pools keep their runs apart, and which number a run gets that is added: document 02, request 6, 14 and 15. The numbers are said over what is
-- pooled alone, not over the pool's runs. proofs/Adding.antt has the proofs. Assumes nothing.
use Rattle.std.specs.Prelude.{ℕ, ◌+◌, ◌<◌, ◌≤◌, ◌≡◌, ◌↔◌, ◌⊎◌, List, length}
use Rattle.runs.specs.declared.Run.{Run}
use Rattle.runs.specs.Runs.{rings_in, rings_of}
use Rattle.runs.specs.Meaning.{In, Holds, GoodRuns}
use Rattle.pool.specs.declared.Pool.{Pool}
use Rattle.pool.specs.Pool.{max_runs, runs_of, add_run}

-- A good pool: at most 256 runs, each with a number, and no two of one size meet or touch.
pub record Good (p : Pool) : Type 0 where
  pub fits : p.used ≤ max_runs
  pub apart : GoodRuns (runs_of p)

-- the number x of a size is in a pool
abbrev pub InPool : Pool → (size x : ℕ) → Type 0
InPool p size x = Holds size x (runs_of p)

-- no number of a run is pooled in its size, where `Pooled` says which numbers are
abbrev pub Free : (Pooled : (size x : ℕ) → Type 0) → Run → Type 0
Free Pooled r = (x : ℕ) → In r.size x r → Pooled r.size x → ⊥

-- a list of runs holds what is pooled and the numbers of a run, and nothing else
abbrev pub HoldsWith : (Pooled : (size x : ℕ) → Type 0) → Run → List Run → Type 0
HoldsWith Pooled r l = (size x : ℕ) → Holds size x l ↔ (Pooled size x ⊎ In size x r)

-- The number that a run gets: 14, a number of it is pooled in its size; 15, none is, and each list of runs that holds it beside what is pooled has
-- more than 256; 0, none is, and some such list has 256 at most.
pub data AddStop (Pooled : (size x : ℕ) → Type 0) (r : Run) : ℕ → Type 0 where
  pooled : (x : ℕ) → In r.size x r → Pooled r.size x → AddStop Pooled r 14
  too_many : Free Pooled r → ((l : List Run) → HoldsWith Pooled r l → max_runs < length l) → AddStop Pooled r 15
  added : Free Pooled r → (l : List Run) → HoldsWith Pooled r l → length l ≤ max_runs → AddStop Pooled r 0

-- What is claimed of adding a run that has a number to a good pool: its number exactly where that one's condition holds; refused, the pool as it was;
-- added, a good pool that holds the run beside what was pooled, and nothing else, and as many rings as both.
pub record AddExactly (p : Pool) (r : Run) : Type 0 where
  pub number : (n : ℕ) → ((add_run p r).number ≡ n) ↔ AddStop (InPool p) r n
  pub refused : ((add_run p r).number ≡ 0 → ⊥) → (add_run p r).pool ≡ p
  pub good : Good (add_run p r).pool
  pub holds : (add_run p r).number ≡ 0 → HoldsWith (InPool p) r (runs_of (add_run p r).pool)
  pub rings : (add_run p r).number ≡ 0 → rings_of (runs_of (add_run p r).pool) ≡ rings_of (runs_of p) + rings_in r
