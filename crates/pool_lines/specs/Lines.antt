-- An issue line added to a pool, and which number it gets: document 02, request 6, 13 to 15. Assumes nothing.
use Rattle.std.specs.Prelude.{ℕ, ◌+◌, ◌≡◌, cond, ◌↔◌, List}
use Rattle.issue_line.specs.Read.{Line}
use Rattle.issue_line.specs.Layout.{IsLine}
use Rattle.issue_line.specs.Read.{read_line}
use Rattle.runs.specs.declared.Run.{Run}
use Rattle.runs.specs.Runs.{a_run, rings_in, rings_of}
use Rattle.pool.specs.declared.Pool.{Pool}
use Rattle.pool.specs.Pool.{Added}
use Rattle.pool.specs.Pool.{runs_of, add_run}
use Rattle.pool.specs.Good.{Good, InPool, HoldsWith, AddStop}

-- the run of a line
abbrev pub run_of : Line → Run
run_of l = a_run l.size l.first l.last

-- what was read, added to a pool: number 13 and the pool as it was where it is no line
unfoldable pub add_read : Pool → Line → Added
add_read p l = cond l.found (add_run p (run_of l)) (record { number = 13; pool = p })

-- some bytes added to a pool
unfoldable pub add_line : Pool → List ℕ → Added
add_line p bytes = add_read p (read_line bytes)

-- The number that some bytes get, where `Pooled` says which numbers are pooled: 13, they are no line; else that of the line's run.
pub data LineStop (Pooled : (size x : ℕ) → Type 0) (bytes : List ℕ) : ℕ → Type 0 where
  no_line : ((group size first last day : ℕ) → IsLine bytes group size first last day → ⊥) → LineStop Pooled bytes 13
  is_a_line : (group size first last day n : ℕ) → IsLine bytes group size first last day → AddStop Pooled (a_run size first last) n
      → LineStop Pooled bytes n

-- What is claimed of a byte string that is added to a good pool: its number exactly where that one's condition holds; refused, the pool as it was;
-- added, a good pool that holds the line's run beside what was pooled, and nothing else, and as many rings as both.
pub record LineExactly (p : Pool) (bytes : List ℕ) : Type 0 where
  pub number : (n : ℕ) → ((add_line p bytes).number ≡ n) ↔ LineStop (InPool p) bytes n
  pub refused : ((add_line p bytes).number ≡ 0 → ⊥) → (add_line p bytes).pool ≡ p
  pub good : Good (add_line p bytes).pool
  pub holds : (add_line p bytes).number ≡ 0 → HoldsWith (InPool p) (run_of (read_line bytes)) (runs_of (add_line p bytes).pool)
  pub rings : (add_line p bytes).number ≡ 0 → rings_of (runs_of (add_line p bytes).pool) ≡ rings_of (runs_of p) + rings_in (run_of (read_line bytes))
