-- An issue line added to a pool in its season, and which number it gets: document 02, request 8, 13, 16, 17, 14 and 15. Assumes nothing.
use Rattle.std.specs.Prelude.{ℕ, ◌+◌, ◌≡◌, cond, ◌↔◌, List, ◌++◌, eqb}
use Rattle.issue_line.specs.Read.{Line}
use Rattle.issue_line.specs.Layout.{last_digits, IsLine}
use Rattle.issue_line.specs.Read.{read_line}
use Rattle.runs.specs.Runs.{a_run, rings_in, rings_of}
use Rattle.pool.specs.declared.Pool.{Pool}
use Rattle.pool.specs.Pool.{Added}
use Rattle.pool.specs.Pool.{runs_of, add_run}
use Rattle.pool.specs.Good.{Good, InPool, HoldsWith, AddStop}
use Rattle.pool_lines.specs.Lines.{run_of, add_line}
use Rattle.days.specs.Days.{year_of, month_of, date_of}
use Rattle.seasons.specs.declared.Windows.{Windows}
use Rattle.seasons.specs.Seasons.{window_of, season_number, SeasonStop}

-- the eight digits of a day are four of its year, two of its month and two of its date
abbrev pub EightDigits : (day : ℕ) → Type 0
EightDigits day = last_digits 8 day ≡ last_digits 4 (year_of day) ++ (last_digits 2 (month_of day) ++ last_digits 2 (date_of day))

-- what the season says of a line: 16, 17 or 0, by the window of its own size
abbrev pub season_of : Windows → Line → ℕ
season_of ws l = season_number (window_of ws l.size) l.day

-- what was read, added to a pool: 13 where it is no line, then the season's number, then the pool's; refused, the pool as it was
unfoldable pub add_read_in_season : Windows → Pool → Line → Added
add_read_in_season ws p l =
    cond l.found
    (cond (eqb (season_of ws l) 0) (add_run p (run_of l)) (record { number = season_of ws l; pool = p }))
    (record { number = 13; pool = p })

-- some bytes added to a pool
unfoldable pub add_in_season : Windows → Pool → List ℕ → Added
add_in_season ws p bytes = add_read_in_season ws p (read_line bytes)

-- the bytes are no line
abbrev pub NoLine : List ℕ → Type 0
NoLine bytes = (group size first last day : ℕ) → IsLine bytes group size first last day → ⊥

-- The number that some bytes get, where `Pooled` says which numbers are pooled: 13, they are no line; else 16 or 17, where the line's day gets it by the
-- window of the line's own size; else that of the line's run.
pub data SeasonLineStop (ws : Windows) (Pooled : (size x : ℕ) → Type 0) (bytes : List ℕ) : ℕ → Type 0 where
  no_line : NoLine bytes → SeasonLineStop ws Pooled bytes 13
  not-in-season : (group size first last day n : ℕ) → IsLine bytes group size first last day → SeasonStop (window_of ws size) day n → (n ≡ 0 → ⊥)
      → SeasonLineStop ws Pooled bytes n
  in_season : (group size first last day n : ℕ) → IsLine bytes group size first last day → SeasonStop (window_of ws size) day 0
      → AddStop Pooled (a_run size first last) n → SeasonLineStop ws Pooled bytes n

-- What is claimed of a byte string that is added to a good pool: its number exactly where that one's condition holds; refused, the pool as it was;
-- added, a good pool that holds the line's run beside what was pooled, and nothing else, and as many rings as both; and in season what comes of it
-- without windows.
pub record SeasonLineExactly (ws : Windows) (p : Pool) (bytes : List ℕ) : Type 0 where
  pub number : (n : ℕ) → ((add_in_season ws p bytes).number ≡ n) ↔ SeasonLineStop ws (InPool p) bytes n
  pub refused : ((add_in_season ws p bytes).number ≡ 0 → ⊥) → (add_in_season ws p bytes).pool ≡ p
  pub good : Good (add_in_season ws p bytes).pool
  pub holds : (add_in_season ws p bytes).number ≡ 0 → HoldsWith (InPool p) (run_of (read_line bytes)) (runs_of (add_in_season ws p bytes).pool)
  pub rings : (add_in_season ws p bytes).number ≡ 0 → rings_of (runs_of (add_in_season ws p bytes).pool) ≡ rings_of (runs_of p) + rings_in (run_of (read_line bytes))
  pub as_without : season_of ws (read_line bytes) ≡ 0 → add_in_season ws p bytes ≡ add_line p bytes
