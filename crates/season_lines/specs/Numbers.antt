-- The numbers 13, 16 and 17 of an issue line, each by itself and whatever the pool, and that the windows of other sizes do not matter: document 02,
-- request 8. proofs/Numbers.antt has the proofs. Assumes nothing.
use Rattle.std.specs.Prelude.{ℕ, ◌≡◌, ◌↔◌, List}
use Rattle.issue_line.specs.Layout.{IsLine}
use Rattle.pool.specs.declared.Pool.{Pool}
use Rattle.windows.specs.declared.Window.{Window}
use Rattle.windows.specs.Windows.{Open}
use Rattle.seasons.specs.declared.Windows.{Windows}
use Rattle.seasons.specs.declared.First.{First}
use Rattle.seasons.specs.Seasons.{window_of, Meets16}
use Rattle.season_lines.specs.Lines.{NoLine, add_in_season}
use Rattle.season_lines.specs.FirstDay.{LineFirst}

-- the bytes are a line, and a condition holds of the window of its own size and of its day
abbrev pub OfLine : Windows → List ℕ → (Condition : Window → (day : ℕ) → Type 0) → Type 0
OfLine ws bytes Condition =
    (group : ℕ) × (size : ℕ) × (first : ℕ) × (last : ℕ) × (day : ℕ) × IsLine bytes group size first last day × Condition (window_of ws size) day

-- the condition of 17: 16 is not met, and the window is not open on the day
abbrev pub Meets17 : Window → (day : ℕ) → Type 0
Meets17 w day = (Meets16 w day → ⊥) × (Open w day → ⊥)

-- What is claimed of the three numbers that come before those of the pool: each is given exactly where its condition holds, whatever the pool.
pub record SeasonNumbers (ws : Windows) (p : Pool) (bytes : List ℕ) : Type 0 where
  pub thirteen : ((add_in_season ws p bytes).number ≡ 13) ↔ NoLine bytes
  pub sixteen : ((add_in_season ws p bytes).number ≡ 16) ↔ OfLine ws bytes Meets16
  pub seventeen : ((add_in_season ws p bytes).number ≡ 17) ↔ OfLine ws bytes Meets17

-- What is claimed of a line and of two sets of windows, where both have the same window for its size: it gets the same by both, and has the same first
-- permitted day.
pub record OwnSize (ws vs : Windows) (bytes : List ℕ) : Type 0 where
  pub added : (p : Pool) → add_in_season ws p bytes ≡ add_in_season vs p bytes
  pub first : (r : First) → LineFirst ws bytes r → LineFirst vs bytes r
