-- The first permitted day of an issue line: document 02, request 8, 13 and 16. Assumes nothing.
use Rattle.std.specs.Prelude.{ℕ, ◌≡◌, ◌↔◌, List}
use Rattle.issue_line.specs.Layout.{IsLine}
use Rattle.seasons.specs.declared.Windows.{Windows}
use Rattle.seasons.specs.declared.First.{First}
use Rattle.seasons.specs.Seasons.{window_of}
use Rattle.seasons.specs.FirstDay.{refused_by, FirstDay, FirstExactly}
use Rattle.season_lines.specs.Lines.{NoLine}

-- The answer to the question for a line's first permitted day: 13 where the bytes are no line, else that for its day by the window of its own size.
pub data LineFirst (ws : Windows) (bytes : List ℕ) : First → Type 0 where
  no_line : NoLine bytes → LineFirst ws bytes (refused_by 13)
  of-line : (group size first last day : ℕ) {r : First} → IsLine bytes group size first last day → FirstDay (window_of ws size) day r → LineFirst ws bytes r

-- What is claimed of such an answer: 13 exactly where the bytes are no line; where they are one, all that is claimed for its size and day; and there is
-- no other answer.
pub record LineFirstExactly (ws : Windows) (bytes : List ℕ) (r : First) : Type 0 where
  pub thirteen : (r ≡ refused_by 13) ↔ NoLine bytes
  pub is_a_line : (group size first last day : ℕ) → IsLine bytes group size first last day → FirstExactly (window_of ws size) day r
  pub only : (s : First) → LineFirst ws bytes s → r ≡ s
