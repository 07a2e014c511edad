-- What is claimed of lists of byte strings that are added with windows, beside the claims of crates/pool_lines/specs/History.antt over any way to add:
-- document 02, request 8. proofs/History.antt has the proofs. Assumes nothing.
use Rattle.std.specs.Prelude.{ℕ, ◌≡◌, ◌↔◌, List, [], ◌∷◌}
use Rattle.issue_line.specs.Read.{Line}
use Rattle.issue_line.specs.Layout.{IsLine}
use Rattle.pool.specs.Pool.{empty_pool}
use Rattle.pool_lines.specs.History.{ListPooled, taken}
use Rattle.seasons.specs.declared.Windows.{Windows}
use Rattle.seasons.specs.Seasons.{window_of, SeasonStop}
use Rattle.season_lines.specs.Lines.{add_in_season, SeasonLineStop}

-- the day of each line of a list is in the season of its size
pub data AllInSeason (ws : Windows) : List Line → Type 0 where
  no_more : AllInSeason ws []
  one_more : {l : Line} {rest : List Line} → SeasonStop (window_of ws l.size) l.day 0 → AllInSeason ws rest → AllInSeason ws (l ∷ rest)

-- What is claimed of every list with these windows: all that is claimed of lists without them, by the numbers 13, 16, 17, 14 and 15; and each accepted
-- line is in its season.
pub record SeasonPooled (ws : Windows) (lines : List (List ℕ)) : Type 0 where
  pub pooled : ListPooled (add_in_season ws) (SeasonLineStop ws) lines
  pub in_season : AllInSeason ws (taken (add_in_season ws) lines)

-- What is claimed of the first byte string: it is accepted exactly where it is a line in its season.
abbrev pub FirstInSeason : Windows → List ℕ → Type 0
FirstInSeason ws bytes =
    ((add_in_season ws empty_pool bytes).number ≡ 0)
    ↔ ((group : ℕ) × (size : ℕ) × (first : ℕ) × (last : ℕ) × (day : ℕ)
    × IsLine bytes group size first last day × SeasonStop (window_of ws size) day 0)
