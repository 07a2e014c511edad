-- Every list of byte strings, added to the empty pool with windows one after the other: the claims of specs/History.antt. Assumes nothing.
use Prim.Native.Nat.{ℕ}
use mathlib.Core.Path.{◌≡◌, refl, ap, ◌∙◌}
use mathlib.Core.Bool.{Bool, true, false, cond}
use mathlib.Core.Logic.{◌↔◌}
use mathlib.Core.List.{List, [], ◌∷◌}
use lib.Dec.{eqb}
use borrow.Author.Tests.{eqb-true}
use Rattle.issue_line.specs.Read.{Line}
use Rattle.issue_line.specs.Layout.{IsLine}
use Rattle.issue_line.specs.Read.{read_line}
use Rattle.issue_line.proofs.Reading.{line-sound, line-complete}
use Rattle.pool.specs.declared.Pool.{Pool}
use Rattle.pool.specs.Pool.{Added}
use Rattle.pool.specs.Pool.{empty_pool}
use Rattle.pool.proofs.Adding.{empty-good}
use Rattle.pool_lines.specs.History.{after, accepted, pool_after, HeldBy, Alike, SamePool}
use Rattle.pool_lines.proofs.Lists.{list-pooled, pools-same, lists-same}
use Rattle.pool_lines.proofs.History.{first-line}
use Rattle.seasons.specs.declared.Windows.{Windows}
use Rattle.seasons.specs.Seasons.{window_of, SeasonStop}
use Rattle.seasons.proofs.Right.{season-exactly}
use Rattle.season_lines.specs.Lines.{season_of, add_in_season, SeasonLineStop}
use Rattle.season_lines.specs.History.{AllInSeason, no_more, one_more, SeasonPooled, FirstInSeason}
use Rattle.season_lines.proofs.Adding.{stop_goes, line-number, accepted-line, season-takes, season-line-exactly}

-- the day of an accepted line is in season
day-in-season : (ws : Windows) (p : Pool) (bytes : List ℕ) → (add_in_season ws p bytes).number ≡ 0
    → SeasonStop (window_of ws (read_line bytes).size) (read_line bytes).day 0
day-in-season ws p bytes ok = (season-exactly (window_of ws (read_line bytes).size) (read_line bytes).day 0).0 (accepted-line ws p bytes ok).1

accepted-in-season : (ws : Windows) (p : Pool) (lines : List (List ℕ)) → AllInSeason ws (accepted (add_in_season ws) p lines)
unfolding accepted
accepted-in-season ws p [] = no_more
accepted-in-season ws p (bytes ∷ rest) =
    go (eqb (add_in_season ws p bytes).number 0) refl (accepted-in-season ws (add_in_season ws p bytes).pool rest)
  where
    more : List Line
    more = accepted (add_in_season ws) (add_in_season ws p bytes).pool rest

    go : (t : Bool) → eqb (add_in_season ws p bytes).number 0 ≡ t → AllInSeason ws more → AllInSeason ws (cond t (read_line bytes ∷ more) more)
    go true e all = one_more (day-in-season ws p bytes (eqb-true (add_in_season ws p bytes).number 0 e)) all
    go false e all = all

-- The theorem over every list.
pub season-pooled : (ws : Windows) (lines : List (List ℕ)) → SeasonPooled ws lines
season-pooled ws lines =
    record {
      pooled = list-pooled (add_in_season ws) (season-takes ws) (SeasonLineStop ws) (line-number ws) (stop_goes ws) lines;
      in_season = accepted-in-season ws empty_pool lines;
    }

-- Good pools that hold the same numbers, and two lists whose accepted lines held the same, whatever more is added to both with these windows.
pub same-pool : (ws : Windows) (p q : Pool) → Alike p q → (more : List (List ℕ))
    → SamePool (add_in_season ws) (after (add_in_season ws) p more) (after (add_in_season ws) q more)
same-pool ws p q alike more = pools-same (add_in_season ws) (season-takes ws) (SeasonLineStop ws) (line-number ws) (stop_goes ws) p q alike more

pub same_lists : (ws : Windows) (lines others : List (List ℕ)) → ((size x : ℕ) → HeldBy (add_in_season ws) lines size x ↔ HeldBy (add_in_season ws) others size x)
    → (more : List (List ℕ))
    → SamePool (add_in_season ws) (after (add_in_season ws) (pool_after (add_in_season ws) lines) more) (after (add_in_season ws) (pool_after (add_in_season ws) others) more)
same_lists ws lines others same more = lists-same (add_in_season ws) (season-takes ws) (SeasonLineStop ws) (line-number ws) (stop_goes ws) lines others same more

-- The first line is accepted exactly where it is one in its season, as without windows it is accepted where it is one.
pub first-in-season : (ws : Windows) (bytes : List ℕ) → FirstInSeason ws bytes
first-in-season ws bytes = ((λ ok. to ok), (λ h. from h.0 h.1 h.2 h.3 h.4 h.5 h.6))
  where
    to : (add_in_season ws empty_pool bytes).number ≡ 0
        → (group : ℕ) × (size : ℕ) × (first : ℕ) × (last : ℕ) × (day : ℕ) × IsLine bytes group size first last day × SeasonStop (window_of ws size) day 0
    to ok = (_, _, _, _, _, line-sound bytes (accepted-line ws empty_pool bytes ok).0, day-in-season ws empty_pool bytes ok)

    from : (group size first last day : ℕ) → IsLine bytes group size first last day → SeasonStop (window_of ws size) day 0
        → (add_in_season ws empty_pool bytes).number ≡ 0
    from group size first last day is season =
        let number = ap (season_of ws) (line-complete bytes group size first last day is) ∙ (season-exactly (window_of ws size) day 0).1 season in
        ap (λ (a : Added). a.number) ((season-line-exactly ws empty_pool bytes empty-good).as_without number)
        ∙ (first-line bytes).1 (group, size, first, last, day, is)
