-- The numbers 13, 16 and 17 exactly, whatever the pool; and the windows of other sizes do not matter. Assumes nothing.
use Prim.Native.Nat.{ℕ, ◌≤◌}
use mathlib.Core.Path.{◌≡◌, refl, sym, ap, ◌∙◌, subst}
use mathlib.Core.Logic.{◌↔◌}
use mathlib.Core.List.{List}
use native.Mathlib.Omega.{arith}
use Rattle.issue_line.specs.Read.{Line}
use Rattle.issue_line.specs.Layout.{IsLine}
use Rattle.issue_line.specs.Read.{read_line, a_line}
use Rattle.issue_line.proofs.Reading.{line-sound, line-complete, line_refused}
use Rattle.runs.specs.declared.Run.{Run}
use Rattle.pool.specs.declared.Pool.{Pool}
use Rattle.pool.specs.Pool.{Added}
use Rattle.pool.specs.Pool.{add_run}
use Rattle.pool.proofs.Adding.{Went, met, full, done, went}
use Rattle.pool_lines.specs.Lines.{run_of}
use Rattle.windows.specs.declared.Window.{Window}
use Rattle.seasons.specs.declared.Windows.{Windows}
use Rattle.seasons.specs.Seasons.{window_of, Meets16, SeasonStop, no_such, outside, inside}
use Rattle.seasons.specs.FirstDay.{FirstDay}
use Rattle.seasons.proofs.Right.{season-exactly}
use Rattle.season_lines.specs.Lines.{NoLine, add_read_in_season, add_in_season}
use Rattle.season_lines.specs.FirstDay.{of-line}
use Rattle.season_lines.specs.Numbers.{OfLine, Meets17, SeasonNumbers, OwnSize}
use Rattle.season_lines.proofs.Steps.{out-of-season, Case, nothing, shut, free, case-of}
use Rattle.season_lines.proofs.Adding.{season, is-13, is-season-number, is-added}
use Rattle.season_lines.proofs.FirstDay.{its_own}

-- the conditions of 16 and 17 from the number of a day, and back
stop-16 : {w : Window} {day n : ℕ} → SeasonStop w day n → n ≡ 16 → Meets16 w day
stop-16 (no_such h) e = h
stop-16 (outside h o) e = let bad : ⊥ = omega arith in absurd bad
stop-16 (inside h o) e = let bad : ⊥ = omega arith in absurd bad

stop-17 : {w : Window} {day n : ℕ} → SeasonStop w day n → n ≡ 17 → Meets17 w day
stop-17 (no_such h) e = let bad : ⊥ = omega arith in absurd bad
stop-17 (outside h o) e = (h, o)
stop-17 (inside h o) e = let bad : ⊥ = omega arith in absurd bad

-- the number of a day is not that of bytes which are no line
day-not-13 : {w : Window} {day n : ℕ} → SeasonStop w day n → n ≡ 13 → ⊥
day-not-13 (no_such h) e = omega arith
day-not-13 (outside h o) e = omega arith
day-not-13 (inside h o) e = omega arith

-- the number of a run that is added to any pool is none of those
pool-number : (p : Pool) (r : Run) → ((add_run p r).number ≡ 13 → ⊥) × ((add_run p r).number ≤ 15)
pool-number p r = go (add_run p r) (went p r)
  where
    go : (a : Added) → Went p r a → (a.number ≡ 13 → ⊥) × (a.number ≤ 15)
    go _ (met m) = ((λ e. omega arith), omega arith)
    go _ (full m l) = ((λ e. omega arith), omega arith)
    go _ (done m l) = ((λ e. omega arith), omega arith)

module _ (ws : Windows) (p : Pool) (bytes : List ℕ) where
  -- 13 exactly where the bytes are no line
  thirteen : ((add_in_season ws p bytes).number ≡ 13) ↔ NoLine bytes
  thirteen = ((λ e. to (case-of ws bytes) e), (λ never. ap (λ (a : Added). a.number) (is-13 ws p bytes ((line_refused bytes).1 never))))
    where
      to : Case ws bytes → (add_in_season ws p bytes).number ≡ 13 → NoLine bytes
      to (nothing f) e = (line_refused bytes).0 f
      to (shut f s) e = absurd (day-not-13 (season ws p bytes) (sym (ap (λ (a : Added). a.number) (is-season-number ws p bytes f s)) ∙ e))
      to (free f s) e = absurd ((pool-number p (run_of (read_line bytes))).0 (sym (ap (λ (a : Added). a.number) (is-added ws p bytes f s)) ∙ e))

  -- a number from 16 on exactly where the day of the line gets it
  from-16 : (n : ℕ) → 16 ≤ n → ((add_in_season ws p bytes).number ≡ n) ↔ OfLine ws bytes (λ (w : Window) (day : ℕ). SeasonStop w day n)
  from-16 n from = ((λ e. to (case-of ws bytes) e), (λ h. back h.0 h.1 h.2 h.3 h.4 h.5 h.6))
    where
      to : Case ws bytes → (add_in_season ws p bytes).number ≡ n → OfLine ws bytes (λ (w : Window) (day : ℕ). SeasonStop w day n)
      to (nothing f) e = let bad : ⊥ = omega (arith, ap (λ (a : Added). a.number) (is-13 ws p bytes f)) in absurd bad
      to (shut f s) e =
          let same = sym (ap (λ (a : Added). a.number) (is-season-number ws p bytes f s)) ∙ e in
          (_, _, _, _, _, line-sound bytes f, subst (SeasonStop (window_of ws (read_line bytes).size) (read_line bytes).day) same (season ws p bytes))
      to (free f s) e =
          let low = (pool-number p (run_of (read_line bytes))).1 in
          let bad : ⊥ = omega (arith, low, ap (λ (a : Added). a.number) (is-added ws p bytes f s)) in
          absurd bad

      back : (group size first last day : ℕ) → IsLine bytes group size first last day → SeasonStop (window_of ws size) day n → (add_in_season ws p bytes).number ≡ n
      back group size first last day is stop =
          let read = line-complete bytes group size first last day is in
          let number = (season-exactly (window_of ws size) day n).1 stop in
          ap (λ (a : Added). a.number) (out-of-season bytes (a_line group size first last day) (sym read) ws p n (sym number) refl (λ e. omega arith))

-- All that is claimed of the three numbers.
pub season-numbers : (ws : Windows) (p : Pool) (bytes : List ℕ) → SeasonNumbers ws p bytes
season-numbers ws p bytes =
    record {
      thirteen = thirteen ws p bytes;
      sixteen = (
        (λ e. let h = (from-16 ws p bytes 16 (omega arith)).0 e in (h.0, h.1, h.2, h.3, h.4, h.5, stop-16 h.6 refl)),
        (λ h. (from-16 ws p bytes 16 (omega arith)).1 (h.0, h.1, h.2, h.3, h.4, h.5, no_such h.6)),
      );
      seventeen = (
        (λ e. let h = (from-16 ws p bytes 17 (omega arith)).0 e in (h.0, h.1, h.2, h.3, h.4, h.5, stop-17 h.6 refl)),
        (λ h. (from-16 ws p bytes 17 (omega arith)).1 (h.0, h.1, h.2, h.3, h.4, h.5, outside h.6.0 h.6.1)),
      );
    }

-- what comes of a line goes by the window of its size alone
in-line : (ws vs : Windows) (p : Pool) (l : Line) → window_of ws l.size ≡ window_of vs l.size → add_read_in_season ws p l ≡ add_read_in_season vs p l
unfolding add_read_in_season
in-line ws vs p l same = simp same

-- The windows of other sizes do not matter.
pub own-size : (ws vs : Windows) (bytes : List ℕ) (group size first last day : ℕ) → IsLine bytes group size first last day → window_of ws size ≡ window_of vs size
    → OwnSize ws vs bytes
unfolding add_in_season
own-size ws vs bytes group size first last day is same =
    let read = line-complete bytes group size first last day is in
    record {
      added = λ p. in-line ws vs p (read_line bytes) (subst (λ (l : Line). window_of ws l.size ≡ window_of vs l.size) (sym read) same);
      first =
          λ r answer. of-line group size first last day is
          (subst (λ (w : Window). FirstDay w day r) same (its_own ws bytes group size first last day is answer));
    }
