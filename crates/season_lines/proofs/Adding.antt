-- One line added to a pool in its season: it gets the number whose condition holds. Assumes nothing.
use Prim.Native.Nat.{ℕ}
use mathlib.Core.Path.{◌≡◌, refl, sym, ap, ◌∙◌, subst}
use mathlib.Core.Bool.{true, false}
use mathlib.Core.Logic.{◌↔◌}
use mathlib.Core.List.{List}
use native.Mathlib.Omega.{arith}
use Rattle.issue_line.specs.Read.{read_line, a_line}
use Rattle.issue_line.proofs.Reading.{line-sound, line-complete, line_refused}
use Rattle.runs.specs.Runs.{a_run}
use Rattle.pool.specs.declared.Pool.{Pool}
use Rattle.pool.specs.Pool.{Added}
use Rattle.pool.specs.Pool.{add_run}
use Rattle.pool.specs.Good.{Good, InPool}
use Rattle.pool.proofs.Adding.{refused-same, add-exactly, stop-as}
use Rattle.pool_lines.specs.Lines.{run_of, add_line}
use Rattle.pool_lines.proofs.Steps.{line-valid, a-line-added}
use Rattle.pool_lines.proofs.Steps.{not-a-line as no-line-added}
use Rattle.pool_lines.proofs.Lists.{Takes, step-good, step-holds, step-rings}
use Rattle.seasons.specs.declared.Windows.{Windows}
use Rattle.seasons.specs.Seasons.{window_of, SeasonStop}
use Rattle.seasons.proofs.Right.{season-exactly}
use Rattle.season_lines.specs.Lines.{season_of, add_in_season, SeasonLineStop, no_line, not-in-season, in_season, SeasonLineExactly}
use Rattle.season_lines.proofs.Steps.{not-a-line, out-of-season, added-in-season, Case, nothing, shut, free, case-of}

-- a number goes by which numbers are pooled alone
pub stop_goes : (ws : Windows) (P Q : (size x : ℕ) → Type 0) → ((size x : ℕ) → P size x ↔ Q size x) → (bytes : List ℕ) (n : ℕ)
    → SeasonLineStop ws Q bytes n → SeasonLineStop ws P bytes n
stop_goes ws P Q same bytes n (no_line none) = no_line none
stop_goes ws P Q same bytes n (not-in-season group size first last day m is season some) = not-in-season group size first last day m is season some
stop_goes ws P Q same bytes n (in_season group size first last day m is season stop) =
    in_season group size first last day m is season (stop-as P Q same (a_run size first last) stop)

module _ (ws : Windows) (p : Pool) (bytes : List ℕ) where
  -- what the season says of the line that was read
  pub season : SeasonStop (window_of ws (read_line bytes).size) (read_line bytes).day (season_of ws (read_line bytes))
  season = (season-exactly (window_of ws (read_line bytes).size) (read_line bytes).day (season_of ws (read_line bytes))).0 refl

  -- the three cases
  pub is-13 : (read_line bytes).found ≡ false → add_in_season ws p bytes ≡ record { number = 13; pool = p }
  is-13 f = not-a-line bytes (read_line bytes) refl ws p f

  pub is-season-number : (read_line bytes).found ≡ true → (season_of ws (read_line bytes) ≡ 0 → ⊥)
      → add_in_season ws p bytes ≡ record { number = season_of ws (read_line bytes); pool = p }
  is-season-number f s = out-of-season bytes (read_line bytes) refl ws p (season_of ws (read_line bytes)) refl f s

  pub is-added : (read_line bytes).found ≡ true → season_of ws (read_line bytes) ≡ 0 → add_in_season ws p bytes ≡ add_run p (run_of (read_line bytes))
  is-added f s = added-in-season bytes (read_line bytes) refl ws p (season_of ws (read_line bytes)) refl f s

  -- An accepted one is a line in its season, and adds its run.
  pub accepted-line : (add_in_season ws p bytes).number ≡ 0
      → ((read_line bytes).found ≡ true) × (season_of ws (read_line bytes) ≡ 0) × (add_in_season ws p bytes ≡ add_run p (run_of (read_line bytes)))
  accepted-line ok = go (case-of ws bytes)
    where
      go : Case ws bytes
          → ((read_line bytes).found ≡ true) × (season_of ws (read_line bytes) ≡ 0) × (add_in_season ws p bytes ≡ add_run p (run_of (read_line bytes)))
      go (nothing f) = let bad : ⊥ = omega (arith, sym (ap (λ (a : Added). a.number) (is-13 f)) ∙ ok) in absurd bad
      go (shut f s) = absurd (s (sym (ap (λ (a : Added). a.number) (is-season-number f s)) ∙ ok))
      go (free f s) = (f, s, is-added f s)

  -- A refused one leaves the pool as it was.
  refused-line : ((add_in_season ws p bytes).number ≡ 0 → ⊥) → (add_in_season ws p bytes).pool ≡ p
  refused-line not-0 = go (case-of ws bytes)
    where
      go : Case ws bytes → (add_in_season ws p bytes).pool ≡ p
      go (nothing f) = ap (λ (a : Added). a.pool) (is-13 f)
      go (shut f s) = ap (λ (a : Added). a.pool) (is-season-number f s)
      go (free f s) =
          let e = is-added f s in
          ap (λ (a : Added). a.pool) e ∙ refused-same p (run_of (read_line bytes)) (λ z. not-0 (ap (λ (a : Added). a.number) e ∙ z))

  -- The number is the one whose condition holds, and it is given exactly there.
  module _ (good : Good p) where
    line-stop : SeasonLineStop ws (InPool p) bytes (add_in_season ws p bytes).number
    line-stop = go (case-of ws bytes)
      where
        here : {a : Added} → add_in_season ws p bytes ≡ a → SeasonLineStop ws (InPool p) bytes a.number
            → SeasonLineStop ws (InPool p) bytes (add_in_season ws p bytes).number
        here e stop = subst (λ (b : Added). SeasonLineStop ws (InPool p) bytes b.number) (sym e) stop

        go : Case ws bytes → SeasonLineStop ws (InPool p) bytes (add_in_season ws p bytes).number
        go (nothing f) = here (is-13 f) (no_line ((line_refused bytes).0 f))
        go (shut f s) = here (is-season-number f s) (not-in-season _ _ _ _ _ _ (line-sound bytes f) season s)
        go (free f s) =
            here (is-added f s)
            (in_season _ _ _ _ _ _ (line-sound bytes f)
            (subst (SeasonStop (window_of ws (read_line bytes).size) (read_line bytes).day) s season)
            (((add-exactly p (run_of (read_line bytes)) good (line-valid bytes (read_line bytes) refl f)).number _).0 refl))

    pub line-number : (n : ℕ) → ((add_in_season ws p bytes).number ≡ n) ↔ SeasonLineStop ws (InPool p) bytes n
    line-number n = ((λ e. subst (SeasonLineStop ws (InPool p) bytes) e line-stop), (λ stop. given stop))
      where
        given : {m : ℕ} → SeasonLineStop ws (InPool p) bytes m → (add_in_season ws p bytes).number ≡ m
        given (no_line none) = ap (λ (a : Added). a.number) (is-13 ((line_refused bytes).1 none))
        given (not-in-season group size first last day m is stop some) =
            let read = line-complete bytes group size first last day is in
            let number = (season-exactly (window_of ws size) day m).1 stop in
            ap (λ (a : Added). a.number) (out-of-season bytes (a_line group size first last day) (sym read) ws p m (sym number) refl some)
        given (in_season group size first last day m is none stop) =
            let read = line-complete bytes group size first last day is in
            let number = (season-exactly (window_of ws size) day 0).1 none in
            ap (λ (a : Added). a.number) (added-in-season bytes (a_line group size first last day) (sym read) ws p 0 (sym number) refl refl)
            ∙ ((add-exactly p (a_run size first last) good is.in_order).number m).1 stop

  -- In season it is what is added without windows.
  as-without-windows : season_of ws (read_line bytes) ≡ 0 → add_in_season ws p bytes ≡ add_line p bytes
  as-without-windows s = go (case-of ws bytes)
    where
      go : Case ws bytes → add_in_season ws p bytes ≡ add_line p bytes
      go (nothing f) = is-13 f ∙ sym (no-line-added p bytes (read_line bytes) refl f)
      go (shut f never) = absurd (never s)
      go (free f _) = is-added f s ∙ sym (a-line-added p bytes (read_line bytes) refl f)

-- Whatever the pool, an accepted line is one, and adds its run; a refused one leaves the pool as it was.
pub season-takes : (ws : Windows) → Takes (add_in_season ws)
season-takes ws =
    record {
      added = λ p bytes ok. ((accepted-line ws p bytes ok).0, (accepted-line ws p bytes ok).2);
      refused = refused-line ws;
    }

-- All that is claimed of one line, added to a good pool.
pub season-line-exactly : (ws : Windows) (p : Pool) (bytes : List ℕ) → Good p → SeasonLineExactly ws p bytes
season-line-exactly ws p bytes good =
    record {
      number = line-number ws p bytes good;
      refused = refused-line ws p bytes;
      good = step-good (add_in_season ws) (season-takes ws) p bytes good;
      holds = step-holds (add_in_season ws) (season-takes ws) p bytes good;
      rings = step-rings (add_in_season ws) (season-takes ws) p bytes good;
      as_without = as-without-windows ws p bytes;
    }
