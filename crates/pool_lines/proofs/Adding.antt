-- One line added to a good pool: it gets the number whose condition holds. Assumes nothing.
use Prim.Native.Nat.{ℕ}
use mathlib.Core.Path.{◌≡◌, refl, sym, ap, ◌∙◌, subst}
use mathlib.Core.Bool.{Bool, true, false}
use mathlib.Core.Logic.{◌↔◌}
use mathlib.Core.List.{List}
use Rattle.issue_line.specs.Read.{read_line, a_line}
use Rattle.issue_line.proofs.Reading.{line-sound, line-complete, line_refused}
use Rattle.runs.specs.Runs.{a_run}
use Rattle.pool.specs.declared.Pool.{Pool}
use Rattle.pool.specs.Pool.{Added}
use Rattle.pool.specs.Good.{Good, InPool}
use Rattle.pool.proofs.Adding.{refused-same, add-exactly, stop-as}
use Rattle.pool_lines.specs.Lines.{run_of, add_line, LineStop, no_line, is_a_line, LineExactly}
use Rattle.pool_lines.proofs.Lists.{Takes, step-good, step-holds, step-rings}
use Rattle.pool_lines.proofs.Steps.{not-a-line, a-line-added, accepted-found, line-valid}

-- a number goes by which numbers are pooled alone
pub line-stop-as : (P Q : (size x : ℕ) → Type 0) → ((size x : ℕ) → P size x ↔ Q size x) → (bytes : List ℕ) (n : ℕ) → LineStop Q bytes n → LineStop P bytes n
line-stop-as P Q same bytes n (no_line none) = no_line none
line-stop-as P Q same bytes n (is_a_line group size first last day m is stop) = is_a_line group size first last day m is (stop-as P Q same (a_run size first last) stop)

-- One line, added to a good pool.
module _ (p : Pool) (bytes : List ℕ) (good : Good p) where
  -- The number is the one whose condition holds.
  line-stop : LineStop (InPool p) bytes (add_line p bytes).number
  line-stop = go (read_line bytes).found refl
    where
      go : (t : Bool) → (read_line bytes).found ≡ t → LineStop (InPool p) bytes (add_line p bytes).number
      go true e =
          subst (λ (a : Added). LineStop (InPool p) bytes a.number) (sym (a-line-added p bytes (read_line bytes) refl e))
          (is_a_line _ _ _ _ _ _ (line-sound bytes e) (((add-exactly p (run_of (read_line bytes)) good (line-valid bytes (read_line bytes) refl e)).number _).0 refl))
      go false e = subst (λ (a : Added). LineStop (InPool p) bytes a.number) (sym (not-a-line p bytes (read_line bytes) refl e)) (no_line ((line_refused bytes).0 e))

  -- So a number is given exactly where its condition holds.
  pub line-number : (n : ℕ) → ((add_line p bytes).number ≡ n) ↔ LineStop (InPool p) bytes n
  line-number n = ((λ e. subst (LineStop (InPool p) bytes) e line-stop), (λ stop. given stop))
    where
      given : {m : ℕ} → LineStop (InPool p) bytes m → (add_line p bytes).number ≡ m
      given (no_line none) = ap (λ (a : Added). a.number) (not-a-line p bytes (read_line bytes) refl ((line_refused bytes).1 none))
      given (is_a_line group size first last day m is stop) =
          let read = line-complete bytes group size first last day is in
          let added = a-line-added p bytes (a_line group size first last day) (sym read) refl in
          ap (λ (a : Added). a.number) added ∙ ((add-exactly p (a_run size first last) good is.in_order).number m).1 stop

-- Whatever the pool, an accepted line is one, and adds its run; a refused one leaves the pool as it was.
pub line-takes : Takes add_line
line-takes =
    record {
      added = λ p bytes ok. (accepted-found p bytes ok, a-line-added p bytes (read_line bytes) refl (accepted-found p bytes ok));
      refused = λ p bytes not-0. same p bytes not-0 (read_line bytes).found refl;
    }
  where
    same : (p : Pool) (bytes : List ℕ) → ((add_line p bytes).number ≡ 0 → ⊥) → (t : Bool) → (read_line bytes).found ≡ t → (add_line p bytes).pool ≡ p
    same p bytes not-0 true e =
        let is = a-line-added p bytes (read_line bytes) refl e in
        ap (λ (a : Added). a.pool) is ∙ refused-same p (run_of (read_line bytes)) (λ z. not-0 (ap (λ (a : Added). a.number) is ∙ z))
    same p bytes not-0 false e = ap (λ (a : Added). a.pool) (not-a-line p bytes (read_line bytes) refl e)

-- All that is claimed of one line, added to a good pool.
pub line-exactly : (p : Pool) (bytes : List ℕ) → Good p → LineExactly p bytes
line-exactly p bytes good =
    record {
      number = line-number p bytes good;
      refused = line-takes.refused p bytes;
      good = step-good add_line line-takes p bytes good;
      holds = step-holds add_line line-takes p bytes good;
      rings = step-rings add_line line-takes p bytes good;
    }
