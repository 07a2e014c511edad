-- One line added to a pool, by whether it is a line. Assumes nothing.
use Prim.Native.Nat.{ℕ, ◌≤◌}
use mathlib.Core.Path.{◌≡◌, refl, sym, ap, ◌∙◌, subst}
use mathlib.Core.Bool.{Bool, true, false}
use mathlib.Core.List.{List}
use native.Mathlib.Omega.{arith}
use Rattle.issue_line.specs.Read.{Line}
use Rattle.issue_line.specs.Read.{read_line}
use Rattle.issue_line.proofs.Reading.{line-sound}
use Rattle.pool.specs.declared.Pool.{Pool}
use Rattle.pool.specs.Pool.{Added}
use Rattle.pool.specs.Pool.{add_run}
use Rattle.pool_lines.specs.Lines.{run_of, add_read, add_line}

module _ (p : Pool) (bytes : List ℕ) (l : Line) (is : l ≡ read_line bytes) where
  pub not-a-line : l.found ≡ false → add_line p bytes ≡ record { number = 13; pool = p }
  unfolding add_line add_read
  not-a-line e = ap (add_read p) (sym is) ∙ simp e

  pub a-line-added : l.found ≡ true → add_line p bytes ≡ add_run p (run_of l)
  unfolding add_line add_read
  a-line-added e = ap (add_read p) (sym is) ∙ simp e

-- an accepted line is a line
pub accepted-found : (p : Pool) (bytes : List ℕ) → (add_line p bytes).number ≡ 0 → (read_line bytes).found ≡ true
accepted-found p bytes e = go (read_line bytes).found refl
  where
    go : (t : Bool) → (read_line bytes).found ≡ t → (read_line bytes).found ≡ true
    go true f = f
    go false f =
        let thirteen : (add_line p bytes).number ≡ 13 = ap (λ (a : Added). a.number) (not-a-line p bytes (read_line bytes) refl f) in
        let no : ⊥ = omega arith in
        absurd no

-- the run of a line has a number
pub line-valid : (bytes : List ℕ) (l : Line) → l ≡ read_line bytes → l.found ≡ true → l.first ≤ l.last
line-valid bytes l is e =
    subst (λ (m : Line). m.first ≤ m.last) (sym is) (line-sound bytes (ap (λ (m : Line). m.found) (sym is) ∙ e)).in_order
