-- One line added to a pool in its season, by whether it is a line and what the season says. Assumes nothing.
use Prim.Native.Nat.{ℕ, ◌≤◌}
use mathlib.Core.Path.{◌≡◌, refl, sym, ap, ◌∙◌, subst}
use mathlib.Core.Bool.{Bool, true, false}
use mathlib.Core.List.{List}
use lib.Dec.{eqb}
use borrow.Author.Tests.{eq-eqb, ne_eqb, eqb-true, eqb-false}
use Rattle.issue_line.specs.Read.{Line, read_line}
use Rattle.issue_line.proofs.Reading.{line-sound}
use Rattle.pool.specs.declared.Pool.{Pool}
use Rattle.pool.specs.Pool.{add_run}
use Rattle.pool_lines.specs.Lines.{run_of}
use Rattle.seasons.specs.declared.Windows.{Windows}
use Rattle.season_lines.specs.Lines.{season_of, add_read_in_season, add_in_season}

module _ (bytes : List ℕ) (l : Line) (is : l ≡ read_line bytes) where
  -- the size of a line is one of the eight
  pub size-within : l.found ≡ true → (65 ≤ l.size) × (l.size ≤ 72)
  size-within e =
      let h = line-sound bytes (ap (λ (x : Line). x.found) (sym is) ∙ e) in
      subst (λ (x : Line). (65 ≤ x.size) × (x.size ≤ 72)) (sym is) (h.size_from, h.size_to)

  module _ (ws : Windows) (p : Pool) where
    pub not-a-line : l.found ≡ false → add_in_season ws p bytes ≡ record { number = 13; pool = p }
    unfolding add_in_season add_read_in_season
    not-a-line e = ap (add_read_in_season ws p) (sym is) ∙ simp e

    module _ (n : ℕ) (season : n ≡ season_of ws l) where
      pub out-of-season : l.found ≡ true → (n ≡ 0 → ⊥) → add_in_season ws p bytes ≡ record { number = n; pool = p }
      unfolding add_in_season add_read_in_season
      out-of-season e h = ap (add_read_in_season ws p) (sym is) ∙ simp (e, sym season, ne_eqb n 0 h)

      pub added-in-season : l.found ≡ true → n ≡ 0 → add_in_season ws p bytes ≡ add_run p (run_of l)
      unfolding add_in_season add_read_in_season
      added-in-season e h = ap (add_read_in_season ws p) (sym is) ∙ simp (e, sym season, eq-eqb n 0 h)

-- the cases of some bytes: no line; a line that is not in season; a line in season
pub data Case (ws : Windows) (bytes : List ℕ) : Type 0 where
  nothing : (read_line bytes).found ≡ false → Case ws bytes
  shut : (read_line bytes).found ≡ true → (season_of ws (read_line bytes) ≡ 0 → ⊥) → Case ws bytes
  free : (read_line bytes).found ≡ true → season_of ws (read_line bytes) ≡ 0 → Case ws bytes

pub case-of : (ws : Windows) (bytes : List ℕ) → Case ws bytes
case-of ws bytes = go (read_line bytes).found (eqb (season_of ws (read_line bytes)) 0) refl refl
  where
    go : (a b : Bool) → (read_line bytes).found ≡ a → eqb (season_of ws (read_line bytes)) 0 ≡ b → Case ws bytes
    go false b p q = nothing p
    go true false p q = shut p (eqb-false (season_of ws (read_line bytes)) 0 q)
    go true true p q = free p (eqb-true (season_of ws (read_line bytes)) 0 q)
