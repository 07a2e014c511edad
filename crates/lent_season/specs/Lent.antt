-- Lists of calls on one lent pool with the same windows, each call known by its promise alone: document 02, request 8. proofs/Calls.antt has the
-- proofs. Assumes nothing.
use Rattle.std.specs.Prelude.{ℕ, ◌≡◌, List, [], ◌∷◌}
use Rattle.pool.specs.declared.Pool.{Pool}
use Rattle.pool_lines.specs.History.{after}
use Rattle.lent_pool.specs.Lent.{added_result}
use Rattle.seasons.specs.declared.Windows.{Windows}
use Rattle.season_lines.specs.Lines.{add_in_season}

-- the promise of `add_line`: with these windows, on the pool p, with these bytes, it gives a number and leaves the pool q
abbrev pub Adds : Windows → Pool → List ℕ → ℕ → Pool → Type 0
Adds ws p bytes number q = added_result number q ≡ add_in_season ws p bytes

-- calls of `add_line` on one pool, one after the other: the byte strings, the numbers that they gave, and the pool that they left
pub data Calls (ws : Windows) : Pool → List (List ℕ) → List ℕ → Pool → Type 0 where
  no_call : {p : Pool} → Calls ws p [] [] p
  a_call : {p q last : Pool} {bytes : List ℕ} {number : ℕ} {lines : List (List ℕ)} {numbers : List ℕ}
      → Adds ws p bytes number q → Calls ws q lines numbers last → Calls ws p (bytes ∷ lines) (number ∷ numbers) last

-- the numbers that byte strings get, from a pool on
unfoldable pub numbers_from : Windows → Pool → List (List ℕ) → List ℕ
numbers_from ws p [] = []
numbers_from ws p (bytes ∷ rest) = (add_in_season ws p bytes).number ∷ numbers_from ws (add_in_season ws p bytes).pool rest

-- What is claimed of such calls: they leave the pool of the list and give its numbers, of which crates/season_lines has the theorems.
pub record CallsGive (ws : Windows) (p : Pool) (lines : List (List ℕ)) (numbers : List ℕ) (last : Pool) : Type 0 where
  pub pool : last ≡ after (add_in_season ws) p lines
  pub given : numbers ≡ numbers_from ws p lines
