-- What a call on a lent pool leads to, the number and the pool afterwards, and lists of calls on one pool, each known by its promise alone: document 02,
-- request 6. proofs/Calls.antt has the proofs. Assumes nothing.
use Rattle.std.specs.Prelude.{ℕ, ◌≡◌, List, [], ◌∷◌}
use Rattle.pool.specs.declared.Pool.{Pool}
use Rattle.pool.specs.Pool.{Added}
use Rattle.pool_lines.specs.Lines.{add_line}
use Rattle.pool_lines.specs.History.{after}

-- the number that a call gave and the pool that it left
abbrev pub added_result : ℕ → Pool → Added
added_result number pool = record { number = number; pool = pool }

-- the promise of `add_line`: on the pool p, with these bytes, it gives a number and leaves the pool q
abbrev pub Adds : Pool → List ℕ → ℕ → Pool → Type 0
Adds p bytes number q = added_result number q ≡ add_line p bytes

-- calls of `add_line` on one pool, one after the other: the byte strings, the numbers that they gave, and the pool that they left
pub data Calls : Pool → List (List ℕ) → List ℕ → Pool → Type 0 where
  no_call : {p : Pool} → Calls p [] [] p
  a_call : {p q last : Pool} {bytes : List ℕ} {number : ℕ} {lines : List (List ℕ)} {numbers : List ℕ}
      → Adds p bytes number q → Calls q lines numbers last → Calls p (bytes ∷ lines) (number ∷ numbers) last

-- the numbers that byte strings get, from a pool on
unfoldable pub numbers_from : Pool → List (List ℕ) → List ℕ
numbers_from p [] = []
numbers_from p (bytes ∷ rest) = (add_line p bytes).number ∷ numbers_from (add_line p bytes).pool rest

-- What is claimed of such calls: they leave the pool of the list and give its numbers, of which crates/pool_lines has the theorems.
pub record CallsGive (p : Pool) (lines : List (List ℕ)) (numbers : List ℕ) (last : Pool) : Type 0 where
  pub pool : last ≡ after add_line p lines
  pub given : numbers ≡ numbers_from p lines
