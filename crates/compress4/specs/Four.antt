-- What a group of four full blocks is, and what it adds. Assumes nothing.
use Rattle.std.specs.Prelude.{List, ℕ, ◌+◌, ◌*◌, drop}
use Rattle.word.specs.Lists.{sum}
use Rattle.state.specs.Bytes.{from_bytes}
use Rattle.xoodoo4.specs.Four.{part}

-- block j of the string from byte `at` on
abbrev pub block_at : (s : List ℕ) (at j : ℕ) → List ℕ
block_at s at j = from_bytes (drop (at + 48 * j) s)

-- x with the four states of w added
abbrev pub add_four : (x w : List ℕ) → List ℕ
add_four x w = sum (sum (sum (sum x (part 0 w)) (part 1 w)) (part 2 w)) (part 3 w)
