-- Four states side by side in 48 lanes: lane i of state j stands at place 4 i + j. Assumes nothing.
use Rattle.std.specs.Prelude.{Bool, true, false, List, ℕ, zero, suc, ◌+◌, ◌*◌, ◌/◌, ◌%◌, get_or, set}
use Rattle.word.specs.Lists.{tabulate, sum}

-- state j of the four
unfoldable pub part : ℕ → List ℕ → List ℕ
part j w = tabulate 12 (λ i. get_or w (4 * i + j) 0)

-- the first n lanes of state j become those of s, one after another
unfoldable pub put : (n j : ℕ) (s w : List ℕ) → List ℕ
put zero j s w = w
put (suc i) j s w = set (put i j s w) (4 * i + j) (get_or s i 0)

-- the states f 0, f 1, f 2 and f 3, side by side
unfoldable pub beside : (ℕ → List ℕ) → List ℕ
beside f = tabulate 48 (λ n. get_or (f (n % 4)) (n / 4) 0)

-- F done to each of the four
unfoldable pub each : (List ℕ → List ℕ) → List ℕ → List ℕ
each F w = beside (λ j. F (part j w))

-- state j of four whose lanes at x of plane y stand, one after another, from place n + dx x + dy y on: 48 lanes side by side are laid with 4 and 16,
-- and the states in a row of rolled words with 3 and 1
unfoldable pub laid : (n dx dy : ℕ) → List ℕ → ℕ → List ℕ
laid n dx dy a j = tabulate 12 (λ i. get_or a (n + dx * (i % 4) + dy * (i / 4) + j) 0)

-- v added to w, or in its place
abbrev pub into : Bool → List ℕ → List ℕ → List ℕ
into true w v = sum w v
into false w v = v
