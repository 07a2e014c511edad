-- Rolled states as a row of words. A rolling drops s_0, moves each other lane one place down and appends one word (document 01, "Rolling"), so that
-- states which are rolled one after another are windows of one row, as those of a feedback shift register are of its sequence: word n is s_0 of the
-- state that was rolled n times. Assumes nothing.
use Rattle.std.specs.Prelude.{cond, List, ℕ, zero, suc, ◌+◌, ◌*◌, ◌/◌, ◌%◌, ltb, get_or, set}
use Rattle.xoodoo4.specs.Four.{laid}
use Rattle.deck.specs.Deck.{iterate}

-- the lane of s_p, at x = p / 3 of plane y = p % 3
abbrev pub lane_of : ℕ → ℕ
lane_of p = p / 3 + 4 * (p % 3)

-- the first p words of the row become s_0, s_1 and so on of k
unfoldable pub begun : (p : ℕ) (k r : List ℕ) → List ℕ
begun zero k r = r
begun (suc p) k r = set (begun p k r) p (get_or k (lane_of p) 0)

-- the state whose s_0 is word n of the row
abbrev pub state_at : (n : ℕ) → List ℕ → List ℕ
state_at n r = laid n 3 1 r 0

-- the word that the last of i rollings by f appends to the state at word n: its s_11
abbrev pub appends : (List ℕ → List ℕ) → (n i : ℕ) → List ℕ → ℕ
appends f n i r = get_or (iterate i f (state_at n r)) 11 0

-- the four words that four rollings of the state at word n append, put after its twelve
unfoldable pub appended : (List ℕ → List ℕ) → (n : ℕ) → List ℕ → List ℕ
appended f n r = set (set (set (set r (n + 12) (appends f n 1 r)) (n + 13) (appends f n 2 r)) (n + 14) (appends f n 3 r)) (n + 15) (appends f n 4 r)

-- the first i of the last sixteen words become the first ones
unfoldable pub moved : ℕ → List ℕ → List ℕ
moved zero r = r
moved (suc i) r = set (moved i r) i (get_or r (64 + i) 0)

-- a row that is used up, the state being at word 64, with four words after it, starts again
abbrev pub renewed : ℕ → List ℕ → List ℕ
renewed n r = cond (ltb n 64) r (moved 16 r)

-- where the state then stands
abbrev pub renewed_at : ℕ → ℕ
renewed_at n = cond (ltb n 64) n 0
