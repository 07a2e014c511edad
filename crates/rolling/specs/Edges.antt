-- Document 01, "Edges, marked for proof": the rows of the two rollings, as rows of one table of runs of numbers. Assumes nothing.
use Rattle.std.specs.Prelude.{List, [], ◌∷◌, map, ◌≡◌, ℕ, set}
use Rattle.state.specs.State.{zeros}
use Rattle.rolling.specs.Rolling.{roll_in, roll_out}

-- a row: what a definition gives, and what the table says
pub record Row : Type 0 where
  pub gives : List ℕ
  pub says : List ℕ

-- twelve lanes that are 0, but for v at place i
abbrev pub only : ℕ → ℕ → List ℕ
only i v = set zeros i v

-- the place of document 01's lanes s_0, s_1 and s_11, where s_(3x+y) is the lane at x of plane y
abbrev pub s₀ : ℕ
s₀ = 0

abbrev pub s₁ : ℕ
s₁ = 4

abbrev pub s₁₁ : ℕ
s₁₁ = 11

-- the rows of the rollings
abbrev pub rolling_rows : List Row
rolling_rows =
    -- input rolling, only s_0 = 1: only s_11 = 2001 hexadecimal
    record { gives = roll_in (only s₀ 1); says = only s₁₁ 0x2001 }
    -- input rolling, only s_1 = 80000000 hexadecimal: only s_0 = 80000000 hexadecimal and s_11 = 4
    ∷ record { gives = roll_in (only s₁ 0x8000_0000); says = set (only s₀ 0x8000_0000) s₁₁ 4 }
    -- output rolling of zero: only s_11 = 7
    ∷ record { gives = roll_out zeros; says = only s₁₁ 7 }
    ∷ []

-- the one statement over a table: each row gives what it says
abbrev pub Hold : List Row → Type 0
Hold rows = map (λ (r : Row). r.gives) rows ≡ map (λ (r : Row). r.says) rows
