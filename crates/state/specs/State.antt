-- The state of Xoodoo (003, section 2, and Table 1): three planes of four lanes of 32 bits. Assumes nothing.
use Rattle.std.specs.Prelude.{Bool, List, [], ◌∷◌, ℕ, zero, suc, ◌+◌, ◌*◌, ◌-◌, ◌%◌, get_or, replicate}
use Rattle.word.specs.Word.{bit, of_bits}

-- a plane: its bits at (x, z), x below 4 and z below 32
abbrev pub Plane : Type 0
Plane = ℕ → ℕ → Bool

-- a state: its bits at (x, y, z), y below 3
abbrev pub State : Type 0
State = ℕ → ℕ → ℕ → Bool

-- A_y, plane y of a state
abbrev pub plane : ℕ → State → Plane
plane y A x z = A x y z

-- the state with the planes A_0, A_1 and A_2
abbrev pub planes : (A₀ A₁ A₂ : Plane) → State
planes A₀ A₁ A₂ x zero z = A₀ x z
planes A₀ A₁ A₂ x (suc zero) z = A₁ x z
planes A₀ A₁ A₂ x (suc (suc y)) z = A₂ x z

-- a plane shifted by (t, v): the bit at (x, z) moves to (x + t mod 4, z + v mod 32), so what arrives at (x, z) comes from (x - t, z - v)
abbrev pub shift : (t v : ℕ) → Plane → Plane
shift t v p x z = p ((x + (4 - t)) % 4) ((z + (32 - v)) % 32)

-- ---- a state as twelve lanes, the lane at x of plane y at place x + 4 y

-- the lane with these bits
abbrev pub lane : (ℕ → Bool) → ℕ
lane f = of_bits 32 f

-- the bits of twelve lanes
abbrev pub bits : List ℕ → State
bits l x y z = bit (get_or l (x + 4 * y) 0) z

-- the lanes of a state
unfoldable pub lanes : State → List ℕ
lanes A =
    lane (A 0 0) ∷ lane (A 1 0) ∷ lane (A 2 0) ∷ lane (A 3 0)
    ∷ lane (A 0 1) ∷ lane (A 1 1) ∷ lane (A 2 1) ∷ lane (A 3 1)
    ∷ lane (A 0 2) ∷ lane (A 1 2) ∷ lane (A 2 2) ∷ lane (A 3 2) ∷ []

-- a step on bits, as one on lanes
abbrev pub on : (State → State) → List ℕ → List ℕ
on F l = lanes (F (bits l))

-- the state whose bits are 0
abbrev pub zeros : List ℕ
zeros = replicate 12 0
