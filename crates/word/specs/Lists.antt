-- Runs of words. Assumes nothing.
use Rattle.std.specs.Prelude.{List, [], ◌∷◌, ℕ, zero, suc}
use Rattle.std.specs.Int.Bits.{bit_xor}

-- f 0, f 1, .., f (n - 1)
unfoldable pub tabulate : ℕ → (ℕ → ℕ) → List ℕ
tabulate zero f = []
tabulate (suc n) f = f 0 ∷ tabulate n (λ i. f (suc i))

-- the sum of two runs, place by place, as long as the shorter one: exclusive or
unfoldable pub sum : List ℕ → List ℕ → List ℕ
sum [] t = []
sum (a ∷ s) [] = []
sum (a ∷ s) (b ∷ t) = bit_xor a b ∷ sum s t
