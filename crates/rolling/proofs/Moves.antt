-- The move of the lanes that both rollings share goes by the new lane's 32 bits. Assumes nothing.
use mathlib.Core.Path.{◌≡◌, refl, ap}
use mathlib.Core.Bool.{Bool, cond}
use mathlib.Core.List.{List}
use Prim.Native.Nat.{ℕ, zero, suc, ◌<◌}
use lib.Dec.{eqb, lit<}
use Rattle.word.specs.Word.{bit}
use Rattle.word.proofs.Bit.{Is}
use Rattle.state.specs.State.{State, bits, on}
use Rattle.state.proofs.Lanes.{Agree, Local, shifted, lanes-ext}
use Rattle.rolling.specs.Rolling.{set_first, move_planes}

-- the planes' move looks only where a state has bits
planes-local : Local move_planes
planes-local A B h x zero z i j k = h x 1 z i (lit< tt) k
planes-local A B h x (suc zero) z i j k = h x 2 z i (lit< tt) k
planes-local A B h x (suc (suc y)) z i j k = shifted A B h 0 (lit< tt) 3 0 x z

-- and a new lane only at its own bits
first-agrees : (f g : ℕ → Bool) → ((z : ℕ) → z < 32 → f z ≡ g z) → (A : State) → Agree (set_first f A) (set_first g A)
first-agrees f g e A x zero z i j k = ap (λ (t : Bool). cond (eqb x 0) t (A x 0 z)) (e z k)
first-agrees f g e A x (suc zero) z i j k = refl
first-agrees f g e A x (suc (suc y)) z i j k = refl

-- so a new lane may go by its word or by its bits
pub moved : {n : ℕ} {f : ℕ → Bool} (l : List ℕ) → Is 32 n f → on (λ A. move_planes (set_first (bit n) A)) l ≡ on (λ A. move_planes (set_first f A)) l
moved {n} {f} l i =
    let A = bits l in
    lanes-ext (move_planes (set_first (bit n) A)) (move_planes (set_first f A))
    (planes-local (set_first (bit n) A) (set_first f A) (first-agrees (bit n) f i.bits A))
