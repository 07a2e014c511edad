-- That the definitions say what document 01 says, in its own words. Assumes nothing.
use mathlib.Core.Path.{◌≡◌, refl, ap}
use mathlib.Core.Bool.{Bool, ◌&&◌}
use mathlib.Core.List.{List}
use Prim.Native.Nat.{ℕ, zero, suc, ◌+◌, ◌/◌, ◌%◌, ◌<◌}
use native.Mathlib.Omega.{arith}
use lib.ListN.{length}
use Rattle.word.specs.Word.{bit, ◌⊕◌, rotate_left, shift_left}
use Rattle.state.specs.State.{State}
use Rattle.state.proofs.Lanes.{lanes-length}
use Rattle.rolling.specs.Rolling.{set_first, move_planes, roll_xc, roll_xe, roll_in, roll_out}

-- ---- document 01, "Rolling": s_(3x+y) is the lane at x of plane y; s_0 is dropped, each other lane moves one place down, s_11 is new

-- the bits of s_i
abbrev pub lane_s : State → ℕ → ℕ → Bool
lane_s A i z = A (i / 3) (i % 3) z

-- what a rolling does, by the new lane's bits
pub record Rolled (A B : State) (new : ℕ → Bool) : Type 0 where
  pub moved : (i z : ℕ) → i < 11 → z < 32 → lane_s B i z ≡ lane_s A (i + 1) z
  pub last : (z : ℕ) → z < 32 → lane_s B 11 z ≡ new z

turned : (f : ℕ → Bool) (z : ℕ) → z < 32 → f ((z + 32) % 32) ≡ f z
turned f z h = let e : (z + 32) % 32 ≡ z = omega arith in ap f e

-- the planes' moves are the lanes' moves
lanes-move : (new : ℕ → Bool) (A : State) (i z : ℕ) → i < 11 → z < 32 → lane_s (move_planes (set_first new A)) i z ≡ lane_s A (i + 1) z
lanes-move new A zero z h g = refl
lanes-move new A (suc zero) z h g = refl
lanes-move new A (suc (suc zero)) z h g = turned (A 1 0) z g
lanes-move new A (suc (suc (suc zero))) z h g = refl
lanes-move new A (suc (suc (suc (suc zero)))) z h g = refl
lanes-move new A (suc (suc (suc (suc (suc zero))))) z h g = turned (A 2 0) z g
lanes-move new A (suc (suc (suc (suc (suc (suc zero)))))) z h g = refl
lanes-move new A (suc (suc (suc (suc (suc (suc (suc zero))))))) z h g = refl
lanes-move new A (suc (suc (suc (suc (suc (suc (suc (suc zero)))))))) z h g = turned (A 3 0) z g
lanes-move new A (suc (suc (suc (suc (suc (suc (suc (suc (suc zero))))))))) z h g = refl
lanes-move new A (suc (suc (suc (suc (suc (suc (suc (suc (suc (suc zero)))))))))) z h g = refl
lanes-move new A (suc (suc (suc (suc (suc (suc (suc (suc (suc (suc (suc i))))))))))) z h g = absurd (omega arith)

rolls : (new : ℕ → Bool) (A : State) → Rolled A (move_planes (set_first new A)) new
rolls new A = record { moved = lanes-move new A; last = turned new }

-- input rolling: s_11 becomes s_0 + (s_0 << 13) + (s_1 <<< 3)
pub input-rolling : (A : State) → Rolled A (roll_xc A) (λ z. lane_s A 0 z ⊕ shift_left 13 (lane_s A 0) z ⊕ rotate_left 32 3 (lane_s A 1) z)
input-rolling A = rolls _ A

-- output rolling: s_11 becomes s_1 · s_2 + (s_0 <<< 5) + (s_1 <<< 13) + 7
pub output-rolling : (A : State) → Rolled A (roll_xe A) (λ z. (lane_s A 1 z && lane_s A 2 z) ⊕ rotate_left 32 5 (lane_s A 0) z ⊕ rotate_left 32 13 (lane_s A 1) z ⊕ bit 7 z)
output-rolling A = rolls _ A

-- ---- what comes out has twelve lanes, whatever goes in

pub roll_in-length : (l : List ℕ) → length (roll_in l) ≡ 12
unfolding roll_in
roll_in-length l = lanes-length _

pub roll_out-length : (l : List ℕ) → length (roll_out l) ≡ 12
unfolding roll_out
roll_out-length l = lanes-length _
