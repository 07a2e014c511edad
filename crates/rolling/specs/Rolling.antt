-- The two rolling functions of Xoofff (003, section 3; document 01, "Rolling"), line by line. A_(y,x) is the lane x of plane y, so its
-- bit at z is A x y z. Assumes nothing.
use Rattle.std.specs.Prelude.{Bool, cond, ◌&&◌, List, ℕ, eqb}
use Rattle.word.specs.Word.{bit, ◌⊕◌, rotate_left, shift_left}
use Rattle.state.specs.State.{State, plane, planes, shift, on}

-- A_(0,0) becomes the lane with the bits f
abbrev pub set_first : (ℕ → Bool) → State → State
set_first f A = planes (λ x z. cond (eqb x 0) (f z) (A x 0 z)) (plane 1 A) (plane 2 A)

-- B is A_0 shifted by (3, 0); A_0 becomes A_1, A_1 becomes A_2, and A_2 becomes B
abbrev pub move_planes : State → State
move_planes A = planes (plane 1 A) (plane 2 A) (shift 3 0 (plane 0 A))

-- roll_Xc: A_(0,0) becomes A_(0,0) + (A_(0,0) << 13) + (A_(1,0) <<< 3), and the planes move
abbrev pub roll_xc : State → State
roll_xc A = move_planes (set_first (λ z. A 0 0 z ⊕ shift_left 13 (A 0 0) z ⊕ rotate_left 32 3 (A 0 1) z) A)

-- roll_Xe: A_(0,0) becomes A_(1,0) · A_(2,0) + (A_(0,0) <<< 5) + (A_(1,0) <<< 13) + 7, and the planes move
abbrev pub roll_xe : State → State
roll_xe A = move_planes (set_first (λ z. (A 0 1 z && A 0 2 z) ⊕ rotate_left 32 5 (A 0 0) z ⊕ rotate_left 32 13 (A 0 1) z ⊕ bit 7 z) A)

-- input rolling, on lanes
unfoldable pub roll_in : List ℕ → List ℕ
roll_in = on roll_xc

-- output rolling, on lanes
unfoldable pub roll_out : List ℕ → List ℕ
roll_out = on roll_xe
