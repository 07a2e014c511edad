-- The permutation Xoodoo (003, section 2, Algorithm 1), by bits at (x, y, z), line by line and by the paper's names. On bits the
-- paper's + is ⊕, its · is && and its bar is not. Assumes nothing.
use Rattle.std.specs.Prelude.{not, ◌&&◌, List, [], ◌∷◌, ℕ, eqb}
use Rattle.word.specs.Word.{bit, ◌⊕◌}
use Rattle.state.specs.State.{Plane, State, plane, planes, shift, on}

-- ---- theta

-- P: A_0 + A_1 + A_2
abbrev pub P : State → Plane
P A x z = A x 0 z ⊕ A x 1 z ⊕ A x 2 z

-- E: P shifted by (1, 5) + P shifted by (1, 14)
abbrev pub E : State → Plane
E A x z = shift 1 5 (P A) x z ⊕ shift 1 14 (P A) x z

-- each A_y becomes A_y + E
abbrev pub theta : State → State
theta A x y z = A x y z ⊕ E A x z

-- ---- rho west

-- A_1 is shifted by (1, 0), and A_2 by (0, 11)
abbrev pub rho_west : State → State
rho_west A = planes (plane 0 A) (shift 1 0 (plane 1 A)) (shift 0 11 (plane 2 A))

-- ---- iota

-- C_i: the plane whose lane at x = 0 is the round constant c, and whose other lanes are 0
abbrev pub C : ℕ → Plane
C c x z = eqb x 0 && bit c z

-- A_0 becomes A_0 + C_i
abbrev pub iota : ℕ → State → State
iota c A = planes (λ x z. A x 0 z ⊕ C c x z) (plane 1 A) (plane 2 A)

-- ---- chi

-- B_0: the complement of A_1 times A_2; B_1: that of A_2 times A_0; B_2: that of A_0 times A_1
abbrev pub B : State → State
B A = planes (λ x z. not (A x 1 z) && A x 2 z) (λ x z. not (A x 2 z) && A x 0 z) (λ x z. not (A x 0 z) && A x 1 z)

-- each A_y becomes A_y + B_y
abbrev pub chi : State → State
chi A x y z = A x y z ⊕ B A x y z

-- ---- rho east

-- A_1 is shifted by (0, 1), and A_2 by (2, 8)
abbrev pub rho_east : State → State
rho_east A = planes (plane 0 A) (shift 0 1 (plane 1 A)) (shift 2 8 (plane 2 A))

-- ---- the rounds

-- R_i: one round, with the constant c
unfoldable pub round : ℕ → List ℕ → List ℕ
round c = on (λ A. rho_east (chi (iota c (rho_west (theta A)))))

-- Table 2: the constants c_(-5) to c_0 of six rounds, in their order
abbrev pub constants : List ℕ
constants = 0x60 ∷ 0x2C ∷ 0x380 ∷ 0xF0 ∷ 0x1A0 ∷ 0x12 ∷ []

-- the rounds with these constants, from the first on
unfoldable pub rounds : List ℕ → List ℕ → List ℕ
rounds [] l = l
rounds (c ∷ cs) l = rounds cs (round c l)

-- Xoodoo[6]
unfoldable pub perm : List ℕ → List ℕ
perm l = rounds constants l
