-- What the code's leaves are handed and count, as SANSE's and SANE's strings and counts: the closing bytes give the frame bits, and the
-- permutations that the leaves do sum to the formulas of document 01 and of request 2. Assumes nothing.
use mathlib.Core.Bool.{Bool, true, false, not, ◌||◌, cond}
use mathlib.Core.List.{List, [], ◌∷◌}
use mathlib.Core.Path.{◌≡◌, refl}
use Prim.Native.Nat.{ℕ, zero, suc, ◌+◌}
use native.Mathlib.Omega.{arith}
use lib.ListN.{length}
use Rattle.deck.specs.Strings.{b, blocks, framed}
use Rattle.deck.specs.Closing.{closing_byte, closed_by}
use Rattle.xoofff.specs.Leaves.{output_blocks}
use Rattle.deck.proofs.ClosingBytes.{closed_by-closing}
use Rattle.deck.proofs.Strings.{blocks_is}
use Rattle.modes.specs.Mode.{is_empty, sanse_parameters, sanse_count, ceiling48, sane_parameters, sane_count}

-- ---- closing bytes

pub closed-A : (x : List ℕ) (e : Bool) → closed_by x (cond e 6 4) ≡ framed x (sanse_parameters.frame_a e)
unfolding closing_byte
closed-A x true = closed_by-closing x (false ∷ true ∷ []) (omega arith)
closed-A x false = closed_by-closing x (false ∷ false ∷ []) (omega arith)

pub closed-M : (x : List ℕ) (e : Bool) → closed_by x (cond e 14 10) ≡ framed x (sanse_parameters.frame_m e)
unfolding closing_byte
closed-M x true = closed_by-closing x (false ∷ true ∷ true ∷ []) (omega arith)
closed-M x false = closed_by-closing x (false ∷ true ∷ false ∷ []) (omega arith)

pub closed-T : (x : List ℕ) (e : Bool) → closed_by x (cond e 15 11) ≡ framed x (sanse_parameters.frame_t e)
unfolding closing_byte
closed-T x true = closed_by-closing x (true ∷ true ∷ true ∷ []) (omega arith)
closed-T x false = closed_by-closing x (true ∷ true ∷ false ∷ []) (omega arith)

-- ---- counts

-- the output blocks of a keystream of n bytes
pub output_blocks-is : (n : ℕ) → output_blocks 0 n ≡ ceiling48 n
unfolding output_blocks
output_blocks-is zero = refl
output_blocks-is (suc n) = omega arith

-- the blocks of A where the history gains it, of the text where there is one, and of the tag's string with the keystream's permutations,
-- y's among them
abbrev pub count_a : (a x : List ℕ) → Bool → ℕ
count_a a x e = cond (not (is_empty a) || is_empty x) (blocks (framed a (sanse_parameters.frame_a e))) 0

abbrev pub count_text : (x : List ℕ) → Bool → ℕ
count_text x e = cond (is_empty x) 0 (blocks (framed x (sanse_parameters.frame_m e)))

abbrev pub count_body : (x t : List ℕ) → Bool → ℕ
count_body x t e = cond (is_empty x) 0 (blocks (framed t (sanse_parameters.frame_t e)) + (1 + output_blocks 0 (length x)))

-- what the leaves of a call count, with the tag's: y, and one output block
pub leaf-counts : (a x t : List ℕ) (e : Bool) → length t ≡ 32
    → count_a a x e + count_text x e + (1 + output_blocks 0 32) + count_body x t e ≡ sanse_count (length a) (length x)
unfolding sanse_count
leaf-counts [] [] t e h = omega (arith, blocks_is (framed [] (false ∷ e ∷ [])) (omega arith), output_blocks-is 32)
leaf-counts (z ∷ a) [] t e h = omega (arith, blocks_is (framed (z ∷ a) (false ∷ e ∷ [])) (omega arith), output_blocks-is 32)
leaf-counts [] (y ∷ x) t e h =
    omega (
      arith,
      blocks_is (framed (y ∷ x) (false ∷ true ∷ e ∷ [])) (omega arith),
      blocks_is (framed t (true ∷ true ∷ e ∷ [])) (omega arith),
      output_blocks-is 32,
      output_blocks-is (suc (length x)),
    )
leaf-counts (z ∷ a) (y ∷ x) t e h =
    omega (
      arith,
      blocks_is (framed (z ∷ a) (false ∷ e ∷ [])) (omega arith),
      blocks_is (framed (y ∷ x) (false ∷ true ∷ e ∷ [])) (omega arith),
      blocks_is (framed t (true ∷ true ∷ e ∷ [])) (omega arith),
      output_blocks-is 32,
      output_blocks-is (suc (length x)),
    )

-- ---- SANE: the closing byte of A is SANSE's, those of the cryptogram and of the nonce are its own

pub closed-C : (x : List ℕ) (e : Bool) → closed_by x (cond e 7 5) ≡ framed x (sane_parameters.frame_m e)
unfolding closing_byte
closed-C x true = closed_by-closing x (true ∷ true ∷ []) (omega arith)
closed-C x false = closed_by-closing x (true ∷ false ∷ []) (omega arith)

pub closed-N : (x : List ℕ) → closed_by x 1 ≡ framed x []
unfolding closing_byte
closed-N x = closed_by-closing x [] (omega arith)

-- the output blocks of a keystream of n bytes from byte 16 on
pub output_blocks-16 : (n : ℕ) → output_blocks 16 (suc n) ≡ ceiling48 (suc n + 16)
unfolding output_blocks
output_blocks-16 n = omega arith

-- the blocks of the cryptogram where there is one, and the permutations of the keystream, y's among them
abbrev pub count_c : (c : List ℕ) → Bool → ℕ
count_c c e = cond (is_empty c) 0 (blocks (framed c (sane_parameters.frame_m e)))

abbrev pub count_stream : (x : List ℕ) → ℕ
count_stream x = cond (is_empty x) 0 (1 + output_blocks 16 (length x))

-- what the leaves of a call count, with the tag's: y, and one output block. The cryptogram c has the length of the text x
pub sane-leaf-counts : (a x c : List ℕ) (e : Bool) → length c ≡ length x
    → count_stream x + count_a a x e + count_c c e + (1 + output_blocks 0 16) ≡ sane_count (length a) (length x)
unfolding sane_count
sane-leaf-counts [] [] [] e h = omega (arith, blocks_is (framed [] (false ∷ e ∷ [])) (omega arith), output_blocks-is 16)
sane-leaf-counts (z ∷ a) [] [] e h = omega (arith, blocks_is (framed (z ∷ a) (false ∷ e ∷ [])) (omega arith), output_blocks-is 16)
sane-leaf-counts a [] (w ∷ c) e h = absurd (omega arith)
sane-leaf-counts a (y ∷ x) [] e h = absurd (omega arith)
sane-leaf-counts [] (y ∷ x) (w ∷ c) e h =
    omega (arith, blocks_is (framed (w ∷ c) (true ∷ e ∷ [])) (omega arith), output_blocks-is 16, output_blocks-16 (length x))
sane-leaf-counts (z ∷ a) (y ∷ x) (w ∷ c) e h =
    omega (
      arith,
      blocks_is (framed (z ∷ a) (false ∷ e ∷ [])) (omega arith),
      blocks_is (framed (w ∷ c) (true ∷ e ∷ [])) (omega arith),
      output_blocks-is 16,
      output_blocks-16 (length x),
    )

-- and of a start: the key's, the nonce's blocks, y, and one output block
pub nonce-leaf-counts : (nonce : List ℕ) → 1 + blocks (framed nonce []) + (1 + output_blocks 0 16) ≡ b (length nonce) + 3
nonce-leaf-counts nonce = omega (arith, blocks_is (framed nonce []) (omega arith), output_blocks-is 16)
