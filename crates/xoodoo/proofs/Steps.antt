-- The steps of a round on lanes, as the code writes them, against the bits by position. Assumes nothing.
use mathlib.Core.Path.{◌≡◌, refl, sym, ap, ap₂, ◌∙◌, subst}
use mathlib.Core.Bool.{Bool, false, not, ◌&&◌}
use mathlib.Core.List.{List, [], ◌∷◌}
use native.Mathlib.Nat.{mod-lt}
use native.Mathlib.Numerals.{add-one}
use lib.Dec.{lit<}
use lib.Seq.{drop-cons}
use Prim.Native.Nat.{ℕ, zero, suc, ◌+◌, ◌*◌, ◌-◌, ◌%◌, ◌^◌, ◌<◌}
use native.Mathlib.Omega.{arith}
use lib.ListN.{get_or, set, length, drop}
use lib.Bits.{bit_and, bit_xor}
use Rattle.std.specs.Prelude.{fold}
use Rattle.word.specs.Word.{bit, rotate_left, ◌⊕◌}
use Rattle.word.specs.Lists.{tabulate}
use Rattle.word.proofs.Lists.{Words, tabulate-at}
use Rattle.word.proofs.Bit.{Is, is_eq, is-own, is-more, is_zero, is-xor, is-and, is-not}
use Rattle.state.specs.State.{shift, bits, lane, on}
use Rattle.state.proofs.Lanes.{Local, shifted, next, twelve, lanes-are, lanes-made}
use Rattle.xoodoo.specs.Xoodoo.{P, E, theta, rho_west, C, iota, B, chi, rho_east, round, rounds}

-- one lane of chi
pub is-chi : {a b c : ℕ} → a < 2 ^ 32 → b < 2 ^ 32 → c < 2 ^ 32 → Is 32 (bit_xor a (bit_and ((2 ^ 32 - 1) - b) c)) (λ z. bit a z ⊕ (not (bit b z) && bit c z))
is-chi h i j = is-xor (is-own h) (is-and (is-not (is-own i)) (is-own j))

-- and of all twelve
pub chi-lanes : (l : List ℕ) → Words 32 l
    → tabulate 12 (λ i. bit_xor (get_or l i 0) (bit_and ((2 ^ 32 - 1) - get_or l ((i + 4) % 12) 0) (get_or l ((i + 8) % 12) 0))) ≡ on chi l
chi-lanes l w = lanes-made (chi (bits l)) _ (λ x y h g. is-more (is-chi (w _) (w _) (w _)) (λ z k. ap (λ (b : Bool). bits l x y z ⊕ b) (next-two x y z h g)))
  where
    times : (z : ℕ) {i j i' j' : ℕ} → i ≡ i' → j ≡ j' → (not (bit (get_or l i 0) z) && bit (get_or l j 0) z) ≡ (not (bit (get_or l i' 0) z) && bit (get_or l j' 0) z)
    times z e f = ap₂ (λ (p q : ℕ). not (bit (get_or l p 0) z) && bit (get_or l q 0) z) e f

    next-two : (x y z : ℕ) → x < 4 → y < 3
        → (not (bit (get_or l ((x + 4 * y + 4) % 12) 0) z) && bit (get_or l ((x + 4 * y + 8) % 12) 0) z) ≡ B (bits l) x y z
    next-two x zero z h g = times z (omega arith) (omega arith)
    next-two x (suc zero) z h g = times z (omega arith) (omega arith)
    next-two x (suc (suc zero)) z h g = times z (omega arith) (omega arith)
    next-two x (suc (suc (suc y))) z h g = absurd (omega arith)

-- what `effect` returns of a word p with the bits f
pub is-effect : {n p : ℕ} {f : ℕ → Bool} → n ≡ lane (λ z. rotate_left 32 5 (bit p) z ⊕ rotate_left 32 14 (bit p) z) → Is 32 p f → Is 32 n (λ z. rotate_left 32 5 f z ⊕ rotate_left 32 14 f z)
is-effect e i = is-more (is_eq e) (λ z l. ap₂ ◌⊕◌ (i.bits ((z + 27) % 32) (mod-lt (z + 27) (lit< tt))) (i.bits ((z + 18) % 32) (mod-lt (z + 18) (lit< tt))))

-- iota by a store to the first lane
pub iota-law : (c : ℕ) (l : List ℕ) → c < 2 ^ 32 → Words 32 l → length l ≡ 12 → set l 0 (bit_xor (get_or l 0 0) c) ≡ on (iota c) l
iota-law c l h w n =
    ap (λ (m : List ℕ). set m 0 (bit_xor (get_or l 0 0) c)) (twelve l n)
    ∙ lanes-are (iota c (bits l))
    (is-xor (is-own (w 0)) (is-own h)) (o 1) (o 2) (o 3) (is-own (w 4)) (is-own (w 5)) (is-own (w 6)) (is-own (w 7)) (is-own (w 8)) (is-own (w 9)) (is-own (w 10)) (is-own (w 11))
  where
    o : (i : ℕ) → Is 32 (get_or l i 0) (λ z. bit (get_or l i 0) z ⊕ false)
    o i = is_zero (is-own (w i))

-- one lane of P
pub is-parity : {a b c : ℕ} → a < 2 ^ 32 → b < 2 ^ 32 → c < 2 ^ 32 → Is 32 (bit_xor (bit_xor a b) c) (λ z. bit a z ⊕ bit b z ⊕ bit c z)
is-parity h i j = is-xor (is-xor (is-own h) (is-own i)) (is-own j)

-- theta of twelve lanes, by the four lanes p of P and the four lanes e of E
pub theta-lanes : (l p e : List ℕ) → Words 32 l
    → p ≡ tabulate 4 (λ x. bit_xor (bit_xor (get_or l x 0) (get_or l (x + 4) 0)) (get_or l (x + 8) 0))
    → e ≡ tabulate 4 (λ x. lane (λ z. rotate_left 32 5 (bit (get_or p ((x + 3) % 4) 0)) z ⊕ rotate_left 32 14 (bit (get_or p ((x + 3) % 4) 0)) z))
    → tabulate 12 (λ i. bit_xor (get_or l i 0) (get_or e (i % 4) 0)) ≡ on theta l
theta-lanes l p e w hp he = lanes-made (theta (bits l)) _ (λ x y h g. is-xor (is-own (w _)) (gained x y h))
  where
    parity : (x : ℕ) → x < 4 → Is 32 (get_or p x 0) (P (bits l) x)
    parity x h =
        let z : x + 4 * 0 ≡ x = omega arith in
        subst (λ (n : ℕ). Is 32 n (P (bits l) x)) (sym (ap (λ (m : List ℕ). get_or m x 0) hp ∙ tabulate-at 4 _ x h ∙ ap (λ (k : ℕ). bit_xor (bit_xor (get_or l k 0) (get_or l (x + 4) 0)) (get_or l (x + 8) 0)) (sym z)))
        (is-parity (w (x + 4 * 0)) (w (x + 4)) (w (x + 8)))

    gained : (x y : ℕ) → x < 4 → Is 32 (get_or e ((x + 4 * y) % 4) 0) (λ z. E (bits l) x z)
    gained x y h =
        let i : (x + 4 * y) % 4 ≡ x = omega arith in
        subst (λ (k : ℕ). Is 32 (get_or e k 0) (λ z. E (bits l) x z)) (sym i)
        (is-effect (ap (λ (m : List ℕ). get_or m x 0) he ∙ tabulate-at 4 _ x h) (parity ((x + 3) % 4) (mod-lt _ (lit< tt))))

-- the rounds one after another
pub fold-rounds : (cs l : List ℕ) → fold (λ (s : List ℕ) (c : ℕ). round c s) l cs ≡ rounds cs l
unfolding rounds
fold-rounds [] l = refl
fold-rounds (c ∷ cs) l = fold-rounds cs (round c l)

-- one more round, by the next constant
pub rounds-more : (cs : List ℕ) (i : ℕ) (s t : List ℕ) → i < length cs → t ≡ round (get_or cs i 0) s → rounds (drop (i + 1) cs) t ≡ rounds (drop i cs) s
unfolding rounds
rounds-more cs i s t h e =
    ap₂ (λ (k : ℕ) (u : List ℕ). rounds (drop k cs) u) (add-one i) e ∙ ap (λ (l : List ℕ). rounds l s) (sym (drop-cons cs i 0 h))

-- ---- each step reads only a state's own bits

pub theta-local : Local theta
theta-local A B h x y z i j k = ap₂ ◌⊕◌ (h x y z i j k) (ap₂ ◌⊕◌ (p 1 5) (p 1 14))
  where
    p : (t v : ℕ) → shift t v (P A) x z ≡ shift t v (P B) x z
    p t v = ap₂ ◌⊕◌ (ap₂ ◌⊕◌ (shifted A B h 0 (lit< tt) t v x z) (shifted A B h 1 (lit< tt) t v x z)) (shifted A B h 2 (lit< tt) t v x z)

pub west-local : Local rho_west
west-local A B h x zero z i j k = h x 0 z i j k
west-local A B h x (suc zero) z i j k = shifted A B h 1 (lit< tt) 1 0 x z
west-local A B h x (suc (suc y)) z i j k = shifted A B h 2 (lit< tt) 0 11 x z

pub iota-local : (c : ℕ) → Local (iota c)
iota-local c A B h x zero z i j k = ap (λ (b : Bool). b ⊕ C c x z) (h x 0 z i j k)
iota-local c A B h x (suc zero) z i j k = h x 1 z i j k
iota-local c A B h x (suc (suc y)) z i j k = h x 2 z i (lit< tt) k

pub chi-local : Local chi
chi-local S T h x y z i j k = ap₂ ◌⊕◌ (h x y z i j k) (go y)
  where
    b : (p q : ℕ) → p < 3 → q < 3 → (not (S x p z) && S x q z) ≡ (not (T x p z) && T x q z)
    b p q hp hq = ap₂ (λ (u v : Bool). not u && v) (h x p z i hp k) (h x q z i hq k)

    go : (y : ℕ) → B S x y z ≡ B T x y z
    go zero = b 1 2 (lit< tt) (lit< tt)
    go (suc zero) = b 2 0 (lit< tt) (lit< tt)
    go (suc (suc y)) = b 0 1 (lit< tt) (lit< tt)

pub east-local : Local rho_east
east-local A B h x zero z i j k = h x 0 z i j k
east-local A B h x (suc zero) z i j k = shifted A B h 1 (lit< tt) 0 1 x z
east-local A B h x (suc (suc y)) z i j k = shifted A B h 2 (lit< tt) 2 8 x z

-- a round is its five steps, each from lanes to lanes
pub round-steps : (c : ℕ) (l : List ℕ) → on rho_east (on chi (on (iota c) (on rho_west (on theta l)))) ≡ round c l
unfolding round
round-steps c l =
    let T = theta (bits l) in
    let W = next rho_west west-local T (on theta l) refl in
    let I = next (iota c) (iota-local c) (rho_west T) _ W in
    let X = next chi chi-local (iota c (rho_west T)) _ I in
    next rho_east east-local (chi (iota c (rho_west T))) _ X
