-- The byte that follows a string's last byte: it carries the frame bits and the padding bit, and gives them back. Assumes nothing.
use mathlib.Core.Path.{◌≡◌, refl, sym, ap, ap₂, ◌∙◌}
use mathlib.Core.Bool.{Bool, true, false, cond}
use mathlib.Core.List.{List, [], ◌∷◌, ◌++◌}
use Prim.Native.Nat.{ℕ, zero, suc, ◌+◌, ◌*◌, ◌/◌, ◌%◌, ◌^◌, ◌≤◌, ◌<◌}
use native.Mathlib.Decide.{dec_le}
use native.Mathlib.Numerals.{one-add}
use native.Mathlib.Omega.{arith}
use lib.Dec.{eqb, leb, lit<, lit≤}
use lib.ListN.{length, get_or}
use lib.Pow.{pow-add, pow_pos}
use borrow.Author.Tests.{le-leb, lt-leb}
use Rattle.word.specs.Word.{bit, digit}
use Rattle.word.proofs.Bit.{digit_lt, bit-shr, bit-above}
use Rattle.deck.specs.Strings.{framed}
use Rattle.deck.specs.Closing.{closing_byte, frame_bits, closed_by}

-- ---- a bit put below a number's bits

-- the lowest bit of what it gives, the rest, and the bits of the rest
digit_low : (f : Bool) (n : ℕ) → bit (digit f + 2 * n) 0 ≡ f
unfolding bit
digit_low true n = let e : (1 + 2 * n) / 2 ^ 0 % 2 ≡ 1 = omega arith in ap (λ (m : ℕ). eqb m 1) e
digit_low false n = let e : (0 + 2 * n) / 2 ^ 0 % 2 ≡ 0 = omega arith in ap (λ (m : ℕ). eqb m 1) e

digit-half : (f : Bool) (n : ℕ) → (digit f + 2 * n) / 2 ≡ n
digit-half true n = omega arith
digit-half false n = omega arith

digit-high : (f : Bool) (n z : ℕ) → bit (digit f + 2 * n) (suc z) ≡ bit n z
digit-high f n z =
    ap (bit (digit f + 2 * n)) (sym (one-add z)) ∙ sym (bit-shr (digit f + 2 * n) 1 z) ∙ ap (λ (m : ℕ). bit m z) (digit-half f n)

-- the lowest bit as a digit
digit-of-low : (n : ℕ) → digit (bit n 0) ≡ n % 2
unfolding bit
digit-of-low n = go (n % 2) (n / 2 ^ 0 % 2) (omega arith) (omega arith)
  where
    go : (r m : ℕ) → m ≡ r → r < 2 → digit (eqb m 1) ≡ r
    go zero m e h = ap (λ (k : ℕ). digit (eqb k 1)) e
    go (suc zero) m e h = ap (λ (k : ℕ). digit (eqb k 1)) e
    go (suc (suc r)) m e h = absurd (omega arith)

-- ---- the closing byte

-- a closing byte is not 0
pub closing-pos : (f : List Bool) → 0 < closing_byte f
unfolding closing_byte
closing-pos [] = lit< tt
closing-pos (f ∷ fs) = omega (arith, closing-pos fs)

-- n frame bits make a closing byte of n + 1 bits
closing-most : (n : ℕ) (f : List Bool) → length f ≤ n → closing_byte f < 2 ^ (1 + n)
unfolding closing_byte
closing-most zero [] h = lit< tt
closing-most (suc n) [] h = omega (arith, pow-add 2 1 (suc n), pow_pos (suc n))
closing-most zero (f ∷ fs) h = absurd (omega (arith, h))
closing-most (suc n) (f ∷ fs) h =
    omega (arith, digit_lt f, closing-most n fs (omega (arith, h)), pow-add 2 1 (suc n), ap (λ (k : ℕ). 2 ^ k) (one-add n))

pub closing-lt : (f : List Bool) → length f ≤ 7 → closing_byte f < 256
closing-lt f h = closing-most 7 f h

-- a closing byte gives its frame bits back
frame_back : (n : ℕ) (f : List Bool) → length f ≤ n → frame_bits n (closing_byte f) ≡ f
unfolding closing_byte frame_bits
frame_back zero [] h = refl
frame_back (suc n) [] h = refl
frame_back zero (f ∷ fs) h = absurd (omega (arith, h))
frame_back (suc n) (f ∷ fs) h =
    let c = digit f + 2 * closing_byte fs in
    ap (λ (t : Bool). cond t [] (bit c 0 ∷ frame_bits n (c / 2))) (lt-leb c 1 (omega (arith, closing-pos fs)))
    ∙ ap₂ {C = List Bool} (λ x y. x ∷ y) (digit_low f (closing_byte fs)) (ap (frame_bits n) (digit-half f (closing_byte fs)) ∙ frame_back n fs (omega (arith, h)))

pub frame-closing : (f : List Bool) → length f ≤ 7 → frame_bits 7 (closing_byte f) ≡ f
frame-closing f h = frame_back 7 f h

-- a string by its frame bits and by its closing byte
pub closed_by-closing : (s : List ℕ) (f : List Bool) → length f ≤ 7 → closed_by s (closing_byte f) ≡ framed s f
closed_by-closing s f h = ap (framed s) (frame-closing f h)

-- a closing byte is that of the frame bits that it carries
closing-back : (n c : ℕ) → 0 < c → c < 2 ^ (1 + n) → closing_byte (frame_bits n c) ≡ c
unfolding closing_byte frame_bits
closing-back zero c p h = omega arith
closing-back (suc n) c p h = go (dec_le c 1) (λ q. closing-back n (c / 2) q (omega (arith, pow-add 2 1 (suc n), ap (λ (k : ℕ). 2 ^ k) (one-add n))))
  where
    go : Dec (c ≤ 1) → (0 < c / 2 → closing_byte (frame_bits n (c / 2)) ≡ c / 2) → closing_byte (cond (leb c 1) [] (bit c 0 ∷ frame_bits n (c / 2))) ≡ c
    go (yes q) ih = ap (λ (t : Bool). closing_byte (cond t [] (bit c 0 ∷ frame_bits n (c / 2)))) (le-leb c 1 q) ∙ (let e : 1 ≡ c = omega arith in e)
    go (no q) ih =
        ap (λ (t : Bool). closing_byte (cond t [] (bit c 0 ∷ frame_bits n (c / 2)))) (lt-leb c 1 (omega (arith, q)))
        ∙ (let e : digit (bit c 0) + 2 * closing_byte (frame_bits n (c / 2)) ≡ c = omega (arith, digit-of-low c, ih (omega (arith, q))) in e)

pub closing-frame : (c : ℕ) → 0 < c → c < 256 → closing_byte (frame_bits 7 c) ≡ c
closing-frame c p h = closing-back 7 c p h

-- which are at most seven
frame-most : (n c : ℕ) → length (frame_bits n c) ≤ n
unfolding frame_bits
frame-most zero c = lit≤ tt
frame-most (suc n) c = go (leb c 1) (frame-most n (c / 2))
  where
    go : (t : Bool) → length (frame_bits n (c / 2)) ≤ n → length (cond t [] (bit c 0 ∷ frame_bits n (c / 2))) ≤ suc n
    go true h = omega arith
    go false h = omega (arith, h)

pub frame-length : (c : ℕ) → length (frame_bits 7 c) ≤ 7
frame-length c = frame-most 7 c

-- its bits: the frame bits, the padding bit, and then zeros
pub closing-bits : (f : List Bool) (z : ℕ) → get_or (f ++ true ∷ []) z false ≡ bit (closing_byte f) z
unfolding closing_byte
closing-bits [] zero = let e : true ≡ bit 1 0 = sym (digit_low true 0) in e
closing-bits [] (suc z) = sym (bit-above 1 1 (suc z) (lit< tt) (omega arith))
closing-bits (f ∷ fs) zero = sym (digit_low f (closing_byte fs))
closing-bits (f ∷ fs) (suc z) = closing-bits fs z ∙ sym (digit-high f (closing_byte fs) z)
