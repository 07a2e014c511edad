-- The bits of numbers, by position: what each operation on words does to them, and that a word is given by its bits, for words of any
-- width. Assumes nothing.
use mathlib.Core.Path.{◌≡◌, refl, sym, ap, ap₂, ◌∙◌, subst}
use mathlib.Core.Bool.{Bool, true, false, not, ◌&&◌, ◌||◌, or-false}
use Prim.Native.Nat.{ℕ, zero, suc, ◌+◌, ◌*◌, ◌-◌, ◌/◌, ◌%◌, ◌^◌, ◌≤◌, ◌<◌}
use native.Mathlib.Nat.{mod-lt, mod-eq_of_lt, mod-add-mod, add-mod_right, lt_of_le_of_lt, div-le_self, div-eq_of_lt, add_comm, lt_of_lt_of_le, mul_assoc}
use native.Mathlib.Numerals.{add-one, one-add}
use native.Mathlib.Decide.{dec_le}
use native.Mathlib.Omega.{arith}
use lib.Dec.{eqb, leb, lit<}
use borrow.Author.Tests.{le-leb, lt-leb}
use Rattle.std.specs.Int.{w32, rotate_left as std_rotate_left}
use lib.Pow.{pow_pos, pow-add, pow_mono, mod-pow-add, mod-mod-pow, field, low, ones_sub-lt, shr-shr, shl-shr, ones_split, high, ones_lt}
use lib.Bits.{bit_and, bit_or, bit_xor, and_shr, and_mod, or_shr, or_mod, xor_shr, xor_mod, and_mask, xor_add_and, and_lt, or_lt, xor_lt, shifted_even}
use lib.Arith.{digits_lt}
use Rattle.word.specs.Word.{bit, digit, of_bits, rotate_left, shift_left, ◌⊕◌}

-- ---- two digits
dig-xor : (x y : ℕ) → x < 2 → y < 2 → eqb (bit_xor x y) 1 ≡ eqb x 1 ⊕ eqb y 1
dig-xor zero zero hx hy = refl
dig-xor zero (suc zero) hx hy = refl
dig-xor zero (suc (suc y)) hx hy = absurd (omega arith)
dig-xor (suc zero) zero hx hy = refl
dig-xor (suc zero) (suc zero) hx hy = refl
dig-xor (suc zero) (suc (suc y)) hx hy = absurd (omega arith)
dig-xor (suc (suc x)) y hx hy = absurd (omega arith)

dig-and : (x y : ℕ) → x < 2 → y < 2 → eqb (bit_and x y) 1 ≡ (eqb x 1 && eqb y 1)
dig-and zero zero hx hy = refl
dig-and zero (suc zero) hx hy = refl
dig-and zero (suc (suc y)) hx hy = absurd (omega arith)
dig-and (suc zero) zero hx hy = refl
dig-and (suc zero) (suc zero) hx hy = refl
dig-and (suc zero) (suc (suc y)) hx hy = absurd (omega arith)
dig-and (suc (suc x)) y hx hy = absurd (omega arith)

dig-or : (x y : ℕ) → x < 2 → y < 2 → eqb (bit_or x y) 1 ≡ (eqb x 1 || eqb y 1)
dig-or zero zero hx hy = refl
dig-or zero (suc zero) hx hy = refl
dig-or zero (suc (suc y)) hx hy = absurd (omega arith)
dig-or (suc zero) zero hx hy = refl
dig-or (suc zero) (suc zero) hx hy = refl
dig-or (suc zero) (suc (suc y)) hx hy = absurd (omega arith)
dig-or (suc (suc x)) y hx hy = absurd (omega arith)

-- a digit is the digit of its bit
dig-of : (x : ℕ) → x < 2 → digit (eqb x 1) ≡ x
dig-of zero h = refl
dig-of (suc zero) h = refl
dig-of (suc (suc x)) h = absurd (omega arith)

of-dig : (b : Bool) → eqb (digit b % 2) 1 ≡ b
of-dig true = refl
of-dig false = refl

below2 : (n : ℕ) → n % 2 < 2
below2 n = mod-lt n (lit< tt)

-- ---- the operations, at a position
pub bit-xor : (a b z : ℕ) → bit (bit_xor a b) z ≡ bit a z ⊕ bit b z
unfolding bit
bit-xor a b z =
    ap (λ (n : ℕ). eqb (n % 2) 1) (xor_shr a b z) ∙ ap (λ (n : ℕ). eqb n 1) (xor_mod (a / 2 ^ z) (b / 2 ^ z) 1)
    ∙ dig-xor (a / 2 ^ z % 2) (b / 2 ^ z % 2) (below2 (a / 2 ^ z)) (below2 (b / 2 ^ z))

pub bit-and : (a b z : ℕ) → bit (bit_and a b) z ≡ (bit a z && bit b z)
unfolding bit
bit-and a b z =
    ap (λ (n : ℕ). eqb (n % 2) 1) (and_shr a b z) ∙ ap (λ (n : ℕ). eqb n 1) (and_mod (a / 2 ^ z) (b / 2 ^ z) 1)
    ∙ dig-and (a / 2 ^ z % 2) (b / 2 ^ z % 2) (below2 (a / 2 ^ z)) (below2 (b / 2 ^ z))

pub bit-or : (a b z : ℕ) → bit (bit_or a b) z ≡ (bit a z || bit b z)
unfolding bit
bit-or a b z =
    ap (λ (n : ℕ). eqb (n % 2) 1) (or_shr a b z) ∙ ap (λ (n : ℕ). eqb n 1) (or_mod (a / 2 ^ z) (b / 2 ^ z) 1)
    ∙ dig-or (a / 2 ^ z % 2) (b / 2 ^ z % 2) (below2 (a / 2 ^ z)) (below2 (b / 2 ^ z))

-- above a number's digits
pub bit-above : (a k z : ℕ) → a < 2 ^ k → k ≤ z → bit a z ≡ false
unfolding bit
bit-above a k z h l = ap (λ (n : ℕ). eqb (n % 2) 1) (div-eq_of_lt (lt_of_lt_of_le h (pow_mono l)))

-- the k low digits keep their bits
pub bit-mod : (n k z : ℕ) → z < k → bit (n % 2 ^ k) z ≡ bit n z
unfolding bit
bit-mod n k z h =
    let e : k ≡ (suc (k - suc z)) + z = omega arith in
    ap (λ (i : ℕ). eqb (n % 2 ^ i / 2 ^ z % 2) 1) e
    ∙ ap (λ (i : ℕ). eqb (i % 2) 1) (field n (suc (k - suc z)) z)
    ∙ ap (λ (i : ℕ). eqb (n / 2 ^ z % 2 ^ i % 2) 1) (sym (add-one (k - suc z)))
    ∙ ap (λ (i : ℕ). eqb i 1) (mod-mod-pow (n / 2 ^ z) (k - suc z) 1)

-- shifted right: what was k higher
pub bit-shr : (a k z : ℕ) → bit (a / 2 ^ k) z ≡ bit a (k + z)
unfolding bit
bit-shr a k z = ap (λ (n : ℕ). eqb (n % 2) 1) (shr-shr a k z)

-- shifted left, from k on: what was k lower
pub bit-shl : (a k z : ℕ) → bit (a * 2 ^ k) (k + z) ≡ bit a z
unfolding bit
bit-shl a k z = ap (λ (n : ℕ). eqb (n % 2) 1) (sym (shr-shr (a * 2 ^ k) k z) ∙ ap (λ (n : ℕ). n / 2 ^ z) (shl-shr a k))

-- shifted left, below k: nothing
pub bit-shl-low : (a k z : ℕ) → z < k → bit (a * 2 ^ k) z ≡ false
unfolding bit
bit-shl-low a k z h =
    let e : k ≡ suc (k - suc z) + z = omega arith in
    ap (λ (i : ℕ). eqb (a * 2 ^ i / 2 ^ z % 2) 1) e
    ∙ ap (λ (i : ℕ). eqb (a * i / 2 ^ z % 2) 1) (pow-add 2 (suc (k - suc z)) z)
    ∙ ap (λ (i : ℕ). eqb (i / 2 ^ z % 2) 1) (sym (mul_assoc a (2 ^ suc (k - suc z)) (2 ^ z)))
    ∙ ap (λ (i : ℕ). eqb (i % 2) 1) (shl-shr (a * 2 ^ suc (k - suc z)) z)
    ∙ ap (λ (i : ℕ). eqb i 1) (shifted_even a (k - suc z))

-- all ones
bit-ones : (k z : ℕ) → z < k → bit (2 ^ k - 1) z ≡ true
unfolding bit
bit-ones k z h =
    let e : k ≡ suc (k - suc z) + z = omega arith in
    ap (λ (i : ℕ). eqb ((2 ^ i - 1) / 2 ^ z % 2) 1) e
    ∙ ap (λ (i : ℕ). eqb (i / 2 ^ z % 2) 1) (ones_split (suc (k - suc z)) z)
    ∙ ap (λ (i : ℕ). eqb (i % 2) 1) (high (2 ^ suc (k - suc z) - 1) z (ones_lt z))
    ∙ ap (λ (i : ℕ). eqb ((2 ^ i - 1) % 2) 1) (sym (add-one (k - suc z)))
    ∙ ap (λ (i : ℕ). eqb (i % 2) 1) (ones_split (k - suc z) 1)
    ∙ ap (λ (i : ℕ). eqb i 1) (odd (2 ^ (k - suc z) - 1))
  where
    odd : (n : ℕ) → (n * 2 + 1) % 2 ≡ 1
    odd n = omega arith

-- the complement in k digits is the exclusive or with all ones
not_is_xor : (a k : ℕ) → a < 2 ^ k → (2 ^ k - 1) - a ≡ bit_xor a (2 ^ k - 1)
not_is_xor a k h =
    let m : bit_and a (2 ^ k - 1) ≡ a = and_mask a k ∙ mod-eq_of_lt h in
    let s : bit_xor a (2 ^ k - 1) + bit_and a (2 ^ k - 1) * 2 ≡ a + (2 ^ k - 1) = xor_add_and a (2 ^ k - 1) in
    omega (arith, m, s, h)

xor-true : (b : Bool) → b ⊕ true ≡ not b
xor-true true = refl
xor-true false = refl

pub bit_not : (a k z : ℕ) → a < 2 ^ k → z < k → bit ((2 ^ k - 1) - a) z ≡ not (bit a z)
bit_not a k z h l =
    ap (λ (n : ℕ). bit n z) (not_is_xor a k h) ∙ bit-xor a (2 ^ k - 1) z ∙ ap (λ (b : Bool). bit a z ⊕ b) (bit-ones k z l) ∙ xor-true (bit a z)

-- a rotation to the left by v, by shifts and or: at z is the bit from z - v mod k
pub bit-rotl : (a k v z : ℕ) → a < 2 ^ k → v ≤ k → z < k → bit (bit_or ((a * 2 ^ v) % 2 ^ k) (a / 2 ^ (k - v))) z ≡ bit a ((z + (k - v)) % k)
bit-rotl a k v z h hv hz = bit-or ((a * 2 ^ v) % 2 ^ k) (a / 2 ^ (k - v)) z ∙ go (dec_le v z)
  where
    go : Dec (v ≤ z) → (bit ((a * 2 ^ v) % 2 ^ k) z || bit (a / 2 ^ (k - v)) z) ≡ bit a ((z + (k - v)) % k)
    go (yes p) =
        let e : v + (z - v) ≡ z = omega arith in
        let s : z + (k - v) ≡ (z - v) + k = omega arith in
        let m : (z + (k - v)) % k ≡ z - v = ap (λ (i : ℕ). i % k) s ∙ add-mod_right (z - v) k ∙ mod-eq_of_lt (omega arith) in
        ap₂ ◌||◌
        (bit-mod (a * 2 ^ v) k z hz ∙ ap (λ (i : ℕ). bit (a * 2 ^ v) i) (sym e) ∙ bit-shl a v (z - v))
        (bit-shr a (k - v) z ∙ bit-above a k (k - v + z) h (omega arith))
        ∙ or-false (bit a (z - v)) ∙ ap (bit a) (sym m)
    go (no f) =
        let l : z < v = omega (arith, f) in
        let m : (z + (k - v)) % k ≡ k - v + z = mod-eq_of_lt (omega arith) ∙ add_comm z (k - v) in
        ap₂ ◌||◌ (bit-mod (a * 2 ^ v) k z hz ∙ bit-shl-low a v z l) (bit-shr a (k - v) z) ∙ ap (bit a) (sym m)

-- ---- a word is given by its bits
low-is : (n k : ℕ) → n % 2 ^ k ≡ of_bits k (bit n)
unfolding of_bits bit
low-is n zero = omega arith
low-is n (suc k) =
    ap (λ (i : ℕ). n % 2 ^ i) (sym (one-add k)) ∙ mod-pow-add n 1 k
    ∙ ap₂ (λ (x y : ℕ). x * 2 ^ k + y) (sym (dig-of (n / 2 ^ k % 2) (below2 (n / 2 ^ k)))) (low-is n k)

of_bits-ext : (k : ℕ) (f g : ℕ → Bool) → ((z : ℕ) → z < k → f z ≡ g z) → of_bits k f ≡ of_bits k g
unfolding of_bits
of_bits-ext zero f g h = refl
of_bits-ext (suc k) f g h = ap₂ (λ (x : Bool) (y : ℕ). digit x * 2 ^ k + y) (h k (omega arith)) (of_bits-ext k f g (λ z l. h z (omega arith)))

pub word-ext : (n k : ℕ) (f : ℕ → Bool) → n < 2 ^ k → ((z : ℕ) → z < k → bit n z ≡ f z) → n ≡ of_bits k f
word-ext n k f h e = sym (mod-eq_of_lt h) ∙ low-is n k ∙ of_bits-ext k (bit n) f e

-- a bit is a digit below 2
pub digit_lt : (b : Bool) → digit b < 2
digit_lt true = lit< tt
digit_lt false = lit< tt

pub of_bits-lt : (k : ℕ) (f : ℕ → Bool) → of_bits k f < 2 ^ k
unfolding of_bits
of_bits-lt zero f = lit< tt
of_bits-lt (suc k) f =
    subst (λ (n : ℕ). digit (f k) * 2 ^ k + of_bits k f < n) (sym (ap (λ (n : ℕ). 2 ^ n) (sym (one-add k)) ∙ pow-add 2 1 k))
    (digits_lt (digit_lt (f k)) (of_bits-lt k f))

top-is : (k : ℕ) (f : ℕ → Bool) → bit (of_bits (suc k) f) k ≡ f k
unfolding of_bits bit
top-is k f = ap (λ (n : ℕ). eqb (n % 2) 1) (high (digit (f k)) k (of_bits-lt k f)) ∙ of-dig (f k)

below-is : (k : ℕ) (f : ℕ → Bool) (z : ℕ) → z < k → bit (of_bits (suc k) f) z ≡ bit (of_bits k f) z
unfolding of_bits
below-is k f z h = sym (bit-mod (of_bits (suc k) f) k z h) ∙ ap (λ (n : ℕ). bit n z) (low (digit (f k)) k (of_bits-lt k f))

pub bit-of_bits : (k : ℕ) (f : ℕ → Bool) (z : ℕ) → z < k → bit (of_bits k f) z ≡ f z
bit-of_bits zero f z l = absurd (omega arith)
bit-of_bits (suc k) f z l = go (dec_le k z) (bit-of_bits k f z)
  where
    go : Dec (k ≤ z) → (z < k → bit (of_bits k f) z ≡ f z) → bit (of_bits (suc k) f) z ≡ f z
    go (yes p) ih = let e : z ≡ k = omega arith in ap (bit (of_bits (suc k) f)) e ∙ top-is k f ∙ ap f (sym e)
    go (no q) ih = let h : z < k = omega (arith, q) in below-is k f z h ∙ ih h

-- t forward and m - t forward is where it was
pub move-back : (m t x : ℕ) → t ≤ m → x < m → ((x + t) % m + (m - t)) % m ≡ x
move-back m t x h l =
    let e : x + t + (m - t) ≡ x + m = omega arith in
    mod-add-mod (x + t) m (m - t) ∙ ap (λ (n : ℕ). n % m) e ∙ add-mod_right x m ∙ mod-eq_of_lt l

-- ---- words of w bits: n is a word, and its bits are f's
pub record Is (w n : ℕ) (f : ℕ → Bool) : Type 0 where
  pub fits : n < 2 ^ w
  pub bits : (z : ℕ) → z < w → bit n z ≡ f z

pub is_word : {w n : ℕ} {f : ℕ → Bool} → Is w n f → n ≡ of_bits w f
is_word {w} {n} {f} i = word-ext n w f i.fits i.bits

pub is-own : {w n : ℕ} → n < 2 ^ w → Is w n (bit n)
is-own h = record { fits = h; bits = λ z l. refl }

pub word-is : (w : ℕ) (f : ℕ → Bool) → Is w (of_bits w f) f
word-is w f = record { fits = of_bits-lt w f; bits = bit-of_bits w f }

-- a result that is known to be the word of f
pub is_eq : {w n : ℕ} {f : ℕ → Bool} → n ≡ of_bits w f → Is w n f
is_eq {w} {n} {f} e = subst (λ (m : ℕ). Is w m f) (sym e) (word-is w f)

-- the same bits, said otherwise
pub is-more : {w n : ℕ} {f g : ℕ → Bool} → Is w n f → ((z : ℕ) → z < w → f z ≡ g z) → Is w n g
is-more i h = record { fits = i.fits; bits = λ z l. i.bits z l ∙ h z l }

pub is-xor : {w a b : ℕ} {f g : ℕ → Bool} → Is w a f → Is w b g → Is w (bit_xor a b) (λ z. f z ⊕ g z)
is-xor {w} {a} {b} i j =
    record { fits = xor_lt w a b i.fits j.fits; bits = λ z l. bit-xor a b z ∙ ap₂ ◌⊕◌ (i.bits z l) (j.bits z l) }

pub is-and : {w a b : ℕ} {f g : ℕ → Bool} → Is w a f → Is w b g → Is w (bit_and a b) (λ z. f z && g z)
is-and {w} {a} {b} i j =
    record { fits = and_lt w a b i.fits j.fits; bits = λ z l. bit-and a b z ∙ ap₂ ◌&&◌ (i.bits z l) (j.bits z l) }

pub is-or : {w a b : ℕ} {f g : ℕ → Bool} → Is w a f → Is w b g → Is w (bit_or a b) (λ z. f z || g z)
is-or {w} {a} {b} i j =
    record { fits = or_lt w a b i.fits j.fits; bits = λ z l. bit-or a b z ∙ ap₂ ◌||◌ (i.bits z l) (j.bits z l) }

pub is-not : {w a : ℕ} {f : ℕ → Bool} → Is w a f → Is w ((2 ^ w - 1) - a) (λ z. not (f z))
is-not {w} {a} i =
    record { fits = ones_sub-lt w a; bits = λ z l. bit_not a w z i.fits l ∙ ap not (i.bits z l) }

-- a rotation to the left by v, by shifts and or
pub is-rotl : {w a : ℕ} {f : ℕ → Bool} (v : ℕ) → v ≤ w → Is w a f → Is w (bit_or ((a * 2 ^ v) % 2 ^ w) (a / 2 ^ (w - v))) (rotate_left w v f)
is-rotl {w} {a} v h i =
    record {
      fits = or_lt w ((a * 2 ^ v) % 2 ^ w) (a / 2 ^ (w - v)) (mod-lt (a * 2 ^ v) (pow_pos w)) (lt_of_le_of_lt (div-le_self a (2 ^ (w - v))) i.fits);
      bits = λ z l. bit-rotl a w v z i.fits h l ∙ i.bits ((z + (w - v)) % w) (mod-lt (z + (w - v)) (omega arith));
    }

-- the same as std has it, which takes the distances modulo the width
pub rotated : (a v : ℕ) {r : ℕ} → 0 < v → v < 32 → a < 2 ^ 32 → r ≡ std_rotate_left w32 a v → r ≡ of_bits 32 (rotate_left 32 v (bit a))
rotated a v g h l e =
    let m : v % 32 ≡ v = mod-eq_of_lt h in
    let n : (32 - v) % 32 ≡ 32 - v = omega arith in
    e ∙ ap (λ (k : ℕ). bit_or ((a * 2 ^ k) % 2 ^ 32) (a / 2 ^ ((32 - k) % 32))) m
    ∙ ap (λ (k : ℕ). bit_or ((a * 2 ^ v) % 2 ^ 32) (a / 2 ^ k)) n ∙ is_word (is-rotl v (omega arith) (is-own l))

-- a rotation by 0
pub is-still : {w n : ℕ} {f : ℕ → Bool} → Is w n f → Is w n (rotate_left w 0 f)
is-still {w} {n} {f} i =
    is-more i (λ z l. let e : z ≡ (z + (w - 0)) % w = sym (ap (λ (m : ℕ). m % w) (omega arith) ∙ add-mod_right z w ∙ mod-eq_of_lt l) in ap f e)

-- shifted to the left: what is shifted out is dropped
bit-shift : (w a v z : ℕ) → z < w → bit ((a * 2 ^ v) % 2 ^ w) z ≡ shift_left v (bit a) z
bit-shift w a v z l = bit-mod (a * 2 ^ v) w z l ∙ go (dec_le v z)
  where
    go : Dec (v ≤ z) → bit (a * 2 ^ v) z ≡ shift_left v (bit a) z
    go (yes p) =
        let e : v + (z - v) ≡ z = omega arith in
        ap (bit (a * 2 ^ v)) (sym e) ∙ bit-shl a v (z - v) ∙ ap (λ (b : Bool). b && bit a (z - v)) (sym (le-leb v z p))
    go (no f) = let h : z < v = omega (arith, f) in bit-shl-low a v z h ∙ ap (λ (b : Bool). b && bit a (z - v)) (sym (lt-leb v z h))

pub is-shl : {w a : ℕ} {f : ℕ → Bool} (v : ℕ) → Is w a f → Is w ((a * 2 ^ v) % 2 ^ w) (shift_left v f)
is-shl {w} {a} {f} v i =
    record {
      fits = mod-lt (a * 2 ^ v) (pow_pos w);
      bits = λ z l. bit-shift w a v z l ∙ ap (λ (b : Bool). leb v z && b) (i.bits (z - v) (omega arith));
    }

-- k bits of a number from position p on
pub is-part : (k p n : ℕ) → Is k (n / 2 ^ p % 2 ^ k) (λ z. bit n (p + z))
is-part k p n = record { fits = mod-lt (n / 2 ^ p) (pow_pos k); bits = λ z l. bit-mod (n / 2 ^ p) k z l ∙ bit-shr n p z }

-- ---- the sum of bits

xor-false : (b : Bool) → b ⊕ false ≡ b
xor-false true = refl
xor-false false = refl

-- plus 0
pub is_zero : {w n : ℕ} {f : ℕ → Bool} → Is w n f → Is w n (λ z. f z ⊕ false)
is_zero {w} {n} {f} i = is-more i (λ z l. sym (xor-false (f z)))

-- a rotation moves the bit at z to z + v mod w
pub rotates : (w v : ℕ) → v ≤ w → (f : ℕ → Bool) (z : ℕ) → z < w → rotate_left w v f ((z + v) % w) ≡ f z
rotates w v h f z l = ap f (move-back w v z h l)

-- a shift moves the bit at z to z + v, and leaves 0 below v
pub shifts : (v : ℕ) (f : ℕ → Bool) (z : ℕ) → shift_left v f (z + v) ≡ f z
shifts v f z = let e : z + v - v ≡ z = omega arith in ap₂ ◌&&◌ (le-leb v (z + v) (omega arith)) (ap f e)

pub shifts-in : (v : ℕ) (f : ℕ → Bool) (z : ℕ) → z < v → shift_left v f z ≡ false
shifts-in v f z h = ap (λ (b : Bool). b && f (z - v)) (lt-leb v z h)
