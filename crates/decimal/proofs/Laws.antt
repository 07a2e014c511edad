-- Laws of decimal numbers: how the bytes of a number are made, that they have no leading zeros, and how many they are. Assumes nothing.
use Prim.Native.Nat.{ℕ, zero, suc, ◌+◌, ◌-◌, ◌*◌, ◌/◌, ◌%◌, ◌^◌, ◌<◌, ◌≤◌}
use mathlib.Core.Path.{◌≡◌, refl, sym, ap, ◌∙◌}
use mathlib.Core.Bool.{Bool, true, false}
use mathlib.Core.Logic.{◌⊎◌, inl, inr}
use Rattle.std.specs.Prelude.{Some, None}
use mathlib.Core.List.{List, [], ◌∷◌, ◌++◌}
use native.Mathlib.Omega.{arith}
use native.Mathlib.Nat.{le_refl, pow-suc}
use native.Mathlib.Numerals.{add-one}
use lib.ListN.{length, drop, get_or, length-append, get_or-append}
use lib.Seq.{drop-append-add, drop-drop}
use lib.Dec.{ltb, leb}
use lib.Arith.{digits_div, digits_mod}
use borrow.Author.Tests.{lt-ltb, le-ltb, le-leb, ltb-true, ltb-false, leb-true}
use Rattle.decimal.specs.Decimal.{digit_char, decimal_within, decimal, value_from, digit_of}

-- which of two numbers is less, as a sum
pub lt-or-le : (a b : ℕ) → (a < b) ⊎ (b ≤ a)
lt-or-le a b = go (ltb a b) refl
  where
    go : (t : Bool) → ltb a b ≡ t → (a < b) ⊎ (b ≤ a)
    go true e = inl (ltb-true a b e)
    go false e = inr (ltb-false a b e)

within-small : (f n : ℕ) → n < 10 → decimal_within f n ≡ digit_char n ∷ []
unfolding decimal_within
within-small zero n h = refl
within-small (suc f) n h = simp (lt-ltb n 10 h)

within-large : (f n : ℕ) → 10 ≤ n → decimal_within (suc f) n ≡ decimal_within f (n / 10) ++ (digit_char (n % 10) ∷ [])
unfolding decimal_within
within-large f n h = simp (le-ltb n 10 h)

-- any number of steps from n up is enough
within-enough : (f g n : ℕ) → n ≤ f → n ≤ g → decimal_within f n ≡ decimal_within g n
within-enough zero g n hf hg = within-small zero n (omega arith) ∙ sym (within-small g n (omega arith))
within-enough (suc f) zero n hf hg = within-small (suc f) n (omega arith) ∙ sym (within-small zero n (omega arith))
within-enough (suc f) (suc g) n hf hg = go (lt-or-le n 10) (within-enough f g (n / 10))
  where
    go : (n < 10) ⊎ (10 ≤ n) → (n / 10 ≤ f → n / 10 ≤ g → decimal_within f (n / 10) ≡ decimal_within g (n / 10))
        → decimal_within (suc f) n ≡ decimal_within (suc g) n
    go (inl h) ih = within-small (suc f) n h ∙ sym (within-small (suc g) n h)
    go (inr h) ih =
        within-large f n h
        ∙ ap (λ (l : List ℕ). l ++ (digit_char (n % 10) ∷ [])) (ih (omega arith) (omega arith))
        ∙ sym (within-large g n h)

-- a number below 10 is one digit
pub decimal-small : (n : ℕ) → n < 10 → decimal n ≡ digit_char n ∷ []
unfolding decimal
decimal-small n h = within-small n n h

-- any other number is its tenth part, and then the last digit
pub decimal-large : (n : ℕ) → 10 ≤ n → decimal n ≡ decimal (n / 10) ++ (digit_char (n % 10) ∷ [])
unfolding decimal
decimal-large zero h = let no : ⊥ = omega arith in absurd no
decimal-large (suc m) h =
    within-large m (suc m) h
    ∙ ap (λ (l : List ℕ). l ++ (digit_char (suc m % 10) ∷ [])) (within-enough m (suc m / 10) (suc m / 10) (omega arith) (omega arith))

-- one more digit
pub decimal-snoc : (v d : ℕ) → (v ≡ 0 → ⊥) → d < 10 → decimal (v * 10 + d) ≡ decimal v ++ (digit_char d ∷ [])
decimal-snoc v d nz h =
    decimal-large (v * 10 + d) (omega arith)
    ∙ ap (λ (q : ℕ). decimal q ++ (digit_char ((v * 10 + d) % 10) ∷ [])) (digits_div v h)
    ∙ ap (λ (r : ℕ). decimal v ++ (digit_char r ∷ [])) (digits_mod v h)

-- a number has a digit
pub decimal-some : (n : ℕ) → 1 ≤ length (decimal n)
decimal-some n = go (lt-or-le n 10)
  where
    go : (n < 10) ⊎ (10 ≤ n) → 1 ≤ length (decimal n)
    go (inl h) = omega (arith, ap length (decimal-small n h))
    go (inr h) = omega (arith, simp length-append at (ap length (decimal-large n h)))

-- No leading zeros: the first byte is `0` only where the number is 0.
first-zero : (f n : ℕ) → n ≤ f → get_or (decimal n) 0 0 ≡ digit_char 0 → n ≡ 0
first-zero zero n hf e = omega arith
first-zero (suc f) n hf e = go (lt-or-le n 10) (first-zero f (n / 10))
  where
    go : (n < 10) ⊎ (10 ≤ n) → (n / 10 ≤ f → get_or (decimal (n / 10)) 0 0 ≡ digit_char 0 → n / 10 ≡ 0) → n ≡ 0
    go (inl h) ih = omega (arith, sym (ap (λ (l : List ℕ). get_or l 0 0) (decimal-small n h)) ∙ e)
    go (inr h) ih =
        let same : get_or (decimal n) 0 0 ≡ get_or (decimal (n / 10)) 0 0 =
        ap (λ (l : List ℕ). get_or l 0 0) (decimal-large n h) ∙ get_or-append (decimal (n / 10)) (digit_char (n % 10) ∷ []) 0 0 (decimal-some (n / 10)) in
        omega (arith, ih (omega arith) (sym same ∙ e))

pub decimal-first : (n : ℕ) → get_or (decimal n) 0 0 ≡ digit_char 0 → n ≡ 0
decimal-first n e = first-zero n n (le_refl n) e

-- The digits are the number's: taken from the left, each number so far ten times and the next digit added, they give it back.
value-snoc : (v : ℕ) (s : List ℕ) (b : ℕ) → value_from v (s ++ (b ∷ [])) ≡ value_from v s * 10 + (b - 48)
unfolding value_from
value-snoc v [] b = refl
value-snoc v (x ∷ s) b = value-snoc (v * 10 + (x - 48)) s b

value-within : (f n : ℕ) → n ≤ f → value_from 0 (decimal n) ≡ n
unfolding value_from
value-within zero n hf = ap (value_from 0) (decimal-small n (omega arith)) ∙ omega arith
value-within (suc f) n hf = go (lt-or-le n 10) (value-within f (n / 10))
  where
    go : (n < 10) ⊎ (10 ≤ n) → (n / 10 ≤ f → value_from 0 (decimal (n / 10)) ≡ n / 10) → value_from 0 (decimal n) ≡ n
    go (inl h) ih = ap (value_from 0) (decimal-small n h) ∙ omega arith
    go (inr h) ih =
        ap (value_from 0) (decimal-large n h)
        ∙ value-snoc 0 (decimal (n / 10)) (digit_char (n % 10))
        ∙ omega (arith, ih (omega arith))

pub decimal-value : (n : ℕ) → value_from 0 (decimal n) ≡ n
decimal-value n = value-within n n (le_refl n)

-- a number below 10 to the k has at most k digits
pub decimal-within : (k n : ℕ) → n < 10 ^ suc k → length (decimal n) ≤ suc k
decimal-within zero n h = omega (arith, ap length (decimal-small n h))
decimal-within (suc k) n h = go (lt-or-le n 10) (decimal-within k (n / 10))
  where
    go : (n < 10) ⊎ (10 ≤ n) → (n / 10 < 10 ^ suc k → length (decimal (n / 10)) ≤ suc k) → length (decimal n) ≤ suc (suc k)
    go (inl small) ih = omega (arith, ap length (decimal-small n small))
    go (inr large) ih =
        let tenth : n / 10 < 10 ^ suc k = omega (arith, pow-suc 10 (suc k)) in
        omega (arith, ih tenth, simp length-append at (ap length (decimal-large n large)))

pow-pos : (k : ℕ) → 1 ≤ 10 ^ k
pow-pos zero = omega arith
pow-pos (suc k) = omega (arith, pow-suc 10 k, pow-pos k)

-- a number from 10 to the k on has more than k digits; so their number is found by powers of ten
decimal-above : (k n : ℕ) → 10 ^ k ≤ n → suc k ≤ length (decimal n)
decimal-above zero n h = decimal-some n
decimal-above (suc k) n h =
    let tenth : 10 ^ k ≤ n / 10 = omega (arith, pow-suc 10 k) in
    let large : 10 ≤ n = omega (arith, pow-suc 10 k, pow-pos k) in
    omega (arith, decimal-above k (n / 10) tenth, simp length-append at (ap length (decimal-large n large)))

pub decimal-length : (k n : ℕ) → 10 ^ k ≤ n → n < 10 * 10 ^ k → length (decimal n) ≡ k + 1
decimal-length k n low high = omega (arith, decimal-above k n low, decimal-within k n (omega (arith, pow-suc 10 k)))

-- the last digits of v, as many as the width says
pub digits : (width v : ℕ) → List ℕ
digits zero v = []
digits (suc width) v = digits width (v / 10) ++ (digit_char (v % 10) ∷ [])

pub digits-none : (i v : ℕ) → i ≡ 0 → digits i v ≡ []
unfolding digits
digits-none i v e = ap (λ (k : ℕ). digits k v) e

pub digits-more : (i j v : ℕ) → i ≡ j + 1 → digits i v ≡ digits j (v / 10) ++ (digit_char (v % 10) ∷ [])
unfolding digits
digits-more i j v e = ap (λ (k : ℕ). digits k v) (e ∙ add-one j)

pub length-digits : (i v : ℕ) → length (digits i v) ≡ i
unfolding digits
length-digits zero v = refl
length-digits (suc i) v = length-append (digits i (v / 10)) (digit_char (v % 10) ∷ []) ∙ omega (arith, length-digits i (v / 10))

one-digit : (n : ℕ) → n < 10 → digits (length (decimal n)) n ≡ decimal n
unfolding digits
one-digit n h =
    let same : n % 10 ≡ n = omega arith in
    ap (λ (l : List ℕ). digits (length l) n) (decimal-small n h) ∙ ap (λ (d : ℕ). digit_char d ∷ []) same ∙ sym (decimal-small n h)

-- all digits of a number
digits-within : (f n : ℕ) → n ≤ f → digits (length (decimal n)) n ≡ decimal n
digits-within zero n hf = one-digit n (omega arith)
digits-within (suc f) n hf = go (lt-or-le n 10) (digits-within f (n / 10))
  where
    go : (n < 10) ⊎ (10 ≤ n) → (n / 10 ≤ f → digits (length (decimal (n / 10))) (n / 10) ≡ decimal (n / 10)) → digits (length (decimal n)) n ≡ decimal n
    go (inl h) ih = one-digit n h
    go (inr h) ih =
        let longer : length (decimal n) ≡ length (decimal (n / 10)) + 1 = ap length (decimal-large n h) ∙ simp length-append in
        digits-more (length (decimal n)) (length (decimal (n / 10))) n longer
        ∙ ap (λ (l : List ℕ). l ++ (digit_char (n % 10) ∷ [])) (ih (omega arith))
        ∙ sym (decimal-large n h)

pub digits-all : (n : ℕ) → digits (length (decimal n)) n ≡ decimal n
digits-all n = digits-within n n (le_refl n)

-- the digit of a digit's character, and the character of a digit
pub digit-back : (d : ℕ) → d < 10 → digit_of (digit_char d) ≡ Some d
unfolding digit_of
digit-back d h =
    let lo : 48 ≤ 48 + d = omega arith in
    let hi : 48 + d ≤ 57 = omega arith in
    simp (le-leb 48 (48 + d) lo, le-leb (48 + d) 57 hi) (ap Some (omega arith))

pub digit-forth : (b d : ℕ) → digit_of b ≡ Some d → (d < 10) × (digit_char d ≡ b)
unfolding digit_of
digit-forth b d h = go (leb 48 b) (leb b 57) refl refl
  where
    go : (s t : Bool) → leb 48 b ≡ s → leb b 57 ≡ t → (d < 10) × (digit_char d ≡ b)
    go true true e f = let is : Some (b - 48) ≡ Some d = simp (e, f) at h in
        let d-is : b - 48 ≡ d = cc in
        (omega (arith, leb-true b 57 f), omega (arith, leb-true 48 b e))
    go true false e f = let no : None ≡ Some d = simp (e, f) at h in cc
    go false t e f = let no : None ≡ Some d = simp e at h in cc

-- what stands behind a number and the byte that ends it
pub after-number : (end : ℕ) (s : List ℕ) (at n : ℕ) (rest : List ℕ) → drop at s ≡ decimal n ++ (end ∷ rest) → drop (at + length (decimal n) + 1) s ≡ rest
after-number end s at n rest h =
    let place : at + length (decimal n) + 1 ≡ at + (length (decimal n) + 1) = omega arith in
    ap (λ (k : ℕ). drop k s) place
    ∙ sym (drop-drop (length (decimal n) + 1) at s)
    ∙ ap (drop (length (decimal n) + 1)) h
    ∙ drop-append-add (decimal n) (end ∷ rest) 1
