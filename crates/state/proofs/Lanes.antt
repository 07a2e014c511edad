-- States as twelve lanes and as bits: each gives the other back, and a step that reads only a state's own bits may go by either.
-- Assumes nothing.
use mathlib.Core.Path.{◌≡◌, refl, sym, ap, ◌∙◌}
use mathlib.Core.Bool.{Bool}
use mathlib.Core.List.{List, [], ◌∷◌}
use native.Mathlib.Nat.{mod-lt}
use native.Mathlib.Omega.{arith}
use lib.Dec.{lit<}
use lib.Seq.{drop-cons}
use Prim.Native.Nat.{ℕ, zero, suc, ◌+◌, ◌*◌, ◌^◌, ◌<◌}
use lib.ListN.{get_or, length, drop, drop_of_length-le}
use mir.Syntax.{w32}
use mir.Val.{Fits}
use Rattle.word.specs.Word.{bit}
use Rattle.word.specs.Lists.{tabulate}
use Rattle.word.proofs.Lists.{cons, Words}
use Rattle.word.proofs.Bit.{Is, is_word, is-own, is-more, word-is, bit-of_bits, of_bits-lt}
use Rattle.state.specs.State.{State, plane, shift, bits, lane, lanes, on}

-- twelve words are the lanes of their bits
pub lanes-are : (f : ℕ → ℕ → ℕ → Bool) {a b c d e g h i j k l m : ℕ}
    → Is 32 a (f 0 0) → Is 32 b (f 1 0) → Is 32 c (f 2 0) → Is 32 d (f 3 0)
    → Is 32 e (f 0 1) → Is 32 g (f 1 1) → Is 32 h (f 2 1) → Is 32 i (f 3 1)
    → Is 32 j (f 0 2) → Is 32 k (f 1 2) → Is 32 l (f 2 2) → Is 32 m (f 3 2)
    → a ∷ b ∷ c ∷ d ∷ e ∷ g ∷ h ∷ i ∷ j ∷ k ∷ l ∷ m ∷ [] ≡ lanes f
unfolding lanes
lanes-are f A B C D E G H I J K L M =
    cons (is_word A) (cons (is_word B) (cons (is_word C) (cons (is_word D)
    (cons (is_word E) (cons (is_word G) (cons (is_word H) (cons (is_word I)
    (cons (is_word J) (cons (is_word K) (cons (is_word L) (cons (is_word M) refl)))))))))))

-- twelve words made one after another, by their places
pub lanes-made : (A : State) (h : ℕ → ℕ) → ((x y : ℕ) → x < 4 → y < 3 → Is 32 (h (x + 4 * y)) (A x y)) → tabulate 12 h ≡ lanes A
unfolding tabulate
lanes-made A h o =
    lanes-are A (o 0 0 (lit< tt) (lit< tt)) (o 1 0 (lit< tt) (lit< tt)) (o 2 0 (lit< tt) (lit< tt)) (o 3 0 (lit< tt) (lit< tt))
    (o 0 1 (lit< tt) (lit< tt)) (o 1 1 (lit< tt) (lit< tt)) (o 2 1 (lit< tt) (lit< tt)) (o 3 1 (lit< tt) (lit< tt))
    (o 0 2 (lit< tt) (lit< tt)) (o 1 2 (lit< tt) (lit< tt)) (o 2 2 (lit< tt) (lit< tt)) (o 3 2 (lit< tt) (lit< tt))

-- what fits a lane
pub fits-of : {n : ℕ} → Fits w32 n → n < 2 ^ 32
fits-of h = h.fits

-- a list by its elements from i on
tab : ℕ → ℕ → List ℕ → List ℕ
tab zero i l = []
tab (suc k) i l = get_or l i 0 ∷ tab k (suc i) l

tab-is : (k i : ℕ) (l : List ℕ) → length l ≡ i + k → drop i l ≡ tab k i l
unfolding tab
tab-is zero i l h = drop_of_length-le l {i = i} (omega arith)
tab-is (suc k) i l h = drop-cons l i 0 (omega arith) ∙ ap (λ (t : List ℕ). get_or l i 0 ∷ t) (tab-is k (suc i) l (omega arith))

-- twelve elements, one by one
pub twelve : (l : List ℕ) → length l ≡ 12 →
    l ≡ get_or l 0 0 ∷ get_or l 1 0 ∷ get_or l 2 0 ∷ get_or l 3 0 ∷ get_or l 4 0 ∷ get_or l 5 0 ∷ get_or l 6 0 ∷ get_or l 7 0
    ∷ get_or l 8 0 ∷ get_or l 9 0 ∷ get_or l 10 0 ∷ get_or l 11 0 ∷ []
unfolding tab
twelve l h = tab-is 12 0 l h

-- two states with the same bits, where a state has bits
abbrev pub Agree : State → State → Type 0
Agree A B = (x y z : ℕ) → x < 4 → y < 3 → z < 32 → A x y z ≡ B x y z

-- and so the same lanes
pub lanes-ext : (A B : State) → Agree A B → lanes A ≡ lanes B
unfolding lanes
lanes-ext A B h =
    lanes-are B (o 0 0 (lit< tt) (lit< tt)) (o 1 0 (lit< tt) (lit< tt)) (o 2 0 (lit< tt) (lit< tt)) (o 3 0 (lit< tt) (lit< tt))
    (o 0 1 (lit< tt) (lit< tt)) (o 1 1 (lit< tt) (lit< tt)) (o 2 1 (lit< tt) (lit< tt)) (o 3 1 (lit< tt) (lit< tt))
    (o 0 2 (lit< tt) (lit< tt)) (o 1 2 (lit< tt) (lit< tt)) (o 2 2 (lit< tt) (lit< tt)) (o 3 2 (lit< tt) (lit< tt))
  where
    o : (x y : ℕ) → x < 4 → y < 3 → Is 32 (lane (A x y)) (B x y)
    o x y i j = is-more (word-is 32 (A x y)) (λ z k. h x y z i j k)

-- lanes keep a state's bits
pub bits-of-lanes : (A : State) → Agree (bits (lanes A)) A
unfolding lanes
bits-of-lanes A zero zero z i j k = bit-of_bits 32 (A 0 0) z k
bits-of-lanes A zero (suc zero) z i j k = bit-of_bits 32 (A 0 1) z k
bits-of-lanes A zero (suc (suc zero)) z i j k = bit-of_bits 32 (A 0 2) z k
bits-of-lanes A zero (suc (suc (suc y))) z i j k = absurd (omega arith)
bits-of-lanes A (suc zero) zero z i j k = bit-of_bits 32 (A 1 0) z k
bits-of-lanes A (suc zero) (suc zero) z i j k = bit-of_bits 32 (A 1 1) z k
bits-of-lanes A (suc zero) (suc (suc zero)) z i j k = bit-of_bits 32 (A 1 2) z k
bits-of-lanes A (suc zero) (suc (suc (suc y))) z i j k = absurd (omega arith)
bits-of-lanes A (suc (suc zero)) zero z i j k = bit-of_bits 32 (A 2 0) z k
bits-of-lanes A (suc (suc zero)) (suc zero) z i j k = bit-of_bits 32 (A 2 1) z k
bits-of-lanes A (suc (suc zero)) (suc (suc zero)) z i j k = bit-of_bits 32 (A 2 2) z k
bits-of-lanes A (suc (suc zero)) (suc (suc (suc y))) z i j k = absurd (omega arith)
bits-of-lanes A (suc (suc (suc zero))) zero z i j k = bit-of_bits 32 (A 3 0) z k
bits-of-lanes A (suc (suc (suc zero))) (suc zero) z i j k = bit-of_bits 32 (A 3 1) z k
bits-of-lanes A (suc (suc (suc zero))) (suc (suc zero)) z i j k = bit-of_bits 32 (A 3 2) z k
bits-of-lanes A (suc (suc (suc zero))) (suc (suc (suc y))) z i j k = absurd (omega arith)
bits-of-lanes A (suc (suc (suc (suc x)))) y z i j k = absurd (omega arith)

-- twelve words are the lanes of their own bits
pub lanes-of-bits : (l : List ℕ) → length l ≡ 12 → Words 32 l → lanes (bits l) ≡ l
lanes-of-bits l h w =
    sym (twelve l h
    ∙ lanes-are (bits l) (o 0) (o 1) (o 2) (o 3) (o 4) (o 5) (o 6) (o 7) (o 8) (o 9) (o 10) (o 11))
  where
    o : (i : ℕ) → Is 32 (get_or l i 0) (bit (get_or l i 0))
    o i = is-own (w i)

-- lanes are twelve words
pub lanes-length : (A : State) → length (lanes A) ≡ 12
unfolding lanes
lanes-length A = refl

all_words : (l : List ℕ) → Type 0
all_words [] = Unit {0}
all_words (x ∷ l) = (x < 2 ^ 32) × all_words l

all-at : (l : List ℕ) → all_words l → Words 32 l
unfolding all_words
all-at [] t i = lit< tt
all-at (x ∷ l) t zero = t.0
all-at (x ∷ l) t (suc i) = all-at l t.1 i

pub lanes-words : (A : State) → Words 32 (lanes A)
unfolding lanes all_words
lanes-words A =
    all-at (lanes A) (b 0 0, (b 1 0, (b 2 0, (b 3 0, (b 0 1, (b 1 1, (b 2 1, (b 3 1, (b 0 2, (b 1 2, (b 2 2, (b 3 2, tt))))))))))))
  where
    b : (x y : ℕ) → lane (A x y) < 2 ^ 32
    b x y = of_bits-lt 32 (A x y)

-- a step that looks only where a state has bits
abbrev pub Local : (State → State) → Type 0
Local F = (A B : State) → Agree A B → Agree (F A) (F B)

-- a shifted plane is one
pub shifted : (A B : State) → Agree A B → (y : ℕ) → y < 3 → (t v x z : ℕ) → shift t v (plane y A) x z ≡ shift t v (plane y B) x z
shifted A B h y j t v x z = h _ y _ (mod-lt _ (lit< tt)) j (mod-lt _ (lit< tt))

-- a step on lanes after others
pub next : (F : State → State) → Local F → (A : State) (l : List ℕ) → l ≡ lanes A → on F l ≡ lanes (F A)
next F f A l e = ap (on F) e ∙ lanes-ext (F (bits (lanes A))) (F A) (f (bits (lanes A)) A (bits-of-lanes A))
