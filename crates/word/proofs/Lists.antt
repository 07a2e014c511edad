-- Laws of runs of words, and of their sum: associative, commutative, and each run its own inverse. Assumes nothing.
use mathlib.Core.Path.{◌≡◌, refl, sym, ap, ap₂, ◌∙◌, subst}
use mathlib.Core.List.{List, [], ◌∷◌}
use Prim.Native.Nat.{ℕ, zero, suc, ◌+◌, ◌*◌, ◌/◌, ◌%◌, ◌^◌, ◌<◌, ◌≤◌}
use native.Mathlib.Omega.{arith}
use native.Mathlib.Decide.{dec_le}
use denote.Param.Members.{Mut}
use Rattle.std.specs.Iterator.{ActsAs}
use Rattle.std.specs.Array.{IsFromFnResultFrom, IsFromFnResult}
use lib.ListN.{length, get_or, set, replicate, length-set}
use lib.Seq.{get_or-set_same, get_or-set_other}
use lib.Bits.{bit_xor, xor_comm, xor_self, xor_zero_r, xor_step, xor_shr, differ}
use lib.Arith.{bin_ind}
use Rattle.word.specs.Lists.{tabulate, sum}

-- ---- a run by its elements

pub cons : {x y : ℕ} {l m : List ℕ} → x ≡ y → l ≡ m → x ∷ l ≡ y ∷ m
cons p q = ap₂ (λ (x : ℕ) (l : List ℕ). x ∷ l) p q

pub tabulate-length : (n : ℕ) (f : ℕ → ℕ) → length (tabulate n f) ≡ n
unfolding tabulate
tabulate-length zero f = refl
tabulate-length (suc n) f = ap suc (tabulate-length n (λ i. f (suc i)))

pub tabulate-at : (n : ℕ) (f : ℕ → ℕ) (i : ℕ) → i < n → get_or (tabulate n f) i 0 ≡ f i
unfolding tabulate
tabulate-at zero f i h = absurd (omega arith)
tabulate-at (suc n) f zero h = refl
tabulate-at (suc n) f (suc i) h = tabulate-at n (λ j. f (suc j)) i (omega arith)

pub tabulate-ext : (n : ℕ) (f g : ℕ → ℕ) → ((i : ℕ) → i < n → f i ≡ g i) → tabulate n f ≡ tabulate n g
unfolding tabulate
tabulate-ext zero f g h = refl
tabulate-ext (suc n) f g h = cons (h 0 (omega arith)) (tabulate-ext n (λ i. f (suc i)) (λ i. g (suc i)) (λ i l. h (suc i) (omega arith)))

-- a run with these elements
pub tabulate-is : (n : ℕ) (f : ℕ → ℕ) (l : List ℕ) → length l ≡ n → ((i : ℕ) → i < n → get_or l i 0 ≡ f i) → l ≡ tabulate n f
unfolding tabulate
tabulate-is zero f [] h e = refl
tabulate-is zero f (x ∷ l) h e = absurd (omega (arith, h))
tabulate-is (suc n) f [] h e = absurd (omega (arith, h))
tabulate-is (suc n) f (x ∷ l) h e = cons (e 0 (omega arith)) (tabulate-is n (λ i. f (suc i)) l (omega (arith, h)) (λ i k. e (suc i) (omega arith)))

-- ---- the digits of a sum
differ-lt : (x y : ℕ) → x < 2 → y < 2 → differ x y < 2
differ-lt zero y hx hy = hy
differ-lt (suc x) zero hx hy = hx
differ-lt (suc zero) (suc y) hx hy = omega arith
differ-lt (suc (suc x)) (suc y) hx hy = omega arith

low : (n b : ℕ) → bit_xor n b % 2 ≡ differ (n % 2) (b % 2)
low n b = omega (arith, xor_step n b, differ-lt (n % 2) (b % 2) (omega arith) (omega arith))

digits-assoc : (x y z : ℕ) → x < 2 → y < 2 → z < 2 → differ (differ x y) z ≡ differ x (differ y z)
digits-assoc zero y z hx hy hz = refl
digits-assoc (suc zero) zero z hx hy hz = refl
digits-assoc (suc zero) (suc zero) zero hx hy hz = refl
digits-assoc (suc zero) (suc zero) (suc zero) hx hy hz = refl
digits-assoc (suc zero) (suc zero) (suc (suc z)) hx hy hz = omega arith
digits-assoc (suc zero) (suc (suc y)) z hx hy hz = omega arith
digits-assoc (suc (suc x)) y z hx hy hz = omega arith

pub xor_assoc : (a b c : ℕ) → bit_xor (bit_xor a b) c ≡ bit_xor a (bit_xor b c)
xor_assoc a = bin_ind (λ (a : ℕ). (b c : ℕ) → bit_xor (bit_xor a b) c ≡ bit_xor a (bit_xor b c)) (λ b c. refl) step a
  where
    step : (n : ℕ) → ((b c : ℕ) → bit_xor (bit_xor (n / 2) b) c ≡ bit_xor (n / 2) (bit_xor b c)) → (b c : ℕ) → bit_xor (bit_xor n b) c ≡ bit_xor n (bit_xor b c)
    step n ih b c =
        xor_step (bit_xor n b) c
        ∙ ap₂ (λ (x y : ℕ). x * 2 + y)
        (ap (λ (x : ℕ). bit_xor x (c / 2)) (xor_shr n b 1) ∙ ih (b / 2) (c / 2) ∙ ap (λ (x : ℕ). bit_xor (n / 2) x) (sym (xor_shr b c 1)))
        (ap (λ (x : ℕ). differ x (c % 2)) (low n b) ∙ digits-assoc (n % 2) (b % 2) (c % 2) (omega arith) (omega arith) (omega arith)
        ∙ ap (differ (n % 2)) (sym (low b c)))
        ∙ sym (xor_step n (bit_xor b c))

pub xor-undone : (a b : ℕ) → bit_xor (bit_xor a b) b ≡ a
xor-undone a b = xor_assoc a b b ∙ ap (bit_xor a) (xor_self b) ∙ xor_zero_r a

-- ---- the sum of two runs

pub sum_comm : (s t : List ℕ) → sum s t ≡ sum t s
unfolding sum
sum_comm [] [] = refl
sum_comm [] (b ∷ t) = refl
sum_comm (a ∷ s) [] = refl
sum_comm (a ∷ s) (b ∷ t) = cons (xor_comm a b) (sum_comm s t)

pub sum-assoc : (s t u : List ℕ) → sum (sum s t) u ≡ sum s (sum t u)
unfolding sum
sum-assoc [] t u = refl
sum-assoc (a ∷ s) [] u = refl
sum-assoc (a ∷ s) (b ∷ t) [] = refl
sum-assoc (a ∷ s) (b ∷ t) (c ∷ u) = cons (xor_assoc a b c) (sum-assoc s t u)

-- a run added twice is gone
pub sum-undone : (s t : List ℕ) → length s ≤ length t → sum (sum s t) t ≡ s
unfolding sum
sum-undone [] t h = refl
sum-undone (a ∷ s) [] h = absurd (omega (arith, h))
sum-undone (a ∷ s) (b ∷ t) h = cons (xor-undone a b) (sum-undone s t (omega (arith, h)))

pub sum_self : (s : List ℕ) → sum s s ≡ replicate (length s) 0
unfolding sum
sum_self [] = refl
sum_self (a ∷ s) = cons (xor_self a) (sum_self s)

pub sum-zero : (s : List ℕ) → sum s (replicate (length s) 0) ≡ s
unfolding sum
sum-zero [] = refl
sum-zero (a ∷ s) = cons (xor_zero_r a) (sum-zero s)

-- a run that is added to as many zeros
pub zeros-sum : (n : ℕ) (f : ℕ → ℕ) → sum (replicate n 0) (tabulate n f) ≡ tabulate n f
zeros-sum n f =
    sum_comm (replicate n 0) (tabulate n f)
    ∙ ap (λ (m : ℕ). sum (tabulate n f) (replicate m 0)) (sym (tabulate-length n f)) ∙ sum-zero (tabulate n f)

pub sum-length : (s t : List ℕ) → length s ≤ length t → length (sum s t) ≡ length s
unfolding sum
sum-length [] t h = refl
sum-length (a ∷ s) [] h = absurd (omega (arith, h))
sum-length (a ∷ s) (b ∷ t) h = ap suc (sum-length s t (omega (arith, h)))

-- the sum at a place
pub sum-at : (s t : List ℕ) (i : ℕ) → i < length s → i < length t → get_or (sum s t) i 0 ≡ bit_xor (get_or s i 0) (get_or t i 0)
unfolding sum
sum-at [] t i h g = absurd (omega (arith, h))
sum-at (a ∷ s) [] i h g = absurd (omega (arith, g))
sum-at (a ∷ s) (b ∷ t) zero h g = refl
sum-at (a ∷ s) (b ∷ t) (suc i) h g = sum-at s t i (omega (arith, h)) (omega (arith, g))

-- the sum of two runs of n, by its elements
pub sum-is : (n : ℕ) (s t : List ℕ) → length s ≡ n → length t ≡ n → tabulate n (λ i. bit_xor (get_or s i 0) (get_or t i 0)) ≡ sum s t
sum-is n s t hs ht =
    sym (tabulate-is n _ (sum s t) (sum-length s t (omega (arith, hs, ht)) ∙ hs) (λ i l. sum-at s t i (omega (arith, hs)) (omega (arith, ht))))

-- every element is a word of w bits
abbrev pub Words : ℕ → List ℕ → Type 0
Words w l = (i : ℕ) → get_or l i 0 < 2 ^ w

-- ---- a loop that fills a run from its start: the elements below n are f's
abbrev pub Filled : (ℕ → ℕ) → List ℕ → ℕ → Type 0
Filled f l n = (k : ℕ) → k < n → get_or l k 0 ≡ f k

-- one more store
pub filled_more : (f : ℕ → ℕ) (l : List ℕ) (n v : ℕ) → n < length l → v ≡ f n → Filled f l n → Filled f (set l n v) (n + 1)
filled_more f l n v h e d k g = go (dec_le n k)
  where
    go : Dec (n ≤ k) → get_or (set l n v) k 0 ≡ f k
    go (yes p) = let q : k ≡ n = omega arith in ap (λ (m : ℕ). get_or (set l n v) m 0) q ∙ get_or-set_same l n v 0 h ∙ e ∙ ap f (sym q)
    go (no p) = get_or-set_other l n k v 0 (λ q. omega (arith, q, p)) ∙ d k (omega (arith, p))

-- ---- a loop that adds a run to another from their starts: the elements below k have their sums, and the others stand as they did
pub record Summed (o s : List ℕ) (k : ℕ) (w : List ℕ) : Type 0 where
  pub size : length w ≡ length o
  pub sums : Filled (λ i. bit_xor (get_or o i 0) (get_or s i 0)) w k
  pub rest : (i : ℕ) → k ≤ i → get_or w i 0 ≡ get_or o i 0

pub summed-none : (o s : List ℕ) → Summed o s 0 o
summed-none o s = record { size = refl; sums = λ i l. absurd (omega arith); rest = λ i l. refl }

pub summed-more : (o s : List ℕ) (k m : ℕ) (w : List ℕ) {v : ℕ} → k < length o → m ≡ k + 1 → v ≡ bit_xor (get_or o k 0) (get_or s k 0) → Summed o s k w → Summed o s m (set w k v)
summed-more o s k m w {v} h n e d =
    let l : length w ≡ length o = d.size in
    record {
      size = length-set w k v ∙ l;
      sums = subst (Filled (λ i. bit_xor (get_or o i 0) (get_or s i 0)) (set w k v)) (sym n) (filled_more (λ i. bit_xor (get_or o i 0) (get_or s i 0)) w k v (omega arith) e d.sums);
      rest = λ i g. get_or-set_other w k i v 0 (λ q. omega (arith, q)) ∙ d.rest i (omega arith);
    }

pub summed-all : (o s : List ℕ) (k : ℕ) (w : List ℕ) → length o ≤ k → length s ≡ length o → Summed o s k w → w ≡ sum o s
summed-all o s k w e h d = tabulate-is (length o) _ w d.size (λ i l. d.sums i (omega arith)) ∙ sum-is (length o) o s refl h

-- ---- a run that a closure made, element by element: of the number of each place it gives h's, and it stays as it was
made-from : {F : Type 0} (g : Mut F (ℕ × Unit {0}) ℕ) (f : F) (h : ℕ → ℕ) → ActsAs g f h
    → (ys : List ℕ) (n i : ℕ) → IsFromFnResultFrom g f ys i n → (k : ℕ) → i ≤ k → k < i + n → get_or ys k 0 ≡ h k
made-from g f h w ys zero i e k a b = absurd (omega arith)
made-from {F} g f h w ys (suc n) i (q, y, s, c, t) k a b = go (dec_le (i + 1) k)
    (λ p. made-from g f h w ys n (i + 1) (subst (λ (r : F). IsFromFnResultFrom g r ys (i + 1) n) (w i y q c).0 t) k p (omega arith))
  where
    go : Dec (i + 1 ≤ k) → (i + 1 ≤ k → get_or ys k 0 ≡ h k) → get_or ys k 0 ≡ h k
    go (yes p) m = m p
    go (no p) m = let r : k ≡ i = omega (arith, p) in ap (λ (j : ℕ). get_or ys j 0) r ∙ s.1 0 ∙ (w i y q c).1 ∙ ap h (sym r)

pub made : {F : Type 0} {g : Mut F (ℕ × Unit {0}) ℕ} {f : F} {ys : List ℕ} {n : ℕ} → IsFromFnResult g f ys n → (h : ℕ → ℕ) → ActsAs g f h
    → ys ≡ tabulate n h
made {g} {f} {ys} {n} r h w = tabulate-is n h ys r.long (λ k l. made-from g f h w ys n 0 r.each k (omega arith) (omega arith))
