-- What the loops over buffers hold, over plain values. Assumes nothing.
use mathlib.Core.Path.{◌≡◌, refl, sym, ap, ◌∙◌}
use mathlib.Core.Bool.{Bool, true, false, ◌&&◌, cond}
use mathlib.Core.Logic.{◌≢◌}
use mathlib.Core.List.{List, [], ◌∷◌, ◌++◌}
use Prim.Native.Nat.{ℕ, zero, suc, ◌+◌, ◌<◌}
use native.Mathlib.Numerals.{add-one}
use native.Mathlib.Omega.{arith}
use lib.Bits.{bit_or, bit_xor, or_zero_l, or_add_and, and_le_r, xor_zero_l, xor_self}
use lib.Dec.{eqb}
use lib.ListN.{length, get_or, take, drop, set, replicate, length-replicate}
use lib.Seq.{length-take-le, take-length, take-suc, drop-cons, append_snoc, set_at, take_at}
use borrow.Author.Tests.{eq-eqb, ne_eqb, eqb-true, eqb-false}
use Rattle.std.specs.List.{fold, zip}
use Rattle.word.specs.Lists.{sum}
use Rattle.word.proofs.Lists.{tabulate-length, zeros-sum, sum-length, xor-undone}
use Rattle.deck.specs.Deck.{run}
use Rattle.modes.specs.Mode.{is_empty}
use Rattle.modes.specs.Rules.{written, same_bytes}

-- ---- a run that is copied to the start of a buffer

-- one more byte
pub front-more : (t d : List ℕ) (i : ℕ) → i < length t → i < length d → set (take i t ++ drop i d) i (get_or t i 0) ≡ take (i + 1) t ++ drop (i + 1) d
front-more t d i h g =
    ap (λ (l : List ℕ). set (take i t ++ l) i (get_or t i 0)) (drop-cons d i 0 g)
    ∙ set_at (take i t) (get_or d i 0) (drop (suc i) d) (get_or t i 0) i (length-take-le i t (omega arith))
    ∙ sym (append_snoc (take i t) (get_or t i 0) (drop (suc i) d))
    ∙ ap (λ (l : List ℕ). l ++ drop (suc i) d) (sym (take-suc t i 0 h))
    ∙ ap (λ (n : ℕ). take n t ++ drop n d) (sym (add-one i))

-- the whole of it
pub front-all : (t d : List ℕ) (i : ℕ) → i ≡ length t → take i t ++ drop i d ≡ written t d
front-all t d i e = ap (λ (n : ℕ). take n t ++ drop n d) e ∙ ap (λ (l : List ℕ). l ++ drop (length t) d) (take-length t)

-- ---- output that is added

-- to zeros that fill a buffer
pub tag-filled : (f : ℕ → ℕ) (t t₁ t₂ : List ℕ) → t₁ ≡ replicate (length t) 0 → t₂ ≡ sum t₁ (run f 0 (length t₁)) → t₂ ≡ run f 0 (length t)
tag-filled f t t₁ t₂ e g =
    g
    ∙ ap (λ (l : List ℕ). sum l (run f 0 (length l))) e
    ∙ ap (λ (n : ℕ). sum (replicate (length t) 0) (run f 0 n)) (length-replicate (length t) 0)
    ∙ zeros-sum (length t) _

-- output that is added to a text takes nothing from its length
pub added-length : (f : ℕ → ℕ) (i : ℕ) (text : List ℕ) → length (sum text (run f i (length text))) ≡ length text
added-length f i text = sum-length text (run f i (length text)) (omega (arith, tabulate-length (length text) (λ j. f (i + j))))

-- the sum stands at the start of the buffer that it was written to
pub added-taken : (f : ℕ → ℕ) (i : ℕ) (text d d₁ : List ℕ) → d₁ ≡ written (sum text (run f i (length text))) d
    → take (length text) d₁ ≡ sum text (run f i (length text))
added-taken f i text d d₁ e = ap (take (length text)) e ∙ take_at (sum text (run f i (length text))) _ (length text) (added-length f i text)

-- nothing is added to an empty text
pub none-added : (f : ℕ → ℕ) (i : ℕ) (text d : List ℕ) → length text ≡ 0 → d ≡ written (sum text (run f i (length text))) d
unfolding sum
none-added f i [] d h = refl
none-added f i (y ∷ text) d h = absurd (omega (arith, h))

-- the cost of one that is not empty
pub some-counted : (n c : ℕ) (text : List ℕ) → length text ≢ 0 → c ≡ n → c ≡ cond (is_empty text) 0 n
some-counted n c [] h e = absurd (h refl)
some-counted n c (y ∷ text) h e = e

-- ---- equal runs

or-none : (a b : ℕ) → eqb (bit_or a b) 0 ≡ (eqb a 0 && eqb b 0)
or-none zero b = ap (λ (n : ℕ). eqb n 0) (or_zero_l b)
or-none (suc a) b =
    ne_eqb (bit_or (suc a) b) 0 (λ e. omega (arith, or_add_and (suc a) b, and_le_r (suc a) b, e))
    ∙ ap (λ (t : Bool). t && eqb b 0) (sym (ne_eqb (suc a) 0 (λ e. omega arith)))

xor-none : (a b : ℕ) → eqb (bit_xor a b) 0 ≡ eqb a b
xor-none a b = go (eqb a b) refl
  where
    go : (t : Bool) → eqb a b ≡ t → eqb (bit_xor a b) 0 ≡ t
    go true h = eq-eqb (bit_xor a b) 0 (ap (λ (n : ℕ). bit_xor n b) (eqb-true a b h) ∙ xor_self b)
    go false h = ne_eqb (bit_xor a b) 0 (λ e. eqb-false a b h (sym (xor-undone a b) ∙ ap (λ (n : ℕ). bit_xor n b) e ∙ xor_zero_l b))

and-true : (t : Bool) → (t && true) ≡ t
and-true true = refl
and-true false = refl

and_assoc : (s t u : Bool) → (s && (t && u)) ≡ ((s && t) && u)
and_assoc true t u = refl
and_assoc false t u = refl

-- bytes that are taken two and two: d is 0 where all before them were equal
pub same-if-none : (s t : List ℕ) (d : ℕ) → length s ≡ length t → eqb (fold (λ (e : ℕ) (p : ℕ × ℕ). bit_or e (bit_xor p.0 p.1)) d (zip s t)) 0 ≡ (eqb d 0 && same_bytes s t)
same-if-none [] [] d h = sym (and-true (eqb d 0))
same-if-none [] (y ∷ t) d h = absurd (omega (arith, h))
same-if-none (x ∷ s) [] d h = absurd (omega (arith, h))
same-if-none (x ∷ s) (y ∷ t) d h =
    same-if-none s t (bit_or d (bit_xor x y)) (omega (arith, h))
    ∙ ap (λ (u : Bool). u && same_bytes s t) (or-none d (bit_xor x y) ∙ ap (λ (u : Bool). eqb d 0 && u) (xor-none x y))
    ∙ sym (and_assoc (eqb d 0) (eqb x y) (same_bytes s t))
