-- Deck-SANSE as 003 prints it (section 5, Algorithm 3, and Definition 5: F is Xoofff, t is 256 bits), over the deck function of the whole
-- history. The paper puts the newest string on the left of ◦; here it is the last of a list. The last lines of unwrap, the comparison of T'
-- with T, are not here: what an unwrap with another tag gives and leaves is document 01's matter. Shares nothing with the modes but strings
-- and the deck function: the sum, the first t bits and the tests of lengths are this file's own. Assumes nothing.
use Rattle.std.specs.Prelude.{Bool, true, false, not, ◌||◌, cond, List, [], ◌∷◌, ◌++◌, ℕ, suc, ltb, eqb, length, replicate}
use Rattle.std.specs.Int.Bits.{bit_xor}
use Rattle.deck.specs.Strings.{Str}
use Rattle.deck.specs.Deck.{deck}

-- bytes plus as much of an output as they are long, the output from byte i on: byte by byte, exclusive or
abbrev pub plus_from : ℕ → List ℕ → (ℕ → ℕ) → List ℕ
plus_from i [] f = []
plus_from i (x ∷ xs) f = bit_xor x (f i) ∷ plus_from (suc i) xs f

-- X + F
abbrev pub ◌⊞◌ : List ℕ → (ℕ → ℕ) → List ℕ
x ⊞ f = plus_from 0 x f

infixl 6 ◌⊞◌
-- 0^t + F, where t is 256 bits: 32 bytes
abbrev pub first32 : (ℕ → ℕ) → List ℕ
first32 f = replicate 32 0 ⊞ f

-- X‖bits ◦ history
abbrev pub newest : List Str → (x : List ℕ) → (bits : List Bool) → List Str
newest h x bits = h ++ record { bytes = x; frame = bits } ∷ []

-- |X| > 0
abbrev pub some : List ℕ → Bool
some x = ltb 0 (length x)

-- |X| = 0
abbrev pub none : List ℕ → Bool
none x = eqb (length x) 0

-- where the algorithm arrives: the history and e after it, C of wrap or P of unwrap, and T of wrap or T' of unwrap
pub record PaperResult : Type 0 where
  pub history : List Str
  pub toggle : Bool
  pub text : List ℕ
  pub tag : List ℕ

-- Initialization: e is 0, and the history has no string
abbrev pub sanse_opens : List Str
sanse_opens = []

-- if |A| > 0 or |X| = 0: history ← A‖0‖e ◦ history
abbrev pub after_a : List Str → Bool → (A X : List ℕ) → List Str
after_a h e A X = cond (some A || none X) (newest h A (false ∷ e ∷ [])) h

module _ (key : List ℕ) where
  -- Wrap, of A and P
  unfoldable pub sanse_wrap : List Str → Bool → (A P : List ℕ) → PaperResult
  sanse_wrap h e A P =
      let h₁ : List Str = after_a h e A P in
      cond (some P)
      (let T : List ℕ = first32 (deck key (newest h₁ P (false ∷ true ∷ e ∷ []))) in
      record {
        history = newest h₁ P (false ∷ true ∷ e ∷ []);
        toggle = not e;
        text = P ⊞ deck key (newest h₁ T (true ∷ true ∷ e ∷ []));
        tag = T;
      })
      (record { history = h₁; toggle = not e; text = []; tag = first32 (deck key h₁) })

  -- Unwrap, of A, C and T
  unfoldable pub sanse_unwrap : List Str → Bool → (A C T : List ℕ) → PaperResult
  sanse_unwrap h e A C T =
      let h₁ : List Str = after_a h e A C in
      cond (some C)
      (let P : List ℕ = C ⊞ deck key (newest h₁ T (true ∷ true ∷ e ∷ [])) in
      let h₂ : List Str = newest h₁ P (false ∷ true ∷ e ∷ []) in
      record { history = h₂; toggle = not e; text = P; tag = first32 (deck key h₂) })
      (record { history = h₁; toggle = not e; text = []; tag = first32 (deck key h₁) })
