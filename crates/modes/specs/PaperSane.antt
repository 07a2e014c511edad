-- Deck-SANE as 003 prints it (section 4, Algorithm 2, and Definition 4: F is Xoofff, t is 128 bits and ℓ 8 bits), over the deck function of
-- the whole history. The paper puts the newest string on the left of ◦; here it is the last of a list. The last lines of unwrap, the
-- comparison of T' with T, are not here: what an unwrap with another tag gives and leaves is document 01's matter. Shares nothing with the
-- modes but strings and the deck function, and nothing with Algorithm 3's file but the form of a result: the sum, the first t bits and the
-- tests of lengths are this file's own. Assumes nothing.
use Rattle.std.specs.Prelude.{Bool, true, false, not, ◌||◌, cond, List, [], ◌∷◌, ◌++◌, ℕ, ◌+◌, ◌*◌, ◌/◌, ltb, eqb, length, replicate}
use Rattle.std.specs.Int.Bits.{bit_xor}
use Rattle.deck.specs.Strings.{Str}
use Rattle.deck.specs.Deck.{deck}
use Rattle.modes.specs.Paper.{PaperResult}

-- F ≪ n: an output without its first n bytes
abbrev pub ◌≪◌ : (ℕ → ℕ) → ℕ → ℕ → ℕ
(f ≪ n) i = f (n + i)

infixl 7 ◌≪◌
-- X + F: bytes plus as much of an output as they are long, byte by byte, exclusive or
abbrev pub ◌⊻◌ : List ℕ → (ℕ → ℕ) → List ℕ
[] ⊻ f = []
(x ∷ xs) ⊻ f = bit_xor x (f 0) ∷ (xs ⊻ f ≪ 1)

infixl 6 ◌⊻◌
-- 0^t + F, where t is 128 bits: 16 bytes
abbrev pub first16 : (ℕ → ℕ) → List ℕ
first16 f = replicate 16 0 ⊻ f

-- offset: ℓ ⌈t / ℓ⌉, the smallest multiple of ℓ not smaller than t, in bytes: that many bits are a whole number of bytes
abbrev pub offset : ℕ
offset = 8 * ((128 + 7) / 8) / 8

-- |X| > 0
abbrev pub nonempty : List ℕ → Bool
nonempty X = ltb 0 (length X)

-- |X| = 0
abbrev pub empty : List ℕ → Bool
empty X = eqb (length X) 0

-- if b: history ← X‖bits ◦ history
abbrev pub gains : Bool → (X : List ℕ) (bits : List Bool) → List Str → List Str
gains b X bits h = cond b (h ++ record { bytes = X; frame = bits } ∷ []) h

-- Initialization, with the nonce N: e is 0, and the history is N
abbrev pub sane_opens : (N : List ℕ) → List Str
sane_opens N = record { bytes = N; frame = [] } ∷ []

module _ (key : List ℕ) where
  -- and the tag T that it returns
  abbrev pub sane_opening_tag : (N : List ℕ) → List ℕ
  sane_opening_tag N = first16 (deck key (sane_opens N))

  -- Wrap, of A and P
  unfoldable pub sane_wrap : List Str → Bool → (A P : List ℕ) → PaperResult
  sane_wrap h e A P =
      let C : List ℕ = P ⊻ deck key h ≪ offset in
      let h₁ : List Str = gains (nonempty A || empty P) A (false ∷ e ∷ []) h in
      let h₂ : List Str = gains (nonempty P) C (true ∷ e ∷ []) h₁ in
      record { history = h₂; toggle = not e; text = C; tag = first16 (deck key h₂) }

  -- Unwrap, of A, C and T
  unfoldable pub sane_unwrap : List Str → Bool → (A C T : List ℕ) → PaperResult
  sane_unwrap h e A C T =
      let P : List ℕ = C ⊻ deck key h ≪ offset in
      let h₁ : List Str = gains (nonempty A || empty C) A (false ∷ e ∷ []) h in
      let h₂ : List Str = gains (nonempty C) C (true ∷ e ∷ []) h₁ in
      record { history = h₂; toggle = not e; text = P; tag = first16 (deck key h₂) }
