-- Farfalle-SAE as 001 prints it (section 4.1, Algorithm 2), with Xoofff as F, t 128 bits and ℓ 8 bits (document 02, request 9), over the deck function of
-- the whole history. The paper puts the newest string on the left of ◦; here it is the last of a list. 001 has no e. The notation, which is
-- that of Algorithm 2 of 003 with the same t and ℓ, is that of `PaperSane`: X + F (`⊻`), F ≪ n, 0^t + F (`first16`), the offset, the tests of
-- lengths, and `history ← X‖bits ◦ history` under a test (`gains`). Assumes nothing.
use Rattle.std.specs.Prelude.{true, false, ◌||◌, cond, List, [], ◌∷◌, ℕ, eqb}
use Rattle.deck.specs.Strings.{Str}
use Rattle.deck.specs.Deck.{deck}
use Rattle.modes.specs.PaperSane.{◌≪◌, ◌⊻◌, first16, offset, nonempty, empty, gains}

-- Initialization, with the nonce N: the history is N
abbrev pub sae_opens : (N : List ℕ) → List Str
sae_opens N = record { bytes = N; frame = [] } ∷ []

-- what Wrap and Unwrap arrive at: the history after them; C for Wrap and P for Unwrap; and T for Wrap, T' for Unwrap
pub record SaeResult : Type 0 where
  pub history : List Str
  pub text : List ℕ
  pub tag : List ℕ

-- what Unwrap returns: P, or an error
pub data Returns : Type 0 where
  plaintext : (P : List ℕ) → Returns
  error : Returns

-- if T' = T then r else s
abbrev pub equal : (T' T : List ℕ) (r s : Returns) → Returns
equal [] [] r s = r
equal [] (y ∷ T) r s = s
equal (x ∷ T') [] r s = s
equal (x ∷ T') (y ∷ T) r s = cond (eqb x y) (equal T' T r s) s

module _ (key : List ℕ) where
  -- the tag T that Initialization returns
  abbrev pub sae_opening_tag : (N : List ℕ) → List ℕ
  sae_opening_tag N = first16 (deck key (sae_opens N))

  -- Wrap, of A and P
  unfoldable pub sae_wrap : List Str → (A P : List ℕ) → SaeResult
  sae_wrap h A P =
      let C : List ℕ = P ⊻ deck key h ≪ offset in
      let h₁ : List Str = gains (nonempty A || empty P) A (false ∷ []) h in
      let h₂ : List Str = gains (nonempty P) C (true ∷ []) h₁ in
      record { history = h₂; text = C; tag = first16 (deck key h₂) }

  -- Unwrap, of A and C, up to its last lines
  unfoldable pub sae_unwrap : List Str → (A C : List ℕ) → SaeResult
  sae_unwrap h A C =
      let P : List ℕ = C ⊻ deck key h ≪ offset in
      let h₁ : List Str = gains (nonempty A || empty C) A (false ∷ []) h in
      let h₂ : List Str = gains (nonempty C) C (true ∷ []) h₁ in
      record { history = h₂; text = P; tag = first16 (deck key h₂) }

  -- its last lines: if T' = T then return P, else return an error. What becomes of the history then is document 01's matter
  abbrev pub sae_returns : List Str → (A C T : List ℕ) → Returns
  sae_returns h A C T = equal (sae_unwrap h A C).tag T (plaintext (sae_unwrap h A C).text) error
