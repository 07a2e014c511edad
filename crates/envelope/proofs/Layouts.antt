-- Laws of the layout: how long a header is, and how it continues. Assumes nothing.
use Prim.Native.Nat.{ℕ, ◌+◌, ◌≤◌}
use mathlib.Core.Path.{◌≡◌, refl, ap}
use mathlib.Core.Logic.{◌↔◌, ◌⊎◌, inl, inr}
use mathlib.Core.Bool.{Bool, true, false}
use mathlib.Core.List.{List, [], ◌∷◌, ◌++◌, append_assoc}
use native.Mathlib.Omega.{arith}
use lib.ListN.{length, length-append}
use lib.Dec.{eqb}
use borrow.Author.Tests.{eqb-true}
use Rattle.decimal.specs.Decimal.{decimal, decimal_within}
use Rattle.decimal.proofs.Laws.{decimal-within}
use Rattle.envelope.specs.Layout.{letter_s, letter_n, letter_f, comma, tag_length, Known, field, header, envelope, InRange}

pub field-length : (n : ℕ) → length (field n) ≡ length (decimal n) + 1
unfolding field
field-length n = length-append (decimal n) (comma ∷ [])

pub header-length : (letter group alen mlen : ℕ)
    → length (header letter group alen mlen) ≡ 5 + length (decimal group) + length (decimal alen) + length (decimal mlen)
unfolding header
header-length letter group alen mlen =
    simp (length-append, field-length) (omega arith)

-- The longest header has 17 bytes.
pub header-longest : {letter group alen mlen : ℕ} → InRange letter group alen mlen → length (header letter group alen mlen) ≤ 17
header-longest {letter} {group} {alen} {mlen} h =
    omega (arith, header-length letter group alen mlen, decimal-within 1 group (omega arith), decimal-within 4 alen (omega arith), decimal-within 4 mlen (omega arith))

-- There is one of 17 for every letter, as `S,31,16384,16384,`.
pub header-of-17 : (letter : ℕ) → length (header letter 31 16384 16384) ≡ 17
unfolding decimal decimal_within
header-of-17 letter = header-length letter 31 16384 16384

-- a header and what follows it, number by number
pub header-then : (letter group alen mlen : ℕ) (rest : List ℕ)
    → header letter group alen mlen ++ rest ≡ letter ∷ comma ∷ (decimal group ++ (comma ∷ (decimal alen ++ (comma ∷ (decimal mlen ++ (comma ∷ rest))))))
unfolding header field
header-then letter group alen mlen rest = simp append_assoc

-- a tag of S has 32 bytes, one of N or F 16
pub tag-of-S : tag_length letter_s ≡ 32
unfolding tag_length
tag-of-S = refl

pub tag-of-N : tag_length letter_n ≡ 16
unfolding tag_length
tag-of-N = refl

pub tag-of-F : tag_length letter_f ≡ 16
unfolding tag_length
tag-of-F = refl

-- so all three are letters of an envelope
pub known-S : Known letter_s
known-S z = omega (arith, tag-of-S)

pub known-N : Known letter_n
known-N z = omega (arith, tag-of-N)

pub known-F : Known letter_f
known-F z = omega (arith, tag-of-F)

-- a byte is S, or N, or F, or has no tag
abbrev LetterCases : ℕ → Type 0
LetterCases letter = (letter ≡ letter_s) ⊎ ((letter ≡ letter_n) ⊎ ((letter ≡ letter_f) ⊎ (tag_length letter ≡ 0)))

letter-cases : (letter : ℕ) → LetterCases letter
unfolding tag_length
letter-cases letter = go (eqb letter letter_s) (eqb letter letter_n) (eqb letter letter_f) refl refl refl
  where
    go : (s n f : Bool) → eqb letter letter_s ≡ s → eqb letter letter_n ≡ n → eqb letter letter_f ≡ f → LetterCases letter
    go true n f e₁ e₂ e₃ = inl (eqb-true letter letter_s e₁)
    go false true f e₁ e₂ e₃ = inr (inl (eqb-true letter letter_n e₂))
    go false false true e₁ e₂ e₃ = inr (inr (inl (eqb-true letter letter_f e₃)))
    go false false false e₁ e₂ e₃ = inr (inr (inr (simp (e₁, e₂, e₃))))

-- The letters are S, N and F: a byte is unknown exactly where it is none of them.
pub unknown-letter : (letter : ℕ)
    → (tag_length letter ≡ 0) ↔ ((letter ≡ letter_s → ⊥) × (letter ≡ letter_n → ⊥) × (letter ≡ letter_f → ⊥))
unknown-letter letter = (
  (λ z. (λ e. omega (arith, tag-of-S, ap tag_length e), λ e. omega (arith, tag-of-N, ap tag_length e), λ e. omega (arith, tag-of-F, ap tag_length e))),
  (λ none. go none (letter-cases letter)),
)
  where
    go : ((letter ≡ letter_s → ⊥) × (letter ≡ letter_n → ⊥) × (letter ≡ letter_f → ⊥)) → LetterCases letter → tag_length letter ≡ 0
    go none (inl e) = absurd (none.0 e)
    go none (inr (inl e)) = absurd (none.1 e)
    go none (inr (inr (inl e))) = absurd (none.2 e)
    go none (inr (inr (inr z))) = z

-- no letter has a tag of more than 32 bytes
pub tag-bound : (letter : ℕ) → tag_length letter ≤ 32
tag-bound letter = go (letter-cases letter)
  where
    go : LetterCases letter → tag_length letter ≤ 32
    go (inl e) = omega (arith, tag-of-S, ap tag_length e)
    go (inr (inl e)) = omega (arith, tag-of-N, ap tag_length e)
    go (inr (inr (inl e))) = omega (arith, tag-of-F, ap tag_length e)
    go (inr (inr (inr z))) = omega arith

pub envelope-length : (letter group : ℕ) (metadata cryptogram tag : List ℕ)
    → length (envelope letter group metadata cryptogram tag) ≡ length (header letter group (length metadata) (length cryptogram)) + length metadata + length cryptogram + length tag
unfolding envelope
envelope-length letter group metadata cryptogram tag =
    simp length-append (omega arith)
