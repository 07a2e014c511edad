-- A letter tells its size, and each byte from 65 to 72 is the letter of one. Assumes nothing.
use Rattle.std.specs.Prelude.{Result, Ok, Err, Option, Some, None}
use Rattle.std.specs.Result.{result_ok}
use Rattle.std.proofs.Common.{ℕ, ◌≡◌, ◌≤◌, ◌<◌, ◌⊎◌, inl, inr, refl, ap, sym, ◌∙◌, Bool, true, false, ltb, subst, arith}
use Rattle.sizes.specs.declared.Size.{Size}
use Rattle.sizes.specs.declared.Size.TheVariants.{A, B, C, D, E, F, G, H}
use Rattle.sizes.specs.declared.NoSize.{NoSize}
use Rattle.sizes.specs.Sizes.{letter_of, Reads, size_of, SizeExactly}
use borrow.Author.Tests.{ltb-true, ltb-false}

pub size_of-letter : (size : Size) → size_of (letter_of size) ≡ Some size
unfolding size_of
size_of-letter A = refl
size_of-letter B = refl
size_of-letter C = refl
size_of-letter D = refl
size_of-letter E = refl
size_of-letter F = refl
size_of-letter G = refl
size_of-letter H = refl

-- two sizes with one letter are one
pub letter-tells : (s t : Size) → letter_of s ≡ letter_of t → s ≡ t
letter-tells s t h = let e = sym (size_of-letter s) ∙ (ap size_of h ∙ size_of-letter t) in cc

-- a letter is a byte from 65 to 72
pub letter-within : (size : Size) → (65 ≤ letter_of size) × (letter_of size ≤ 72)
letter-within A = (omega arith, omega arith)
letter-within B = (omega arith, omega arith)
letter-within C = (omega arith, omega arith)
letter-within D = (omega arith, omega arith)
letter-within E = (omega arith, omega arith)
letter-within F = (omega arith, omega arith)
letter-within G = (omega arith, omega arith)
letter-within H = (omega arith, omega arith)

-- the size that is computed is the one with that letter, and there is none only outside 65 to 72
computed : (byte : ℕ) (size : Size) → size_of byte ≡ Some size → letter_of size ≡ byte
unfolding size_of
computed byte size h = grind arith

inside : (byte : ℕ) → 65 ≤ byte → byte ≤ 72 → size_of byte ≡ None → ⊥
unfolding size_of
inside byte from to h = grind arith

outside : (byte : ℕ) → (byte < 65) ⊎ (72 < byte) → size_of byte ≡ None
unfolding size_of
outside byte (inl h) = grind arith
outside byte (inr h) = grind arith

pub size-exactly : (byte : ℕ) → SizeExactly byte
size-exactly byte =
    record {
      one = λ size. (computed byte size, λ h. subst (λ (n : ℕ). size_of n ≡ Some size) h (size_of-letter size));
      none = (none (ltb byte 65) (ltb 72 byte) refl refl, outside byte);
    }
  where
    none : (s t : Bool) → ltb byte 65 ≡ s → ltb 72 byte ≡ t → size_of byte ≡ None → (byte < 65) ⊎ (72 < byte)
    none true t p q h = inl (ltb-true byte 65 p)
    none false true p q h = inr (ltb-true 72 byte q)
    none false false p q h = absurd (inside byte (ltb-false byte 65 p) (ltb-false 72 byte q) h)

-- what was read of a byte is what is computed
pub read : (byte : ℕ) (r : Result Size NoSize) → Reads byte r → result_ok r ≡ size_of byte
read byte (Ok size) h = sym (((size-exactly byte).one size).1 h)
read byte (Err e) h = go (size_of byte) refl
  where
    go : (o : Option Size) → size_of byte ≡ o → None ≡ size_of byte
    go (Some size) p = absurd (h.1 size (((size-exactly byte).one size).0 p))
    go None p = sym p
