-- The letters of the ring sizes: document 02, request 6. Assumes nothing.
use Rattle.std.specs.Prelude.{ℕ, ◌<◌, ◌≡◌, ◌↔◌, ◌⊎◌, Option, Some, None, Result, MatchResult, cond, eqb}
use Rattle.sizes.specs.declared.Size.{Size}
use Rattle.sizes.specs.declared.Size.TheVariants.{A, B, C, D, E, F, G, H}
use Rattle.sizes.specs.declared.NoSize.{NoSize}

-- the letter of a size: the bytes `A` to `H`
abbrev pub letter_of : Size → ℕ
letter_of A = 65
letter_of B = 66
letter_of C = 67
letter_of D = 68
letter_of E = 69
letter_of F = 70
letter_of G = 71
letter_of H = 72

-- the size that a byte is the letter of, or an error with the byte, where it is the letter of none
abbrev pub Reads : (byte : ℕ) → Result Size NoSize → Type 0
Reads byte r = MatchResult r (λ size. letter_of size ≡ byte) (λ e. (e.0 ≡ byte) × ((size : Size) → letter_of size ≡ byte → ⊥))

-- the size with a letter, computed
unfoldable pub size_of : (letter : ℕ) → Option Size
size_of n =
    cond (eqb n 65) (Some A)
    (cond (eqb n 66) (Some B)
    (cond (eqb n 67) (Some C)
    (cond (eqb n 68) (Some D)
    (cond (eqb n 69) (Some E) (cond (eqb n 70) (Some F) (cond (eqb n 71) (Some G) (cond (eqb n 72) (Some H) None)))))))

-- What is claimed of a byte: the size that is computed is the one with that letter and there is no other, and none only outside 65 to 72.
pub record SizeExactly (byte : ℕ) : Type 0 where
  pub one : (size : Size) → (size_of byte ≡ Some size) ↔ (letter_of size ≡ byte)
  pub none : (size_of byte ≡ None) ↔ ((byte < 65) ⊎ (72 < byte))
