-- Laws of a buffer that was written to. Assumes nothing.
use Prim.Native.Nat.{ℕ, suc, ◌+◌, ◌<◌, ◌≤◌}
use mathlib.Core.Path.{◌≡◌, refl, sym, ap, ◌∙◌}
use mathlib.Core.List.{List, [], ◌∷◌, ◌++◌, append_assoc}
use native.Mathlib.Omega.{arith}
use native.Mathlib.Nat.{add-zero}
use native.Mathlib.Numerals.{add-one}
use lib.ListN.{length, take, drop, get_or, set, length-append, take-append-drop}
use lib.Seq.{length-take-le, take_at, drop_at, drop-drop, set_at, drop-cons, take-suc}
use Rattle.decimal.specs.Buffer.{written_at}

-- writing nothing changes nothing
pub written_at-none : (buffer : List ℕ) (at : ℕ) → written_at buffer at [] ≡ buffer
unfolding written_at
written_at-none buffer at = simp add-zero (take-append-drop at buffer)

-- two runs written one behind the other are their join, written once
pub written_at-twice : (buffer : List ℕ) (at : ℕ) (a b : List ℕ) → at + length a + length b ≤ length buffer
    → written_at (written_at buffer at a) (at + length a) b ≡ written_at buffer at (a ++ b)
unfolding written_at
written_at-twice buffer at a b room =
    let front : length (take at buffer ++ a) ≡ at + length a = simp length-append (omega (arith, length-take-le at buffer (omega arith))) in
    let shape : take at buffer ++ (a ++ drop (at + length a) buffer) ≡ (take at buffer ++ a) ++ drop (at + length a) buffer = sym (append_assoc (take at buffer) a (drop (at + length a) buffer)) in
    let first : take (at + length a) (take at buffer ++ (a ++ drop (at + length a) buffer)) ≡ take at buffer ++ a = ap (take (at + length a)) shape ∙ take_at (take at buffer ++ a) (drop (at + length a) buffer) (at + length a) front in
    let place : at + length a + length b ≡ at + length (a ++ b) = simp length-append (omega arith) in
    let last : drop (at + length a + length b) (take at buffer ++ (a ++ drop (at + length a) buffer)) ≡ drop (at + length (a ++ b)) buffer =
    ap (drop (at + length a + length b)) shape
    ∙ sym (drop-drop (length b) (at + length a) ((take at buffer ++ a) ++ drop (at + length a) buffer))
    ∙ ap (drop (length b)) (drop_at (take at buffer ++ a) (drop (at + length a) buffer) (at + length a) front)
    ∙ drop-drop (length b) (at + length a) buffer
    ∙ ap (λ (k : ℕ). drop k buffer) place in
    ap (λ (l : List ℕ). l ++ (b ++ drop (at + length a + length b) (take at buffer ++ (a ++ drop (at + length a) buffer)))) first
    ∙ ap (λ (l : List ℕ). (take at buffer ++ a) ++ (b ++ l)) last
    ∙ append_assoc (take at buffer) a (b ++ drop (at + length (a ++ b)) buffer)
    ∙ ap (λ (l : List ℕ). take at buffer ++ l) (sym (append_assoc a b (drop (at + length (a ++ b)) buffer)))

-- the same, for a run that stands at the buffer's start, with the buffer after each of the two writes
pub written_at-join : (buffer : List ℕ) {once twice : List ℕ} (a b : List ℕ) (at : ℕ) → at ≡ length a → length a + length b ≤ length buffer
    → once ≡ written_at buffer 0 a → twice ≡ written_at once at b → twice ≡ written_at buffer 0 (a ++ b)
written_at-join buffer a b at e room first second =
    let place : at ≡ 0 + length a = omega arith in
    second
    ∙ ap (λ (l : List ℕ). written_at l at b) first
    ∙ ap (λ (k : ℕ). written_at (written_at buffer 0 a) k b) place
    ∙ written_at-twice buffer 0 a b (omega arith)

-- two bytes stored at the start
pub written_at-pair : (buffer : List ℕ) (x y : ℕ) → 2 ≤ length buffer → set (set buffer 0 x) 1 y ≡ written_at buffer 0 (x ∷ y ∷ [])
unfolding written_at
written_at-pair [] x y h = let none : ⊥ = omega arith in absurd none
written_at-pair (a ∷ []) x y h = let none : ⊥ = omega arith in absurd none
written_at-pair (a ∷ b ∷ rest) x y h = refl

-- one byte written in front of a run
pub written_at-before : (buffer : List ℕ) (i : ℕ) (b : ℕ) (bytes : List ℕ) → i + 1 + length bytes ≤ length buffer
    → set (written_at buffer (i + 1) bytes) i b ≡ written_at buffer i (b ∷ bytes)
unfolding written_at
written_at-before buffer i b bytes room =
    let inside : i < length buffer = omega arith in
    let front : length (take i buffer) ≡ i = length-take-le i buffer (omega arith) in
    let place : i + 1 + length bytes ≡ i + suc (length bytes) = omega arith in
    let tail = bytes ++ drop (i + 1 + length bytes) buffer in
    ap (λ (k : ℕ). set (take k buffer ++ tail) i b) (add-one i)
    ∙ ap (λ (l : List ℕ). set (l ++ tail) i b) (take-suc buffer i 0 inside)
    ∙ ap (λ (l : List ℕ). set l i b) (append_assoc (take i buffer) (get_or buffer i 0 ∷ []) tail)
    ∙ set_at (take i buffer) (get_or buffer i 0) tail b i front
    ∙ ap (λ (k : ℕ). take i buffer ++ (b ∷ (bytes ++ drop k buffer))) place

-- one byte written behind a run
pub written_at-after : (buffer : List ℕ) (at : ℕ) (bytes : List ℕ) (i b : ℕ) → i ≡ at + length bytes → i < length buffer
    → set (written_at buffer at bytes) i b ≡ written_at buffer at (bytes ++ (b ∷ []))
unfolding written_at
written_at-after buffer at bytes i b e room =
    let front : length (take at buffer ++ bytes) ≡ i = simp length-append (omega (arith, length-take-le at buffer (omega arith))) in
    let next : drop (at + length bytes) buffer ≡ get_or buffer i 0 ∷ drop (suc i) buffer = ap (λ (k : ℕ). drop k buffer) (sym e) ∙ drop-cons buffer i 0 room in
    let place : suc i ≡ at + length (bytes ++ (b ∷ [])) = simp length-append (omega arith) in
    ap (λ (l : List ℕ). set l i b) (sym (append_assoc (take at buffer) bytes (drop (at + length bytes) buffer)))
    ∙ ap (λ (l : List ℕ). set ((take at buffer ++ bytes) ++ l) i b) next
    ∙ set_at (take at buffer ++ bytes) (get_or buffer i 0) (drop (suc i) buffer) b i front
    ∙ append_assoc (take at buffer) bytes (b ∷ drop (suc i) buffer)
    ∙ ap (λ (l : List ℕ). take at buffer ++ l) (sym (append_assoc bytes (b ∷ []) (drop (suc i) buffer)))
    ∙ ap (λ (k : ℕ). take at buffer ++ ((bytes ++ (b ∷ [])) ++ drop k buffer)) place
