-- States as strings of 384 bits and as 48 bytes. Assumes nothing.
use mathlib.Core.Path.{◌≡◌, refl, sym, ap, ap₂, ◌∙◌, subst}
use mathlib.Core.Bool.{Bool}
use mathlib.Core.List.{List, [], ◌∷◌}
use Prim.Native.Nat.{ℕ, zero, suc, ◌+◌, ◌*◌, ◌/◌, ◌%◌, ◌^◌, ◌≤◌, ◌<◌}
use native.Mathlib.Omega.{arith}
use lib.Bits.{bit_xor}
use Rattle.std.specs.Int.{w32, from_le_bytes, to_le_bytes}
use lib.ListN.{get_or, set, length, drop, length-set}
use lib.Seq.{get_or-drop, ext_get_or}
use Rattle.word.specs.Word.{bit, ◌⊕◌}
use Rattle.word.specs.Lists.{tabulate, sum}
use Rattle.word.proofs.Lists.{Filled, filled_more, tabulate-at, tabulate-length, sum-at, sum-length}
use Rattle.word.proofs.Bit.{is_word, word-ext, is-part, is-own, is-more, is-xor, bit-xor, bit-of_bits}
use Rattle.state.specs.State.{lane}
use Rattle.state.specs.Bytes.{byte_bit, string_bit, state_byte, to_bytes}

-- the word of the four bytes from byte `at` on, the lowest first
pub lane-of-four : (s : List ℕ) (at : ℕ) {r : ℕ} → get_or s at 0 < 256 → get_or s (at + 1) 0 < 256 → get_or s (at + 2) 0 < 256 → get_or s (at + 3) 0 < 256
    → r ≡ from_le_bytes w32 (get_or s at 0 ∷ get_or s (at + 1) 0 ∷ get_or s (at + 2) 0 ∷ get_or s (at + 3) 0 ∷ []) → r ≡ lane (byte_bit (drop at s))
lane-of-four s at {r} ha hb hc hd e = word-ext r 32 (byte_bit (drop at s)) (omega arith) bits
  where
    byte : (q : ℕ) → q < 4 → r / 2 ^ (8 * q) % 2 ^ 8 ≡ get_or s (at + q) 0
    byte zero h = let n : at ≡ at + 0 = omega arith in omega (arith, e, ap (λ (k : ℕ). get_or s k 0) n)
    byte (suc zero) h = omega (arith, e)
    byte (suc (suc zero)) h = omega (arith, e)
    byte (suc (suc (suc zero))) h = omega (arith, e)
    byte (suc (suc (suc (suc q)))) h = absurd (omega arith)

    bits : (z : ℕ) → z < 32 → bit r z ≡ byte_bit (drop at s) z
    bits z h =
        let d : z ≡ 8 * (z / 8) + z % 8 = omega arith in
        let p = is-part 8 (8 * (z / 8)) r in
        ap (bit r) d ∙ sym (p.bits (z % 8) (omega arith))
        ∙ ap (λ (n : ℕ). bit n (z % 8)) (byte (z / 8) (omega arith) ∙ sym (get_or-drop at s (z / 8) 0))

-- lane i of the bytes from byte `at` on starts 4 i bytes further on
pub lane-further : (s : List ℕ) (at i p : ℕ) → p ≡ at + 4 * i → (z : ℕ) → z < 32 → byte_bit (drop p s) z ≡ byte_bit (drop at s) (z + 32 * i)
lane-further s at i p e z h =
    let d : p + z / 8 ≡ at + (z + 32 * i) / 8 = omega arith in
    let m : z % 8 ≡ (z + 32 * i) % 8 = omega arith in
    ap₂ bit (get_or-drop p s (z / 8) 0 ∙ ap (λ (k : ℕ). get_or s k 0) d ∙ sym (get_or-drop at s ((z + 32 * i) / 8) 0)) m

-- byte q of lane i is byte 4 i + q of the state
pub byte_of : (l : List ℕ) (i q n : ℕ) → q < 4 → n ≡ get_or l i 0 / 2 ^ (8 * q) % 2 ^ 8 → n ≡ state_byte l (4 * i + q)
unfolding state_byte
byte_of l i q n h e = e ∙ is_word (is-more (is-part 8 (8 * q) (get_or l i 0)) same)
  where
    same : (z : ℕ) → z < 8 → bit (get_or l i 0) (8 * q + z) ≡ string_bit l (8 * (4 * i + q) + z)
    same z g =
        let d : i ≡ (8 * (4 * i + q) + z) / 32 = omega arith in
        let m : 8 * q + z ≡ (8 * (4 * i + q) + z) % 32 = omega arith in
        ap₂ (λ (j k : ℕ). bit (get_or l j 0) k) d m

-- byte q of the sum of lane i and of the four bytes that stand in its place, which are as in o
pub byte-added : (s o o' : List ℕ) (i q : ℕ) {j : ℕ} → q < 4 → get_or o (4 * i + q) 0 < 2 ^ 8 → get_or o' (4 * i + q) 0 ≡ get_or o (4 * i + q) 0
    → j ≡ lane (byte_bit (drop (4 * i) o')) → bit_xor j (get_or s i 0) / 2 ^ (8 * q) % 2 ^ 8 ≡ bit_xor (get_or o (4 * i + q) 0) (state_byte s (4 * i + q))
byte-added s o o' i q {j} h w g e =
    is_word (is-more (is-part 8 (8 * q) (bit_xor j (get_or s i 0))) same)
    ∙ sym (is_word (is-xor (is-own w) (is-part 8 (8 * q) (get_or s i 0))))
    ∙ ap (bit_xor (get_or o (4 * i + q) 0)) (byte_of s i q _ h refl)
  where
    same : (z : ℕ) → z < 8 → bit (bit_xor j (get_or s i 0)) (8 * q + z) ≡ bit (get_or o (4 * i + q) 0) z ⊕ bit (get_or s i 0) (8 * q + z)
    same z l =
        let d : (8 * q + z) / 8 ≡ q = omega arith in
        let m : (8 * q + z) % 8 ≡ z = omega arith in
        bit-xor j (get_or s i 0) (8 * q + z)
        ∙ ap (λ (b : Bool). b ⊕ bit (get_or s i 0) (8 * q + z))
        (ap (λ (n : ℕ). bit n (8 * q + z)) e
        ∙ bit-of_bits 32 (byte_bit (drop (4 * i) o')) (8 * q + z) (omega arith)
        ∙ ap₂ bit (ap (λ (k : ℕ). get_or (drop (4 * i) o') k 0) d ∙ get_or-drop (4 * i) o' q 0 ∙ g) m)

-- and as the four bytes of the word are written: they are the sum's
pub bytes-added : (s o o' ys : List ℕ) (i : ℕ) {j : ℕ} → i < 12 → ((q : ℕ) → get_or o q 0 < 256) → ((q : ℕ) → 4 * i ≤ q → get_or o' q 0 ≡ get_or o q 0)
    → j ≡ lane (byte_bit (drop (4 * i) o')) → ys ≡ to_le_bytes w32 (bit_xor j (get_or s i 0))
    → (q m : ℕ) → q < 4 → m ≡ 4 * i + q → get_or ys q 0 ≡ bit_xor (get_or o m 0) (get_or (to_bytes s) m 0)
bytes-added s o o' ys i {j} h w g e d q m l f =
    ap (λ (l : List ℕ). get_or l q 0) d ∙ byte q l ∙ byte-added s o o' i q l (w (4 * i + q)) (g (4 * i + q) (omega arith)) e
    ∙ ap₂ bit_xor (ap (λ (k : ℕ). get_or o k 0) (sym f)) (ap (state_byte s) (sym f) ∙ sym (tabulate-at 48 (state_byte s) m (omega arith)))
  where
    n : ℕ
    n = bit_xor j (get_or s i 0)

    byte : (q : ℕ) → q < 4 → get_or (to_le_bytes w32 n) q 0 ≡ n / 2 ^ (8 * q) % 2 ^ 8
    byte zero l = omega arith
    byte (suc zero) l = refl
    byte (suc (suc zero)) l = refl
    byte (suc (suc (suc zero))) l = refl
    byte (suc (suc (suc (suc q)))) l = absurd (omega arith)

-- four stores, of the bytes from 4 i on
pub filled-four : (f : ℕ → ℕ) (l : List ℕ) (i : ℕ) {v₀ v₁ v₂ v₃ : ℕ} → 4 * i + 3 < length l
    → v₀ ≡ f (4 * i + 0) → v₁ ≡ f (4 * i + 1) → v₂ ≡ f (4 * i + 2) → v₃ ≡ f (4 * i + 3) → Filled f l (4 * i)
    → Filled f (set (set (set (set l (4 * i) v₀) (4 * i + 1) v₁) (4 * i + 2) v₂) (4 * i + 3) v₃) (4 * (i + 1))
filled-four f l i {v₀} {v₁} {v₂} {v₃} h e₀ e₁ e₂ e₃ d =
    let n₀ : 4 * i + 0 ≡ 4 * i = omega arith in
    let n₂ : 4 * i + 1 + 1 ≡ 4 * i + 2 = omega arith in
    let n₃ : 4 * i + 2 + 1 ≡ 4 * i + 3 = omega arith in
    let n₄ : 4 * i + 3 + 1 ≡ 4 * (i + 1) = omega arith in
    let l₁ = set l (4 * i) v₀ in
    let l₂ = set l₁ (4 * i + 1) v₁ in
    let l₃ = set l₂ (4 * i + 2) v₂ in
    let k₁ : length l₁ ≡ length l = length-set l (4 * i) v₀ in
    let k₂ : length l₂ ≡ length l₁ = length-set l₁ (4 * i + 1) v₁ in
    let k₃ : length l₃ ≡ length l₂ = length-set l₂ (4 * i + 2) v₂ in
    let d₁ = filled_more f l (4 * i) v₀ (omega arith) (e₀ ∙ ap f n₀) d in
    let d₂ = subst (Filled f l₂) n₂ (filled_more f l₁ (4 * i + 1) v₁ (omega arith) e₁ d₁) in
    let d₃ = subst (Filled f l₃) n₃ (filled_more f l₂ (4 * i + 2) v₂ (omega arith) e₂ d₂) in
    subst (Filled f (set l₃ (4 * i + 3) v₃)) n₄ (filled_more f l₃ (4 * i + 3) v₃ (omega arith) e₃ d₃)

-- a run to each of whose elements f's was added
pub sum-filled : (f : ℕ → ℕ) (n : ℕ) (o l : List ℕ) → length o ≡ n → length l ≡ n → Filled (λ k. bit_xor (get_or o k 0) (f k)) l n → l ≡ sum o (tabulate n f)
sum-filled f n o l ho hl d =
    let t : length (tabulate n f) ≡ n = tabulate-length n f in
    ext_get_or 0 l (sum o (tabulate n f)) (hl ∙ sym (sum-length o (tabulate n f) (omega arith) ∙ ho))
    (λ k h. d k (omega (arith, hl)) ∙ sym (sum-at o (tabulate n f) k (omega (arith, hl)) (omega (arith, hl)) ∙ ap (bit_xor (get_or o k 0)) (tabulate-at n f k (omega (arith, hl)))))
