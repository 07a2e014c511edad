-- Strings, their padding and their blocks: the papers' padding is one byte more, and what block j of a padded string is, by bits and by
-- bytes. Assumes nothing.
use mathlib.Core.Path.{◌≡◌, refl, sym, ap, ap₂, ◌∙◌}
use mathlib.Core.Bool.{Bool, true, false}
use mathlib.Core.List.{List, [], ◌∷◌, ◌++◌, append_assoc}
use Prim.Native.Nat.{ℕ, zero, suc, ◌+◌, ◌*◌, ◌-◌, ◌/◌, ◌%◌, ◌^◌, ◌≤◌, ◌<◌}
use native.Mathlib.Decide.{dec_le}
use native.Mathlib.Omega.{arith}
use lib.Dec.{lit<, lit≤}
use lib.ListN.{length, get_or, replicate, length-append, length-replicate, get_or-eq_default, get_or-append}
use lib.Seq.{get_or-append-add, get_or-append_seam}
use Rattle.word.specs.Word.{bit}
use Rattle.word.specs.Lists.{tabulate}
use Rattle.word.proofs.Bit.{bit-above, word-ext}
use Rattle.word.proofs.Lists.{tabulate-at, Words}
use Rattle.state.specs.State.{bits}
use Rattle.state.specs.Bytes.{string_state, from_string, string_bit, byte_bit, from_bytes, state_byte}
use Rattle.state.proofs.Lanes.{lanes-ext, bits-of-lanes}
use Rattle.deck.specs.Strings.{Str, bits_of_byte, bits_of_bytes, bits_of, padded, blocks, block, b, framed}
use Rattle.deck.specs.Closing.{closing_byte, frame_bits, closed_by}
use Rattle.deck.proofs.ClosingBytes.{frame-length, closing-frame, closing-bits}

-- ---- the padding

-- a padded string is the string and a 1-bit: what follows is 0, as is what lies beyond its end
pub padded-at : (m : List Bool) (i : ℕ) → get_or (padded m) i false ≡ get_or (m ++ true ∷ []) i false
unfolding padded
padded-at m i = go m (383 - length m % 384) i
  where
    zeros-at : (n i : ℕ) → get_or (replicate n false) i false ≡ false
    zeros-at zero i = refl
    zeros-at (suc n) zero = refl
    zeros-at (suc n) (suc i) = zeros-at n i

    go : (m : List Bool) (n i : ℕ) → get_or (m ++ true ∷ replicate n false) i false ≡ get_or (m ++ true ∷ []) i false
    go [] n zero = refl
    go [] n (suc i) = zeros-at n i
    go (x ∷ m) n zero = refl
    go (x ∷ m) n (suc i) = go m n i

-- one byte more in front
eight : (x : ℕ) (s : List ℕ) (m : List Bool) → ((i : ℕ) → get_or m i false ≡ byte_bit s i) → (i : ℕ) → get_or (bits_of_byte x ++ m) i false ≡ byte_bit (x ∷ s) i
eight x s m h zero = refl
eight x s m h (suc zero) = refl
eight x s m h (suc (suc zero)) = refl
eight x s m h (suc (suc (suc zero))) = refl
eight x s m h (suc (suc (suc (suc zero)))) = refl
eight x s m h (suc (suc (suc (suc (suc zero))))) = refl
eight x s m h (suc (suc (suc (suc (suc (suc zero)))))) = refl
eight x s m h (suc (suc (suc (suc (suc (suc (suc zero))))))) = refl
eight x s m h (suc (suc (suc (suc (suc (suc (suc (suc i)))))))) =
    let n = suc (suc (suc (suc (suc (suc (suc (suc i))))))) in
    let e : suc (i / 8) ≡ n / 8 = omega arith in
    let r : i % 8 ≡ n % 8 = omega arith in
    h i ∙ ap₂ (λ (q k : ℕ). bit (get_or (x ∷ s) q 0) k) e r

-- the bits of bytes, frame bits and padding bit are those of the bytes and the closing byte
closed-bits : (s : List ℕ) (f : List Bool) → length f ≤ 7 → (i : ℕ) → get_or ((bits_of_bytes s ++ f) ++ true ∷ []) i false ≡ byte_bit (s ++ closing_byte f ∷ []) i
unfolding bits_of_bytes
closed-bits [] f h i = go (dec_le 8 i)
  where
    go : Dec (8 ≤ i) → get_or (f ++ true ∷ []) i false ≡ byte_bit (closing_byte f ∷ []) i
    go (yes p) =
        let e : i / 8 ≡ suc (i / 8 - 1) = omega arith in
        get_or-eq_default (f ++ true ∷ []) false (omega (arith, length-append f (true ∷ [])))
        ∙ sym (ap (λ (n : ℕ). bit (get_or (closing_byte f ∷ []) n 0) (i % 8)) e ∙ bit-above 0 0 (i % 8) (lit< tt) (omega arith))
    go (no p) =
        let e : i / 8 ≡ 0 = omega (arith, p) in
        let r : i % 8 ≡ i = omega (arith, p) in
        closing-bits f i ∙ sym (ap₂ (λ (n k : ℕ). bit (get_or (closing_byte f ∷ []) n 0) k) e r)
closed-bits (x ∷ s) f h i = eight x (s ++ closing_byte f ∷ []) ((bits_of_bytes s ++ f) ++ true ∷ []) (closed-bits s f h) i

-- the papers' padding is one byte directly after the last one, at every length
pub padded-byte_bit : (s : List ℕ) (f : List Bool) → length f ≤ 7 → (i : ℕ)
    → get_or (padded (bits_of (framed s f))) i false ≡ byte_bit (s ++ closing_byte f ∷ []) i
unfolding bits_of
padded-byte_bit s f h i = padded-at (bits_of_bytes s ++ f) i ∙ closed-bits s f h i

pub closed-byte_bit : (s : List ℕ) (c : ℕ) → 0 < c → c < 256 → (i : ℕ) → get_or (padded (bits_of (closed_by s c))) i false ≡ byte_bit (s ++ c ∷ []) i
closed-byte_bit s c p h i =
    padded-byte_bit s (frame_bits 7 c) (frame-length c) i ∙ ap (λ (n : ℕ). byte_bit (s ++ n ∷ []) i) (closing-frame c p h)

-- ---- the blocks

-- block j from 48 bytes that are the string's, its closing byte and zeros
pub block-from_bytes : (s : List ℕ) (c j : ℕ) → 0 < c → c < 256 → (B : List ℕ)
    → ((i : ℕ) → i < 48 → get_or B i 0 ≡ get_or (s ++ c ∷ []) (48 * j + i) 0) → block (closed_by s c) j ≡ from_bytes B
unfolding block from_string
block-from_bytes s c j p h B e = lanes-ext _ _ agree
  where
    agree : (x y z : ℕ) → x < 4 → y < 3 → z < 32
        → get_or (padded (bits_of (closed_by s c))) (384 * j + (z + 32 * (x + 4 * y))) false ≡ byte_bit B (z + 32 * (x + 4 * y))
    agree x y z hx hy hz =
        let k : ℕ = z + 32 * (x + 4 * y) in
        let q : (384 * j + k) / 8 ≡ 48 * j + k / 8 = omega arith in
        let r : (384 * j + k) % 8 ≡ k % 8 = omega arith in
        closed-byte_bit s c p h (384 * j + k)
        ∙ ap₂ (λ (n m : ℕ). bit (get_or (s ++ c ∷ []) n 0) m) q r
        ∙ ap (λ (v : ℕ). bit v (k % 8)) (sym (e (k / 8) (omega arith)))

-- such as these
pub block-tabulate : (s : List ℕ) (c j : ℕ) → 0 < c → c < 256 → block (closed_by s c) j ≡ from_bytes (tabulate 48 (λ i. get_or (s ++ c ∷ []) (48 * j + i) 0))
block-tabulate s c j p h =
    block-from_bytes s c j p h (tabulate 48 (λ i. get_or (s ++ c ∷ []) (48 * j + i) 0)) (λ i l. tabulate-at 48 (λ i. get_or (s ++ c ∷ []) (48 * j + i) 0) i l)

-- ---- how many

-- eight bits for each byte, and the frame bits
pub bits_of_bytes-length : (s : List ℕ) → length (bits_of_bytes s) ≡ 8 * length s
unfolding bits_of_bytes
bits_of_bytes-length [] = refl
bits_of_bytes-length (x ∷ s) = omega (arith, bits_of_bytes-length s)

pub bits_of-length : (s : Str) → length (bits_of s) ≡ 8 * length s.bytes + length s.frame
unfolding bits_of
bits_of-length s = omega (arith, length-append (bits_of_bytes s.bytes) s.frame, bits_of_bytes-length s.bytes)

-- a multiple of 384, and not 0
pub padded-length : (m : List Bool) → length (padded m) ≡ 384 * (length m / 384 + 1)
unfolding padded
padded-length m =
    let n : ℕ = length m in
    let e : n + suc (383 - n % 384) ≡ 384 * (n / 384 + 1) = omega arith in
    length-append m (true ∷ replicate (383 - length m % 384) false) ∙ ap (λ (k : ℕ). n + suc k) (length-replicate (383 - n % 384) false) ∙ e

-- a string of L bytes has b(L) blocks
pub blocks_is : (s : Str) → length s.frame ≤ 7 → blocks s ≡ b (length s.bytes)
unfolding blocks
blocks_is s h =
    let L : ℕ = length s.bytes in
    let e : 384 * (length (bits_of s) / 384 + 1) / 384 ≡ L / 48 + 1 = omega (arith, bits_of-length s) in
    ap (λ (n : ℕ). n / 384) (padded-length (bits_of s)) ∙ e

pub closed-blocks : (s : List ℕ) (c : ℕ) → blocks (closed_by s c) ≡ b (length s)
closed-blocks s c = blocks_is (closed_by s c) (frame-length c)

-- a padded key of at most 47 bytes is one block
pub key-blocks : (key : List ℕ) → length key ≤ 47 → blocks (framed key []) ≡ 1
key-blocks key h = omega (arith, blocks_is (framed key []) (lit≤ tt))

-- ---- the papers' padding, pinned down

-- what pad10* makes of m: m, a 1-bit and fewer than 384 zeros, together a positive multiple of 384 bits
pub record Pad10 (m p : List Bool) : Type 0 where
  pub zero_bits : ℕ
  pub few : zero_bits < 384
  pub form : p ≡ m ++ true ∷ replicate zero_bits false
  pub whole : length p % 384 ≡ 0
  pub positive : 0 < length p

pub padded-pads : (m : List Bool) → Pad10 m (padded m)
unfolding padded
padded-pads m =
    record {
      zero_bits = 383 - length m % 384;
      few = omega arith;
      form = refl;
      whole = omega (arith, padded-length m);
      positive = omega (arith, padded-length m);
    }

-- and nothing else is
pub padded-only : (m p : List Bool) → Pad10 m p → p ≡ padded m
unfolding padded
padded-only m p d =
    let l : length (m ++ true ∷ replicate d.zero_bits false) ≡ length m + suc (length (replicate d.zero_bits false)) = length-append m (true ∷ replicate d.zero_bits false) in
    let e : d.zero_bits ≡ 383 - length m % 384 = omega (arith, d.few, d.whole, ap length d.form, l, length-replicate d.zero_bits false) in
    d.form ∙ ap (λ (n : ℕ). m ++ true ∷ replicate n false) e

-- the padded string is its blocks
pub padded-blocks : (s : Str) → length (padded (bits_of s)) ≡ 384 * blocks s
unfolding blocks
padded-blocks s = omega (arith, padded-length (bits_of s))

-- bit z of byte i is bit 8 i + z of a string, and the frame bits follow the bytes
bytes-at : (s : List ℕ) (i : ℕ) → get_or (bits_of_bytes s) i false ≡ byte_bit s i
unfolding bits_of_bytes
bytes-at [] i = sym (bit-above 0 0 (i % 8) (lit< tt) (omega arith))
bytes-at (x ∷ s) i = eight x s (bits_of_bytes s) (bytes-at s) i

pub bits_of-byte : (s : Str) (i z : ℕ) → i < length s.bytes → z < 8 → get_or (bits_of s) (8 * i + z) false ≡ bit (get_or s.bytes i 0) z
unfolding bits_of
bits_of-byte s i z h l =
    let q : (8 * i + z) / 8 ≡ i = omega arith in
    let r : (8 * i + z) % 8 ≡ z = omega arith in
    get_or-append (bits_of_bytes s.bytes) s.frame false (8 * i + z) (omega (arith, bits_of_bytes-length s.bytes))
    ∙ bytes-at s.bytes (8 * i + z) ∙ ap₂ (λ (n k : ℕ). bit (get_or s.bytes n 0) k) q r

pub bits_of-frame : (s : Str) (n : ℕ) → get_or (bits_of s) (8 * length s.bytes + n) false ≡ get_or s.frame n false
unfolding bits_of
bits_of-frame s n =
    ap (λ (k : ℕ). get_or (bits_of_bytes s.bytes ++ s.frame) (k + n) false) (sym (bits_of_bytes-length s.bytes))
    ∙ get_or-append-add (bits_of_bytes s.bytes) s.frame n false

-- bit z of the lane at x + 4 y of block j is bit 384 j + z + 32 (x + 4 y) of the padded string
pub block-bit : (s : Str) (j x y z : ℕ) → x < 4 → y < 3 → z < 32 → bits (block s j) x y z ≡ get_or (padded (bits_of s)) (384 * j + (z + 32 * (x + 4 * y))) false
unfolding block from_string
block-bit s j x y z hx hy hz = bits-of-lanes (string_state (λ i. get_or (padded (bits_of s)) (384 * j + i) false)) x y z hx hy hz

-- the same by the place in the block's string
pub block-string_bit : (s : Str) (j i : ℕ) → i < 384 → string_bit (block s j) i ≡ get_or (padded (bits_of s)) (384 * j + i) false
block-string_bit s j i h =
    let q : i / 32 ≡ i / 32 % 4 + 4 * (i / 128) = omega arith in
    let r : i % 32 + 32 * (i / 32 % 4 + 4 * (i / 128)) ≡ i = omega arith in
    ap (λ (n : ℕ). bit (get_or (block s j) n 0) (i % 32)) q
    ∙ block-bit s j (i / 32 % 4) (i / 128) (i % 32) (omega arith) (omega arith) (omega arith)
    ∙ ap (λ (n : ℕ). get_or (padded (bits_of s)) (384 * j + n) false) r

-- byte i of block j is byte 48 j + i of the bytes and the closing byte
pub block-byte : (s : List ℕ) (c j i : ℕ) → Words 8 s → 0 < c → c < 256 → i < 48 → state_byte (block (closed_by s c) j) i ≡ get_or (s ++ c ∷ []) (48 * j + i) 0
unfolding state_byte
block-byte s c j i w p h l = sym (word-ext (get_or (s ++ c ∷ []) (48 * j + i) 0) 8 (λ z. string_bit (block (closed_by s c) j) (8 * i + z)) small same)
  where
    fits : (s : List ℕ) (n : ℕ) → Words 8 s → get_or (s ++ c ∷ []) n 0 < 256
    fits [] zero w = h
    fits [] (suc n) w = lit< tt
    fits (x ∷ s) zero w = w 0
    fits (x ∷ s) (suc n) w = fits s n (λ k. w (suc k))

    small : get_or (s ++ c ∷ []) (48 * j + i) 0 < 2 ^ 8
    small = fits s (48 * j + i) w

    same : (z : ℕ) → z < 8 → bit (get_or (s ++ c ∷ []) (48 * j + i) 0) z ≡ string_bit (block (closed_by s c) j) (8 * i + z)
    same z g =
        let q : (384 * j + (8 * i + z)) / 8 ≡ 48 * j + i = omega arith in
        let r : (384 * j + (8 * i + z)) % 8 ≡ z = omega arith in
        sym (block-string_bit (closed_by s c) j (8 * i + z) (omega arith)
        ∙ closed-byte_bit s c p h (384 * j + (8 * i + z))
        ∙ ap₂ (λ (n k : ℕ). bit (get_or (s ++ c ∷ []) n 0) k) q r)

-- the closing byte stands directly after the last byte, in the last block, at every length
pub closing-place : (s : List ℕ) (c : ℕ) → Words 8 s → 0 < c → c < 256 → state_byte (block (closed_by s c) (length s / 48)) (length s % 48) ≡ c
closing-place s c w p h =
    let e : 48 * (length s / 48) + length s % 48 ≡ length s = omega arith in
    block-byte s c (length s / 48) (length s % 48) w p h (omega arith)
    ∙ ap (λ (n : ℕ). get_or (s ++ c ∷ []) n 0) e ∙ get_or-append_seam s c [] 0

-- ---- a full block in front of a string

bits_of_bytes-append : (p s : List ℕ) → bits_of_bytes (p ++ s) ≡ bits_of_bytes p ++ bits_of_bytes s
unfolding bits_of_bytes
bits_of_bytes-append [] s = refl
bits_of_bytes-append (x ∷ p) s = ap (λ (m : List Bool). bits_of_byte x ++ m) (bits_of_bytes-append p s)

-- the bits of the bytes in front, and then those of the string
bits-behind : (p s : List ℕ) (f : List Bool) → (bits_of_bytes (p ++ s) ++ f) ++ true ∷ [] ≡ bits_of_bytes p ++ ((bits_of_bytes s ++ f) ++ true ∷ [])
bits-behind p s f =
    ap (λ (m : List Bool). (m ++ f) ++ true ∷ []) (bits_of_bytes-append p s)
    ∙ ap (λ (m : List Bool). m ++ true ∷ []) (append_assoc (bits_of_bytes p) (bits_of_bytes s) f)
    ∙ append_assoc (bits_of_bytes p) (bits_of_bytes s ++ f) (true ∷ [])

-- it is block 0
pub block-front : (p s : List ℕ) (f : List Bool) → length p ≡ 48 → block (framed (p ++ s) f) 0 ≡ from_bytes p
unfolding block from_string bits_of
block-front p s f h = lanes-ext _ _ agree
  where
    agree : (x y z : ℕ) → x < 4 → y < 3 → z < 32
        → get_or (padded (bits_of_bytes (p ++ s) ++ f)) (384 * 0 + (z + 32 * (x + 4 * y))) false ≡ byte_bit p (z + 32 * (x + 4 * y))
    agree x y z hx hy hz =
        let k : ℕ = z + 32 * (x + 4 * y) in
        let e : 384 * 0 + k ≡ k = omega arith in
        padded-at (bits_of_bytes (p ++ s) ++ f) (384 * 0 + k)
        ∙ ap₂ (λ (m : List Bool) (n : ℕ). get_or m n false) (bits-behind p s f) e
        ∙ get_or-append (bits_of_bytes p) ((bits_of_bytes s ++ f) ++ true ∷ []) false k (omega (arith, bits_of_bytes-length p, h))
        ∙ bytes-at p k

-- and the string's blocks come after it
pub block-behind : (p s : List ℕ) (f : List Bool) (j : ℕ) → length p ≡ 48 → block (framed (p ++ s) f) (j + 1) ≡ block (framed s f) j
unfolding block bits_of
block-behind p s f j h = λ t. from_string (λ i. at i t)
  where
    at : (i : ℕ) → get_or (padded (bits_of_bytes (p ++ s) ++ f)) (384 * (j + 1) + i) false ≡ get_or (padded (bits_of_bytes s ++ f)) (384 * j + i) false
    at i =
        let e : 384 * (j + 1) + i ≡ length (bits_of_bytes p) + (384 * j + i) = omega (arith, bits_of_bytes-length p, h) in
        padded-at (bits_of_bytes (p ++ s) ++ f) (384 * (j + 1) + i)
        ∙ ap₂ (λ (m : List Bool) (n : ℕ). get_or m n false) (bits-behind p s f) e
        ∙ get_or-append-add (bits_of_bytes p) ((bits_of_bytes s ++ f) ++ true ∷ []) (384 * j + i) false
        ∙ sym (padded-at (bits_of_bytes s ++ f) (384 * j + i))

pub blocks-front : (p s : List ℕ) (f : List Bool) → length p ≡ 48 → blocks (framed (p ++ s) f) ≡ blocks (framed s f) + 1
blocks-front p s f h =
    let P : Str = framed (p ++ s) f in
    let S : Str = framed s f in
    omega (arith, padded-blocks P, padded-blocks S, padded-length (bits_of P), padded-length (bits_of S), bits_of-length P, bits_of-length S, length-append p s, h)
