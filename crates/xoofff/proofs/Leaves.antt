-- What the loops of the leaves hold, over plain values. Assumes nothing.
use mathlib.Core.Path.{◌≡◌, refl, sym, ap, ap₂, ◌∙◌, subst}
use mathlib.Core.List.{List, [], ◌∷◌, ◌++◌, append-nil}
use Prim.Native.Nat.{ℕ, zero, suc, ◌+◌, ◌*◌, ◌-◌, ◌/◌, ◌%◌, ◌≤◌, ◌<◌, min}
use native.Mathlib.Decide.{dec_le}
use native.Mathlib.Nat.{zero-add}
use native.Mathlib.Omega.{arith}
use lib.Bits.{bit_xor}
use lib.Dec.{lit<}
use lib.ListN.{length, get_or, set, take, drop, replicate, get_or-replicate, length-set, length-append, length-drop, get_or-append, get_or-eq_default}
use lib.Seq.{get_or-set_other, get_or-append_seam, get_or-append-add, get_or-take, get_or-drop, length-take-le, take_all, drop-length}
use Rattle.word.specs.Lists.{tabulate, sum}
use Rattle.word.proofs.Lists.{Filled, filled_more, tabulate-is, tabulate-at, tabulate-length, sum-at, sum-length}
use Rattle.state.specs.Bytes.{from_bytes, state_byte, to_bytes}
use Rattle.state.proofs.Bytes.{sum-filled}
use Rattle.xoodoo.specs.Xoodoo.{perm}
use Rattle.rolling.specs.Rolling.{roll_in, roll_out}
use Rattle.deck.specs.declared.DeckState.{DeckState}
use Rattle.deck.specs.Strings.{Str, block, blocks}
use Rattle.deck.specs.Closing.{closed_by}
use Rattle.deck.specs.Deck.{iterate, mask_at, add_blocks, index_growth, output_byte, run}
use Rattle.deck.specs.Incremental.{append}
use Rattle.deck.proofs.Strings.{block-from_bytes}
use Rattle.deck.proofs.Deck.{iterate-more, mask_at-more, add_blocks-more}
use Rattle.deck.proofs.Output.{output_byte-block}
use Rattle.xoofff.specs.declared.Compressed.{Compressed}
use Rattle.xoofff.specs.Leaves.{Added, output_blocks, compressed}

-- ---- the bytes of a block

-- byte i of the bytes s and the closing byte c, and 0 past them
abbrev pub closed_at : List ℕ → ℕ → ℕ → ℕ
closed_at s c i = get_or (s ++ c ∷ []) i 0

closed_in : (s : List ℕ) (c i : ℕ) → i < length s → get_or s i 0 ≡ closed_at s c i
closed_in s c i h = sym (get_or-append s (c ∷ []) 0 i h)

closed-end : (s : List ℕ) (c i : ℕ) → i ≡ length s → c ≡ closed_at s c i
closed-end s c i h = sym (ap (closed_at s c) h ∙ get_or-append_seam s c [] 0)

closed-past : (s : List ℕ) (c i : ℕ) → length s < i → closed_at s c i ≡ 0
closed-past s c i h = get_or-eq_default (s ++ c ∷ []) 0 (omega (arith, length-append s (c ∷ [])))

-- the elements of b from i on are 0
abbrev pub Clear : List ℕ → ℕ → Type 0
Clear b i = (k : ℕ) → i ≤ k → get_or b k 0 ≡ 0

pub clear-more : (b : List ℕ) (i v : ℕ) → Clear b i → Clear (set b i v) (i + 1)
clear-more b i v h k l = get_or-set_other b i k v 0 (λ e. omega (arith, e)) ∙ h k (omega arith)

-- the last block, which starts at `at`: what a loop has copied and what it has not reached yet
pub record Copied (s : List ℕ) (c at : ℕ) (b : List ℕ) (i : ℕ) : Type 0 where
  pub size : length b ≡ 48
  pub filled : Filled (λ k. closed_at s c (at + k)) b i
  pub clear : Clear b i

-- n bytes from place `at` on, of which w were lent, copied to a block of zeros
pub copied_all : (s : List ℕ) (c at n w : ℕ) (l : List ℕ) → n ≤ 48 → at + n ≡ length s → w ≡ n → l ≡ take w (drop at s)
    → Copied s c at (l ++ drop n (replicate 48 0)) n
copied_all s c at n w l h e ew el =
    record {
      size = omega (arith, length-append l (drop n (replicate 48 0)), length-drop n (replicate {A = ℕ} 48 0), m, z);
      filled = λ k g.
          get_or-append l (drop n (replicate 48 0)) 0 k (omega (arith, m)) ∙ ap (λ (u : List ℕ). get_or u k 0) el
          ∙ get_or-take w (drop at s) k 0 (omega arith) ∙ get_or-drop at s k 0 ∙ closed_in s c (at + k) (omega arith);
      clear = λ k g.
          let i : k ≡ length l + (k - n) = omega (arith, m) in
          ap (λ (u : ℕ). get_or (l ++ drop n (replicate 48 0)) u 0) i ∙ get_or-append-add l (drop n (replicate 48 0)) (k - n) 0
          ∙ get_or-drop n (replicate 48 0) (k - n) 0 ∙ zeros-at (n + (k - n)) (dec_le 48 (n + (k - n)));
    }
  where
    z : length (replicate {A = ℕ} 48 0) ≡ 48
    z = refl

    m : length l ≡ n
    m = ap length el ∙ length-take-le w (drop at s) (omega (arith, length-drop at s)) ∙ ew

    zeros-at : (k : ℕ) → Dec (48 ≤ k) → ◌≡◌ {A = ℕ} (get_or (replicate 48 0) k 0) 0
    zeros-at k (yes p) = get_or-eq_default (replicate 48 0) 0 p
    zeros-at k (no p) = get_or-replicate 48 k 0 0 (omega (arith, p))

-- with the closing byte
pub closed_block : (s : List ℕ) (c at : ℕ) (b : List ℕ) (n : ℕ) → n < 48 → at + n ≡ length s → Copied s c at b n → set b n c ≡ run (closed_at s c) at 48
closed_block s c at b n h e d = tabulate-is 48 (λ k. closed_at s c (at + k)) (set b n c) (length-set b n c ∙ d.size) (λ k l. go k (dec_le k n))
  where
    go : (k : ℕ) → Dec (k ≤ n) → get_or (set b n c) k 0 ≡ closed_at s c (at + k)
    go k (yes p) = filled_more (λ k. closed_at s c (at + k)) b n c (omega (arith, d.size)) (closed-end s c (at + n) e) d.filled k (omega arith)
    go k (no p) = clear-more b n c d.clear k (omega (arith, p)) ∙ sym (closed-past s c (at + k) (omega (arith, p)))

-- at a multiple of 48 bytes the last block holds the closing byte alone
pub closing-alone : (s : List ℕ) (c j : ℕ) → 0 < c → c < 256 → 48 * j ≡ length s → block (closed_by s c) j ≡ from_bytes (c ∷ replicate 47 0)
closing-alone s c j p h e = block-from_bytes s c j p h (c ∷ replicate 47 0) go
  where
    go : (i : ℕ) → i < 48 → get_or (c ∷ replicate 47 0) i 0 ≡ closed_at s c (48 * j + i)
    go zero l = closed-end s c (48 * j + 0) (omega (arith, e))
    go (suc i) l = get_or-replicate 47 i 0 0 (omega arith) ∙ sym (closed-past s c (48 * j + suc i) (omega (arith, e)))

-- so it is of any run of 48 j bytes, of none too: nothing is assumed here
pub closing-alone-of-run : (f : ℕ → ℕ) (j : ℕ) → block (closed_by (tabulate (48 * j) f) 1) j ≡ from_bytes (1 ∷ replicate 47 0)
closing-alone-of-run f j = closing-alone (tabulate (48 * j) f) 1 j (lit< tt) (lit< tt) (sym (tabulate-length (48 * j) f))

-- a full block, as it stands in the string
pub full_block : (s : List ℕ) (c j : ℕ) → 0 < c → c < 256 → 48 * j + 48 ≤ length s → from_bytes (drop (48 * j) s) ≡ block (closed_by s c) j
full_block s c j p h l = sym (block-from_bytes s c j p h (drop (48 * j) s) (λ i g. get_or-drop (48 * j) s i 0 ∙ closed_in s c (48 * j + i) (omega arith)))

-- ---- compression

-- one more block, by the mask at its index
pub block-added : (k : List ℕ) (s : Str) (j : ℕ) (x a m : List ℕ) {b t : List ℕ} → a ≡ add_blocks k 0 s j x → m ≡ mask_at k j → b ≡ block s j
    → t ≡ sum a (perm (sum b m)) → t ≡ add_blocks k 0 s (j + 1) x
block-added k s j x a m {b} {t} ea em eb e = e ∙ ap₂ (λ (u v : List ℕ). sum u (perm v)) ea (ap₂ sum eb em) ∙ sym (add_blocks-more k s j x)

pub mask-rolled : (k : List ℕ) (j : ℕ) (m t : List ℕ) → m ≡ mask_at k j → t ≡ roll_in m → t ≡ mask_at k (j + 1)
mask-rolled k j m t h e = e ∙ ap roll_in h ∙ sym (mask_at-more k j)

-- after the last block: the string's state and its count
pub all-added : (d : DeckState) (s : Str) (a m : List ℕ) (j i : ℕ) → j ≡ blocks s → a ≡ add_blocks d.mask 0 s j d.acc → m ≡ mask_at d.mask (j + 1) → i ≡ d.index + j + 1
    → ◌≡◌ {A = Compressed} (record { state = record { acc = a; mask = m; index = i }; count = j }) (compressed d s)
unfolding compressed append index_growth
all-added d s a m j i ej ea em ei =
    let ei' : i ≡ d.index + (j + 1) = omega arith in
    (λ t. record { state = record { acc = ea t; mask = em t; index = ei' t }; count = j })
    ∙ ap {B = Compressed} (λ (n : ℕ). record { state = record { acc = add_blocks d.mask 0 s n d.acc; mask = mask_at d.mask (n + 1); index = d.index + (n + 1) }; count = n }) ej

-- ---- runs added to a buffer

pub added_none : (f : ℕ → ℕ) (at : ℕ) (o : List ℕ) → Added f at 0 o o
added_none f at o = record { size = refl; sums = λ k h. absurd (omega arith); front = λ k h. refl; rest = λ k h. refl }

-- the same numbers, added
pub added-same : (f g : ℕ → ℕ) (at n : ℕ) {o o' : List ℕ} → ((k : ℕ) → k < n → f k ≡ g k) → Added f at n o o' → Added g at n o o'
added-same f g at n {o} e d = record { size = d.size; sums = λ k l. d.sums k l ∙ ap (bit_xor (get_or o (at + k) 0)) (e k l); front = d.front; rest = d.rest }

-- a second run directly after the first, from place p on
pub added-on : (f g : ℕ → ℕ) (at m p n : ℕ) (o o' o'' : List ℕ) → p ≡ at + m → ((k : ℕ) → k < n → g k ≡ f (m + k))
    → Added f at m o o' → Added g p n o' o'' → Added f at (m + n) o o''
added-on f g at m p n o o' o'' ep e a d =
    record {
      size = d.size ∙ a.size;
      sums = λ k l. go k l (dec_le m k);
      front = λ k l. d.front k (omega arith) ∙ a.front k l;
      rest = λ k l. d.rest k (omega arith) ∙ a.rest k (omega arith);
    }
  where
    go : (k : ℕ) → k < m + n → Dec (m ≤ k) → get_or o'' (at + k) 0 ≡ bit_xor (get_or o (at + k) 0) (f k)
    go k l (yes q) =
        let i : at + k ≡ p + (k - m) = omega arith in
        let j : m + (k - m) ≡ k = omega arith in
        ap (λ (h : ℕ). get_or o'' h 0) i
        ∙ d.sums (k - m) (omega arith)
        ∙ ap₂ bit_xor (a.rest (p + (k - m)) (omega arith) ∙ ap (λ (h : ℕ). get_or o h 0) (sym i)) (e (k - m) (omega arith) ∙ ap f j)
    go k l (no q) = d.front (at + k) (omega (arith, q)) ∙ a.sums k (omega (arith, q))

-- a run that was added to the n bytes from place `at` on
pub added-part : (f : ℕ → ℕ) (at n : ℕ) (o b : List ℕ) → at + n ≤ length o → b ≡ sum (take n (drop at o)) (tabulate n f)
    → Added f at n o (take at o ++ (b ++ drop n (drop at o)))
added-part f at n o b h e =
    record {
      size = omega (arith, length-append (take at o) (b ++ drop n (drop at o)), length-append b (drop n (drop at o)), length-drop n (drop at o), length-drop at o, p, m);
      sums = λ k l.
          behind k
          ∙ get_or-append b (drop n (drop at o)) 0 k (omega (arith, m))
          ∙ ap (λ (u : List ℕ). get_or u k 0) e
          ∙ sum-at (take n (drop at o)) (tabulate n f) k (omega (arith, t)) (omega (arith, tabulate-length n f))
          ∙ ap₂ bit_xor (get_or-take n (drop at o) k 0 l ∙ get_or-drop at o k 0) (tabulate-at n f k l);
      front = λ k l. get_or-append (take at o) (b ++ drop n (drop at o)) 0 k (omega (arith, p)) ∙ get_or-take at o k 0 l;
      rest = λ k l.
          let i : k ≡ at + (length b + (k - at - n)) = omega (arith, m) in
          let j : at + (n + (k - at - n)) ≡ k = omega arith in
          ap (λ (u : ℕ). get_or (take at o ++ (b ++ drop n (drop at o))) u 0) i
          ∙ behind (length b + (k - at - n))
          ∙ get_or-append-add b (drop n (drop at o)) (k - at - n) 0
          ∙ get_or-drop n (drop at o) (k - at - n) 0
          ∙ get_or-drop at o (n + (k - at - n)) 0
          ∙ ap (λ (u : ℕ). get_or o u 0) j;
    }
  where
    p : length (take at o) ≡ at
    p = length-take-le at o (omega arith)

    t : length (take n (drop at o)) ≡ n
    t = length-take-le n (drop at o) (omega (arith, length-drop at o))

    m : length b ≡ n
    m = ap length e ∙ sum-length (take n (drop at o)) (tabulate n f) (omega (arith, t, tabulate-length n f)) ∙ t

    behind : (k : ℕ) → get_or (take at o ++ (b ++ drop n (drop at o))) (at + k) 0 ≡ get_or (b ++ drop n (drop at o)) k 0
    behind k = ap (λ (u : ℕ). get_or (take at o ++ (b ++ drop n (drop at o))) (u + k) 0) (sym p) ∙ get_or-append-add (take at o) (b ++ drop n (drop at o)) k 0

-- the same where w bytes were lent
pub added-lent : (f : ℕ → ℕ) (at n w : ℕ) (o b : List ℕ) → at + n ≤ length o → w ≡ n → b ≡ sum (take w (drop at o)) (tabulate n f)
    → Added f at n o (take at o ++ (b ++ drop w (drop at o)))
added-lent f at n w o b h ew eb =
    subst (λ (v : ℕ). Added f at n o (take at o ++ (b ++ drop v (drop at o)))) (sym ew)
    (added-part f at n o b h (eb ∙ ap (λ (v : ℕ). sum (take v (drop at o)) (tabulate n f)) ew))

-- n bytes of a block, from byte `skip` on, as bytes
pub block-part : (l : List ℕ) (skip n w : ℕ) {b : List ℕ} → b ≡ to_bytes l → skip + n ≤ 48 → w ≡ n → take w (drop skip b) ≡ tabulate n (λ k. state_byte l (skip + k))
block-part l skip n w {b} e h ew =
    let z : length b ≡ 48 = ap length e ∙ tabulate-length 48 (state_byte l) in
    tabulate-is n (λ k. state_byte l (skip + k)) (take w (drop skip b)) (length-take-le w (drop skip b) (omega (arith, length-drop skip b)) ∙ ew)
    (λ k g.
    get_or-take w (drop skip b) k 0 (omega arith) ∙ get_or-drop skip b k 0 ∙ ap (λ (u : List ℕ). get_or u (skip + k) 0) e
    ∙ tabulate-at 48 (state_byte l) (skip + k) (omega arith))

-- the same of a block l that goes out whole, where w bytes were lent
pub added-whole : (l : List ℕ) (at w : ℕ) (o b : List ℕ) → at + 48 ≤ length o → w ≡ 48 → b ≡ sum (take w (drop at o)) (to_bytes l)
    → Added (state_byte l) at 48 o (take at o ++ (b ++ drop w (drop at o)))
added-whole l at w o b h ew eb = added-lent (state_byte l) at 48 w o b h ew eb

-- so from its first byte on: n is what is there from byte `skip` on and fits
pub added-block : (l : List ℕ) (skip at n w : ℕ) (o b : List ℕ) → n ≡ min (48 - skip) (length o - at) → 48 ≤ n → w ≡ 48
    → b ≡ sum (take w (drop at o)) (to_bytes l) → Added (λ k. state_byte l (skip + k)) at n o (take at o ++ (b ++ drop w (drop at o)))
added-block l skip at n w o b en h ew eb =
    let e : 48 ≡ n = omega arith in
    let z : 0 ≡ skip = omega arith in
    subst (λ (v : ℕ). Added (λ k. state_byte l (skip + k)) at v o (take at o ++ (b ++ drop w (drop at o)))) e
    (added-same (state_byte l) (λ k. state_byte l (skip + k)) at 48 (λ k g. let i : k ≡ skip + k = omega arith in ap (state_byte l) i)
    (added-whole l at w o b (omega arith) ew eb))

-- what was added to the buffer's rest from place `at` on, which was lent, was added to the buffer
pub added-rest : (f : ℕ → ℕ) (at n : ℕ) (o b : List ℕ) → at ≤ length o → Added f 0 n (take (length o - at) (drop at o)) b
    → Added f at n o (take at o ++ (b ++ drop (length o - at) (drop at o)))
added-rest f at n o b h a = subst (λ (l : List ℕ). Added f at n o (take at o ++ l)) (sym whole) is
  where
    t : take (length o - at) (drop at o) ≡ drop at o
    t = take_all (length o - at) (drop at o) (omega (arith, length-drop at o))

    d : Added f 0 n (drop at o) b
    d = subst (λ (l : List ℕ). Added f 0 n l b) t a

    p : length (take at o) ≡ at
    p = length-take-le at o h

    whole : b ++ drop (length o - at) (drop at o) ≡ b
    whole = ap (λ (u : List ℕ). b ++ u) (ap (λ (m : ℕ). drop m (drop at o)) (sym (length-drop at o)) ∙ drop-length (drop at o)) ∙ append-nil b

    behind : (k : ℕ) → get_or (take at o ++ b) (at + k) 0 ≡ get_or b (0 + k) 0
    behind k =
        let z : k ≡ 0 + k = sym (zero-add k) in
        ap (λ (u : ℕ). get_or (take at o ++ b) (u + k) 0) (sym p) ∙ get_or-append-add (take at o) b k 0 ∙ ap (λ (u : ℕ). get_or b u 0) z

    before : (k : ℕ) → get_or (drop at o) (0 + k) 0 ≡ get_or o (at + k) 0
    before k = let z : at + (0 + k) ≡ at + k = omega arith in get_or-drop at o (0 + k) 0 ∙ ap (λ (u : ℕ). get_or o u 0) z

    is : Added f at n o (take at o ++ b)
    is =
        record {
          size = omega (arith, length-append (take at o) b, p, d.size, length-drop at o);
          sums = λ k l. behind k ∙ d.sums k l ∙ ap (λ (u : ℕ). bit_xor u (f k)) (before k);
          front = λ k l. get_or-append (take at o) b 0 k (omega (arith, p)) ∙ get_or-take at o k 0 l;
          rest = λ k l.
              let i : k ≡ at + (k - at) = omega arith in
              ap (λ (u : ℕ). get_or (take at o ++ b) u 0) i ∙ behind (k - at) ∙ d.rest (0 + (k - at)) (omega arith) ∙ before (k - at)
              ∙ ap (λ (u : ℕ). get_or o u 0) (sym i);
        }

-- the whole buffer
pub added-all : (f : ℕ → ℕ) (n : ℕ) (o o' : List ℕ) → n ≡ length o → Added f 0 n o o' → o' ≡ sum o (tabulate (length o) f)
added-all f n o o' e a =
    sum-filled f (length o) o o' refl a.size
    (λ k h.
    let z : k ≡ 0 + k = sym (zero-add k) in
    ap (λ (i : ℕ). get_or o' i 0) z ∙ a.sums k (omega (arith, e)) ∙ ap (λ (i : ℕ). bit_xor (get_or o i 0) (f k)) (sym z))

-- ---- expansion

pub no_blocks : (i : ℕ) → 0 ≡ output_blocks i 0
unfolding output_blocks
no_blocks i = refl

pub blocks-of : (i n : ℕ) → 0 < n → output_blocks i n ≡ (i + (n - 1)) / 48 + 1 - i / 48
unfolding output_blocks
blocks-of i zero h = absurd (omega arith)
blocks-of i (suc n) h = let e : n ≡ suc n - 1 = omega arith in ap (λ (k : ℕ). (i + k) / 48 + 1 - i / 48) e

-- one more block, of which n bytes were taken
pub blocks_more : (i m n c : ℕ) → (i + m) / 48 ≡ i / 48 + c → 0 < n → n ≤ 48 - (i + m) % 48 → c + 1 ≡ output_blocks i (m + n)
blocks_more i m n c e h l = omega (arith, blocks-of i (m + n) (omega arith))

pub blocks-most : (i n : ℕ) → output_blocks i n ≤ n
unfolding output_blocks
blocks-most i zero = omega arith
blocks-most i (suc n) = omega arith

-- after `count` output blocks: the first n bytes of the buffer have their sums, and z is the state that the next block is made from
pub record Expanded (y k' : List ℕ) (from : ℕ) (o : List ℕ) (n : ℕ) (z o' : List ℕ) (count : ℕ) : Type 0 where
  pub rolled : z ≡ iterate (from / 48 + count) roll_out y
  pub added : Added (λ k. output_byte y k' (from + k)) 0 n o o'

pub expanded-none : (y k' : List ℕ) (from : ℕ) (o z : List ℕ) → z ≡ iterate (from / 48) roll_out y → Expanded y k' from o 0 z o 0
expanded-none y k' from o z e =
    let h : from / 48 ≡ from / 48 + 0 = omega arith in
    record { rolled = e ∙ ap (λ (i : ℕ). iterate i roll_out y) h; added = added_none (λ k. output_byte y k' (from + k)) 0 o }

-- one more block b, of which n bytes were added: those of the output from byte from + m on
pub expanded-more : (y k' : List ℕ) (from : ℕ) (o z o' o'' : List ℕ) (m n count : ℕ) (b t : List ℕ)
    → (from + m) / 48 ≡ from / 48 + count → n ≤ 48 - (from + m) % 48 → b ≡ sum (perm z) k' → t ≡ roll_out z
    → Added (λ k. state_byte b ((from + m) % 48 + k)) m n o' o'' → Expanded y k' from o m z o' count → Expanded y k' from o (m + n) t o'' (count + 1)
expanded-more y k' from o z o' o'' m n count b t e h eb et d x =
    let i : from / 48 + count + 1 ≡ from / 48 + (count + 1) = omega arith in
    record {
      rolled = et ∙ ap roll_out x.rolled ∙ sym (iterate-more roll_out (from / 48 + count) y) ∙ ap (λ (j : ℕ). iterate j roll_out y) i;
      added =
          added-on (λ k. output_byte y k' (from + k)) (λ k. state_byte b ((from + m) % 48 + k)) 0 m m n o o' o'' (sym (zero-add m))
          (λ k l.
          let a : from + m + k ≡ from + (m + k) = omega arith in
          ap (λ (u : List ℕ). state_byte u ((from + m) % 48 + k)) eb
          ∙ sym (tabulate-at 48 (state_byte (sum (perm z) k')) ((from + m) % 48 + k) (omega arith))
          ∙ output_byte-block y k' z (from + m) (from / 48 + count) n k e x.rolled h l
          ∙ ap (output_byte y k') a)
          x.added d;
    }

-- what one more block does to the place and the count
pub place-more : (from m n count L : ℕ) → (from + m) / 48 ≡ from / 48 + count → n ≡ min (48 - (from + m) % 48) (L - m) → m + n < L
    → (from + (m + n)) / 48 ≡ from / 48 + (count + 1)
place-more from m n count L e h l = omega arith
