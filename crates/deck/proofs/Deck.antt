-- The mask, the blocks added one after another, and the lengths of what the deck function works on. Assumes nothing.
use mathlib.Core.Path.{◌≡◌, refl, sym, ap, ap₂, ◌∙◌}
use mathlib.Core.Bool.{Bool}
use mathlib.Core.List.{List, [], ◌∷◌, ◌++◌}
use Prim.Native.Nat.{ℕ, zero, suc, ◌+◌, ◌<◌}
use native.Mathlib.Nat.{add-zero, add-suc, zero-add}
use native.Mathlib.Numerals.{add-one}
use native.Mathlib.Omega.{arith}
use lib.ListN.{length}
use Rattle.word.specs.Lists.{sum}
use Rattle.word.proofs.Lists.{sum-length}
use Rattle.state.specs.Bytes.{from_bytes}
use Rattle.state.specs.State.{zeros}
use Rattle.state.proofs.Facts.{from_string-length, state_byte-lt}
use Rattle.xoodoo.specs.Xoodoo.{perm}
use Rattle.xoodoo.proofs.Facts.{perm-length}
use Rattle.rolling.specs.Rolling.{roll_in}
use Rattle.rolling.proofs.Facts.{roll_in-length}
use Rattle.deck.specs.Strings.{Str, blocks, block, b, framed}
use Rattle.deck.specs.Closing.{closed_by, frame_bits}
use Rattle.deck.specs.Deck.{iterate, key_mask, mask_at, add_blocks, add_history, index_growth, index_of, accumulator, output_mask, output_byte}
use Rattle.deck.proofs.Strings.{closed-blocks, block-front, block-behind, blocks-front}

-- ---- rolling

-- n times and then m times
pub iterate-add : (f : List ℕ → List ℕ) (n m : ℕ) (s : List ℕ) → iterate (n + m) f s ≡ iterate m f (iterate n f s)
unfolding iterate
iterate-add f n zero s = rw add-zero
iterate-add f n (suc m) s = rw add-suc (ap f (iterate-add f n m s))

-- once more, after the others and before them
pub iterate-more : (f : List ℕ → List ℕ) (n : ℕ) (s : List ℕ) → iterate (n + 1) f s ≡ f (iterate n f s)
unfolding iterate
iterate-more f n s = rw add-one

pub iterate-first : (f : List ℕ → List ℕ) (n : ℕ) (s : List ℕ) → iterate n f (f s) ≡ f (iterate n f s)
unfolding iterate
iterate-first f zero s = refl
iterate-first f (suc n) s = ap f (iterate-first f n s)

-- the mask at the index 0, at the next index, and at the index j from i on
pub mask_at-none : (k : List ℕ) → mask_at k 0 ≡ k
unfolding mask_at iterate
mask_at-none k = refl

pub mask_at-more : (k : List ℕ) (i : ℕ) → mask_at k (i + 1) ≡ roll_in (mask_at k i)
unfolding mask_at
mask_at-more k i = iterate-more roll_in i k

pub mask_at-add : (k : List ℕ) (i j : ℕ) → mask_at (mask_at k i) j ≡ mask_at k (i + j)
unfolding mask_at
mask_at-add k i j = sym (iterate-add roll_in i j k)

-- a key's closing byte is 1
pub key_mask-closed : (key : List ℕ) → key_mask key ≡ perm (block (closed_by key 1) 0)
unfolding key_mask frame_bits
key_mask-closed key = refl

-- ---- blocks added one after another

-- none, and one more, as a loop adds it that rolls the mask from block to block
pub add_blocks-none : (k : List ℕ) (i : ℕ) (s : Str) (x : List ℕ) → add_blocks k i s 0 x ≡ x
unfolding add_blocks
add_blocks-none k i s x = refl

pub add_blocks-more : (k : List ℕ) (s : Str) (j : ℕ) (x : List ℕ) → add_blocks k 0 s (j + 1) x ≡ sum (add_blocks k 0 s j x) (perm (sum (block s j) (mask_at k j)))
unfolding add_blocks
add_blocks-more k s j x =
    ap (λ (n : ℕ). add_blocks k 0 s n x) (add-one j)
    ∙ ap (λ (i : ℕ). sum (add_blocks k 0 s j x) (perm (sum (block s j) (mask_at k i)))) (zero-add j)

-- blocks from the index i on are blocks from the index 0 on, under the mask at i
pub add_blocks-from : (k : List ℕ) (i : ℕ) (s : Str) (n : ℕ) (x : List ℕ) → add_blocks k i s n x ≡ add_blocks (mask_at k i) 0 s n x
unfolding add_blocks
add_blocks-from k i s zero x = refl
add_blocks-from k i s (suc n) x =
    ap₂ (λ (y z : List ℕ). sum y (perm (sum (block s n) z))) (add_blocks-from k i s n x)
    (sym (mask_at-add k i n) ∙ ap (mask_at (mask_at k i)) (sym (zero-add n)))

-- a full block in front of a string is one block step, and then n blocks of the string from the next index on
pub add_blocks-behind : (k : List ℕ) (i : ℕ) (p s : List ℕ) (f : List Bool) → length p ≡ 48 → (n : ℕ) (x : List ℕ)
    → add_blocks k i (framed (p ++ s) f) (suc n) x
    ≡ add_blocks k (i + 1) (framed s f) n (sum x (perm (sum (from_bytes p) (mask_at k i))))
unfolding add_blocks
add_blocks-behind k i p s f h zero x = ap₂ (λ (l : List ℕ) (n : ℕ). sum x (perm (sum l (mask_at k n)))) (block-front p s f h) (add-zero i)
add_blocks-behind k i p s f h (suc n) x =
    let S : Str = framed (p ++ s) f in
    let e : i + suc n ≡ i + 1 + n = omega arith in
    ap₂ (λ (y l : List ℕ). sum y (perm (sum l (mask_at k (i + suc n))))) (add_blocks-behind k i p s f h n x) (ap (block S) (sym (add-one n)) ∙ block-behind p s f n h)
    ∙ ap (λ (m : ℕ). sum (add_blocks k (i + 1) (framed s f) n (sum x (perm (sum (from_bytes p) (mask_at k i))))) (perm (sum (block (framed s f) n) (mask_at k m)))) e

-- all of them
pub add_blocks-front : (k : List ℕ) (i : ℕ) (p s : List ℕ) (f : List Bool) → length p ≡ 48 → (x : List ℕ)
    → add_blocks k i (framed (p ++ s) f) (blocks (framed (p ++ s) f)) x
    ≡ add_blocks k (i + 1) (framed s f) (blocks (framed s f)) (sum x (perm (sum (from_bytes p) (mask_at k i))))
add_blocks-front k i p s f h x =
    ap (λ (n : ℕ). add_blocks k i (framed (p ++ s) f) n x) (blocks-front p s f h ∙ add-one (blocks (framed s f)))
    ∙ add_blocks-behind k i p s f h (blocks (framed s f)) x

-- how far the string of these bytes and this closing byte moves the index
pub closed-growth : (s : List ℕ) (c : ℕ) → index_growth (closed_by s c) ≡ b (length s) + 1
unfolding index_growth
closed-growth s c = ap (λ (n : ℕ). n + 1) (closed-blocks s c)

-- ---- lengths: a state has twelve lanes

-- blocks of a string
pub block-length : (s : Str) (j : ℕ) → length (block s j) ≡ 12
unfolding block
block-length s j = from_string-length _

iterate-length : (f : List ℕ → List ℕ) → ((l : List ℕ) → length (f l) ≡ 12) → (n : ℕ) (l : List ℕ) → length l ≡ 12 → length (iterate n f l) ≡ 12
unfolding iterate
iterate-length f e zero l h = h
iterate-length f e (suc n) l h = e (iterate n f l)

-- masks
pub key_mask-length : (key : List ℕ) → length (key_mask key) ≡ 12
unfolding key_mask
key_mask-length key = perm-length _

pub mask_at-length : (k : List ℕ) (i : ℕ) → length k ≡ 12 → length (mask_at k i) ≡ 12
unfolding mask_at
mask_at-length k i h = iterate-length roll_in roll_in-length i k h

-- the sum of two states
pub sum-twelve : (s t : List ℕ) → length s ≡ 12 → length t ≡ 12 → length (sum s t) ≡ 12
sum-twelve s t h g = sum-length s t (omega (arith, h, g)) ∙ h

-- accumulators
pub add_blocks-length : (k : List ℕ) (i : ℕ) (s : Str) (n : ℕ) (x : List ℕ) → length x ≡ 12 → length (add_blocks k i s n x) ≡ 12
unfolding add_blocks
add_blocks-length k i s zero x h = h
add_blocks-length k i s (suc j) x h = sum-twelve _ _ (add_blocks-length k i s j x h) (perm-length _)

pub add_history-length : (k : List ℕ) (i : ℕ) (h : List Str) (x : List ℕ) → length x ≡ 12 → length (add_history k i h x) ≡ 12
unfolding add_history
add_history-length k i [] x e = e
add_history-length k i (s ∷ h) x e = add_history-length k (i + index_growth s) h (add_blocks k i s (blocks s) x) (add_blocks-length k i s (blocks s) x e)

-- what a history gives
pub accumulator-length : (key : List ℕ) (h : List Str) → length (accumulator key h) ≡ 12
unfolding accumulator
accumulator-length key h = add_history-length (key_mask key) 0 h zeros refl

pub output_mask-length : (key : List ℕ) (h : List Str) → length (output_mask key h) ≡ 12
unfolding output_mask
output_mask-length key h = mask_at-length (key_mask key) (index_of h) (key_mask-length key)

-- a byte of the output is a byte
pub output_byte-lt : (y k : List ℕ) (i : ℕ) → output_byte y k i < 256
unfolding output_byte
output_byte-lt y k i = state_byte-lt _ _
