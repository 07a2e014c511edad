-- The bytes of two runs joined, and the full block in front of a string, over plain values. Assumes nothing.
use mathlib.Core.Path.{◌≡◌, refl, sym, ap, ap₂, ◌∙◌}
use mathlib.Core.List.{List, ◌++◌, append_assoc, append-nil}
use Prim.Native.Nat.{ℕ, ◌+◌, ◌-◌, ◌≤◌, min}
use native.Mathlib.Decide.{dec_le}
use native.Mathlib.Omega.{arith}
use lib.ListN.{length, take, drop, replicate, length-append, length-drop, take-append-drop}
use lib.Seq.{take_all, length-take-le, take-append_seam, take-append-le, take-append-add, drop-append-add}
use Rattle.word.specs.Lists.{sum}
use Rattle.state.specs.Bytes.{from_bytes}
use Rattle.xoodoo.specs.Xoodoo.{perm}
use Rattle.rolling.specs.Rolling.{roll_in}
use Rattle.deck.specs.declared.DeckState.{DeckState}
use Rattle.deck.specs.Strings.{Str}
use Rattle.deck.specs.Closing.{closed_by, frame_bits}
use Rattle.deck.specs.Deck.{index_growth}
use Rattle.deck.specs.Incremental.{append}
use Rattle.deck.proofs.Strings.{blocks-front}
use Rattle.deck.proofs.Incremental.{append-front}
use Rattle.xoofff.specs.declared.Compressed.{Compressed}
use Rattle.xoofff.specs.Leaves.{compressed}

-- ---- the joined bytes

-- the first n of them are the first k bytes of the first run and then bytes of the second, where k is as many as the first run has of n
taken-apart : (h s : List ℕ) (n k : ℕ) → k ≡ min (length h) n → take n (h ++ s) ≡ take k h ++ take (n - k) s
taken-apart h s n k e = go (dec_le (length h) n)
  where
    go : Dec (length h ≤ n) → take n (h ++ s) ≡ take k h ++ take (n - k) s
    go (yes p) =
        let i : n ≡ length h + (n - length h) = omega arith in
        let j : length h ≡ k = omega arith in
        ap (λ (m : ℕ). take m (h ++ s)) i ∙ take-append-add h s (n - length h) ∙ ap₂ (λ (t : List ℕ) (m : ℕ). t ++ take (n - m) s) (sym (take_all k h (omega arith))) j
    go (no p) =
        let i : n ≡ k = omega (arith, p) in
        let j : 0 ≡ n - k = omega arith in
        take-append-le n h s (omega (arith, p)) ∙ sym (append-nil (take n h)) ∙ ap₂ (λ (m q : ℕ). take m h ++ take q s) i j

-- so of a block of zeros into which both were copied
pub copied-both : (h s x y : List ℕ) (n k : ℕ) → n ≤ 48 → n ≤ length h + length s → k ≡ min (length h) n → x ≡ take k h → y ≡ take (n - k) s
    → (length (take k (x ++ drop k (replicate 48 0)) ++ (y ++ drop (n - k) (drop k (x ++ drop k (replicate 48 0))))) ≡ 48)
    × (take n (take k (x ++ drop k (replicate 48 0)) ++ (y ++ drop (n - k) (drop k (x ++ drop k (replicate 48 0))))) ≡ take n (h ++ s))
copied-both h s x y n k l m ek ex ey = (size, front)
  where
    b : List ℕ
    b = x ++ drop k (replicate 48 0)

    r : List ℕ
    r = drop (n - k) (drop k b)

    lx : length x ≡ k
    lx = ap length ex ∙ length-take-le k h (omega arith)

    ly : length y ≡ n - k
    ly = ap length ey ∙ length-take-le (n - k) s (omega arith)

    lb : length b ≡ 48
    lb = let z : length (replicate {A = ℕ} 48 0) ≡ 48 = refl in omega (arith, length-append x (drop k (replicate 48 0)), length-drop k (replicate {A = ℕ} 48 0), lx, z)

    size : length (take k b ++ (y ++ r)) ≡ 48
    size = omega (arith, length-append (take k b) (y ++ r), length-append y r, length-drop (n - k) (drop k b), length-drop k b, length-take-le k b (omega (arith, lb)), lb, ly)

    begins : take k b ≡ x
    begins = ap (λ (q : ℕ). take q b) (sym lx) ∙ take-append_seam x (drop k (replicate 48 0))

    front : take n (take k b ++ (y ++ r)) ≡ take n (h ++ s)
    front =
        let i : n ≡ length (x ++ y) = omega (arith, length-append x y, lx, ly) in
        ap (λ (t : List ℕ). take n (t ++ (y ++ r))) begins ∙ ap (take n) (sym (append_assoc x y r)) ∙ ap (λ (q : ℕ). take q ((x ++ y) ++ r)) i
        ∙ take-append_seam (x ++ y) r ∙ ap₂ (λ (t u : List ℕ). t ++ u) ex ey ∙ sym (taken-apart h s n k ek)

-- the joined bytes are their first n and what is left of the second run, where the first run is no longer than that
pub parted : (h s : List ℕ) (n : ℕ) → length h ≤ n → take n (h ++ s) ++ drop (n - length h) s ≡ h ++ s
parted h s n l =
    let e : length h + (n - length h) ≡ n = omega arith in
    ap (λ (t : List ℕ). take n (h ++ s) ++ t) (sym (drop-append-add h s (n - length h)) ∙ ap (λ (k : ℕ). drop k (h ++ s)) e)
    ∙ take-append-drop n (h ++ s)

-- ---- the full block in front

-- with one more index and one more permutation
abbrev pub counted : Compressed → Compressed
counted c = record { state = record { acc = c.state.acc; mask = c.state.mask; index = c.state.index + 1 }; count = c.count + 1 }

-- the state after a full block, but for its index
abbrev pub after_block : DeckState → List ℕ → DeckState
after_block d p = record { acc = sum d.acc (perm (sum (from_bytes p) d.mask)); mask = roll_in d.mask; index = d.index }

-- a full block in front of a string is one block step, then the string, and one more in index and count
pub compressed-front : (d : DeckState) (p s : List ℕ) (c : ℕ) → length p ≡ 48
    → counted (compressed (after_block d p) (closed_by s c)) ≡ compressed d (closed_by (p ++ s) c)
unfolding compressed append
compressed-front d p s c h =
    sym (λ t. record { state = (append-front d p s (frame_bits 7 c) h ∙ index) t; count = blocks-front p s (frame_bits 7 c) h t })
  where
    a : DeckState
    a = after_block d p

    S : Str
    S = closed_by s c

    index : append (record { acc = a.acc; mask = a.mask; index = d.index + 1 }) S ≡ (counted (compressed a S)).state
    index =
        let e : d.index + 1 + index_growth S ≡ d.index + index_growth S + 1 = omega arith in
        λ t. record { acc = (append a S).acc; mask = (append a S).mask; index = e t }

-- fewer bytes than a block, of which there are n: what was assembled is the joined bytes
pub all-assembled : (h s x : List ℕ) (n : ℕ) → n ≡ length h + length s → take n x ≡ take n (h ++ s) → take n x ≡ h ++ s
all-assembled h s x n e a = a ∙ take_all n (h ++ s) (omega (arith, length-append h s))

-- the first block x assembled and added, and then what is left of the second run compressed: with one more in index and count, this is the
-- joined string
pub first-added : (d : DeckState) (h s x : List ℕ) (c : ℕ) {l acc mask : List ℕ} {rest : Compressed} → length h ≤ 48
    → length x ≡ 48 → take 48 x ≡ take 48 (h ++ s) → l ≡ from_bytes x → acc ≡ sum d.acc (perm (sum l d.mask)) → mask ≡ roll_in d.mask
    → rest ≡ compressed (record { acc = acc; mask = mask; index = d.index }) (closed_by (take (length s - (48 - length h)) (drop (48 - length h) s)) c)
    → counted rest ≡ compressed d (closed_by (h ++ s) c)
first-added d h s x c {l} {acc} {mask} p n a el ea em e =
    ap counted (e ∙ (λ t. compressed (record { acc = acc' t; mask = em t; index = d.index }) (closed_by (left t) c)))
    ∙ compressed-front d x (drop (48 - length h) s) c n
    ∙ ap (λ (t : List ℕ). compressed d (closed_by (t ++ drop (48 - length h) s) c)) (sym (take_all 48 x (omega (arith, n))) ∙ a)
    ∙ ap (λ (t : List ℕ). compressed d (closed_by t c)) (parted h s 48 p)
  where
    acc' : acc ≡ sum d.acc (perm (sum (from_bytes x) d.mask))
    acc' = ea ∙ ap (λ (t : List ℕ). sum d.acc (perm (sum t d.mask))) el

    left : take (length s - (48 - length h)) (drop (48 - length h) s) ≡ drop (48 - length h) s
    left = take_all (length s - (48 - length h)) (drop (48 - length h) s) (omega (arith, length-drop (48 - length h) s))
