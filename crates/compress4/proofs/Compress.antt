-- Four full blocks at a time are one after another, and the leftover completes the string. Assumes nothing.
use mathlib.Core.Path.{◌≡◌, refl, sym, ap, ap₂, ◌∙◌}
use mathlib.Core.Bool.{Bool}
use mathlib.Core.List.{List}
use Prim.Native.Nat.{ℕ, ◌+◌, ◌*◌, ◌-◌, ◌/◌, ◌%◌, ◌<◌, ◌≤◌}
use native.Mathlib.Omega.{arith}
use lib.Dec.{lit<}
use lib.ListN.{length, get_or, replicate, take, drop, take-append-drop, length-take, length-drop}
use lib.Seq.{get_or-take, drop-drop, take_all}
use Rattle.word.specs.Word.{bit}
use Rattle.word.specs.Lists.{sum, tabulate}
use Rattle.word.proofs.Bit.{is-own, is-more, is_word}
use Rattle.word.proofs.Lists.{sum-assoc, sum_comm, sum-zero, sum-length}
use Rattle.state.specs.State.{lane}
use Rattle.state.specs.Bytes.{string_state, byte_bit, from_string, from_bytes}
use Rattle.state.proofs.Lanes.{lanes-ext, lanes-words}
use Rattle.state.proofs.Bytes.{lane-further}
use Rattle.state.proofs.Facts.{string-to-state, from_string-length}
use Rattle.xoodoo.specs.Xoodoo.{perm}
use Rattle.xoodoo.proofs.Facts.{perm-length}
use Rattle.rolling.specs.Rolling.{roll_in}
use Rattle.xoodoo4.specs.Four.{part, beside, laid}
use Rattle.xoodoo4.proofs.Four.{beside-part, beside-length, beside-ext, part-sum, laid-part}
use Rattle.rows.proofs.Rows.{rolling-in, RowFrom, row_laid, rolled-on}
use Rattle.deck.specs.declared.DeckState.{DeckState}
use Rattle.deck.specs.Strings.{Str, blocks, b, framed}
use Rattle.deck.specs.Closing.{closed_by, frame_bits}
use Rattle.deck.specs.Deck.{index_growth, iterate}
use Rattle.deck.specs.Incremental.{append}
use Rattle.deck.proofs.Strings.{closed-blocks}
use Rattle.deck.proofs.Deck.{closed-growth}
use Rattle.deck.proofs.Incremental.{append-front}
use Rattle.xoofff.specs.declared.Compressed.{Compressed}
use Rattle.xoofff.specs.Leaves.{compressed}
use Rattle.compress4.specs.Four.{block_at, add_four}

-- ---- blocks one after another

-- the state after one more full block: the block with the mask, permuted, is added, the mask is rolled, and the index is one higher
abbrev block_more : DeckState → List ℕ → DeckState
block_more d b = record { acc = sum d.acc (perm (sum b d.mask)); mask = roll_in d.mask; index = d.index + 1 }

-- the state after the four full blocks of s from byte `at` on, one after another
four_more : DeckState → (s : List ℕ) (at : ℕ) → DeckState
four_more d s at =
    block_more
    (block_more (block_more (block_more d (from_bytes (drop at s))) (from_bytes (drop (at + 48) s))) (from_bytes (drop (at + 96) s)))
    (from_bytes (drop (at + 144) s))

-- the bytes after the first 48 are not looked at
front-only : (l : List ℕ) → from_bytes (take 48 l) ≡ from_bytes l
unfolding from_string
front-only l =
    lanes-ext _ _
    (λ x y z hx hy hz.
    let k : ℕ = z + 32 * (x + 4 * y) in
    ap (λ (n : ℕ). bit n (k % 8)) (get_or-take 48 l (k / 8) 0 (omega arith)))

block-append : (d : DeckState) (s : List ℕ) (p q : ℕ) (f : List Bool) → p + 48 ≤ length s → q ≡ p + 48
    → append d (framed (drop p s) f) ≡ append (block_more d (from_bytes (drop p s))) (framed (drop q s) f)
block-append d s p q f h e =
    let l : List ℕ = drop p s in
    let n : length (take 48 l) ≡ 48 = omega (arith, length-take 48 l, length-drop p s) in
    let r : drop 48 l ≡ drop q s = drop-drop 48 p s ∙ ap (λ (k : ℕ). drop k s) (sym e) in
    ap (λ (t : List ℕ). append d (framed t f)) (sym (take-append-drop 48 l))
    ∙ append-front d (take 48 l) (drop 48 l) f n
    ∙ ap₂ (λ (v t : List ℕ). append (block_more d v) (framed t f)) (front-only l) r

-- four of them
four-append : (d : DeckState) (s : List ℕ) (at : ℕ) (f : List Bool) → at + 192 ≤ length s
    → append d (framed (drop at s) f) ≡ append (four_more d s at) (framed (drop (at + 192) s) f)
unfolding four_more
four-append d s at f h =
    block-append d s at (at + 48) f (omega arith) refl
    ∙ block-append _ s (at + 48) (at + 96) f (omega arith) (omega arith)
    ∙ block-append _ s (at + 96) (at + 144) f (omega arith) (omega arith)
    ∙ block-append _ s (at + 144) (at + 192) f (omega arith) (omega arith)

-- ---- the four blocks side by side

-- lane i of the block from byte `at` on
pub block-lane : (s : List ℕ) (at i m : ℕ) {v : ℕ} → i < 12 → m ≡ at + 4 * i → v ≡ lane (byte_bit (drop m s)) → v ≡ get_or (from_bytes (drop at s)) i 0
unfolding from_string
block-lane s at i m h e ev = ev ∙ sym (is_word (is-more (is-own (lanes-words (string_state (byte_bit (drop at s))) i)) same))
  where
    l : List ℕ
    l = from_bytes (drop at s)

    same : (z : ℕ) → z < 32 → bit (get_or l i 0) z ≡ byte_bit (drop m s) z
    same z g =
        let d : i ≡ i % 4 + 4 * (i / 4) = omega arith in
        ap (λ (k : ℕ). bit (get_or l k 0) z) d ∙ string-to-state (byte_bit (drop at s)) (i % 4) (i / 4) z (omega arith) (omega arith) g
        ∙ ap (λ (k : ℕ). byte_bit (drop at s) (z + 32 * k)) (sym d) ∙ sym (lane-further s at i m e z g)

-- the blocks of the bytes from place `at` on, which are lent
pub blocks-lent : (s : List ℕ) (at : ℕ) (g : ℕ → List ℕ) → at ≤ length s
    → beside (λ j. perm (sum (block_at (take (length s - at) (drop at s)) 0 j) (g j))) ≡ beside (λ j. perm (sum (block_at s at j) (g j)))
blocks-lent s at g h =
    beside-ext (λ j. perm (sum (block_at (take (length s - at) (drop at s)) 0 j) (g j))) (λ j. perm (sum (block_at s at j) (g j)))
    (λ j l.
    let e : at + (0 + 48 * j) ≡ at + 48 * j = omega arith in
    ap (λ (t : List ℕ). perm (sum (from_bytes t) (g j)))
    (ap (drop (0 + 48 * j)) (take_all (length s - at) (drop at s) (omega (arith, length-drop at s))) ∙ drop-drop (0 + 48 * j) at s ∙ ap (λ (n : ℕ). drop n s) e))

-- blocks and masks, permuted
pub group-permuted : (s : List ℕ) (at : ℕ) (g : ℕ → List ℕ) {w : List ℕ} → ((j : ℕ) → length (g j) ≡ 12) → w ≡ sum (beside (block_at s at)) (beside g)
    → beside (λ j. perm (laid 0 4 16 w j)) ≡ beside (λ j. perm (sum (block_at s at j) (g j)))
group-permuted s at g {w} h e =
    beside-ext (λ j. perm (laid 0 4 16 w j)) (λ j. perm (sum (block_at s at j) (g j)))
    (λ j l.
    ap perm
    (laid-part w j ∙ ap (part j) e ∙ part-sum j (beside (block_at s at)) (beside g) l (beside-length (block_at s at)) (beside-length g)
    ∙ ap₂ sum (beside-part (block_at s at) j l (from_string-length _)) (beside-part g j l (h j))))

-- ---- sums side by side

-- the order of sums does not matter
swap : (u a b : List ℕ) → sum (sum u a) b ≡ sum (sum u b) a
swap u a b = sum-assoc u a b ∙ ap (sum u) (sum_comm a b) ∙ sym (sum-assoc u b a)

past_two : (u a b c : List ℕ) → sum (sum (sum u a) b) c ≡ sum (sum (sum u c) a) b
past_two u a b c = swap (sum u a) b c ∙ ap (λ (t : List ℕ). sum t b) (swap u a c)

past_three : (u a b c d : List ℕ) → sum (sum (sum (sum u a) b) c) d ≡ sum (sum (sum (sum u d) a) b) c
past_three u a b c d = swap (sum (sum u a) b) c d ∙ ap (λ (t : List ℕ). sum t c) (past_two u a b d)

-- sums of results, added at the end, are results added one after another
add-sums : (x v w : List ℕ) → length v ≡ 48 → length w ≡ 48 → add_four x (sum v w) ≡ add_four (add_four x v) w
add-sums x v w hv hw =
    ap₂ sum (ap₂ sum (ap₂ sum (ap (sum x) (p 0 (lit< tt)) ∙ first) (p 1 (lit< tt)) ∙ second) (p 2 (lit< tt)) ∙ third) (p 3 (lit< tt)) ∙ fourth
  where
    p : (j : ℕ) → j < 4 → part j (sum v w) ≡ sum (part j v) (part j w)
    p j l = part-sum j v w l hv hw

    a : ℕ → List ℕ
    a j = part j v

    b : ℕ → List ℕ
    b j = part j w

    first : sum x (sum (a 0) (b 0)) ≡ sum (sum x (a 0)) (b 0)
    first = sym (sum-assoc x (a 0) (b 0))

    second : sum (sum (sum x (a 0)) (b 0)) (sum (a 1) (b 1)) ≡ sum (sum (sum (sum x (a 0)) (a 1)) (b 0)) (b 1)
    second = sym (sum-assoc (sum (sum x (a 0)) (b 0)) (a 1) (b 1)) ∙ ap (λ (t : List ℕ). sum t (b 1)) (swap (sum x (a 0)) (b 0) (a 1))

    third : sum (sum (sum (sum (sum x (a 0)) (a 1)) (b 0)) (b 1)) (sum (a 2) (b 2)) ≡ sum (sum (sum (sum (sum (sum x (a 0)) (a 1)) (a 2)) (b 0)) (b 1)) (b 2)
    third =
        sym (sum-assoc (sum (sum (sum (sum x (a 0)) (a 1)) (b 0)) (b 1)) (a 2) (b 2))
        ∙ ap (λ (t : List ℕ). sum t (b 2)) (past_two (sum (sum x (a 0)) (a 1)) (b 0) (b 1) (a 2))

    fourth : sum (sum (sum (sum (sum (sum (sum x (a 0)) (a 1)) (a 2)) (b 0)) (b 1)) (b 2)) (sum (a 3) (b 3)) ≡ add_four (add_four x v) w
    fourth =
        sym (sum-assoc (sum (sum (sum (sum (sum (sum x (a 0)) (a 1)) (a 2)) (b 0)) (b 1)) (b 2)) (a 3) (b 3))
        ∙ ap (λ (t : List ℕ). sum t (b 3)) (past_three (sum (sum (sum x (a 0)) (a 1)) (a 2)) (b 0) (b 1) (b 2) (a 3))

-- no results yet
pub none-added : (x : List ℕ) → length x ≡ 12 → add_four x (replicate 48 0) ≡ x
unfolding part tabulate
none-added x h =
    let e : sum x (replicate 12 0) ≡ x = ap (λ (n : ℕ). sum x (replicate n 0)) (sym h) ∙ sum-zero x in
    ap (λ (t : List ℕ). sum (sum (sum t (replicate 12 0)) (replicate 12 0)) (replicate 12 0)) e ∙ ap (λ (t : List ℕ). sum (sum t (replicate 12 0)) (replicate 12 0)) e
    ∙ ap (λ (t : List ℕ). sum t (replicate 12 0)) e ∙ e

-- ---- a string's first `at` bytes, whole groups: what their results sum up to, and the state after them

-- the state after the first `at` bytes of a string, whole blocks whose results sum up to these sums
abbrev pub after : DeckState → (sums : List ℕ) (at : ℕ) → DeckState
after d sums at = record { acc = add_four d.acc sums; mask = iterate (at / 48) roll_in d.mask; index = d.index + at / 48 }

pub record Taken (d : DeckState) (s : List ℕ) (c : ℕ) (sums : List ℕ) (at : ℕ) : Type 0 where
  pub fits : at ≤ length s
  pub whole : at % 192 ≡ 0
  pub size : length sums ≡ 48
  pub same : append d (closed_by s c) ≡ append (after d sums at) (closed_by (drop at s) c)

pub taken_none : (d : DeckState) (s : List ℕ) (c : ℕ) → length d.acc ≡ 12 → Taken d s c (replicate 48 0) 0
unfolding iterate append
taken_none d s c h =
    let p : d.acc ≡ add_four d.acc (replicate 48 0) = sym (none-added d.acc h) in
    let e : d.index ≡ d.index + 0 / 48 = omega arith in
    record {
      fits = omega arith;
      whole = refl;
      size = refl;
      same = ap (λ (e : DeckState). append e (closed_by s c)) (λ t. record { acc = p t; mask = d.mask; index = e t });
    }

-- one more group
pub taken_more : (d : DeckState) (s : List ℕ) (c : ℕ) (sums : List ℕ) (at n : ℕ) (r : List ℕ) {t : List ℕ} → at + 192 ≤ length s
    → RowFrom roll_in (iterate (at / 48) roll_in d.mask) n 16 r
    → t ≡ sum sums (beside (λ j. perm (sum (block_at s at j) (laid n 3 1 r j)))) → Taken d s c sums at → Taken d s c t (at + 192)
unfolding four_more iterate
taken_more d s c sums at n r {t} h row et a =
    record {
      fits = h;
      whole = let w : at % 192 ≡ 0 = a.whole in omega arith;
      size = ap length et ∙ sum-length sums (beside g) (omega (arith, a.size, beside-length g)) ∙ a.size;
      same = a.same ∙ four-append (after d sums at) s at (frame_bits 7 c) h ∙ ap (λ (e : DeckState). append e (closed_by (drop (at + 192) s) c)) (λ u. record { acc = acc u; mask = mask u; index = index u });
    }
  where
    m : List ℕ
    m = iterate (at / 48) roll_in d.mask

    g : ℕ → List ℕ
    g j = perm (sum (block_at s at j) (laid n 3 1 r j))

    by_mask : (j : ℕ) → j < 4 → part j (beside g) ≡ perm (sum (block_at s at j) (iterate j roll_in m))
    by_mask j l =
        beside-part g j l (perm-length _)
        ∙ ap (λ (k : List ℕ). perm (sum (block_at s at j) k))
        (row_laid roll_in rolling-in m n 16 j r (omega arith) row)

    first : at + 48 * 0 ≡ at
    first = omega arith

    acc : (four_more (after d sums at) s at).acc ≡ add_four d.acc t
    acc = sym (ap (add_four d.acc) et ∙ add-sums d.acc sums (beside g) a.size (beside-length g) ∙ results)
      where
        results : add_four (add_four d.acc sums) (beside g) ≡ (four_more (after d sums at) s at).acc
        results = ap₂ sum (ap₂ sum (ap₂ sum (ap (sum (add_four d.acc sums)) (by_mask 0 (lit< tt) ∙ ap (λ (n : ℕ). perm (sum (from_bytes (drop n s)) m)) first)) (by_mask 1 (lit< tt))) (by_mask 2 (lit< tt))) (by_mask 3 (lit< tt))

    mask : (four_more (after d sums at) s at).mask ≡ iterate ((at + 192) / 48) roll_in d.mask
    mask = rolled-on roll_in d.mask at a.whole

    index : (four_more (after d sums at) s at).index ≡ d.index + (at + 192) / 48
    index = let w : at % 192 ≡ 0 = a.whole in omega arith

-- ---- the leftover

-- what the code hands over: the string from byte `at` on
rest : (e : DeckState) (s : List ℕ) (c at : ℕ) {r : Compressed} → r ≡ compressed e (closed_by (take (length s - at) (drop at s)) c)
    → r ≡ compressed e (closed_by (drop at s) c)
rest e s c at h = h ∙ ap (λ (l : List ℕ). compressed e (closed_by l c)) (take_all (length s - at) (drop at s) (omega (arith, length-drop at s)))

-- what a string does to index and count, by its length
pub compressed-index : (d : DeckState) (s : List ℕ) (c : ℕ) {r : Compressed} → r ≡ compressed d (closed_by s c)
    → r.state.index ≡ d.index + (b (length s) + 1)
unfolding compressed append
compressed-index d s c e = ap (λ (r : Compressed). r.state.index) e ∙ ap (λ (n : ℕ). d.index + n) (closed-growth s c)

pub compressed-count : (d : DeckState) (s : List ℕ) (c : ℕ) {r : Compressed} → r ≡ compressed d (closed_by s c) → r.count ≡ b (length s)
unfolding compressed
compressed-count d s c e = ap (λ (r : Compressed). r.count) e ∙ closed-blocks s c

-- so of the leftover
pub rest-count : (e : DeckState) (s : List ℕ) (c at : ℕ) {r : Compressed} → r ≡ compressed e (closed_by (take (length s - at) (drop at s)) c)
    → r.count ≡ b (length s - at)
rest-count e s c at h = compressed-count e (drop at s) c (rest e s c at h) ∙ ap (λ (n : ℕ). b n) (length-drop at s)

pub rest-index : (e : DeckState) (s : List ℕ) (c at : ℕ) {r : Compressed} → r ≡ compressed e (closed_by (take (length s - at) (drop at s)) c)
    → r.state.index ≡ e.index + (b (length s - at) + 1)
rest-index e s c at h = compressed-index e (drop at s) c (rest e s c at h) ∙ ap (λ (n : ℕ). e.index + (b n + 1)) (length-drop at s)

-- it completes the string: e is the state before it, and the leftover was compressed from the index 0 on
pub rest-compressed : (d e : DeckState) (s : List ℕ) (c at : ℕ) (r : Compressed) → at ≤ length s → at % 192 ≡ 0
    → append d (closed_by s c) ≡ append e (closed_by (drop at s) c)
    → r ≡ compressed (record { acc = e.acc; mask = e.mask; index = 0 }) (closed_by (take (length s - at) (drop at s)) c)
    → ◌≡◌ {A = Compressed}
    (record { state = record { acc = r.state.acc; mask = r.state.mask; index = r.state.index + e.index }; count = at / 48 + r.count })
    (compressed d (closed_by s c))
unfolding compressed append
rest-compressed d e s c at r h m ea er = λ t. record { state = (state ∙ sym ea) t; count = count t }
  where
    S : Str
    S = closed_by (drop at s) c

    q : r ≡ compressed (record { acc = e.acc; mask = e.mask; index = 0 }) S
    q = rest (record { acc = e.acc; mask = e.mask; index = 0 }) s c at er

    index : r.state.index + e.index ≡ e.index + index_growth S
    index = omega (arith, ap (λ (t : Compressed). t.state.index) q)

    state : ◌≡◌ {A = DeckState} (record { acc = r.state.acc; mask = r.state.mask; index = r.state.index + e.index }) (append e S)
    state = λ t. record { acc = (q t).state.acc; mask = (q t).state.mask; index = index t }

    count : at / 48 + r.count ≡ blocks (closed_by s c)
    count = omega (arith, rest-count (record { acc = e.acc; mask = e.mask; index = 0 }) s c at er, closed-blocks s c)
