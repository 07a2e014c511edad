-- Four output blocks at a time are one after another, and parts of a buffer that have their sums make a whole that has. Assumes nothing.
use mathlib.Core.Path.{◌≡◌, refl, sym, ap, ap₂, ◌∙◌, subst}
use mathlib.Core.List.{List, ◌++◌}
use Prim.Native.Nat.{ℕ, zero, suc, ◌+◌, ◌*◌, ◌-◌, ◌/◌, ◌%◌, ◌<◌, ◌≤◌, min}
use native.Mathlib.Nat.{zero-add}
use native.Mathlib.Omega.{arith}
use lib.Dec.{lit<}
use lib.ListN.{length, take, drop, length-take, length-drop}
use Rattle.word.specs.Lists.{tabulate, sum}
use Rattle.state.specs.Bytes.{state_byte, to_bytes}
use Rattle.xoodoo.specs.Xoodoo.{perm}
use Rattle.xoodoo.proofs.Facts.{perm-length}
use Rattle.rolling.specs.Rolling.{roll_out}
use Rattle.xoodoo4.specs.Four.{part, beside, laid}
use Rattle.xoodoo4.proofs.Four.{beside-part}
use Rattle.rows.proofs.Rows.{rolling-out, RowFrom, row_laid}
use Rattle.deck.specs.Deck.{iterate, output_block, output_byte, run}
use Rattle.deck.proofs.Deck.{iterate-add}
use Rattle.xoofff.specs.Leaves.{output_blocks, Added}
use Rattle.xoofff.proofs.Leaves.{added_none, added-on, added-part, added-all, blocks-of, no_blocks}
use Rattle.expand4.specs.Four.{four_byte}

-- ---- the output of a rolled state is the output from a later block on
rolled-byte : (y k' z : List ℕ) (i p k n : ℕ) → z ≡ iterate i roll_out y → p ≡ 48 * i → n ≡ p + k → output_byte z k' k ≡ output_byte y k' n
unfolding output_byte output_block
rolled-byte y k' z i p k n ez ep en =
    let q : i + k / 48 ≡ n / 48 = omega arith in
    let r : k % 48 ≡ n % 48 = omega arith in
    ap₂ (λ (u : List ℕ) (m : ℕ). state_byte (sum (perm u) k') m)
    (ap (iterate (k / 48) roll_out) ez ∙ sym (iterate-add roll_out i (k / 48) y) ∙ ap (λ (j : ℕ). iterate j roll_out y) q) r

-- the buffer o with e for its k bytes from place a on
abbrev pub back : (a k : ℕ) (o e : List ℕ) → List ℕ
back a k o e = take a o ++ (e ++ drop k (drop a o))

-- ---- four blocks side by side

-- byte k of block j
part-byte : (f : ℕ → List ℕ) (k' w : List ℕ) (j k : ℕ) → part j w ≡ perm (f j) → k < 48 → state_byte (sum (part j w) k') k ≡ four_byte f k' (48 * j + k)
part-byte f k' w j k e h =
    let q : j ≡ (48 * j + k) / 48 = omega arith in
    let r : k ≡ (48 * j + k) % 48 = omega arith in
    ap₂ (λ (u : List ℕ) (m : ℕ). state_byte (sum u k') m) (e ∙ ap (λ (i : ℕ). perm (f i)) q) r

-- added one after another, each to a part that was lent
pub four-added : (f : ℕ → List ℕ) (k' o : List ℕ) {w b₀ b₁ b₂ b₃ : List ℕ} → length o ≡ 192 → w ≡ beside (λ j. perm (f j))
    → b₀ ≡ sum (take 48 (drop 0 o)) (to_bytes (sum (part 0 w) k'))
    → b₁ ≡ sum (take 48 (drop 48 (back 0 48 o b₀))) (to_bytes (sum (part 1 w) k'))
    → b₂ ≡ sum (take 48 (drop 96 (back 48 48 (back 0 48 o b₀) b₁))) (to_bytes (sum (part 2 w) k'))
    → b₃ ≡ sum (take 48 (drop 144 (back 96 48 (back 48 48 (back 0 48 o b₀) b₁) b₂))) (to_bytes (sum (part 3 w) k'))
    → back 144 48 (back 96 48 (back 48 48 (back 0 48 o b₀) b₁) b₂) b₃ ≡ sum o (tabulate 192 (four_byte f k'))
four-added f k' o {w} {b₀} {b₁} {b₂} {b₃} h e e₀ e₁ e₂ e₃ =
    added-all (four_byte f k') 192 o (back 144 48 o₃ b₃) (sym h) a₄ ∙ ap (λ (n : ℕ). sum o (tabulate n (four_byte f k'))) h
  where
    o₁ : List ℕ
    o₁ = back 0 48 o b₀

    o₂ : List ℕ
    o₂ = back 48 48 o₁ b₁

    o₃ : List ℕ
    o₃ = back 96 48 o₂ b₂

    g : ℕ → ℕ → ℕ
    g j = state_byte (sum (part j w) k')

    p : (j : ℕ) → j < 4 → part j w ≡ perm (f j)
    p j l = ap (part j) e ∙ beside-part (λ i. perm (f i)) j l (perm-length _)

    a₁ : Added (four_byte f k') 0 48 o o₁
    a₁ = added-on (four_byte f k') (g 0) 0 0 0 48 o o o₁ refl (λ k l. part-byte f k' w 0 k (p 0 (lit< tt)) l) (added_none (four_byte f k') 0 o) (added-part (g 0) 0 48 o b₀ (omega arith) e₀)

    a₂ : Added (four_byte f k') 0 96 o o₂
    a₂ = added-on (four_byte f k') (g 1) 0 48 48 48 o o₁ o₂ refl (λ k l. part-byte f k' w 1 k (p 1 (lit< tt)) l) a₁ (added-part (g 1) 48 48 o₁ b₁ (omega (arith, a₁.size)) e₁)

    a₃ : Added (four_byte f k') 0 144 o o₃
    a₃ = added-on (four_byte f k') (g 2) 0 96 96 48 o o₂ o₃ refl (λ k l. part-byte f k' w 2 k (p 2 (lit< tt)) l) a₂ (added-part (g 2) 96 48 o₂ b₂ (omega (arith, a₂.size)) e₂)

    a₄ : Added (four_byte f k') 0 192 o (back 144 48 o₃ b₃)
    a₄ = added-on (four_byte f k') (g 3) 0 144 144 48 o o₃ (back 144 48 o₃ b₃) refl (λ k l. part-byte f k' w 3 k (p 3 (lit< tt)) l) a₃ (added-part (g 3) 144 48 o₃ b₃ (omega (arith, a₃.size)) e₃)

-- of states that are rolled one after another: the output from the first of them on
four-byte : (f : ℕ → List ℕ) (z k' : List ℕ) (k : ℕ) → f (k / 48) ≡ iterate (k / 48) roll_out z → four_byte f k' k ≡ output_byte z k' k
unfolding output_byte output_block
four-byte f z k' k e = ap (λ (u : List ℕ). state_byte (sum (perm u) k') (k % 48)) e

-- ---- counts

-- the output blocks of two runs, where the second starts a block or is empty
blocks-split : (i m n : ℕ) → (0 < n → (i + m) % 48 ≡ 0) → output_blocks i m + output_blocks 0 n ≡ output_blocks i (m + n)
blocks-split i zero zero h = omega (arith, no_blocks i, no_blocks 0)
blocks-split i zero (suc n) h =
    let e : 0 + suc n ≡ suc n = omega arith in
    let a : (i + 0) % 48 ≡ 0 = h (omega arith) in
    omega (arith, no_blocks i, a, blocks-of 0 (suc n) (omega arith), blocks-of i (0 + suc n) (omega arith))
blocks-split i (suc m) zero h =
    let e : suc m + 0 ≡ suc m = omega arith in omega (arith, no_blocks 0, ap (output_blocks i) e)
blocks-split i (suc m) (suc n) h =
    let a : (i + suc m) % 48 ≡ 0 = h (omega arith) in
    omega (arith, a, blocks-of i (suc m) (omega arith), blocks-of 0 (suc n) (omega arith), blocks-of i (suc m + suc n) (omega arith))

-- whole blocks
blocks-whole : (n : ℕ) → n % 48 ≡ 0 → output_blocks 0 n ≡ n / 48
blocks-whole zero h = sym (no_blocks 0)
blocks-whole (suc n) h = omega (arith, blocks-of 0 (suc n) (omega arith))

-- the place in the block, and not the block, counts
blocks-skip : (i n : ℕ) → output_blocks (i % 48) n ≡ output_blocks i n
blocks-skip i zero = sym (no_blocks (i % 48)) ∙ no_blocks i
blocks-skip i (suc n) = omega (arith, blocks-of (i % 48) (suc n) (omega arith), blocks-of i (suc n) (omega arith))

-- ---- groups of four blocks: the first n bytes of the buffer have their sums
pub record Groups (y k' o : List ℕ) (n : ℕ) (o' : List ℕ) : Type 0 where
  pub fits : n ≤ length o
  pub whole : n % 192 ≡ 0
  pub added : Added (λ k. output_byte y k' (0 + k)) 0 n o o'

pub groups_none : (y k' o : List ℕ) → Groups y k' o 0 o
groups_none y k' o = record { fits = omega arith; whole = refl; added = added_none (λ k. output_byte y k' (0 + k)) 0 o }

pub groups-more : (y k' o : List ℕ) (n m : ℕ) (o' r : List ℕ) {o'' : List ℕ} → n + 192 ≤ length o → RowFrom roll_out (iterate (n / 48) roll_out y) m 16 r
    → Added (four_byte (laid m 3 1 r) k') n 192 o' o'' → Groups y k' o n o' → Groups y k' o (n + 192) o''
groups-more y k' o n m o' r {o''} h row a d =
    let w : n % 192 ≡ 0 = d.whole in
    let z : List ℕ = iterate (n / 48) roll_out y in
    record {
      fits = h;
      whole = omega arith;
      added =
          added-on (λ k. output_byte y k' (0 + k)) (four_byte (laid m 3 1 r) k') 0 n n 192 o o' o'' (sym (zero-add n))
          (λ k l.
          four-byte (laid m 3 1 r) z k' k (row_laid roll_out rolling-out z m 16 (k / 48) r (omega arith) row)
          ∙ rolled-byte y k' z (n / 48) n k (0 + (n + k)) refl (omega arith) (omega arith)) d.added a;
    }

-- ---- a part of the buffer, lent and back: its k bytes from place a on have their sums

part-size : (a k : ℕ) (o : List ℕ) → a + k ≤ length o → length (take k (drop a o)) ≡ k
part-size a k o h = omega (arith, length-take k (drop a o), length-drop a o)

pub part-added : (f : ℕ → ℕ) (i a k : ℕ) (o : List ℕ) {e : List ℕ} → a + k ≤ length o
    → e ≡ sum (take k (drop a o)) (run f i (length (take k (drop a o)))) → Added (λ j. f (i + j)) a k o (back a k o e)
part-added f i a k o {e} h ee =
    added-part (λ j. f (i + j)) a k o e h
    (ee ∙ ap (λ (n : ℕ). sum (take k (drop a o)) (tabulate n (λ j. f (i + j)))) (part-size a k o h))

-- ---- the groups and the leftover

pub groups-all : (y k' o : List ℕ) (n m : ℕ) (z o' : List ℕ) {o'' : List ℕ} → n + m ≡ length o → z ≡ iterate (n / 48) roll_out y → Groups y k' o n o'
    → Added (λ j. output_byte z k' (0 + j)) n m o' o'' → o'' ≡ sum o (run (output_byte y k') 0 (length o))
groups-all y k' o n m z o' {o''} h ez d a =
    let w : n % 192 ≡ 0 = d.whole in
    added-all (λ k. output_byte y k' (0 + k)) (n + m) o o'' h
    (added-on (λ k. output_byte y k' (0 + k)) (λ j. output_byte z k' (0 + j)) 0 n n m o o' o'' (sym (zero-add n))
    (λ k l. rolled-byte y k' z (n / 48) n (0 + k) (0 + (n + k)) ez (omega arith) (omega arith)) d.added a)

-- the leftover's blocks, and all
pub rest-blocks : (n : ℕ) (o : List ℕ) {c : ℕ} → n ≤ length o → c ≡ output_blocks 0 (length (take (length o - n) (drop n o))) → c ≡ output_blocks 0 (length o - n)
rest-blocks n o h e = e ∙ ap (output_blocks 0) (part-size n (length o - n) o (omega arith))

pub groups-count : (n m c L : ℕ) → n % 192 ≡ 0 → n + m ≡ L → c ≡ output_blocks 0 m → n / 48 + c ≡ output_blocks 0 L
groups-count n m c L w e h =
    omega (arith, w, h, blocks-whole n (omega arith), blocks-split 0 n m (λ p. omega arith), ap (output_blocks 0) e)

-- ---- the bytes up to a block's end, and the rest by groups

-- what the whole gives
pub record Whole (y k' o : List ℕ) (from : ℕ) (o' : List ℕ) (n : ℕ) : Type 0 where
  pub size : length o' ≡ length o
  pub bytes : o' ≡ sum o (run (output_byte y k') from (length o))
  pub count : n ≡ output_blocks from (length o)

pub whole_is : (y k' o : List ℕ) (from head : ℕ) {z t e₁ e₂ : List ℕ} {n₁ n₂ : ℕ} → head ≡ min ((48 - from % 48) % 48) (length o)
    → z ≡ iterate (from / 48) roll_out y → t ≡ iterate ((from % 48 + head) / 48) roll_out z
    → e₁ ≡ sum (take (head - 0) (drop 0 o)) (run (output_byte z k') (from % 48) (length (take (head - 0) (drop 0 o))))
    → n₁ ≡ output_blocks (from % 48) (length (take (head - 0) (drop 0 o)))
    → e₂ ≡ sum (take (length (back 0 (head - 0) o e₁) - head) (drop head (back 0 (head - 0) o e₁)))
    (run (output_byte t k') 0 (length (take (length (back 0 (head - 0) o e₁) - head) (drop head (back 0 (head - 0) o e₁)))))
    → n₂ ≡ output_blocks 0 (length (take (length (back 0 (head - 0) o e₁) - head) (drop head (back 0 (head - 0) o e₁))))
    → Whole y k' o from (back head (length (back 0 (head - 0) o e₁) - head) (back 0 (head - 0) o e₁) e₂) (n₁ + n₂)
whole_is y k' o from head {z} {t} {e₁} {e₂} {n₁} {n₂} eh ez et b₁ c₁ b₂ c₂ = record { size = a₂.size ∙ a₁.size; bytes = bytes; count = count }
  where
    F : ℕ → ℕ
    F k = output_byte y k' (from + k)

    o₁ : List ℕ
    o₁ = back 0 (head - 0) o e₁

    m : ℕ
    m = length o₁ - head

    a₁ : Added (λ j. output_byte z k' (from % 48 + j)) 0 (head - 0) o o₁
    a₁ = part-added (output_byte z k') (from % 48) 0 (head - 0) o (omega arith) b₁

    fits : head + m ≡ length o
    fits = omega (arith, a₁.size)

    a₂ : Added (λ j. output_byte t k' (0 + j)) head m o₁ (back head m o₁ e₂)
    a₂ = part-added (output_byte t k') 0 head m o₁ (omega (arith, a₁.size)) b₂

    first : Added F 0 head o o₁
    first =
        let e : 0 + (head - 0) ≡ head = omega arith in
        subst (λ (n : ℕ). Added F 0 n o o₁) e
        (added-on F (λ j. output_byte z k' (from % 48 + j)) 0 0 0 (head - 0) o o o₁ (omega arith)
        (λ k l. rolled-byte y k' z (from / 48) (48 * (from / 48)) (from % 48 + k) (from + (0 + k)) ez refl (omega arith)) (added_none F 0 o) a₁)

    -- where there is a rest, it starts a block
    starts : 0 < m → (from + head) % 48 ≡ 0
    starts h = omega (arith, fits)

    rolled : t ≡ iterate (from / 48 + (from % 48 + head) / 48) roll_out y
    rolled = et ∙ ap (iterate ((from % 48 + head) / 48) roll_out) ez ∙ sym (iterate-add roll_out (from / 48) ((from % 48 + head) / 48) y)

    second : Added F 0 (head + m) o (back head m o₁ e₂)
    second =
        added-on F (λ j. output_byte t k' (0 + j)) 0 head head m o o₁ (back head m o₁ e₂) (sym (zero-add head))
        (λ k l.
        let s : (from + head) % 48 ≡ 0 = starts (omega arith) in
        rolled-byte y k' t (from / 48 + (from % 48 + head) / 48) (from + head) (0 + k) (from + (head + k)) rolled (omega arith) (omega arith)) first a₂

    bytes : back head m o₁ e₂ ≡ sum o (run (output_byte y k') from (length o))
    bytes = added-all F (head + m) o (back head m o₁ e₂) fits second

    count : n₁ + n₂ ≡ output_blocks from (length o)
    count =
        let i : length (take (head - 0) (drop 0 o)) ≡ head = part-size 0 (head - 0) o (omega arith) ∙ omega arith in
        let j : n₁ ≡ output_blocks from head = c₁ ∙ ap (output_blocks (from % 48)) i ∙ blocks-skip from head in
        let k : n₂ ≡ output_blocks 0 m = rest-blocks head o₁ (omega (arith, a₁.size)) c₂ in
        omega (arith, j, k, blocks-split from head m starts, ap (output_blocks from) fits)
