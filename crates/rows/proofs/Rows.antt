-- A row of words holds the states that are rolled one after another, by either rolling. Assumes nothing.
use mathlib.Core.Path.{◌≡◌, refl, sym, ap, ◌∙◌, subst}
use mathlib.Core.Bool.{Bool, true, false, cond}
use mathlib.Core.List.{List}
use Prim.Native.Nat.{ℕ, zero, suc, ◌+◌, ◌-◌, ◌*◌, ◌/◌, ◌%◌, ◌^◌, ◌<◌, ◌≤◌}
use native.Mathlib.Decide.{dec_le}
use native.Mathlib.Numerals.{add-one}
use native.Mathlib.Omega.{arith}
use lib.Dec.{ltb, lit<}
use lib.ListN.{length, get_or, set, replicate, length-set}
use lib.Seq.{get_or-set_same, get_or-set_other}
use Rattle.std.specs.List.{CopiedTo, SameFrom}
use borrow.Author.Tests.{lt-ltb, le-ltb}
use Rattle.word.specs.Word.{bit}
use Rattle.word.proofs.Bit.{word-ext}
use Rattle.word.proofs.Lists.{Words, Filled, filled_more, tabulate-is}
use Rattle.state.specs.State.{State, bits, on}
use Rattle.state.proofs.Lanes.{bits-of-lanes, lanes-words, lanes-length}
use Rattle.rolling.specs.Rolling.{roll_xc, roll_xe, roll_in, roll_out}
use Rattle.rolling.proofs.Facts.{Rolled, input-rolling, output-rolling}
use Rattle.xoodoo4.specs.Four.{laid}
use Rattle.deck.specs.Deck.{iterate}
use Rattle.deck.proofs.Deck.{iterate-add}
use Rattle.rows.specs.Row.{lane_of, begun, state_at, appends, appended, moved, renewed, renewed_at}

-- ---- what both rollings do, lane by lane
pub record Rolling (f : List ℕ → List ℕ) : Type 0 where
  pub size : (k : List ℕ) → length (f k) ≡ 12
  pub words : (k : List ℕ) → Words 32 (f k)
  pub moves : (k : List ℕ) → Words 32 k → (p : ℕ) → p < 11 → get_or (f k) (lane_of p) 0 ≡ get_or k (lane_of (p + 1)) 0

-- words with the same bits
same_word : {m n : ℕ} → m < 2 ^ 32 → n < 2 ^ 32 → ((z : ℕ) → z < 32 → bit m z ≡ bit n z) → m ≡ n
same_word {m} {n} hm hn e = word-ext m 32 (bit n) hm e ∙ sym (word-ext n 32 (bit n) hn (λ z l. refl))

-- what is moved on bits is moved on lanes
lanes-moved : (F : State → State) (new : State → ℕ → Bool) → ((A : State) → Rolled A (F A) (new A))
    → (k : List ℕ) → Words 32 k → (p : ℕ) → p < 11 → get_or (on F k) (lane_of p) 0 ≡ get_or k (lane_of (p + 1)) 0
lanes-moved F new R k w p h =
    same_word (lanes-words (F (bits k)) (lane_of p)) (w (lane_of (p + 1)))
    (λ z l. bits-of-lanes (F (bits k)) (p / 3) (p % 3) z (omega arith) (omega arith) l ∙ (R (bits k)).moved p z h l)

pub rolling-in : Rolling roll_in
unfolding roll_in
rolling-in = record { size = λ k. lanes-length _; words = λ k. lanes-words _; moves = λ k w p h. lanes-moved roll_xc _ input-rolling k w p h }

pub rolling-out : Rolling roll_out
unfolding roll_out
rolling-out = record { size = λ k. lanes-length _; words = λ k. lanes-words _; moves = λ k w p h. lanes-moved roll_xe _ output-rolling k w p h }

-- ---- the words of a state that is rolled again and again
module _ (f : List ℕ → List ℕ) (R : Rolling f) where
  rolled-words : (n : ℕ) (k : List ℕ) → Words 32 k → Words 32 (iterate n f k)
  unfolding iterate
  rolled-words zero k w = w
  rolled-words (suc n) k w = R.words (iterate n f k)

  rolled-size : (n : ℕ) (k : List ℕ) → length k ≡ 12 → length (iterate n f k) ≡ 12
  unfolding iterate
  rolled-size zero k h = h
  rolled-size (suc n) k h = R.size (iterate n f k)

  -- s_q after p rollings is s_(p+q) before them
  further : (k : List ℕ) → Words 32 k → (p q : ℕ) → p + q ≤ 11 → get_or (iterate p f k) (lane_of q) 0 ≡ get_or k (lane_of (p + q)) 0
  unfolding iterate
  further k w zero q h = let e : q ≡ 0 + q = omega arith in ap (λ (m : ℕ). get_or k (lane_of m) 0) e
  further k w (suc p) q h =
      let e : p + (q + 1) ≡ suc p + q = omega arith in
      R.moves (iterate p f k) (rolled-words p k w) q (omega arith) ∙ further k w p (q + 1) (omega arith) ∙ ap (λ (m : ℕ). get_or k (lane_of m) 0) e

  -- so each lane is s_0 after some rollings
  lane_word : (k : List ℕ) → Words 32 k → (i m : ℕ) → i < 12 → m ≡ 3 * (i % 4) + i / 4 → get_or (iterate m f k) 0 0 ≡ get_or k i 0
  lane_word k w i m h e = let d : lane_of (m + 0) ≡ i = omega arith in further k w m 0 (omega arith) ∙ ap (λ (n : ℕ). get_or k n 0) d

-- ---- a row: its m words from word n on are those of the state k, rolled by f again and again
pub record RowFrom (f : List ℕ → List ℕ) (k : List ℕ) (n m : ℕ) (r : List ℕ) : Type 0 where
  pub lanes : length k ≡ 12
  pub fits : Words 32 k
  pub size : length r ≡ 80
  pub words : (q : ℕ) → q < m → get_or r (n + q) 0 ≡ get_or (iterate q f k) 0 0

-- fewer of its words
pub row-less : (f : List ℕ → List ℕ) (k : List ℕ) (n m p : ℕ) (r : List ℕ) → m ≤ p → RowFrom f k n p r → RowFrom f k n m r
row-less f k n m p r h d = record { lanes = d.lanes; fits = d.fits; size = d.size; words = λ q l. d.words q (omega arith) }

module _ (f : List ℕ → List ℕ) (R : Rolling f) (k : List ℕ) where
  -- its windows are the rolled states
  pub row_laid : (n m j : ℕ) (r : List ℕ) → j + 12 ≤ m → RowFrom f k n m r → laid n 3 1 r j ≡ iterate j f k
  unfolding laid
  row_laid n m j r h d = sym (tabulate-is 12 _ (iterate j f k) (rolled-size f R j k d.lanes) at)
    where
      at : (i : ℕ) → i < 12 → get_or (iterate j f k) i 0 ≡ get_or r (n + 3 * (i % 4) + 1 * (i / 4) + j) 0
      at i l =
          let p : ℕ = 3 * (i % 4) + i / 4 in
          let e : n + (j + p) ≡ n + 3 * (i % 4) + 1 * (i / 4) + j = omega arith in
          sym (lane_word f R (iterate j f k) (rolled-words f R j k d.fits) i p l refl)
          ∙ ap (λ (s : List ℕ). get_or s 0 0) (sym (iterate-add f j p k))
          ∙ sym (d.words (j + p) (omega arith)) ∙ ap (λ (q : ℕ). get_or r q 0) e

  pub row-state : (n m : ℕ) (r : List ℕ) → 12 ≤ m → RowFrom f k n m r → state_at n r ≡ k
  unfolding iterate
  row-state n m r h d = row_laid n m 0 r (omega arith) d

  -- one more word
  row_word : (n m v : ℕ) (r : List ℕ) → n + m < 80 → v ≡ get_or (iterate m f k) 0 0 → RowFrom f k n m r → RowFrom f k n (m + 1) (set r (n + m) v)
  row_word n m v r h e d = record { lanes = d.lanes; fits = d.fits; size = length-set r (n + m) v ∙ d.size; words = λ q l. go q l (dec_le m q) }
    where
      go : (q : ℕ) → q < m + 1 → Dec (m ≤ q) → get_or (set r (n + m) v) (n + q) 0 ≡ get_or (iterate q f k) 0 0
      go q l (yes p) =
          let g : m ≡ q = omega arith in
          let s : length r ≡ 80 = d.size in
          ap (λ (x : ℕ). get_or (set r (n + m) v) (n + x) 0) (sym g) ∙ get_or-set_same r (n + m) v 0 (omega arith) ∙ e ∙ ap (λ (x : ℕ). get_or (iterate x f k) 0 0) g
      go q l (no p) = get_or-set_other r (n + m) (n + q) v 0 (λ g. omega (arith, g, p)) ∙ d.words q (omega (arith, p))

  -- the word that a rolling appends is s_0 eleven rollings later
  last_word : (n i m : ℕ) (r : List ℕ) → Words 32 k → m ≡ i + 11 → state_at n r ≡ k → appends f n i r ≡ get_or (iterate m f k) 0 0
  last_word n i m r w e s =
      ap (λ (x : List ℕ). get_or (iterate i f x) 11 0) s
      ∙ sym (lane_word f R (iterate i f k) (rolled-words f R i k w) 11 11 (lit< tt) refl)
      ∙ ap (λ (x : List ℕ). get_or x 0 0) (sym (iterate-add f i 11 k)) ∙ ap (λ (x : ℕ). get_or (iterate x f k) 0 0) (sym e)

  row_appended : (n : ℕ) (r : List ℕ) → n + 16 ≤ 80 → RowFrom f k n 12 r → RowFrom f k n 16 (appended f n r)
  unfolding appended
  row_appended n r h d =
      let s : state_at n r ≡ k = row-state n 12 r (omega arith) d in
      row_word n 15 _ _ (omega arith) (last_word n 4 15 r d.fits refl s)
      (row_word n 14 _ _ (omega arith) (last_word n 3 14 r d.fits refl s)
      (row_word n 13 _ _ (omega arith) (last_word n 2 13 r d.fits refl s)
      (row_word n 12 _ _ (omega arith) (last_word n 1 12 r d.fits refl s) d)))

  -- the words of the state that was rolled four times
  row_on : (n m : ℕ) (r : List ℕ) → RowFrom f k n (m + 4) r → RowFrom f (iterate 4 f k) (n + 4) m r
  row_on n m r d =
      record {
        lanes = rolled-size f R 4 k d.lanes;
        fits = rolled-words f R 4 k d.fits;
        size = d.size;
        words = λ q l.
            let e : n + 4 + q ≡ n + (4 + q) = omega arith in
            ap (λ (x : ℕ). get_or r x 0) e ∙ d.words (4 + q) (omega arith) ∙ ap (λ (s : List ℕ). get_or s 0 0) (iterate-add f 4 q k);
      }

-- ---- the words that are there stand where four more are appended
kept-before : (f : List ℕ → List ℕ) (n p : ℕ) (r : List ℕ) → p < n + 12 → get_or (appended f n r) p 0 ≡ get_or r p 0
unfolding appended
kept-before f n p r h =
    get_or-set_other _ (n + 15) p _ 0 (λ g. omega (arith, g)) ∙ get_or-set_other _ (n + 14) p _ 0 (λ g. omega (arith, g))
    ∙ get_or-set_other _ (n + 13) p _ 0 (λ g. omega (arith, g)) ∙ get_or-set_other r (n + 12) p _ 0 (λ g. omega (arith, g))

-- so a row of four states, with the next four behind it, has the words of both
row_joined : (f : List ℕ → List ℕ) (k : List ℕ) (n : ℕ) (r : List ℕ) → RowFrom f k n 16 r → RowFrom f (iterate 4 f k) (n + 4) 16 (appended f (n + 4) r)
    → RowFrom f k n 20 (appended f (n + 4) r)
row_joined f k n r d a = record { lanes = d.lanes; fits = d.fits; size = a.size; words = λ q l. go q l (dec_le 4 q) }
  where
    go : (q : ℕ) → q < 20 → Dec (4 ≤ q) → get_or (appended f (n + 4) r) (n + q) 0 ≡ get_or (iterate q f k) 0 0
    go q l (yes p) =
        let e : n + q ≡ n + 4 + (q - 4) = omega arith in
        let i : q ≡ 4 + (q - 4) = omega arith in
        ap (λ (x : ℕ). get_or (appended f (n + 4) r) x 0) e ∙ a.words (q - 4) (omega arith)
        ∙ ap (λ (s : List ℕ). get_or s 0 0) (sym (iterate-add f 4 (q - 4) k) ∙ ap (λ (x : ℕ). iterate x f k) (sym i))
    go q l (no p) = kept-before f (n + 4) (n + q) r (omega (arith, p)) ∙ d.words q (omega (arith, p))

-- and gets them
pub row_ahead : (f : List ℕ → List ℕ) → Rolling f → (k : List ℕ) (n : ℕ) (r : List ℕ) → n + 20 ≤ 80 → RowFrom f k n 16 r → RowFrom f k n 20 (appended f (n + 4) r)
row_ahead f R k n r h d = row_joined f k n r d (row_appended f R (iterate 4 f k) (n + 4) r (omega arith) (row_on f R k n 12 r d))

-- the code's four rollings
pub rolled-appended : (f : List ℕ → List ℕ) (n : ℕ) (r : List ℕ) {k k₁ k₂ k₃ k₄ : List ℕ} → k ≡ state_at n r → k₁ ≡ f k → k₂ ≡ f k₁ → k₃ ≡ f k₂ → k₄ ≡ f k₃
    → set (set (set (set r (n + 12) (get_or k₁ 11 0)) (n + 13) (get_or k₂ 11 0)) (n + 14) (get_or k₃ 11 0)) (n + 15) (get_or k₄ 11 0) ≡ appended f n r
unfolding appended iterate
rolled-appended f n r {k₁ = k₁} {k₂ = k₂} {k₃ = k₃} {k₄ = k₄} e e₁ e₂ e₃ e₄ =
    λ t. set (set (set (set r (n + 12) (get_or (p₁ t) 11 0)) (n + 13) (get_or (p₂ t) 11 0)) (n + 14) (get_or (p₃ t) 11 0)) (n + 15) (get_or (p₄ t) 11 0)
  where
    p₁ : k₁ ≡ f (state_at n r)
    p₁ = e₁ ∙ ap f e

    p₂ : k₂ ≡ f (f (state_at n r))
    p₂ = e₂ ∙ ap f p₁

    p₃ : k₃ ≡ f (f (f (state_at n r)))
    p₃ = e₃ ∙ ap f p₂

    p₄ : k₄ ≡ f (f (f (f (state_at n r))))
    p₄ = e₄ ∙ ap f p₃

-- ---- a row begins

pub begun-none : (k r : List ℕ) → begun 0 k r ≡ r
unfolding begun
begun-none k r = refl

pub begun_more : (p : ℕ) (k r : List ℕ) → begun (p + 1) k r ≡ set (begun p k r) p (get_or k (lane_of p) 0)
unfolding begun
begun_more p k r = ap (λ (n : ℕ). begun n k r) (add-one p)

begun-length : (p : ℕ) (k r : List ℕ) → length (begun p k r) ≡ length r
unfolding begun
begun-length zero k r = refl
begun-length (suc p) k r = length-set (begun p k r) p (get_or k (lane_of p) 0) ∙ begun-length p k r

begun-words : (p : ℕ) (k r : List ℕ) → p ≤ length r → Filled (λ q. get_or k (lane_of q) 0) (begun p k r) p
unfolding begun
begun-words zero k r h q l = absurd (omega arith)
begun-words (suc p) k r h q l =
    filled_more (λ q. get_or k (lane_of q) 0) (begun p k r) p _ (omega (arith, begun-length p k r)) refl (begun-words p k r (omega arith)) q (omega arith)

row-begun : (f : List ℕ → List ℕ) → Rolling f → (k r : List ℕ) → length k ≡ 12 → Words 32 k → length r ≡ 80 → RowFrom f k 0 12 (begun 12 k r)
row-begun f R k r n w h =
    record {
      lanes = n;
      fits = w;
      size = begun-length 12 k r ∙ h;
      words = λ q l.
          let e : 0 + q ≡ q = omega arith in
          let d : lane_of q ≡ lane_of (q + 0) = omega arith in
          ap (λ (x : ℕ). get_or (begun 12 k r) x 0) e ∙ begun-words 12 k r (omega arith) q l ∙ ap (λ (x : ℕ). get_or k x 0) d
          ∙ sym (further f R k w q 0 (omega arith));
    }

-- and has the words of eight states
pub row-start : (f : List ℕ → List ℕ) → Rolling f → (k : List ℕ) {r r' : List ℕ} → length k ≡ 12 → Words 32 k → r ≡ begun 12 k (replicate 80 0) → r' ≡ appended f 0 r
    → RowFrom f k 0 16 r'
row-start f R k h w e g =
    subst (λ (l : List ℕ). RowFrom f k 0 16 l) (sym (g ∙ ap (appended f 0) e)) (row_appended f R k 0 (begun 12 k (replicate 80 0)) (omega arith) (row-begun f R k (replicate 80 0) h w refl))

-- and with the words of the four states after these
pub row-begins : (f : List ℕ → List ℕ) → Rolling f → (k : List ℕ) {r : List ℕ} → length k ≡ 12 → Words 32 k
    → r ≡ appended f 4 (appended f 0 (begun 12 k (replicate 80 0))) → RowFrom f k 0 20 r
row-begins f R k h w e =
    subst (λ (l : List ℕ). RowFrom f k 0 20 l) (sym e) (row_ahead f R k 0 _ (omega arith) (row-start f R k h w refl refl))

-- the state that it begins with is the one that it was made of
pub row-own : (f : List ℕ → List ℕ) → Rolling f → (k r : List ℕ) → RowFrom f k 0 20 r → RowFrom f (state_at 0 r) 0 20 r
row-own f R k r d = subst (λ (x : List ℕ). RowFrom f x 0 20 r) (sym (row-state f R k 0 20 r (omega arith) d)) d

-- ---- a row starts again

moved_length : (i : ℕ) (r : List ℕ) → length (moved i r) ≡ length r
unfolding moved
moved_length zero r = refl
moved_length (suc i) r = length-set (moved i r) i (get_or r (64 + i) 0) ∙ moved_length i r

-- the others stand
pub moved-rest : (i q : ℕ) (r : List ℕ) → i ≤ q → get_or (moved i r) q 0 ≡ get_or r q 0
unfolding moved
moved-rest zero q r h = refl
moved-rest (suc i) q r h = get_or-set_other (moved i r) i q _ 0 (λ e. omega (arith, e)) ∙ moved-rest i q r (omega arith)

moved-words : (i : ℕ) (r : List ℕ) → i ≤ length r → Filled (λ q. get_or r (64 + q) 0) (moved i r) i
unfolding moved
moved-words zero r h q l = absurd (omega arith)
moved-words (suc i) r h q l =
    filled_more (λ q. get_or r (64 + q) 0) (moved i r) i _ (omega (arith, moved_length i r)) refl (moved-words i r (omega arith)) q (omega arith)

-- the code's copying
pub moved-copied : (r r' : List ℕ) → length r ≡ 80 → length r' ≡ length r → CopiedTo r r' 64 0 16 → SameFrom r r' 16 → r' ≡ moved 16 r
moved-copied r r' h l c s =
    tabulate-is 80 (λ q. get_or r' q 0) r' (l ∙ h) (λ q g. refl)
    ∙ sym (tabulate-is 80 (λ q. get_or r' q 0) (moved 16 r) (moved_length 16 r ∙ h) (λ q g. go q (dec_le 16 q)))
  where
    go : (q : ℕ) → Dec (16 ≤ q) → get_or (moved 16 r) q 0 ≡ get_or r' q 0
    go q (yes p) = moved-rest 16 q r p ∙ sym (s q 0 p)
    go q (no p) =
        let e : 64 + q ≡ 64 + (q - 0) = omega arith in
        moved-words 16 r (omega arith) q (omega (arith, p)) ∙ ap (λ (x : ℕ). get_or r x 0) e ∙ sym (c q 0 (omega arith) (omega (arith, p)))

row_moved : (f : List ℕ → List ℕ) (k r : List ℕ) → RowFrom f k 64 16 r → RowFrom f k 0 16 (moved 16 r)
row_moved f k r d =
    let n : length r ≡ 80 = d.size in
    record {
      lanes = d.lanes;
      fits = d.fits;
      size = moved_length 16 r ∙ d.size;
      words = λ q l.
          let e : 0 + q ≡ q = omega arith in
          ap (λ (x : ℕ). get_or (moved 16 r) x 0) e ∙ moved-words 16 r (omega arith) q l ∙ d.words q l;
    }

-- the code's two cases
pub renewed-used_up : (n : ℕ) (r r' : List ℕ) → 64 ≤ n → r' ≡ moved 16 r → (0 ≡ renewed_at n) × (r' ≡ renewed n r)
renewed-used_up n r r' h e =
    let b : ltb n 64 ≡ false = le-ltb n 64 h in (ap (λ (t : Bool). cond t n 0) (sym b), e ∙ ap (λ (t : Bool). cond t r (moved 16 r)) (sym b))

pub renewed-same : (n : ℕ) (r : List ℕ) → n < 64 → (n ≡ renewed_at n) × (r ≡ renewed n r)
renewed-same n r h =
    let b : ltb n 64 ≡ true = lt-ltb n 64 h in (ap (λ (t : Bool). cond t n 0) (sym b), ap (λ (t : Bool). cond t r (moved 16 r)) (sym b))

-- where it is used up
pub record Renewed (f : List ℕ → List ℕ) (k : List ℕ) (n : ℕ) (r : List ℕ) : Type 0 where
  pub room : n + 20 ≤ 80
  pub whole : n % 4 ≡ 0
  pub row : RowFrom f k n 16 r

pub row-renewed : (f : List ℕ → List ℕ) (k : List ℕ) (n : ℕ) (r : List ℕ) {m : ℕ} {r' : List ℕ} → n ≤ 64 → n % 4 ≡ 0 → m ≡ renewed_at n → r' ≡ renewed n r
    → RowFrom f k n 16 r → Renewed f k m r'
row-renewed f k n r {m} {r'} h g em er d = go (dec_le 64 n)
  where
    go : Dec (64 ≤ n) → Renewed f k m r'
    go (yes p) =
        let e : n ≡ 64 = omega arith in
        let b : ltb n 64 ≡ false = le-ltb n 64 p in
        let z : m ≡ 0 = em ∙ ap (λ (c : Bool). cond c n 0) b in
        let s : r' ≡ moved 16 r = er ∙ ap (λ (c : Bool). cond c r (moved 16 r)) b in
        record {
          room = omega arith;
          whole = omega arith;
          row = subst (λ (x : ℕ). RowFrom f k x 16 r') (sym z) (subst (λ (l : List ℕ). RowFrom f k 0 16 l) (sym s) (row_moved f k r (subst (λ (x : ℕ). RowFrom f k x 16 r) e d)));
        }
    go (no p) =
        let b : ltb n 64 ≡ true = lt-ltb n 64 (omega (arith, p)) in
        let z : m ≡ n = em ∙ ap (λ (c : Bool). cond c n 0) b in
        let s : r' ≡ r = er ∙ ap (λ (c : Bool). cond c r (moved 16 r)) b in
        record {
          room = omega (arith, p);
          whole = omega arith;
          row = subst (λ (x : ℕ). RowFrom f k x 16 r') (sym z) (subst (λ (l : List ℕ). RowFrom f k n 16 l) (sym s) d);
        }

-- the rollings of four blocks more
pub rolled-on : (f : List ℕ → List ℕ) (k : List ℕ) (at : ℕ) → at % 192 ≡ 0 → iterate 4 f (iterate (at / 48) f k) ≡ iterate ((at + 192) / 48) f k
rolled-on f k at h =
    let e : at / 48 + 4 ≡ (at + 192) / 48 = omega arith in sym (iterate-add f (at / 48) 4 k) ∙ ap (λ (n : ℕ). iterate n f k) e

-- so there is a row for the next four states
pub row_next : (f : List ℕ → List ℕ) → Rolling f → (k : List ℕ) (m : ℕ) (r : List ℕ) {k' r' : List ℕ} → Renewed f k m r → iterate 4 f k ≡ k' → r' ≡ appended f (m + 4) r
    → RowFrom f k' (m + 4) 16 r'
row_next f R k m r {k'} d g e =
    let s : m + 20 ≤ 80 = d.room in
    subst (λ (l : List ℕ). RowFrom f k' (m + 4) 16 l) (sym e)
    (subst (λ (l : List ℕ). RowFrom f l (m + 4) 16 (appended f (m + 4) r)) g (row_appended f R (iterate 4 f k) (m + 4) r (omega arith) (row_on f R k m 12 r d.row)))

-- and one that has the words of the four states after them too
pub row-advanced : (f : List ℕ → List ℕ) → Rolling f → (k : List ℕ) (n : ℕ) (r : List ℕ) {k' r' : List ℕ} {n' : ℕ} → n + 20 ≤ 80 → n % 4 ≡ 0 → iterate 4 f k ≡ k'
    → n' ≡ renewed_at (n + 4) → r' ≡ appended f (renewed_at (n + 4) + 4) (renewed (n + 4) r) → RowFrom f k n 20 r → RowFrom f k' n' 20 r'
row-advanced f R k n r {k'} {r'} {n'} h w g en er d =
    let m : ℕ = renewed_at (n + 4) in
    let l : List ℕ = renewed (n + 4) r in
    let v = row-renewed f (iterate 4 f k) (n + 4) r (omega arith) (omega arith) refl refl (row_on f R k n 16 r d) in
    subst (λ (x : List ℕ). RowFrom f x n' 20 r') g
    (subst (λ (x : ℕ). RowFrom f (iterate 4 f k) x 20 r') (sym en)
    (subst (λ (x : List ℕ). RowFrom f (iterate 4 f k) m 20 x) (sym er)
    (row_joined f (iterate 4 f k) m l v.row (row_next f R (iterate 4 f k) m l v refl refl))))

-- ---- what a loop's turn leaves for the row of the next four states, found by what the turn says of it

-- it may have advanced
pub row-further : (f : List ℕ → List ℕ) → Rolling f → (k : List ℕ) (n : ℕ) (r k' : List ℕ) → n + 20 ≤ 80 → n % 4 ≡ 0 → iterate 4 f k ≡ k' → RowFrom f k n 20 r → (n' : ℕ) (r' : List ℕ)
    → n' ≡ renewed_at (n + 4) → r' ≡ appended f (renewed_at (n + 4) + 4) (renewed (n + 4) r) → RowFrom f k' n' 20 r'
row-further f R k n r k' h w g d n' r' en er = row-advanced f R k n r h w g en er d

-- or be made anew of the state that its own was rolled to, by four rollings
pub row-anew : (f : List ℕ → List ℕ) → Rolling f → (k : List ℕ) (n : ℕ) (r k' : List ℕ) → iterate 4 f k ≡ k' → RowFrom f k n 20 r → (n' : ℕ) (r' s s₁ s₂ s₃ s₄ : List ℕ)
    → n' ≡ 0 → r' ≡ appended f 4 (appended f 0 (begun 12 s₄ (replicate 80 0))) → s₄ ≡ f s₃ → s₃ ≡ f s₂ → s₂ ≡ f s₁ → s₁ ≡ f s → s ≡ state_at n r → RowFrom f k' n' 20 r'
unfolding iterate
row-anew f R k n r k' g d n' r' s s₁ s₂ s₃ s₄ en er e₄ e₃ e₂ e₁ e =
    let q : s₄ ≡ k' = e₄ ∙ ap f (e₃ ∙ ap f (e₂ ∙ ap f (e₁ ∙ ap f (e ∙ row-state f R k n 20 r (omega arith) d)))) ∙ g in
    subst (λ (x : ℕ). RowFrom f k' x 20 r') (sym en)
    (subst (λ (l : List ℕ). RowFrom f l 0 20 r') q
    (row-begins f R s₄ (ap length e₄ ∙ R.size s₃) (subst (λ (l : List ℕ). Words 32 l) (sym e₄) (R.words s₃)) er))
