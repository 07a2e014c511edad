-- Four states side by side: what is put in is what is taken out, and steps done to each of the four follow one another. Assumes nothing.
use mathlib.Core.Logic.{◌↔◌}
use mathlib.Core.Path.{◌≡◌, refl, sym, ap, ap₂, ◌∙◌}
use mathlib.Core.Bool.{Bool, true, false}
use mathlib.Core.List.{List, [], ◌∷◌}
use Rattle.std.specs.Prelude.{fold}
use Prim.Native.Nat.{ℕ, zero, suc, ◌+◌, ◌*◌, ◌/◌, ◌%◌, ◌≤◌, ◌<◌}
use native.Mathlib.Decide.{dec_le}
use native.Mathlib.Numerals.{add-one}
use native.Mathlib.Omega.{arith}
use lib.ListN.{length, get_or, set, take, drop, length-set}
use lib.Bits.{bit_xor}
use lib.Seq.{get_or-set_same, get_or-set_other, get_or-take, get_or-drop}
use Rattle.word.specs.Lists.{sum}
use Rattle.word.proofs.Lists.{tabulate-length, tabulate-at, tabulate-ext, tabulate-is, sum-at, sum-length, Filled}
use Rattle.xoodoo.specs.Xoodoo.{round, rounds, perm}
use Rattle.xoodoo.proofs.Facts.{perm-length}
use Rattle.state.proofs.Lanes.{lanes-length}
use Rattle.xoodoo4.specs.Four.{part, put, beside, each, laid, into}

-- ---- one more lane of state j is stored

pub put-none : (j : ℕ) (s w : List ℕ) → put 0 j s w ≡ w
unfolding put
put-none j s w = refl

pub put-more : (i j : ℕ) (s w : List ℕ) → put (i + 1) j s w ≡ set (put i j s w) (4 * i + j) (get_or s i 0)
unfolding put
put-more i j s w = ap (λ (n : ℕ). put n j s w) (add-one i)

put-length : (i j : ℕ) (s w : List ℕ) → length (put i j s w) ≡ length w
unfolding put
put-length zero j s w = refl
put-length (suc i) j s w = length-set (put i j s w) (4 * i + j) (get_or s i 0) ∙ put-length i j s w

-- the lanes that are stored
put-here : (i j : ℕ) (s w : List ℕ) → j < 4 → i ≤ 12 → length w ≡ 48 → (k : ℕ) → k < i → get_or (put i j s w) (4 * k + j) 0 ≡ get_or s k 0
unfolding put
put-here zero j s w hj hi hw k hk = absurd (omega arith)
put-here (suc i) j s w hj hi hw k hk = go (dec_le i k) (put-here i j s w hj (omega arith) hw k)
  where
    go : Dec (i ≤ k) → (k < i → get_or (put i j s w) (4 * k + j) 0 ≡ get_or s k 0) → get_or (set (put i j s w) (4 * i + j) (get_or s i 0)) (4 * k + j) 0 ≡ get_or s k 0
    go (yes p) f =
        let q : k ≡ i = omega arith in
        ap (λ (n : ℕ). get_or (set (put i j s w) (4 * i + j) (get_or s i 0)) (4 * n + j) 0) q
        ∙ get_or-set_same (put i j s w) (4 * i + j) (get_or s i 0) 0 (omega (arith, put-length i j s w))
        ∙ ap (λ (n : ℕ). get_or s n 0) (sym q)
    go (no p) f = get_or-set_other (put i j s w) (4 * i + j) (4 * k + j) (get_or s i 0) 0 (λ q. omega (arith, q, p)) ∙ f (omega (arith, p))

-- the other states' lanes
put_rest : (i j : ℕ) (s w : List ℕ) (k : ℕ) → j < 4 → k < 4 → (k ≡ j → ⊥) → (n : ℕ) → get_or (put i j s w) (4 * n + k) 0 ≡ get_or w (4 * n + k) 0
unfolding put
put_rest zero j s w k hj hk ne n = refl
put_rest (suc i) j s w k hj hk ne n =
    get_or-set_other (put i j s w) (4 * i + j) (4 * n + k) (get_or s i 0) 0 (λ q. ne (omega (arith, q))) ∙ put_rest i j s w k hj hk ne n

-- ---- what is put in is what is taken out

pub part_length : (j : ℕ) (w : List ℕ) → length (part j w) ≡ 12
unfolding part
part_length j w = tabulate-length 12 _

-- a state by its lanes
is-part : (j : ℕ) (s w : List ℕ) → length s ≡ 12 → ((i : ℕ) → i < 12 → get_or s i 0 ≡ get_or w (4 * i + j) 0) → s ≡ part j w
unfolding part
is-part j s w h e = tabulate-is 12 _ s h e

part_at : (j : ℕ) (w : List ℕ) (i : ℕ) → i < 12 → get_or (part j w) i 0 ≡ get_or w (4 * i + j) 0
unfolding part
part_at j w i h = tabulate-at 12 _ i h

put_same : (j : ℕ) (s w : List ℕ) → j < 4 → length s ≡ 12 → length w ≡ 48 → part j (put 12 j s w) ≡ s
put_same j s w hj hs hw = sym (is-part j s (put 12 j s w) hs (λ i h. sym (put-here 12 j s w hj (omega arith) hw i h)))

put_other : (j k : ℕ) (s w : List ℕ) → j < 4 → k < 4 → (k ≡ j → ⊥) → part k (put 12 j s w) ≡ part k w
put_other j k s w hj hk ne =
    is-part k (part k (put 12 j s w)) w (part_length k (put 12 j s w)) (λ i h. part_at k (put 12 j s w) i h ∙ put_rest 12 j s w k hj hk ne i)

put_all : (j : ℕ) (s w : List ℕ) → length w ≡ 48 → length (put 12 j s w) ≡ 48
put_all j s w h = put-length 12 j s w ∙ h

pub beside-part : (f : ℕ → List ℕ) (j : ℕ) → j < 4 → length (f j) ≡ 12 → part j (beside f) ≡ f j
unfolding beside
beside-part f j hj hf = sym (is-part j (f j) (beside f) hf at)
  where
    at : (i : ℕ) → i < 12 → get_or (f j) i 0 ≡ get_or (beside f) (4 * i + j) 0
    at i h =
        let r : j ≡ (4 * i + j) % 4 = omega arith in
        let q : i ≡ (4 * i + j) / 4 = omega arith in
        ap₂ (λ (k m : ℕ). get_or (f k) m 0) r q ∙ sym (tabulate-at 48 (λ n. get_or (f (n % 4)) (n / 4) 0) (4 * i + j) (omega arith))

-- 48 lanes by their four states
is-beside : (f : ℕ → List ℕ) (w : List ℕ) → length w ≡ 48 → ((j : ℕ) → j < 4 → part j w ≡ f j) → w ≡ beside f
unfolding beside
is-beside f w h e = tabulate-is 48 _ w h at
  where
    at : (n : ℕ) → n < 48 → get_or w n 0 ≡ get_or (f (n % 4)) (n / 4) 0
    at n l =
        let d : n ≡ 4 * (n / 4) + n % 4 = omega arith in
        ap (λ (m : ℕ). get_or w m 0) d ∙ sym (part_at (n % 4) w (n / 4) (omega arith)) ∙ ap (λ (s : List ℕ). get_or s (n / 4) 0) (e (n % 4) (omega arith))

-- ---- four states put side by side lane by lane

-- the lanes of the four, one after another
abbrev pub beside_lane : (ℕ → List ℕ) → ℕ → ℕ
beside_lane f q = get_or (f (q % 4)) (q / 4) 0

pub beside-lane : (f : ℕ → List ℕ) (i j : ℕ) {v : ℕ} → j < 4 → v ≡ get_or (f j) i 0 → v ≡ beside_lane f (4 * i + j)
beside-lane f i j h e =
    let d : i ≡ (4 * i + j) / 4 = omega arith in
    let r : j ≡ (4 * i + j) % 4 = omega arith in
    e ∙ ap₂ (λ (k m : ℕ). get_or (f k) m 0) r d

pub beside-filled : (f : ℕ → List ℕ) (w : List ℕ) → length w ≡ 48 → Filled (beside_lane f) w 48 → w ≡ beside f
unfolding beside
beside-filled f w h d = tabulate-is 48 (beside_lane f) w h d

pub beside-length : (f : ℕ → List ℕ) → length (beside f) ≡ 48
unfolding beside
beside-length f = tabulate-length 48 _

-- four other states, the same ones
pub beside-ext : (f g : ℕ → List ℕ) → ((j : ℕ) → j < 4 → f j ≡ g j) → beside f ≡ beside g
unfolding beside
beside-ext f g e = tabulate-ext 48 _ _ (λ n l. ap (λ (s : List ℕ). get_or s (n / 4) 0) (e (n % 4) (omega arith)))

-- ---- steps done to each of the four

each_part : (F : List ℕ → List ℕ) → ((l : List ℕ) → length (F l) ≡ 12) → (j : ℕ) (w : List ℕ) → j < 4 → part j (each F w) ≡ F (part j w)
unfolding each
each_part F h j w l = beside-part (λ j. F (part j w)) j l (h (part j w))

each-length : (F : List ℕ → List ℕ) (w : List ℕ) → length (each F w) ≡ 48
unfolding each
each-length F w = beside-length _

-- F of t's states is G of w's
each-ext : (F G : List ℕ → List ℕ) (t w : List ℕ) → ((j : ℕ) → j < 4 → F (part j t) ≡ G (part j w)) → each F t ≡ each G w
unfolding each
each-ext F G t w e = beside-ext (λ j. F (part j t)) (λ j. G (part j w)) e

-- 48 lanes whose states are F of w's
is-each : (F : List ℕ → List ℕ) (w r : List ℕ) → length r ≡ 48 → ((j : ℕ) → j < 4 → part j r ≡ F (part j w)) → r ≡ each F w
unfolding each
is-each F w r h e = is-beside (λ j. F (part j w)) r h e

-- ---- the code's steps

-- what a store of another state leaves
kept : (j k : ℕ) (s w : List ℕ) {v : List ℕ} → v ≡ put 12 j s w → j < 4 → k < 4 → (k ≡ j → ⊥) → part k v ≡ part k w
kept j k s w e hj hk ne = ap (part k) e ∙ put_other j k s w hj hk ne

-- the first j states of r are F of w's
pub record Done (F : List ℕ → List ℕ) (w : List ℕ) (j : ℕ) (r : List ℕ) : Type 0 where
  pub size : length r ≡ 48
  pub parts : (k : ℕ) → k < j → part k r ≡ F (part k w)

pub done_none : (F : List ℕ → List ℕ) (w r : List ℕ) → length r ≡ 48 → Done F w 0 r
done_none F w r h = record { size = h; parts = λ k l. absurd (omega arith) }

pub done_more : (F : List ℕ → List ℕ) (w : List ℕ) (j : ℕ) (r s : List ℕ) {t : List ℕ} → j < 4 → length s ≡ 12 → s ≡ F (part j w) → t ≡ put 12 j s r
    → Done F w j r → Done F w (j + 1) t
done_more F w j r s {t} hj hs es et d = record { size = ap length et ∙ put_all j s r d.size; parts = λ k l. go k l (dec_le j k) }
  where
    go : (k : ℕ) → k < j + 1 → Dec (j ≤ k) → part k t ≡ F (part k w)
    go k l (yes p) =
        let q : k ≡ j = omega arith in
        ap (λ (n : ℕ). part n t) q ∙ ap (part j) et ∙ put_same j s r hj hs d.size ∙ es ∙ ap (λ (n : ℕ). F (part n w)) (sym q)
    go k l (no p) = kept j k s r et hj (omega arith) (λ q. omega (arith, q, p)) ∙ d.parts k (omega (arith, p))

pub done_all : (F : List ℕ → List ℕ) (w r : List ℕ) → Done F w 4 r → r ≡ each F w
done_all F w r d = is-each F w r d.size d.parts

-- ---- the rounds of the four

round-length : (c : ℕ) (l : List ℕ) → length (round c l) ≡ 12
unfolding round
round-length c l = lanes-length _

-- none is left
pub rounds-none : (w : List ℕ) → length w ≡ 48 → w ≡ each (rounds []) w
unfolding rounds
rounds-none w h = is-each (rounds []) w w h (λ j l. refl)

-- those of a run of constants, one after another
pub fold-each : (cs w : List ℕ) → length w ≡ 48 → fold (λ (v : List ℕ) (c : ℕ). each (round c) v) w cs ≡ each (rounds cs) w
unfolding rounds
fold-each [] w h = rounds-none w h
fold-each (c ∷ cs) w h =
    fold-each cs (each (round c) w) (each-length (round c) w)
    ∙ each-ext (rounds cs) (rounds (c ∷ cs)) (each (round c) w) w (λ j l. ap (rounds cs) (each_part (round c) (round-length c) j w l))

-- ---- four states that are laid out

pub laid-length : (n dx dy : ℕ) (a : List ℕ) (j : ℕ) → length (laid n dx dy a j) ≡ 12
unfolding laid
laid-length n dx dy a j = tabulate-length 12 _

laid-at : (n dx dy : ℕ) (a : List ℕ) (j i : ℕ) → i < 12 → get_or (laid n dx dy a j) i 0 ≡ get_or a (n + dx * (i % 4) + dy * (i / 4) + j) 0
unfolding laid
laid-at n dx dy a j i h = tabulate-at 12 _ i h

-- a lane that is read
pub laid-lane : (n dx dy : ℕ) (a : List ℕ) (i j m : ℕ) → i < 12 → m ≡ n + dx * (i % 4) + dy * (i / 4) + j → get_or a m 0 ≡ get_or (laid n dx dy a j) i 0
laid-lane n dx dy a i j m h e = ap (λ (k : ℕ). get_or a k 0) e ∙ sym (laid-at n dx dy a j i h)

-- the same, from the k places that begin with lane i of state 0
pub laid-read : (n dx dy : ℕ) (a : List ℕ) (i j k : ℕ) → i < 12 → j < 4 → j < k
    → get_or (take k (drop (n + dx * (i % 4) + dy * (i / 4)) a)) j 0 ≡ beside_lane (laid n dx dy a) (4 * i + j)
laid-read n dx dy a i j k h g l =
    beside-lane (laid n dx dy a) i j g (get_or-take k (drop (n + dx * (i % 4) + dy * (i / 4)) a) j 0 l ∙ get_or-drop _ a j 0 ∙ laid-lane n dx dy a i j _ h refl)

-- 48 lanes side by side are laid out with the steps 4 and 16
pub laid-part : (w : List ℕ) (j : ℕ) → laid 0 4 16 w j ≡ part j w
unfolding laid part
laid-part w j =
    tabulate-ext 12 _ _
    (λ i h. let e : 0 + 4 * (i % 4) + 16 * (i / 4) + j ≡ 4 * i + j = omega arith in ap (λ (m : ℕ). get_or w m 0) e)

-- a step done to four states that were put side by side, all at once
pub each_of : (F : List ℕ → List ℕ) (f : ℕ → List ℕ) → ((j : ℕ) → length (f j) ≡ 12) → each F (beside f) ≡ beside (λ j. F (f j))
unfolding each
each_of F f h = beside-ext (λ j. F (part j (beside f))) (λ j. F (f j)) (λ j l. ap F (beside-part f j l (h j)))

-- the permutation of four states that were read one after another
pub laid-permuted : (n dx dy : ℕ) (a t : List ℕ) {s : List ℕ} → length t ≡ 48 → Filled (beside_lane (laid n dx dy a)) t 48 → s ≡ each perm t
    → s ≡ beside (λ j. perm (laid n dx dy a j))
laid-permuted n dx dy a t h f e = e ∙ ap (each perm) (beside-filled (laid n dx dy a) t h f) ∙ each_of perm (laid n dx dy a) (laid-length n dx dy a)

-- added, or put in the place of what was there
pub into-sum : {b : Bool} (w v : List ℕ) {s : List ℕ} → b ≡ true → s ≡ sum w v → s ≡ into b w v
into-sum w v e h = h ∙ ap (λ (b : Bool). into b w v) (sym e)

pub into-place : {b : Bool} (w v : List ℕ) {s : List ℕ} → b ≡ false → s ≡ v → s ≡ into b w v
into-place w v e h = h ∙ ap (λ (b : Bool). into b w v) (sym e)

-- a sum's states are the sums of the states
pub part-sum : (j : ℕ) (v w : List ℕ) → j < 4 → length v ≡ 48 → length w ≡ 48 → part j (sum v w) ≡ sum (part j v) (part j w)
part-sum j v w hj hv hw =
    let n : length (part j v) ≡ 12 = part_length j v in
    let m : length (part j w) ≡ 12 = part_length j w in
    sym (is-part j (sum (part j v) (part j w)) (sum v w) (sum-length (part j v) (part j w) (omega arith) ∙ n)
    (λ i h.
    sum-at (part j v) (part j w) i (omega arith) (omega arith)
    ∙ ap₂ bit_xor (part_at j v i h) (part_at j w i h)
    ∙ sym (sum-at v w (4 * i + j) (omega arith) (omega arith))))

-- ---- four permutations side by side

-- 48 lanes are four states side by side just where each of them is the state of its place
beside-exactly : (f : ℕ → List ℕ) → ((j : ℕ) → length (f j) ≡ 12) → (r : List ℕ) → (r ≡ beside f) ↔ ((length r ≡ 48) × ((j : ℕ) → j < 4 → part j r ≡ f j))
beside-exactly f h r = (
  λ e. (ap length e ∙ beside-length f, λ j l. ap (part j) e ∙ beside-part f j l (h j)),
  λ g. is-beside f r g.0 g.1,
)

-- what the contract of `permute_four` says, state by state: state j of the result is the permutation of state j, for each j below 4, and nothing else is
pub four-permuted : (w r : List ℕ) → (r ≡ each perm w) ↔ ((length r ≡ 48) × ((j : ℕ) → j < 4 → part j r ≡ perm (part j w)))
unfolding each
four-permuted w r = beside-exactly (λ j. perm (part j w)) (λ j. perm-length _) r

-- and what `permute_into` puts into 48 lanes, or adds to them
pub laid-exactly : (n dx dy : ℕ) (a r : List ℕ)
    → (r ≡ beside (λ j. perm (laid n dx dy a j))) ↔ ((length r ≡ 48) × ((j : ℕ) → j < 4 → part j r ≡ perm (laid n dx dy a j)))
laid-exactly n dx dy a r = beside-exactly (λ j. perm (laid n dx dy a j)) (λ j. perm-length _) r
