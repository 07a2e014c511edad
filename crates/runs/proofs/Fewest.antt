-- A list that keeps its runs apart has the fewest runs of all lists with its numbers, and such lists with the same numbers have the same runs.
-- Assumes nothing.
use Prim.Native.Nat.{ℕ, suc, ◌+◌, ◌-◌, ◌<◌, ◌≤◌}
use mathlib.Core.Path.{◌≡◌, refl, sym, ap, ap₂, ◌∙◌, subst}
use mathlib.Core.Bool.{Bool, true, false, cond}
use mathlib.Core.Logic.{◌⊎◌, inl, inr}
use mathlib.Core.List.{List, [], ◌∷◌}
use native.Mathlib.Omega.{arith}
use lib.ListN.{length}
use Rattle.runs.specs.declared.Run.{Run}
use Rattle.runs.specs.Runs.{a_run, meets}
use Rattle.runs.specs.Meaning.{Valid, In, Holds, here, there, SameNumbers, Apart, Away, away-none, away-more, GoodRuns, good_none, good_more, Among, first_one, later-one, SameRunSet}
use Rattle.runs.proofs.Pair.{meets-true, meets-false}

-- what is had of a run of a list
pub among-holds : {q : Run} {l : List Run} {size x : ℕ} → Among q l → In size x q → Holds size x l
among-holds {size = size} {x = x} (first_one e) i = here (subst (In size x) (sym e) i)
among-holds (later-one m) i = there (among-holds m i)

-- the run that holds a number
pub holder : {size x : ℕ} {l : List Run} → Holds size x l → (k : Run) × Among k l × In size x k
holder (here {q} i) = (q, first_one refl, i)
holder (there h) = let r = holder h in (r.0, later-one r.1, r.2)

among-some : {q : Run} {l : List Run} → Among q l → 0 < length l
among-some (first_one e) = omega arith
among-some (later-one m) = omega arith

pub holds-some : {size x : ℕ} {l : List Run} → Holds size x l → 0 < length l
holds-some (here i) = omega arith
holds-some (there h) = omega arith

valid-of : {q : Run} {l : List Run} → GoodRuns l → Among q l → Valid q
valid-of {q = q} good_none x3 = elim x3 [ ]
valid-of (good_more v a g) (first_one e) = subst Valid e v
valid-of (good_more v a g) (later-one m) = valid-of g m

apart_of : {h q : Run} {l : List Run} → Away h l → Among q l → Apart h q
apart_of {h = h} {q = q} away-none x3 = elim x3 [ ]
apart_of {h} (away-more a rest) (first_one e) = subst (Apart h) e a
apart_of (away-more a rest) (later-one m) = apart_of rest m

apart-back : (q k : Run) → Apart q k → Apart k q
apart-back q k a same = go (a (sym same))
  where
    go : (q.last + 1 < k.first) ⊎ (k.last + 1 < q.first) → (k.last + 1 < q.first) ⊎ (q.last + 1 < k.first)
    go (inl h) = inr h
    go (inr h) = inl h

-- two runs of a good list are one, or apart
one-or-apart : {q k : Run} {l : List Run} → GoodRuns l → Among q l → Among k l → (k ≡ q) ⊎ Apart q k
one-or-apart {q = q} {k = k} good_none x5 _ = elim x5 [ ]
one-or-apart (good_more v a g) (first_one e) (first_one f) = inl (sym f ∙ e)
one-or-apart {q} {k} (good_more v a g) (first_one e) (later-one m) = inr (subst (λ (r : Run). Apart r k) e (apart_of a m))
one-or-apart {q} {k} (good_more v a g) (later-one n) (first_one f) = inr (apart-back k q (subst (λ (r : Run). Apart r q) f (apart_of a n)))
one-or-apart (good_more v a g) (later-one n) (later-one m) = one-or-apart g n m

-- Two runs of one size that have a number in common: where all numbers of k are in a good list, k does not reach out of a run q of the list.
module _ (g : List Run) (good : GoodRuns g) (q : Run) (is : Among q g) where
  not-beside : (y : ℕ) → Holds q.size y g → (q.last + 1 ≡ y) ⊎ (y + 1 ≡ q.first) → ⊥
  not-beside y h = go (holder h)
    where
      other : (k : Run) → In q.size y k → (k ≡ q) ⊎ Apart q k → (q.last + 1 ≡ y) ⊎ (y + 1 ≡ q.first) → ⊥
      other k i (inl e) (inl n) = omega (arith, ap (λ (r : Run). r.last) e, i.2)
      other k i (inl e) (inr n) = omega (arith, ap (λ (r : Run). r.first) e, i.1)
      other k i (inr a) b = between (a (sym i.0)) b
        where
          between : (q.last + 1 < k.first) ⊎ (k.last + 1 < q.first) → (q.last + 1 ≡ y) ⊎ (y + 1 ≡ q.first) → ⊥
          between (inl h) (inl n) = omega (arith, i.1)
          between (inl h) (inr n) = omega (arith, i.1, valid-of good is)
          between (inr h) (inl n) = omega (arith, i.2, valid-of good is)
          between (inr h) (inr n) = omega (arith, i.2)

      go : (k : Run) × Among k g × In q.size y k → (q.last + 1 ≡ y) ⊎ (y + 1 ≡ q.first) → ⊥
      go found = other found.0 found.2 (one-or-apart good is found.1)

  module _ (k : Run) (inside : (size x : ℕ) → In size x k → Holds size x g) (x : ℕ) (iq : In q.size x q) (ik : In q.size x k) where
    pub not-above : k.last ≤ q.last
    not-above = omega (arith, out)
      where
        out : q.last < k.last → ⊥
        out h = not-beside (q.last + 1) (inside q.size (q.last + 1) (ik.0, omega (arith, ik.1, iq.2), omega arith)) (inl refl)

    pub not-below : q.first ≤ k.first
    not-below = omega (arith, out)
      where
        out : k.first < q.first → ⊥
        out h = not-beside (q.first - 1) (inside q.size (q.first - 1) (ik.0, omega arith, omega (arith, ik.2, iq.1))) (inr (omega arith))

same-run : (q k : Run) → k.size ≡ q.size → k.first ≡ q.first → k.last ≡ q.last → k ≡ q
same-run q k s f l = ap₂ (λ (a b : ℕ). a_run a b k.last) s f ∙ ap (a_run q.size q.first) l

-- Good lists with the same numbers have the same runs.
run-there : (g m : List Run) → GoodRuns g → GoodRuns m → SameNumbers g m → (q : Run) → Among q g → Among q m
run-there g m good-g good-m same q is = go (holder ((same q.size q.first).0 (among-holds is first)))
  where
    first : In q.size q.first q
    first = (refl, omega arith, valid-of good-g is)

    go : (k : Run) × Among k m × In q.size q.first k → Among q m
    go found =
        let k = found.0 in
        let i = found.2 in
        let back : In k.size q.first q = (sym i.0, omega arith, valid-of good-g is) in
        let here-k : In k.size q.first k = (refl, i.1, i.2) in
        let k-in : (size x : ℕ) → In size x k → Holds size x g = λ size x j. (same size x).1 (among-holds found.1 j) in
        let q-in : (size x : ℕ) → In size x q → Holds size x m = λ size x j. (same size x).0 (among-holds is j) in
        let top = not-above g good-g q is k k-in q.first first i in
        let low = not-below g good-g q is k k-in q.first first i in
        let high = not-above m good-m k found.1 q q-in q.first here-k back in
        let down = not-below m good-m k found.1 q q-in q.first here-k back in
        subst (λ (r : Run). Among r m) (same-run q k i.0 (omega (arith, low, down)) (omega (arith, top, high))) found.1

pub same_runs : (g m : List Run) → GoodRuns g → GoodRuns m → SameNumbers g m → SameRunSet g m
same_runs g m good-g good-m same q =
    (run-there g m good-g good-m same q, run-there m g good-m good-g (λ size x. ((same size x).1, (same size x).0)) q)

-- a run begins in k; the runs of a list that do not
abbrev begins : Run → Run → Bool
begins k q = meets k (a_run q.size q.first q.first)

unfoldable others : Run → List Run → List Run
others k [] = []
others k (q ∷ g) = cond (begins k q) (others k g) (q ∷ others k g)

begins-in : (k q : Run) → begins k q ≡ true → In q.size q.first k
begins-in k q e = meets-true k (a_run q.size q.first q.first) e

begins-not : (k q : Run) → begins k q ≡ false → In q.size q.first k → ⊥
begins-not k q e i = go (meets-false k (a_run q.size q.first q.first) e i.0)
  where
    go : (k.last < q.first) ⊎ (q.first < k.first) → ⊥
    go (inl h) = omega (arith, i.2)
    go (inr h) = omega (arith, i.1)

-- they are runs of the list that do not begin in k, and keep apart
others-among : (k : Run) (g : List Run) {q : Run} → Among q (others k g) → Among q g × (begins k q ≡ false)
unfolding others
others-among k [] m = let no : ⊥ = omega (arith, among-some m) in absurd no
others-among k (h ∷ g) {q} m = go (begins k h) refl (others-among k g) m
  where
    deeper : Among q g × (begins k q ≡ false) → Among q (h ∷ g) × (begins k q ≡ false)
    deeper r = (later-one r.0, r.1)

    go : (t : Bool) → begins k h ≡ t → (Among q (others k g) → Among q g × (begins k q ≡ false)) → Among q (cond t (others k g) (h ∷ others k g))
        → Among q (h ∷ g) × (begins k q ≡ false)
    go true e more m = deeper (more m)
    go false e more (first_one f) = (first_one f, subst (λ (r : Run). begins k r ≡ false) f e)
    go false e more (later-one m) = deeper (more m)

away-others : (k h : Run) (g : List Run) → Away h g → Away h (others k g)
unfolding others
away-others k h [] away-none = away-none
away-others k h (q ∷ g) (away-more a rest) = go (begins k q) (away-others k h g rest)
  where
    go : (t : Bool) → Away h (others k g) → Away h (cond t (others k g) (q ∷ others k g))
    go true more = more
    go false more = away-more a more

good_others : (k : Run) (g : List Run) → GoodRuns g → GoodRuns (others k g)
unfolding others
good_others k [] good_none = good_none
good_others k (q ∷ g) (good_more v a good) = go (begins k q) (good_others k g good)
  where
    go : (t : Bool) → GoodRuns (others k g) → GoodRuns (cond t (others k g) (q ∷ others k g))
    go true more = more
    go false more = good_more v (away-others k q g a) more

-- where none begins in k, all are left; where k does not reach out of the runs that begin in it, one begins in it at most
all_left : (k : Run) (g : List Run) → ((q : Run) → Among q g → begins k q ≡ false) → length g ≤ length (others k g)
unfolding others
all_left k [] none = omega arith
all_left k (q ∷ g) none =
    let more = all_left k g (λ r m. none r (later-one m)) in
    subst (λ (t : Bool). suc (length g) ≤ length (cond t (others k g) (q ∷ others k g))) (sym (none q (first_one refl))) (omega (arith, more))

abbrev Tight : Run → List Run → Type 0
Tight k g = (q : Run) → Among q g → In q.size q.first k → k.last ≤ q.last

one-begins : (k : Run) (g : List Run) → GoodRuns g → Tight k g → length g ≤ length (others k g) + 1
unfolding others
one-begins k [] good tight = omega arith
one-begins k (q ∷ g) (good_more v a good) tight = go (begins k q) refl (one-begins k g good (λ r m. tight r (later-one m)))
  where
    later : begins k q ≡ true → (r : Run) → Among r g → begins k r ≡ false
    later e r m = pick (begins k r) refl
      where
        both : In q.size q.first k → In r.size r.first k → (q.last + 1 < r.first) ⊎ (r.last + 1 < q.first) → ⊥
        both i j (inl h) = omega (arith, j.2, tight q (first_one refl) i)
        both i j (inr h) = omega (arith, i.2, tight r (later-one m) j)

        pick : (t : Bool) → begins k r ≡ t → begins k r ≡ false
        pick false f = f
        pick true f =
            let i = begins-in k q e in
            let j = begins-in k r f in
            absurd (both i j (apart_of a m (sym i.0 ∙ j.0)))

    go : (t : Bool) → begins k q ≡ t → length g ≤ length (others k g) + 1 → suc (length g) ≤ length (cond t (others k g) (q ∷ others k g)) + 1
    go true e more = omega (arith, all_left k g (later e))
    go false e more = omega (arith, more)

-- As many runs as begin in those of another list, which do not reach out of them, are no more than the other list has.
no_more : (l g : List Run) → GoodRuns g → ((q : Run) → Among q g → Holds q.size q.first l) → ((k : Run) → Among k l → Tight k g) → length g ≤ length l
no_more [] [] good in-l tight = omega arith
no_more [] (q ∷ g) good in-l tight = let no : ⊥ = omega (arith, holds-some (in-l q (first_one refl))) in absurd no
no_more (k ∷ l) g good in-l tight =
    let less = no_more l (others k g) (good_others k g good) covered (λ j m q n. tight j (later-one m) q (others-among k g n).0) in
    omega (arith, less, one-begins k g good (tight k (first_one refl)))
  where
    covered : (q : Run) → Among q (others k g) → Holds q.size q.first l
    covered q n = go (others-among k g n) (in-l q (others-among k g n).0)
      where
        go : Among q g × (begins k q ≡ false) → Holds q.size q.first (k ∷ l) → Holds q.size q.first l
        go r (here i) = absurd (begins-not k q r.1 i)
        go r (there h) = h

-- No list with the numbers of a good one has fewer runs.
pub fewest : (g l : List Run) → GoodRuns g → SameNumbers g l → length g ≤ length l
fewest g l good same = no_more l g good (λ q m. (same q.size q.first).0 (among-holds m (start q m))) inside
  where
    start : (q : Run) → Among q g → In q.size q.first q
    start q m = (refl, omega arith, valid-of good m)

    inside : (k : Run) → Among k l → Tight k g
    inside k n q m i = not-above g good q m k (λ size x j. (same size x).1 (among-holds n j)) q.first (start q m) i
