-- A list of runs with one run more: it holds just the numbers of the list and of the run, as many rings, and keeps its runs apart. Assumes nothing.
use Prim.Native.Nat.{ℕ, ◌+◌, ◌-◌, ◌<◌, ◌≤◌}
use mathlib.Core.Path.{◌≡◌, refl}
use mathlib.Core.Bool.{Bool, true, false, cond, false≢true}
use mathlib.Core.Logic.{◌↔◌, ◌⊎◌, inl, inr}
use mathlib.Core.List.{List, [], ◌∷◌}
use native.Mathlib.Nat.{eq-zero-or-pos}
use native.Mathlib.Omega.{arith}
use Rattle.std.proofs.lemmas.Bool.{or_cases, or_parts}
use Rattle.runs.specs.declared.Run.{Run}
use Rattle.runs.specs.Runs.{a_run, meets, touches, join, any_meets, with_run, rings_in, rings_of}
use Rattle.runs.specs.Meaning.{Valid, In, Holds, here, there, Apart, Away, away-none, away-more, GoodRuns, good_none, good_more}
use Rattle.runs.proofs.Pair.{Distinct, meets-true, meets-false, join-valid, join-rings, join-left, join-right, join-only, join_apart, join-distinct, not-touching}

-- no run of a list meets r
pub data Clear (r : Run) : List Run → Type 0 where
  clear_none : Clear r []
  clear-more : {q : Run} {l : List Run} → Distinct q r → Clear r l → Clear r (q ∷ l)

pub clear_of : (r : Run) (l : List Run) → any_meets r l ≡ false → Clear r l
unfolding any_meets
clear_of r [] e = clear_none
clear_of r (q ∷ l) e = let s = or_parts (meets q r) (any_meets r l) e in clear-more (meets-false q r s.0) (clear_of r l s.1)

clear-join : (q r : Run) (l : List Run) → Valid q → Valid r → touches q r ≡ true → GoodRuns l → Away q l → Clear r l → Clear (join q r) l
clear-join q r [] vq vr e g a c = clear_none
clear-join q r (k ∷ l) vq vr e (good_more vk ak g) (away-more qk a) (clear-more kr c) =
    clear-more (join-distinct q r vq vr e k vk qk kr) (clear-join q r l vq vr e g a c)

-- what is apart from the list and from the run is apart from the list with the run
away-with : (k r : Run) (l : List Run) → Valid k → Valid r → GoodRuns l → Away k l → Apart k r → Away k (with_run r l)
unfolding with_run
away-with k r [] vk vr g a kr = away-more kr away-none
away-with k r (q ∷ l) vk vr (good_more vq aq g) (away-more kq a) kr =
    go (touches q r) refl (λ (v : Valid (join q r)) (s : Apart k (join q r)). away-with k (join q r) l vk v g a s) (away-with k r l vk vr g a kr)
  where
    go : (t : Bool) → touches q r ≡ t → (Valid (join q r) → Apart k (join q r) → Away k (with_run (join q r) l)) → Away k (with_run r l)
        → Away k (cond t (with_run (join q r) l) (q ∷ with_run r l))
    go true e joined stays = joined (join-valid q r vq vr e) (join_apart q r vq vr e k vk kq kr)
    go false e joined stays = away-more kq stays

-- A good list with a run that meets none of it is good.
pub good-with : (r : Run) (l : List Run) → Valid r → GoodRuns l → Clear r l → GoodRuns (with_run r l)
unfolding with_run
good-with r [] vr g c = good_more vr away-none good_none
good-with r (q ∷ l) vr (good_more vq aq g) (clear-more qr c) =
    go (touches q r) refl (λ (v : Valid (join q r)) (s : Clear (join q r) l). good-with (join q r) l v g s) (good-with r l vr g c)
  where
    go : (t : Bool) → touches q r ≡ t → (Valid (join q r) → Clear (join q r) l → GoodRuns (with_run (join q r) l)) → GoodRuns (with_run r l)
        → GoodRuns (cond t (with_run (join q r) l) (q ∷ with_run r l))
    go true e joined stays = joined (join-valid q r vq vr e) (clear-join q r l vq vr e g aq c)
    go false e joined stays = good_more vq (away-with q r l vq vr g aq (not-touching q r e qr)) stays

-- It has the rings of both.
pub rings-with : (r : Run) (l : List Run) → Valid r → GoodRuns l → rings_of (with_run r l) ≡ rings_of l + rings_in r
unfolding with_run rings_of
rings-with r [] vr g = omega arith
rings-with r (q ∷ l) vr (good_more vq aq g) =
    go (touches q r) refl (λ (v : Valid (join q r)). rings-with (join q r) l v g) (rings-with r l vr g)
  where
    go : (t : Bool) → touches q r ≡ t → (Valid (join q r) → rings_of (with_run (join q r) l) ≡ rings_of l + rings_in (join q r))
        → rings_of (with_run r l) ≡ rings_of l + rings_in r
        → rings_of (cond t (with_run (join q r) l) (q ∷ with_run r l)) ≡ rings_in q + rings_of l + rings_in r
    go true e joined stays = omega (arith, joined (join-valid q r vq vr e), join-rings q r vq vr e)
    go false e joined stays = omega (arith, stays)

-- It holds the numbers of both, and no others.
pub holds-with : (size x : ℕ) (r : Run) (l : List Run) → Valid r → GoodRuns l → Holds size x l ⊎ In size x r → Holds size x (with_run r l)
unfolding with_run
holds-with size x r [] vr g (inl x5) = elim x5 [ ]
holds-with size x r [] vr g (inr i) = here i
holds-with size x r (q ∷ l) vr (good_more vq aq g) h =
    go (touches q r) refl (λ (v : Valid (join q r)) (s : Holds size x l ⊎ In size x (join q r)). holds-with size x (join q r) l v g s)
    (λ (s : Holds size x l ⊎ In size x r). holds-with size x r l vr g s) h
  where
    go : (t : Bool) → touches q r ≡ t → (Valid (join q r) → Holds size x l ⊎ In size x (join q r) → Holds size x (with_run (join q r) l))
        → (Holds size x l ⊎ In size x r → Holds size x (with_run r l)) → Holds size x (q ∷ l) ⊎ In size x r
        → Holds size x (cond t (with_run (join q r) l) (q ∷ with_run r l))
    go true e joined stays (inl (here i)) = joined (join-valid q r vq vr e) (inr (join-left q r vq vr e size x i))
    go true e joined stays (inl (there k)) = joined (join-valid q r vq vr e) (inl k)
    go true e joined stays (inr i) = joined (join-valid q r vq vr e) (inr (join-right q r vq vr e size x i))
    go false e joined stays (inl (here i)) = here i
    go false e joined stays (inl (there k)) = there (stays (inl k))
    go false e joined stays (inr i) = there (stays (inr i))

pub holds-only : (size x : ℕ) (r : Run) (l : List Run) → Valid r → GoodRuns l → Holds size x (with_run r l) → Holds size x l ⊎ In size x r
unfolding with_run
holds-only size x r [] vr g (there x7) = elim x7 [ ]
holds-only size x r [] vr g (here i) = inr i
holds-only size x r (q ∷ l) vr (good_more vq aq g) h =
    go (touches q r) refl (λ (v : Valid (join q r)) (s : Holds size x (with_run (join q r) l)). holds-only size x (join q r) l v g s)
    (λ (s : Holds size x (with_run r l)). holds-only size x r l vr g s) h
  where
    split : touches q r ≡ true → Holds size x l ⊎ In size x (join q r) → Holds size x (q ∷ l) ⊎ In size x r
    split e (inl k) = inl (there k)
    split e (inr i) = pick (join-only q r vq vr e size x i)
      where
        pick : In size x q ⊎ In size x r → Holds size x (q ∷ l) ⊎ In size x r
        pick (inl a) = inl (here a)
        pick (inr b) = inr b

    wider : Holds size x l ⊎ In size x r → Holds size x (q ∷ l) ⊎ In size x r
    wider (inl k) = inl (there k)
    wider (inr i) = inr i

    go : (t : Bool) → touches q r ≡ t → (Valid (join q r) → Holds size x (with_run (join q r) l) → Holds size x l ⊎ In size x (join q r))
        → (Holds size x (with_run r l) → Holds size x l ⊎ In size x r) → Holds size x (cond t (with_run (join q r) l) (q ∷ with_run r l))
        → Holds size x (q ∷ l) ⊎ In size x r
    go true e joined stays k = split e (joined (join-valid q r vq vr e) k)
    go false e joined stays (here i) = inl (here i)
    go false e joined stays (there k) = wider (stays k)

-- A run that meets the list has a number in common with it, and one that does not has none.
pub meets-some : (r : Run) (l : List Run) → Valid r → GoodRuns l → any_meets r l ≡ true → (x : ℕ) × In r.size x r × Holds r.size x l
unfolding any_meets
meets-some r [] vr g e = absurd (false≢true e)
meets-some r (q ∷ l) vr (good_more vq aq g) e = go (or_cases (meets q r) (any_meets r l) e) (meets-some r l vr g)
  where
    go : (meets q r ≡ true) ⊎ (any_meets r l ≡ true) → (any_meets r l ≡ true → (x : ℕ) × In r.size x r × Holds r.size x l)
        → (x : ℕ) × In r.size x r × Holds r.size x (q ∷ l)
    go (inl m) ih =
        let s = meets-true q r m in
        pick s (eq-zero-or-pos (r.first - q.first))
      where
        pick : (q.size ≡ r.size) × (q.first ≤ r.last) × (r.first ≤ q.last) → (r.first - q.first ≡ 0) ⊎ (0 < r.first - q.first)
            → (x : ℕ) × In r.size x r × Holds r.size x (q ∷ l)
        pick s (inl h) = (q.first, (refl, omega arith, s.1), here {q = q} (s.0, omega arith, vq))
        pick s (inr h) = (r.first, (refl, omega arith, vr), here {q = q} (s.0, omega arith, s.2))
    go (inr m) ih = let k = ih m in (k.0, k.1, there k.2)

pub clear-disjoint : (r : Run) (l : List Run) → Clear r l → (x : ℕ) → In r.size x r → Holds r.size x l → ⊥
clear-disjoint r [] _ x i x6 = elim x6 [ ]
clear-disjoint r (q ∷ l) (clear-more d c) x i (here j) = go (d j.0)
  where
    go : (q.last < r.first) ⊎ (r.last < q.first) → ⊥
    go (inl h) = omega arith
    go (inr h) = omega arith
clear-disjoint r (q ∷ l) (clear-more d c) x i (there k) = clear-disjoint r l c x i k

-- The question whether a number is in some run of a list, any list, is the one whether a run of that number alone meets it.
held_found : (size x : ℕ) (l : List Run) → any_meets (a_run size x x) l ≡ true → Holds size x l
unfolding any_meets
held_found size x [] e = absurd (false≢true e)
held_found size x (q ∷ l) e = pick (or_cases (meets q (a_run size x x)) (any_meets (a_run size x x) l) e) (held_found size x l)
  where
    pick : (meets q (a_run size x x) ≡ true) ⊎ (any_meets (a_run size x x) l ≡ true) → (any_meets (a_run size x x) l ≡ true → Holds size x l) → Holds size x (q ∷ l)
    pick (inl a) more = here (meets-true q (a_run size x x) a)
    pick (inr b) more = there (more b)

pub held-asked : (size x : ℕ) (l : List Run) → (any_meets (a_run size x x) l ≡ true) ↔ Holds size x l
held-asked size x l = (held_found size x l, go (any_meets (a_run size x x) l) refl)
  where
    go : (t : Bool) → any_meets (a_run size x x) l ≡ t → Holds size x l → any_meets (a_run size x x) l ≡ true
    go true e h = e
    go false e h = absurd (clear-disjoint (a_run size x x) l (clear_of (a_run size x x) l e) x (refl, omega arith, omega arith) h)
