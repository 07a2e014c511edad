-- Two runs: what meeting and touching say, and what two runs that touch are as one. Assumes nothing.
use Prim.Native.Nat.{ℕ, ◌+◌, ◌-◌, ◌<◌, ◌≤◌}
use mathlib.Core.Path.{◌≡◌, refl, sym, ◌∙◌}
use mathlib.Core.Bool.{Bool, true, false, ◌&&◌, ◌||◌, true≢false, and-eq-true_iff}
use mathlib.Core.Logic.{◌⊎◌, inl, inr}
use native.Mathlib.Nat.{eq-zero-or-pos}
use native.Mathlib.Omega.{arith}
use lib.Dec.{leb, eqb}
use Rattle.std.proofs.lemmas.Bool.{or_cases, or_parts}
use borrow.Author.Tests.{lt-ltb, le-ltb, eq-eqb, leb-true, leb-false, eqb-true, eqb-false}
use Rattle.runs.specs.declared.Run.{Run}
use Rattle.runs.specs.Runs.{meets, touches, join, rings_in}
use Rattle.runs.specs.Meaning.{Valid, In, Apart}

-- two runs do not meet: they differ in size, or one ends before the other begins
abbrev pub Distinct : Run → Run → Type 0
Distinct q r = q.size ≡ r.size → (q.last < r.first) ⊎ (r.last < q.first)

-- what it is to touch, and for runs of one size not to
touches-ends : (q r : Run) → touches q r ≡ true → (q.size ≡ r.size) × ((q.last + 1 ≡ r.first) ⊎ (r.last + 1 ≡ q.first))
unfolding touches
touches-ends q r e =
    let s = (and-eq-true_iff (eqb q.size r.size) (eqb (q.last + 1) r.first || eqb (r.last + 1) q.first)).0 e in
    (eqb-true q.size r.size s.0, go (or_cases (eqb (q.last + 1) r.first) (eqb (r.last + 1) q.first) s.1))
  where
    go : (eqb (q.last + 1) r.first ≡ true) ⊎ (eqb (r.last + 1) q.first ≡ true) → (q.last + 1 ≡ r.first) ⊎ (r.last + 1 ≡ q.first)
    go (inl t) = inl (eqb-true (q.last + 1) r.first t)
    go (inr t) = inr (eqb-true (r.last + 1) q.first t)

touches-false : (q r : Run) → touches q r ≡ false → q.size ≡ r.size → (q.last + 1 ≡ r.first → ⊥) × (r.last + 1 ≡ q.first → ⊥)
unfolding touches
touches-false q r e same =
    let s = or_parts (eqb (q.last + 1) r.first) (eqb (r.last + 1) q.first) (sym (simp (eq-eqb q.size r.size same)) ∙ e) in
    (eqb-false (q.last + 1) r.first s.0, eqb-false (r.last + 1) q.first s.1)

module _ (q r : Run) where
  -- what it is to meet, and not to
  pub meets-true : meets q r ≡ true → (q.size ≡ r.size) × (q.first ≤ r.last) × (r.first ≤ q.last)
  unfolding meets
  meets-true e =
      let s = (and-eq-true_iff (eqb q.size r.size) (leb q.first r.last && leb r.first q.last)).0 e in
      let t = (and-eq-true_iff (leb q.first r.last) (leb r.first q.last)).0 s.1 in
      (eqb-true q.size r.size s.0, leb-true q.first r.last t.0, leb-true r.first q.last t.1)

  pub meets-false : meets q r ≡ false → Distinct q r
  unfolding meets
  meets-false e same = go (leb q.first r.last) refl (leb r.first q.last) refl
    where
      go : (a : Bool) → leb q.first r.last ≡ a → (b : Bool) → leb r.first q.last ≡ b → (q.last < r.first) ⊎ (r.last < q.first)
      go false ea b eb = inr (leb-false q.first r.last ea)
      go true ea false eb = inl (leb-false r.first q.last eb)
      go true ea true eb = absurd (true≢false (sym (simp (eq-eqb q.size r.size same, ea, eb)) ∙ e))

  -- touching, and the joined run, by which of the two is below
  pub record Below : Type 0 where
    pub next : q.last + 1 ≡ r.first
    pub first : (join q r).first ≡ q.first
    pub last : (join q r).last ≡ r.last
    pub size : (join q r).size ≡ r.size

  pub record Above : Type 0 where
    pub next : r.last + 1 ≡ q.first
    pub first : (join q r).first ≡ r.first
    pub last : (join q r).last ≡ q.last
    pub size : (join q r).size ≡ r.size

  pub touches-true : Valid q → Valid r → touches q r ≡ true → (q.size ≡ r.size) × (Below ⊎ Above)
  unfolding join
  touches-true vq vr e = ((touches-ends q r e).0, go (touches-ends q r e).1)
    where
      go : (q.last + 1 ≡ r.first) ⊎ (r.last + 1 ≡ q.first) → Below ⊎ Above
      go (inl n) =
          let b = lt-ltb q.last r.first (omega arith) in
          inl (record { next = n; first = simp b; last = simp b; size = simp b })
      go (inr n) =
          let b = le-ltb q.last r.first (omega arith) in
          inr (record { next = n; first = simp b; last = simp b; size = simp b })

  -- runs that neither meet nor touch are apart
  pub not-touching : touches q r ≡ false → Distinct q r → Apart q r
  not-touching e d same = go (d same) (touches-false q r e same)
    where
      go : (q.last < r.first) ⊎ (r.last < q.first) → (q.last + 1 ≡ r.first → ⊥) × (r.last + 1 ≡ q.first → ⊥)
          → (q.last + 1 < r.first) ⊎ (r.last + 1 < q.first)
      go (inl h) n = let m = n.0 in inl (omega arith)
      go (inr h) n = let m = n.1 in inr (omega arith)

  module _ (vq : Valid q) (vr : Valid r) (touching : touches q r ≡ true) where
    pub join-valid : Valid (join q r)
    join-valid = go (touches-true vq vr touching).1
      where
        go : Below ⊎ Above → Valid (join q r)
        go (inl b) = omega arith
        go (inr a) = omega arith

    -- its size, its rings and its numbers
    pub join-size : (join q r).size ≡ r.size
    join-size = go (touches-true vq vr touching).1
      where
        go : Below ⊎ Above → (join q r).size ≡ r.size
        go (inl b) = b.size
        go (inr a) = a.size

    pub join-rings : rings_in (join q r) ≡ rings_in q + rings_in r
    join-rings = go (touches-true vq vr touching).1
      where
        go : Below ⊎ Above → rings_in (join q r) ≡ rings_in q + rings_in r
        go (inl b) = omega arith
        go (inr a) = omega arith

    pub join-left : (size x : ℕ) → In size x q → In size x (join q r)
    join-left size x i = go (touches-true vq vr touching).1
      where
        go : Below ⊎ Above → In size x (join q r)
        go (inl b) = (b.size ∙ sym (touches-true vq vr touching).0 ∙ i.0, omega arith, omega arith)
        go (inr a) = (a.size ∙ sym (touches-true vq vr touching).0 ∙ i.0, omega arith, omega arith)

    pub join-right : (size x : ℕ) → In size x r → In size x (join q r)
    join-right size x i = go (touches-true vq vr touching).1
      where
        go : Below ⊎ Above → In size x (join q r)
        go (inl b) = (b.size ∙ i.0, omega arith, omega arith)
        go (inr a) = (a.size ∙ i.0, omega arith, omega arith)

    pub join-only : (size x : ℕ) → In size x (join q r) → In size x q ⊎ In size x r
    join-only size x i = go (touches-true vq vr touching).1
      where
        go : Below ⊎ Above → In size x q ⊎ In size x r
        go (inl b) = pick (eq-zero-or-pos (r.first - x))
          where
            pick : (r.first - x ≡ 0) ⊎ (0 < r.first - x) → In size x q ⊎ In size x r
            pick (inl h) = inr (sym b.size ∙ i.0, omega arith, omega arith)
            pick (inr h) = inl ((touches-true vq vr touching).0 ∙ sym b.size ∙ i.0, omega arith, omega arith)
        go (inr a) = pick (eq-zero-or-pos (q.first - x))
          where
            pick : (q.first - x ≡ 0) ⊎ (0 < q.first - x) → In size x q ⊎ In size x r
            pick (inl h) = inl ((touches-true vq vr touching).0 ∙ sym a.size ∙ i.0, omega arith, omega arith)
            pick (inr h) = inr (sym a.size ∙ i.0, omega arith, omega arith)

    -- a run that is apart from both, or from the first and distinct from the second, is so from both joined
    pub join_apart : (k : Run) → Valid k → Apart k q → Apart k r → Apart k (join q r)
    join_apart k vk kq kr same =
        let sr : k.size ≡ r.size = same ∙ join-size in
        let sq : k.size ≡ q.size = sr ∙ sym (touches-true vq vr touching).0 in
        go (touches-true vq vr touching).1 (kq sq) (kr sr)
      where
        go : Below ⊎ Above → (k.last + 1 < q.first) ⊎ (q.last + 1 < k.first) → (k.last + 1 < r.first) ⊎ (r.last + 1 < k.first)
            → (k.last + 1 < (join q r).first) ⊎ ((join q r).last + 1 < k.first)
        go (inl b) (inl x) y = inl (omega arith)
        go (inl b) (inr x) (inl y) = absurd (omega arith)
        go (inl b) (inr x) (inr y) = inr (omega arith)
        go (inr a) x (inl y) = inl (omega arith)
        go (inr a) (inl x) (inr y) = absurd (omega arith)
        go (inr a) (inr x) (inr y) = inr (omega arith)

    pub join-distinct : (k : Run) → Valid k → Apart q k → Distinct k r → Distinct k (join q r)
    join-distinct k vk qk kr same =
        let sr : k.size ≡ r.size = same ∙ join-size in
        let sq : q.size ≡ k.size = (touches-true vq vr touching).0 ∙ sym sr in
        go (touches-true vq vr touching).1 (qk sq) (kr sr)
      where
        go : Below ⊎ Above → (q.last + 1 < k.first) ⊎ (k.last + 1 < q.first) → (k.last < r.first) ⊎ (r.last < k.first)
            → (k.last < (join q r).first) ⊎ ((join q r).last < k.first)
        go (inl b) (inr x) y = inl (omega arith)
        go (inl b) (inl x) (inl y) = absurd (omega arith)
        go (inl b) (inl x) (inr y) = inr (omega arith)
        go (inr a) x (inl y) = inl (omega arith)
        go (inr a) (inr x) (inr y) = absurd (omega arith)
        go (inr a) (inl x) (inr y) = inr (omega arith)
