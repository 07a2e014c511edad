-- Adding to a good pool: it stays good, and holds the numbers and the rings of the run besides its own, or the pool is as it was and the number
-- says why. Assumes nothing.
use Prim.Native.Nat.{ℕ, ◌-◌, ◌<◌, ◌≤◌}
use mathlib.Core.Path.{◌≡◌, refl, sym, ap, ◌∙◌, subst}
use mathlib.Core.Bool.{Bool, true, false, cond}
use mathlib.Core.Logic.{◌↔◌, ◌⊎◌, inl, inr}
use mathlib.Core.List.{List, []}
use native.Mathlib.Omega.{arith}
use lib.ListN.{length, replicate}
use lib.Seq.{take-append_seam}
use lib.Dec.{ltb}
use borrow.Author.Tests.{ltb-true, ltb-false}
use Rattle.std.specs.Prelude.{Result, Ok, Err}
use Rattle.refusals.specs.declared.Refusal.{Refusal}
use Rattle.refusals.proofs.Numbers.{number-tells, number-positive}
use Rattle.runs.specs.declared.Run.{Run}
use Rattle.runs.specs.Runs.{a_run, any_meets, with_run, rings_of}
use Rattle.runs.specs.Meaning.{Valid, In, GoodRuns, good_none}
use Rattle.runs.proofs.Joining.{clear_of, clear-disjoint, good-with, rings-with, holds-with, holds-only, meets-some}
use Rattle.runs.proofs.Fewest.{fewest}
use Rattle.pool.specs.declared.Pool.{Pool}
use Rattle.pool.specs.Pool.{Added, added_of, max_runs, runs_of, pool_of, empty_pool, join_pool, add_run}
use Rattle.pool.specs.Good.{Good, InPool, Free, HoldsWith, AddStop, pooled, too_many, added, AddExactly}

-- the runs of the pool of a list are the list
pub runs-of-pool : (l : List Run) → runs_of (pool_of l) ≡ l
unfolding runs_of pool_of
runs-of-pool l = take-append_seam l (replicate (max_runs - length l) (a_run 0 0 0))

-- The empty pool is good and holds nothing.
pub empty_runs : runs_of empty_pool ≡ []
unfolding empty_pool
empty_runs = runs-of-pool []

pub empty-good : Good empty_pool
unfolding empty_pool pool_of
empty-good = record { fits = omega arith; apart = subst GoodRuns (sym empty_runs) good_none }

-- Which way adding went: refused, with the pool as it was, or with the pool of the longer list.
pub data Went (p : Pool) (r : Run) : Added → Type 0 where
  met : any_meets r (runs_of p) ≡ true → Went p r (record { number = 14; pool = p })
  full : any_meets r (runs_of p) ≡ false → max_runs < length (with_run r (runs_of p)) → Went p r (record { number = 15; pool = p })
  done : any_meets r (runs_of p) ≡ false → length (with_run r (runs_of p)) ≤ max_runs → Went p r (record { number = 0; pool = pool_of (with_run r (runs_of p)) })

pub went : (p : Pool) (r : Run) → Went p r (add_run p r)
unfolding add_run join_pool
went p r = go (any_meets r (runs_of p)) refl (ltb max_runs (length (with_run r (runs_of p)))) refl
  where
    go : (m : Bool) → any_meets r (runs_of p) ≡ m → (n : Bool) → ltb max_runs (length (with_run r (runs_of p))) ≡ n
        → Went p r (cond m (record { number = 14; pool = p }) (cond n (record { number = 15; pool = p }) (record { number = 0; pool = pool_of (with_run r (runs_of p)) })))
    go true e n f = met e
    go false e true f = full e (ltb-true max_runs (length (with_run r (runs_of p))) f)
    go false e false f = done e (ltb-false max_runs (length (with_run r (runs_of p))) f)

-- the conditions exclude each other, whatever is pooled
pub one-stop : (Pooled : (size x : ℕ) → Type 0) (r : Run) {m n : ℕ} → AddStop Pooled r m → AddStop Pooled r n → m ≡ n
one-stop P r (pooled x i h) (pooled y j k) = refl
one-stop P r (pooled x i h) (too_many free all) = absurd (free x i h)
one-stop P r (pooled x i h) (added free l is few) = absurd (free x i h)
one-stop P r (too_many free all) (pooled y j k) = absurd (free y j k)
one-stop P r (too_many free all) (too_many other more) = refl
one-stop P r (too_many free all) (added other l is few) = let no : ⊥ = omega (arith, all l is) in absurd no
one-stop P r (added free l is few) (pooled y j k) = absurd (free y j k)
one-stop P r (added free l is few) (too_many other all) = let no : ⊥ = omega (arith, all l is) in absurd no
one-stop P r (added free l is few) (added other m also fewer) = refl

-- what a list holds beside what is pooled, and so a number, goes by which numbers are pooled alone
pub holds_as : (P Q : (size x : ℕ) → Type 0) → ((size x : ℕ) → P size x ↔ Q size x) → (r : Run) (l : List Run) → HoldsWith Q r l → HoldsWith P r l
holds_as P Q same r l h size x = ((λ k. to ((h size x).0 k)), (λ k. (h size x).1 (from k)))
  where
    to : Q size x ⊎ In size x r → P size x ⊎ In size x r
    to (inl a) = inl ((same size x).1 a)
    to (inr b) = inr b

    from : P size x ⊎ In size x r → Q size x ⊎ In size x r
    from (inl a) = inl ((same size x).0 a)
    from (inr b) = inr b

pub stop-as : (P Q : (size x : ℕ) → Type 0) → ((size x : ℕ) → P size x ↔ Q size x) → (r : Run) {n : ℕ} → AddStop Q r n → AddStop P r n
stop-as P Q same r (pooled x i h) = pooled x i ((same r.size x).1 h)
stop-as P Q same r (too_many free all) =
    let back : (size x : ℕ) → Q size x ↔ P size x = λ size x. ((same size x).1, (same size x).0) in
    too_many (λ x i h. free x i ((same r.size x).0 h)) (λ l h. all l (holds_as Q P back r l h))
stop-as P Q same r (added free l is few) = added (λ x i h. free x i ((same r.size x).0 h)) l (holds_as P Q same r l is) few

-- A refused run leaves the pool as it was.
pub refused-same : (p : Pool) (r : Run) → ((add_run p r).number ≡ 0 → ⊥) → (add_run p r).pool ≡ p
refused-same p r = go (add_run p r) (went p r)
  where
    go : (a : Added) → Went p r a → (a.number ≡ 0 → ⊥) → a.pool ≡ p
    go a (met e) h = refl
    go a (full e n) h = refl
    go a (done e n) h = absurd (h refl)

module _ (p : Pool) (r : Run) (good : Good p) (valid : Valid r) where
  -- The pool stays good.
  add-good : Good (add_run p r).pool
  unfolding pool_of
  add-good = go (add_run p r) (went p r)
    where
      stays : any_meets r (runs_of p) ≡ false → length (with_run r (runs_of p)) ≤ max_runs → Good (pool_of (with_run r (runs_of p)))
      stays e n =
          record {
            fits = n;
            apart = subst GoodRuns (sym (runs-of-pool (with_run r (runs_of p)))) (good-with r (runs_of p) valid good.apart (clear_of r (runs_of p) e));
          }

      go : (a : Added) → Went p r a → Good a.pool
      go a (met e) = good
      go a (full e n) = good
      go a (done e n) = stays e n

  -- the list with the run holds what the pool holds, and the run; no list that does has fewer runs
  with-run : HoldsWith (InPool p) r (with_run r (runs_of p))
  with-run size x = (holds-only size x r (runs_of p) valid good.apart, holds-with size x r (runs_of p) valid good.apart)

  none-shorter : any_meets r (runs_of p) ≡ false → (l : List Run) → HoldsWith (InPool p) r l → length (with_run r (runs_of p)) ≤ length l
  none-shorter e l is =
      fewest (with_run r (runs_of p)) l (good-with r (runs_of p) valid good.apart (clear_of r (runs_of p) e))
      (λ size x. ((λ h. (is size x).1 ((with-run size x).0 h)), (λ h. (with-run size x).1 ((is size x).0 h))))

  -- The number is the one whose condition holds.
  add-stop : AddStop (InPool p) r (add_run p r).number
  add-stop = go (add_run p r) (went p r)
    where
      free : any_meets r (runs_of p) ≡ false → Free (InPool p) r
      free e = clear-disjoint r (runs_of p) (clear_of r (runs_of p) e)

      go : (a : Added) → Went p r a → AddStop (InPool p) r a.number
      go a (met e) = let m = meets-some r (runs_of p) valid good.apart e in pooled m.0 m.1 m.2
      go a (full e n) = too_many (free e) (λ l is. omega (arith, none-shorter e l is))
      go a (done e n) = added (free e) (with_run r (runs_of p)) with-run n

  -- An added run: the pool is that of the longer list.
  module _ (ok : (add_run p r).number ≡ 0) where
    add-runs : runs_of (add_run p r).pool ≡ with_run r (runs_of p)
    add-runs = go (add_run p r) (went p r) ok
      where
        go : (a : Added) → Went p r a → a.number ≡ 0 → runs_of a.pool ≡ with_run r (runs_of p)
        go a (met e) z = let no : ⊥ = omega arith in absurd no
        go a (full e n) z = let no : ⊥ = omega arith in absurd no
        go a (done e n) z = runs-of-pool (with_run r (runs_of p))

  -- All that is claimed.
  pub add-exactly : AddExactly p r
  add-exactly =
      record {
        number = λ n. ((λ e. subst (AddStop (InPool p) r) e add-stop), (λ stop. one-stop (InPool p) r add-stop stop));
        refused = refused-same p r;
        good = add-good;
        holds = λ ok. subst (HoldsWith (InPool p) r) (sym (add-runs ok)) with-run;
        rings = λ ok. ap rings_of (add-runs ok) ∙ rings-with r (runs_of p) valid good.apart;
      }

-- What a function that adds to p gives is told by what it gives in these words: no bit of it is left open.
pub added-tells : (p : Pool) (a b : Result Pool Refusal) → added_of p a ≡ added_of p b → a ≡ b
added-tells p (Ok q) (Ok s) h = ap (λ (x : Added). Ok x.pool) h
added-tells p (Ok q) (Err f) h =
    let e = ap (λ (x : Added). x.number) h in
    let n = number-positive f in
    let bad : ⊥ = omega (arith, e, n) in
    absurd bad
added-tells p (Err e) (Ok q) h =
    let f = ap (λ (x : Added). x.number) h in
    let n = number-positive e in
    let bad : ⊥ = omega (arith, f, n) in
    absurd bad
added-tells p (Err e) (Err f) h = ap Err (number-tells e f (ap (λ (x : Added). x.number) h))
