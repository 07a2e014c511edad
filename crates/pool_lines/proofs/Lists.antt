-- Every list of byte strings, added to the empty pool one after the other, by any way to add that takes the run of a line or refuses: the pool holds
-- just the numbers and the rings of the accepted lines, and the next byte string gets the number that these lines alone decide. Assumes nothing
-- but what its modules name.
use Prim.Native.Nat.{ℕ, ◌+◌, ◌≤◌}
use mathlib.Core.Path.{◌≡◌, refl, sym, ap, ◌∙◌, subst}
use mathlib.Core.Bool.{Bool, true, false, cond}
use mathlib.Core.Logic.{◌↔◌, ◌⊎◌, inl, inr}
use mathlib.Core.List.{List, [], ◌∷◌}
use native.Mathlib.Omega.{arith}
use lib.ListN.{length}
use lib.Dec.{eqb}
use borrow.Author.Tests.{eqb-true, eqb-false}
use Rattle.issue_line.specs.Read.{read_line}
use Rattle.runs.specs.Runs.{rings_in, rings_of}
use Rattle.runs.specs.Meaning.{In}
use Rattle.runs.proofs.Joining.{held-asked}
use Rattle.runs.proofs.Fewest.{holds-some, fewest, same_runs}
use Rattle.pool.specs.declared.Pool.{Pool}
use Rattle.pool.specs.Pool.{Added}
use Rattle.pool.specs.Pool.{runs_of, empty_pool, add_run}
use Rattle.pool.specs.Good.{Good, InPool, HoldsWith}
use Rattle.pool.proofs.Adding.{empty_runs, empty-good, holds_as, add-exactly}
use Rattle.pool_lines.specs.Lines.{run_of}
use Rattle.pool_lines.specs.History.{Adding, Stops, after, accepted, Held, in-first, in-later, rings_of_lines, pool_after, taken, HeldBy, ListPooled, Alike, SamePool}
use Rattle.pool_lines.proofs.Steps.{line-valid}

-- an accepted byte string is a line, and its run was added; a refused one left the pool as it was
pub record Takes (add : Adding) : Type 0 where
  pub added : (p : Pool) (bytes : List ℕ) → (add p bytes).number ≡ 0 → ((read_line bytes).found ≡ true) × (add p bytes ≡ add_run p (run_of (read_line bytes)))
  pub refused : (p : Pool) (bytes : List ℕ) → ((add p bytes).number ≡ 0 → ⊥) → (add p bytes).pool ≡ p

-- the empty pool holds nothing
pub nothing : (size x : ℕ) → InPool empty_pool size x → ⊥
nothing size x h = let no : ⊥ = omega (arith, holds-some h, ap length empty_runs) in absurd no

module _ (add : Adding) (takes : Takes add) where
  -- One byte string, added to a good pool: an accepted one adds its numbers and its rings.
  module _ (p : Pool) (bytes : List ℕ) (good : Good p) where
    module _ (ok : (add p bytes).number ≡ 0) where
      valid : (read_line bytes).first ≤ (read_line bytes).last
      valid = line-valid bytes (read_line bytes) refl (takes.added p bytes ok).0

      number : (add_run p (run_of (read_line bytes))).number ≡ 0
      number = ap (λ (a : Added). a.number) (sym (takes.added p bytes ok).1) ∙ ok

      pub step-holds : HoldsWith (InPool p) (run_of (read_line bytes)) (runs_of (add p bytes).pool)
      step-holds =
          subst (λ (a : Added). HoldsWith (InPool p) (run_of (read_line bytes)) (runs_of a.pool)) (sym (takes.added p bytes ok).1)
          ((add-exactly p (run_of (read_line bytes)) good valid).holds number)

      pub step-rings : rings_of (runs_of (add p bytes).pool) ≡ rings_of (runs_of p) + rings_in (run_of (read_line bytes))
      step-rings =
          ap (λ (a : Added). rings_of (runs_of a.pool)) (takes.added p bytes ok).1 ∙ (add-exactly p (run_of (read_line bytes)) good valid).rings number

    pub step-good : Good (add p bytes).pool
    step-good = go (eqb (add p bytes).number 0) refl
      where
        go : (t : Bool) → eqb (add p bytes).number 0 ≡ t → Good (add p bytes).pool
        go true e =
            let ok = eqb-true (add p bytes).number 0 e in
            subst (λ (a : Added). Good a.pool) (sym (takes.added p bytes ok).1) (add-exactly p (run_of (read_line bytes)) good (valid ok)).good
        go false e = subst Good (sym (takes.refused p bytes (eqb-false (add p bytes).number 0 e))) good

  -- A list of byte strings, added to a good pool.
  after-good : (p : Pool) (lines : List (List ℕ)) → Good p → Good (after add p lines)
  unfolding after
  after-good p [] good = good
  after-good p (bytes ∷ rest) good = after-good (add p bytes).pool rest (step-good p bytes good)

  after-rings : (p : Pool) (lines : List (List ℕ)) → Good p → rings_of (runs_of (after add p lines)) ≡ rings_of (runs_of p) + rings_of_lines (accepted add p lines)
  unfolding after accepted rings_of_lines
  after-rings p [] good = omega arith
  after-rings p (bytes ∷ rest) good =
      go (eqb (add p bytes).number 0) refl (after-rings (add p bytes).pool rest (step-good p bytes good))
    where
      q : Pool
      q = (add p bytes).pool

      go : (t : Bool) → eqb (add p bytes).number 0 ≡ t → rings_of (runs_of (after add q rest)) ≡ rings_of (runs_of q) + rings_of_lines (accepted add q rest)
          → rings_of (runs_of (after add q rest)) ≡ rings_of (runs_of p) + rings_of_lines (cond t (read_line bytes ∷ accepted add q rest) (accepted add q rest))
      go true e ih = omega (arith, ih, step-rings p bytes good (eqb-true (add p bytes).number 0 e), valid p bytes good (eqb-true (add p bytes).number 0 e))
      go false e ih = omega (arith, ih, ap (λ (r : Pool). rings_of (runs_of r)) (takes.refused p bytes (eqb-false (add p bytes).number 0 e)))

  after_holds : (p : Pool) (lines : List (List ℕ)) → Good p → (size x : ℕ)
      → InPool (after add p lines) size x ↔ (InPool p size x ⊎ Held size x (accepted add p lines))
  unfolding after accepted
  after_holds p [] good size x = ((λ h. inl h), (λ h. back h))
    where
      back : InPool p size x ⊎ Held size x [] → InPool p size x
      back (inl h) = h
      back (inr h) = elim h [ ]
  after_holds p (bytes ∷ rest) good size x =
      go (eqb (add p bytes).number 0) refl (after_holds (add p bytes).pool rest (step-good p bytes good) size x)
    where
      q : Pool
      q = (add p bytes).pool

      go : (t : Bool) → eqb (add p bytes).number 0 ≡ t → InPool (after add q rest) size x ↔ (InPool q size x ⊎ Held size x (accepted add q rest))
          → InPool (after add q rest) size x ↔ (InPool p size x ⊎ Held size x (cond t (read_line bytes ∷ accepted add q rest) (accepted add q rest)))
      go true e ih = ((λ h. to (ih.0 h)), (λ h. ih.1 (from h)))
        where
          step : InPool q size x ↔ (InPool p size x ⊎ In size x (run_of (read_line bytes)))
          step = step-holds p bytes good (eqb-true (add p bytes).number 0 e) size x

          new : InPool p size x ⊎ In size x (run_of (read_line bytes)) → InPool p size x ⊎ Held size x (read_line bytes ∷ accepted add q rest)
          new (inl h) = inl h
          new (inr i) = inr (in-first i.0 i.1 i.2)

          to : InPool q size x ⊎ Held size x (accepted add q rest) → InPool p size x ⊎ Held size x (read_line bytes ∷ accepted add q rest)
          to (inl h) = new (step.0 h)
          to (inr k) = inr (in-later k)

          from : InPool p size x ⊎ Held size x (read_line bytes ∷ accepted add q rest) → InPool q size x ⊎ Held size x (accepted add q rest)
          from (inl h) = inl (step.1 (inl h))
          from (inr (in-first a b c)) = inl (step.1 (inr (a, b, c)))
          from (inr (in-later k)) = inr k
      go false e ih =
          subst (λ (r : Pool). InPool (after add q rest) size x ↔ (InPool r size x ⊎ Held size x (accepted add q rest)))
          (takes.refused p bytes (eqb-false (add p bytes).number 0 e)) ih

-- Its numbers are given exactly where their conditions hold, and these go by which numbers are pooled alone.
module _
    (add : Adding)
    (takes : Takes add)
    (Stop : Stops)
    (exactly : (p : Pool) (bytes : List ℕ) → Good p → (n : ℕ) → ((add p bytes).number ≡ n) ↔ Stop (InPool p) bytes n)
    (respects : (P Q : (size x : ℕ) → Type 0) → ((size x : ℕ) → P size x ↔ Q size x) → (bytes : List ℕ) (n : ℕ) → Stop Q bytes n → Stop P bytes n)
  where
    module _ (lines : List (List ℕ)) where
      good-after : Good (pool_after add lines)
      good-after = after-good add takes empty_pool lines empty-good

      held_after : (size x : ℕ) → InPool (pool_after add lines) size x ↔ HeldBy add lines size x
      held_after size x = ((λ h. pick ((after_holds add takes empty_pool lines empty-good size x).0 h)), (λ k. (after_holds add takes empty_pool lines empty-good size x).1 (inr k)))
        where
          pick : InPool empty_pool size x ⊎ HeldBy add lines size x → HeldBy add lines size x
          pick (inl h) = absurd (nothing size x h)
          pick (inr k) = k

      next-after : (bytes : List ℕ) (n : ℕ) → ((add (pool_after add lines) bytes).number ≡ n) ↔ Stop (HeldBy add lines) bytes n
      next-after bytes n =
          let here-exactly = exactly (pool_after add lines) bytes good-after n in (
            (λ e. respects (HeldBy add lines) (InPool (pool_after add lines)) (λ size x. ((held_after size x).1, (held_after size x).0)) bytes n (here-exactly.0 e)),
            (λ stop. here-exactly.1 (respects (InPool (pool_after add lines)) (HeldBy add lines) held_after bytes n stop)),
          )

      rings-after : rings_of (runs_of (pool_after add lines)) ≡ rings_of_lines (taken add lines)
      unfolding rings_of
      rings-after = omega (arith, after-rings add takes empty_pool lines empty-good, ap rings_of empty_runs)

      -- The theorem over every list.
      pub list-pooled : ListPooled add Stop lines
      list-pooled =
          record {
            good = good-after;
            holds = held_after;
            asked = λ size x.
                ((λ e. (held_after size x).0 ((held-asked size x (runs_of (pool_after add lines))).0 e)), (λ k. (held-asked size x (runs_of (pool_after add lines))).1 ((held_after size x).1 k)));
            rings = rings-after;
            next = next-after;
            refused = λ bytes no. takes.refused (pool_after add lines) bytes no;
          }

    -- Two good pools that hold the same numbers.
    module _ (p q : Pool) (alike : Alike p q) where
      as_many : length (runs_of p) ≡ length (runs_of q)
      as_many =
          omega (
            arith,
            fewest (runs_of p) (runs_of q) alike.left.apart alike.same,
            fewest (runs_of q) (runs_of p) alike.right.apart (λ size x. ((alike.same size x).1, (alike.same size x).0)),
          )

      one_number : (bytes : List ℕ) → (add p bytes).number ≡ (add q bytes).number
      one_number bytes =
          (exactly p bytes alike.left (add q bytes).number).1
          (respects (InPool p) (InPool q) alike.same bytes (add q bytes).number ((exactly q bytes alike.right (add q bytes).number).0 refl))

      same-now : SamePool add p q
      same-now = record { runs = same_runs (runs_of p) (runs_of q) alike.left.apart alike.right.apart alike.same; count = as_many; numbers = one_number }

      -- one more byte string, which both take or both refuse
      module _ (bytes : List ℕ) where
        both-added : (add p bytes).number ≡ 0 → (size x : ℕ) → InPool (add p bytes).pool size x ↔ InPool (add q bytes).pool size x
        both-added ok size x =
            let run = run_of (read_line bytes) in
            let here-p = step-holds add takes p bytes alike.left ok size x in
            let of-q = step-holds add takes q bytes alike.right (sym (one_number bytes) ∙ ok) in
            let here-q = holds_as (InPool p) (InPool q) alike.same run (runs_of (add q bytes).pool) of-q size x in
            ((λ h. here-q.1 (here-p.0 h)), (λ h. here-p.1 (here-q.0 h)))

        still-same : (size x : ℕ) → InPool (add p bytes).pool size x ↔ InPool (add q bytes).pool size x
        still-same = go (eqb (add p bytes).number 0) refl
          where
            go : (t : Bool) → eqb (add p bytes).number 0 ≡ t → (size x : ℕ) → InPool (add p bytes).pool size x ↔ InPool (add q bytes).pool size x
            go true e = both-added (eqb-true (add p bytes).number 0 e)
            go false e =
                let not-p = eqb-false (add p bytes).number 0 e in
                subst (λ (a : Pool). (size x : ℕ) → InPool a size x ↔ InPool (add q bytes).pool size x) (sym (takes.refused p bytes not-p))
                (subst (λ (a : Pool). (size x : ℕ) → InPool p size x ↔ InPool a size x) (sym (takes.refused q bytes (λ z. not-p (one_number bytes ∙ z)))) alike.same)

        still_alike : Alike (add p bytes).pool (add q bytes).pool
        still_alike =
            record { left = step-good add takes p bytes alike.left; right = step-good add takes q bytes alike.right; same = still-same }

    -- So it stays, whatever byte strings both are given.
    pub pools-same : (p q : Pool) → Alike p q → (more : List (List ℕ)) → SamePool add (after add p more) (after add q more)
    unfolding after
    pools-same p q alike [] = same-now p q alike
    pools-same p q alike (bytes ∷ more) = pools-same (add p bytes).pool (add q bytes).pool (still_alike p q alike bytes) more

    -- And so with two lists whose accepted lines held the same numbers.
    pub lists-same : (lines others : List (List ℕ)) → ((size x : ℕ) → HeldBy add lines size x ↔ HeldBy add others size x)
        → (more : List (List ℕ)) → SamePool add (after add (pool_after add lines) more) (after add (pool_after add others) more)
    lists-same lines others same =
        pools-same (pool_after add lines) (pool_after add others)
        (record {
          left = good-after lines;
          right = good-after others;
          same = λ size x. (
            (λ h. (held_after others size x).1 ((same size x).0 ((held_after lines size x).0 h))),
            (λ h. (held_after lines size x).1 ((same size x).1 ((held_after others size x).0 h))),
          );
        })
