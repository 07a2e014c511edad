-- One step over the runs of a pool: what each test of the code that goes over them comes to. Assumes nothing.
use Rattle.std.specs.List.{list_any, sum_by}
use Rattle.std.proofs.Common.{ℕ, suc, ◌+◌, ◌-◌, ◌<◌, ◌≤◌, ◌≡◌, refl, sym, ap, ap₂, ◌∙◌, true, false, List, [], ◌∷◌, ◌++◌, append_assoc, length, take, drop, get_or, set, replicate, min, arith, add-one, length-append}
use Rattle.std.proofs.lemmas.List.{take_min, length-take}
use Rattle.std.proofs.lemmas.List.Recursion.{is_sum_by}
use lib.ListN.{drop_of_length-le}
use lib.Seq.{drop-cons, set_at}
use borrow.Author.Tests.{lt-ltb, le-ltb}
use Rattle.runs.specs.declared.Run.{Run}
use Rattle.runs.specs.Runs.{a_run, meets, touches, join, any_meets, with_run, rings_in, rings_of}
use Rattle.pool.specs.declared.Pool.{Pool}
use Rattle.pool.specs.Pool.{Added, max_runs, runs_of, pool_of, empty_pool, join_pool, add_run}

-- the runs of a pool are the first of its array, as many as are used
pub runs-taken : (p : Pool) (n : ℕ) → length p.runs ≡ max_runs → n ≡ min p.used max_runs → take n p.runs ≡ runs_of p
unfolding runs_of
runs-taken p n all is = ap (λ (k : ℕ). take k p.runs) is ∙ ap (λ (k : ℕ). take (min p.used k) p.runs) (sym all) ∙ take_min p.used p.runs

pub runs-few : (p : Pool) (l : List Run) → length p.runs ≡ max_runs → l ≡ runs_of p → length l ≤ max_runs
unfolding runs_of
runs-few p l all is = omega (arith, ap length is, length-take p.used p.runs)

-- a search for a run that meets r, and a sum of rings, as chains of iterators make them
pub any-meets : (r : Run) (l : List Run) → list_any (λ (q : Run). meets q r) l ≡ any_meets r l
unfolding any_meets
any-meets r [] = refl
any-meets r (q ∷ l) = rw (any-meets r l)

pub sum-rings : (l : List Run) → rings_of l ≡ sum_by rings_in l
unfolding rings_of
sum-rings l = is_sum_by rings_of rings_in refl (λ _ _. refl) l

-- Joining, over the runs l, at the place i: k runs are kept and stand first, zeros behind them, and what is left to do leads to the same whole.
pub record Kept (l : List Run) (run r : Run) (runs : List Run) (k i : ℕ) : Type 0 where
  pub kept : List Run
  pub count : length kept ≡ k
  pub stored : runs ≡ kept ++ replicate (max_runs - k) (a_run 0 0 0)
  pub whole : kept ++ with_run r (drop i l) ≡ with_run run l

-- the new pool at first
pub empty-start : (l : List Run) (run : Run) → (empty_pool.used ≤ 0) × Kept l run run empty_pool.runs empty_pool.used 0
unfolding empty_pool pool_of
empty-start l run = (omega arith, record { kept = []; count = refl; stored = refl; whole = refl })

abbrev added_pool : ℕ → List Run → Added
added_pool n l = record { number = 0; pool = record { used = n; runs = l } }

-- a run stored behind those that are kept
stored_one : (kept : List Run) (k : ℕ) (q : Run) → length kept ≡ k → k < max_runs
    → set (kept ++ replicate (max_runs - k) (a_run 0 0 0)) k q ≡ (kept ++ (q ∷ [])) ++ replicate (max_runs - (k + 1)) (a_run 0 0 0)
stored_one kept k q e h =
    let left : max_runs - k ≡ suc (max_runs - (k + 1)) = omega arith in
    ap (λ (n : ℕ). set (kept ++ replicate n (a_run 0 0 0)) k q) left
    ∙ set_at kept (a_run 0 0 0) (replicate (max_runs - (k + 1)) (a_run 0 0 0)) q k e
    ∙ sym (append_assoc kept (q ∷ []) (replicate (max_runs - (k + 1)) (a_run 0 0 0)))

module _ (l : List Run) (run r : Run) (runs : List Run) (k i : ℕ) (so_far : Kept l run r runs k i) where
  -- the run at the place joins, or is kept
  module _ (inside : i < length l) where
    abbrev pub q : Run
    q = get_or l i (a_run 0 0 0)

    next-run : drop i l ≡ q ∷ drop (i + 1) l
    next-run = drop-cons l i (a_run 0 0 0) inside ∙ rw add-one

    pub kept-joined : touches q r ≡ true → Kept l run (join q r) runs k (i + 1)
    unfolding with_run
    kept-joined e =
        record {
          kept = so_far.kept;
          count = so_far.count;
          stored = so_far.stored;
          whole = ap (λ (m : List Run). so_far.kept ++ m) (sym (ap (with_run r) next-run ∙ simp e)) ∙ so_far.whole;
        }

    pub kept-one : k < max_runs → touches q r ≡ false → Kept l run r (set runs k q) (k + 1) (i + 1)
    unfolding with_run
    kept-one room e =
        record {
          kept = so_far.kept ++ (q ∷ []);
          count = simp length-append (omega (arith, so_far.count));
          stored = ap (λ (m : List Run). set m k q) so_far.stored ∙ stored_one so_far.kept k q so_far.count room;
          whole =
              append_assoc so_far.kept (q ∷ []) (with_run r (drop (i + 1) l))
              ∙ ap (λ (m : List Run). so_far.kept ++ m) (sym (ap (with_run r) next-run ∙ simp e))
              ∙ so_far.whole;
        }

  -- at the end, for the runs of a pool
  module _ (p : Pool) (is : l ≡ runs_of p) (out : length l ≤ i) where
    all-kept : with_run run (runs_of p) ≡ so_far.kept ++ (r ∷ [])
    unfolding with_run
    all-kept =
        ap (with_run run) (sym is) ∙ sym so_far.whole ∙ ap (λ (m : List Run). so_far.kept ++ with_run r m) (drop_of_length-le l out)

    all-count : length (with_run run (runs_of p)) ≡ k + 1
    all-count = ap length all-kept ∙ simp length-append (omega (arith, so_far.count))

    pub kept-full : k ≡ max_runs → join_pool p run ≡ record { number = 15; pool = p }
    unfolding join_pool
    kept-full h =
        let many : max_runs < length (with_run run (runs_of p)) = omega (arith, all-count) in
        simp (lt-ltb max_runs (length (with_run run (runs_of p))) many)

    pub kept-done : k < max_runs → join_pool p run ≡ record { number = 0; pool = record { used = k + 1; runs = set runs k r } }
    unfolding join_pool pool_of
    kept-done h =
        let few : length (with_run run (runs_of p)) ≤ max_runs = omega (arith, all-count) in
        let stands : set runs k r ≡ with_run run (runs_of p) ++ replicate (max_runs - length (with_run run (runs_of p))) (a_run 0 0 0) =
        ap (λ (m : List Run). set m k r) so_far.stored
        ∙ stored_one so_far.kept k r so_far.count h
        ∙ ap (λ (n : ℕ). (so_far.kept ++ (r ∷ [])) ++ replicate (max_runs - n) (a_run 0 0 0)) (sym all-count)
        ∙ ap (λ (m : List Run). m ++ replicate (max_runs - length (with_run run (runs_of p))) (a_run 0 0 0)) (sym all-kept) in
        simp (le-ltb max_runs (length (with_run run (runs_of p))) few) (ap₂ added_pool all-count (sym stands))

-- adding, by whether the run meets the pool
pub add-meets : (p : Pool) (r : Run) → any_meets r (runs_of p) ≡ true → add_run p r ≡ record { number = 14; pool = p }
unfolding add_run
add-meets p r e = simp e

pub add-joins : (p : Pool) (r : Run) → any_meets r (runs_of p) ≡ false → add_run p r ≡ join_pool p r
unfolding add_run
add-joins p r e = simp e
