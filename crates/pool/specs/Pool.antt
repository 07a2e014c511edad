-- Pools of unused rings: document 02, request 6. A pool is a list of runs. Assumes nothing.
use Rattle.std.specs.Prelude.{ℕ, ◌-◌, cond, List, [], ◌++◌, length, take, replicate, ltb, Result, Ok, Err}
use Rattle.runs.specs.declared.Run.{Run}
use Rattle.runs.specs.Runs.{a_run, any_meets, with_run}
use Rattle.pool.specs.declared.Pool.{Pool}
use Rattle.refusals.specs.declared.Refusal.{Refusal}
use Rattle.refusals.specs.Numbers.{number_of}

-- the most runs that a pool has
abbrev pub max_runs : ℕ
max_runs = 256

-- the runs of a pool: those that stand first, as many as are used
unfoldable pub runs_of : Pool → List Run
runs_of p = take p.used p.runs

-- the pool of a list of runs: zeros stand behind them
unfoldable pub pool_of : List Run → Pool
pool_of l = record { used = length l; runs = l ++ replicate (max_runs - length l) (a_run 0 0 0) }

-- the empty pool, which is all zeros
unfoldable pub empty_pool : Pool
empty_pool = pool_of []

-- what adding answers: the number, and the pool afterwards
pub record Added : Type 0 where
  pub number : ℕ
  pub pool : Pool

-- what a function that adds to p gives, in these words: number 0 and the new pool, or the number of the check that refuses and p as it was
abbrev pub added_of : Pool → Result Pool Refusal → Added
added_of p (Ok q) = record { number = 0; pool = q }
added_of p (Err e) = record { number = number_of e; pool = p }

-- a pool with one run more that meets none of it, or number 15 and the pool as it was where that makes too many runs
unfoldable pub join_pool : Pool → Run → Added
join_pool p r =
    let l = with_run r (runs_of p) in
    cond (ltb max_runs (length l)) (record { number = 15; pool = p }) (record { number = 0; pool = pool_of l })

-- what adding a run answers: 14, then 15, then the pool that holds it
unfoldable pub add_run : Pool → Run → Added
add_run p r = cond (any_meets r (runs_of p)) (record { number = 14; pool = p }) (join_pool p r)
