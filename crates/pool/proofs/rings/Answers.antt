-- `pool::rings` meets its contract: each run has at most 2^32 rings, and a pool at most 256 runs, so that the sum fits. Assumes nothing.
use Rattle.std.specs.List.{sum_by}
use Rattle.std.proofs.Common.{◌≡◌, ◌∙◌, sym, rules, arith, tests}
use Rattle.std.proofs.iter.runs.Made.{chains}
use Rattle.std.proofs.lemmas.Iterator.{YieldsList-from_slice}
use Rattle.std.proofs.lemmas.Iterator.Adapters.{fits_from_length, at_most_from_yields_List}
use Rattle.runs.specs.Runs.{rings_in}
use Rattle.pool.specs.Pool.{max_runs, runs_of}
use Rattle.pool.proofs.Steps.{sum-rings}
use Rattle.pool.proofs.rings.Goals as goal

pub sum-requires-clause-fits : goal.sum-requires-clause-fits
sum-requires-clause-fits c =
    fits_from_length _ _ max_runs _ (at_most_from_yields_List (YieldsList-from_slice c.in_use.result.now cc) c.in_use.ensures.few) c.map.ensures.closure (omega arith)
    (λ x r q k. search (rules, tests))

pub returns : goal.returns
returns c =
    let e : c.sum.result ≡ sum_by rings_in (runs_of c.args.p) = search (rules, chains) in
    e ∙ sym (sum-rings _)
