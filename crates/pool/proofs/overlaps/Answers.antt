-- `pool::overlaps` meets its contract: what the chain of iterators finds is what `any_meets` says. Assumes nothing.
use Rattle.std.proofs.Common.{◌∙◌, rules, tests}
use Rattle.std.proofs.lemmas.Iterator.{YieldsList-from_slice}
use Rattle.std.proofs.lemmas.Iterator.Search.{any_from_yields_List}
use Rattle.runs.specs.declared.Run.{Run}
use Rattle.runs.specs.Runs.{meets}
use Rattle.pool.specs.Pool.{runs_of}
use Rattle.pool.proofs.Steps.{any-meets}
use Rattle.pool.proofs.overlaps.Goals as goal

pub returns : goal.returns
returns c =
    any_from_yields_List (λ (q : Run). meets q c.args.r) _ _ _ c.any.ensures.ran (YieldsList-from_slice (runs_of c.args.p.now) cc) (λ x b q k. search (rules, tests))
    ∙ any-meets _ _
