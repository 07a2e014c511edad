-- `Pool::in_use` meets its contract. Assumes nothing.
use Rattle.std.proofs.Common.{◌≡◌, length, rules}
use Rattle.pool.specs.Pool.{max_runs}
use Rattle.pool.proofs.Steps.{runs-taken, runs-few}
use Rattle.pool.proofs.Pool.in_use.Goals as goal

pub returns : goal.returns
returns c =
    let all : length c.args.self.now.runs ≡ max_runs = search rules in
    let is = runs-taken _ _ all c.min.ensures in
    record { runs = is; few = runs-few _ _ all is }
