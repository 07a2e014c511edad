-- `pool::join_pool` meets its contract. The loop's invariant: the runs that are kept stand first in the new pool, and joining the rest with the
-- run so far leads to the same whole. Assumes nothing.
use Rattle.std.proofs.Common.{◌≤◌}
use Rattle.pool.proofs.Steps.{Kept}
use Rattle.pool.proofs.join_pool.Given as goal

abbrev pub invariant-loop-q : goal.invariant-loop-q
invariant-loop-q l = (l.used ≤ l.q-index) × Kept l.q-items l.initial.run l.run l.next.runs l.used l.q-index
