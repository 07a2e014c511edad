-- `pool::add` meets its contract: the test says which case of `add_run` holds. Assumes nothing.
use Rattle.std.proofs.Common.{sym, ◌∙◌}
use Rattle.pool.proofs.Steps.{add-meets, add-joins}
use Rattle.pool.proofs.add.Goals as goal

pub returns-then-overlaps : goal.returns-then-overlaps
returns-then-overlaps c = sym (add-meets _ _ (sym c.overlaps.ensures ∙ c.if-overlaps.true))

pub returns : goal.returns
returns c = c.join_pool.ensures ∙ sym (add-joins _ _ (sym c.overlaps.ensures ∙ c.if-overlaps.false))
