-- `steps::index_after` meets its contract. Assumes nothing.
use native.Mathlib.Omega.{arith}
use Rattle.modes.proofs.Sessions.{growth-most}
use Rattle.steps.proofs.index_after.Goals as goal

pub overflow_add-result : goal.overflow_add-result
overflow_add-result c = omega (arith, growth-most c.args.alen c.args.mlen, c.index_growth.ensures)
