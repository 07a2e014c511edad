-- `decimal::decimal_len` meets its contract: the powers of ten around a number tell its digits. Assumes nothing.
use mathlib.Core.Path.{sym, ap}
use native.Mathlib.Omega.{arith}
use lib.ListN.{length}
use Rattle.decimal.proofs.Laws.{decimal-small, decimal-length}
use Rattle.decimal.proofs.decimal_len.Goals as goal

pub returns-in-Some : goal.returns-in-Some
returns-in-Some c = sym (decimal-length c.in-Some.k c.args.n c.in-Some.ensures.power_le c.in-Some.ensures.next_power_gt)

pub returns-in-None : goal.returns-in-None
returns-in-None c = sym (ap length (decimal-small c.args.n (omega (arith, c.in-None.ensures.none))))
