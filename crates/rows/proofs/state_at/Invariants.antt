-- `rows::state_at` meets its contract. The loop's invariant: the lanes below i stand. Assumes nothing.
use mathlib.Core.Path.{◌≡◌}
use Prim.Native.Nat.{◌+◌, ◌*◌, ◌/◌, ◌%◌}
use lib.ListN.{length, get_or}
use Rattle.word.proofs.Lists.{Filled}
use Rattle.rows.proofs.state_at.Given as goal

abbrev pub invariant-loop-i : goal.invariant-loop-i
invariant-loop-i l = (length l.k ≡ 12) × Filled (λ q. get_or l.r (l.n + 3 * (q % 4) + 1 * (q / 4) + 0) 0) l.k l.i
