-- `expand4::expand_groups` meets its contract. The loop's invariant: the bytes of the groups taken have their sums, and the row has the states of the
-- blocks to come; four blocks are counted for each turn. Assumes nothing.
use mathlib.Core.Path.{◌≡◌}
use Prim.Native.Nat.{◌*◌, ◌/◌}
use lib.ListN.{length}
use Rattle.rolling.specs.Rolling.{roll_out}
use Rattle.deck.specs.Deck.{iterate}
use Rattle.rows.proofs.Rows.{RowFrom}
use Rattle.expand4.proofs.Expand.{Groups}
use Rattle.expand4.proofs.expand_groups.Given as goal

abbrev pub invariant-loop-j : goal.invariant-loop-j
invariant-loop-j l =
    (length l.w ≡ 48) × Groups l.fn.y l.mask l.initial.out (192 * l.j) l.out × RowFrom roll_out (iterate (192 * l.j / 48) roll_out l.fn.y) l.row.at 20 l.row.words × (l.given ≡ 4 * l.j)
