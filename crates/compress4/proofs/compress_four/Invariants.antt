-- `compress4::compress_four` meets its contract. The loop's invariant: what the string from the groups taken on makes of the state after them is what
-- the whole makes of the argument, the row has the masks of the blocks to come, and four blocks are counted for each turn. Assumes nothing.
use mathlib.Core.Path.{◌≡◌}
use Prim.Native.Nat.{◌*◌, ◌/◌}
use Rattle.rolling.specs.Rolling.{roll_in}
use Rattle.deck.specs.Deck.{iterate}
use Rattle.rows.proofs.Rows.{RowFrom}
use Rattle.compress4.proofs.Compress.{Taken}
use Rattle.compress4.proofs.compress_four.Given as goal

abbrev pub invariant-loop-j : goal.invariant-loop-j
invariant-loop-j l = Taken l.d l.s l.closing.byte l.sums (192 * l.j) × RowFrom roll_in (iterate (192 * l.j / 48) roll_in l.d.mask) l.row.at 20 l.row.words × (l.taken ≡ 4 * l.j)
