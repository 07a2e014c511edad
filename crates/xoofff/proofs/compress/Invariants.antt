-- `xoofff::compress` meets its contract. The loop's invariant: the first j blocks, all of them full, are added, and the
-- mask is rolled j times; the count is that of the turns. Assumes nothing.
use mathlib.Core.Path.{◌≡◌}
use Rattle.deck.specs.Deck.{add_blocks, mask_at}
use Rattle.deck.specs.Closing.{closed_by}
use Rattle.xoofff.proofs.compress.Given as goal

abbrev pub invariant-loop-j : goal.invariant-loop-j
invariant-loop-j l = (l.acc ≡ add_blocks l.d.mask 0 (closed_by l.s l.closing.byte) l.j l.d.acc) × (l.mask ≡ mask_at l.d.mask l.j) × (l.turns ≡ l.j)
