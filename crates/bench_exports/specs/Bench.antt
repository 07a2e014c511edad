-- One string compressed from index 0, with no frame bits. Assumes nothing.
use Rattle.std.specs.Prelude.{List, ℕ}
use Rattle.deck.specs.Closing.{closed_by}
use Rattle.xoofff.specs.declared.Compressed.{Compressed}
use Rattle.xoofff.specs.Leaves.{compressed}

-- the state after it
abbrev pub after : (acc mask s : List ℕ) → Compressed
after acc mask s = compressed (record { acc = acc; mask = mask; index = 0 }) (closed_by s 1)

-- its accumulator and its mask
abbrev pub acc_after : (acc mask s : List ℕ) → List ℕ
acc_after acc mask s = (after acc mask s).state.acc

abbrev pub mask_after : (acc mask s : List ℕ) → List ℕ
mask_after acc mask s = (after acc mask s).state.mask
