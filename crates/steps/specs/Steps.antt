-- What the steps of a session mode give beside bytes: the history after a string that may be left out, and counts of permutations (document
-- 01, "Counts and limits"). Assumes nothing.
use Rattle.std.specs.Prelude.{Bool, cond, ℕ, ◌+◌}
use Rattle.deck.specs.declared.DeckState.{DeckState}
use Rattle.deck.specs.Strings.{Str}
use Rattle.xoofff.specs.declared.Compressed.{Compressed}
use Rattle.xoofff.specs.Leaves.{compressed, output_blocks}

-- one more string where a test says so; otherwise the history as it was, at no cost
abbrev pub compressed_if : Bool → DeckState → Str → Compressed
compressed_if t d s = cond t (compressed d s) (record { state = d; count = 0 })

-- the permutations for n output bytes of a history from byte i on: one of the accumulator, and one for each block that holds them
abbrev pub output_count : (i n : ℕ) → ℕ
output_count i n = output_blocks i n + 1
