-- The deck function from what a session keeps of its history: the accumulator x, the mask at the index (k rolled I times) and the input
-- index I, which are the fields of the program's struct `DeckState`. Assumes nothing.
use Rattle.std.specs.Prelude.{List, ℕ, ◌+◌}
use Rattle.xoodoo.specs.Xoodoo.{perm}
use Rattle.deck.specs.declared.DeckState.{DeckState}
use Rattle.deck.specs.Strings.{Str, blocks}
use Rattle.deck.specs.Deck.{mask_at, add_blocks, index_growth, index_of, accumulator, output_mask, output_byte}

-- the state after one more string
unfoldable pub append : DeckState → Str → DeckState
append d s =
    record {
      acc = add_blocks d.mask 0 s (blocks s) d.acc;
      mask = mask_at d.mask (index_growth s);
      index = d.index + index_growth s;
    }

-- the output for the history that a state keeps, as a stream of bytes
unfoldable pub output : DeckState → ℕ → ℕ
output d = output_byte (perm d.acc) d.mask

-- the state that a history gives, from scratch
unfoldable pub from_scratch : (key : List ℕ) → List Str → DeckState
from_scratch key h = record { acc = accumulator key h; mask = output_mask key h; index = index_of h }
