-- What the code's leaves give: the counts of permutations (document 01, "Counts and limits"), and a buffer to which bytes were added.
-- Assumes nothing.
use Rattle.std.specs.Prelude.{List, ◌≡◌, ℕ, zero, suc, ◌+◌, ◌-◌, ◌/◌, ◌≤◌, ◌<◌, length, get_or}
use Rattle.std.specs.Int.Bits.{bit_xor}
use Rattle.deck.specs.declared.DeckState.{DeckState}
use Rattle.deck.specs.Strings.{Str, blocks}
use Rattle.deck.specs.Incremental.{append}
use Rattle.xoofff.specs.declared.Compressed.{Compressed}

-- the output blocks that hold the n bytes from byte i on
unfoldable pub output_blocks : (i n : ℕ) → ℕ
output_blocks i zero = 0
output_blocks i (suc n) = (i + n) / 48 + 1 - i / 48

-- one more string, and its count: a permutation for each block
unfoldable pub compressed : DeckState → Str → Compressed
compressed d s = record { state = append d s; count = blocks s }

-- o' is the buffer o with f 0, .., f (n - 1) added to its bytes from place `at` on
pub record Added (f : ℕ → ℕ) (at n : ℕ) (o o' : List ℕ) : Type 0 where
  pub size : length o' ≡ length o
  pub sums : (k : ℕ) → k < n → get_or o' (at + k) 0 ≡ bit_xor (get_or o (at + k) 0) (f k)
  pub front : (k : ℕ) → k < at → get_or o' k 0 ≡ get_or o k 0
  pub rest : (k : ℕ) → at + n ≤ k → get_or o' k 0 ≡ get_or o k 0
