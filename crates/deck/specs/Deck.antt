-- The deck function Xoofff, worked out from the key and the first string on (001, section 3, Algorithm 1; 003, section 3, Definition 3;
-- document 01, "The deck function"). Assumes nothing.
use Rattle.std.specs.Prelude.{List, [], ◌∷◌, ℕ, zero, suc, ◌+◌, ◌/◌, ◌%◌}
use Rattle.word.specs.Lists.{tabulate, sum}
use Rattle.state.specs.State.{zeros}
use Rattle.state.specs.Bytes.{state_byte}
use Rattle.xoodoo.specs.Xoodoo.{perm}
use Rattle.rolling.specs.Rolling.{roll_in, roll_out}
use Rattle.deck.specs.Strings.{Str, block, blocks}

-- f done n times
unfoldable pub iterate : ℕ → (List ℕ → List ℕ) → List ℕ → List ℕ
iterate zero f s = s
iterate (suc n) f s = f (iterate n f s)

-- ---- the mask

-- k: the permutation of the padded key
unfoldable pub key_mask : List ℕ → List ℕ
key_mask key = perm (block (record { bytes = key; frame = [] }) 0)

-- k rolled i times by input rolling
unfoldable pub mask_at : List ℕ → ℕ → List ℕ
mask_at k i = iterate i roll_in k

-- ---- compression

-- x with the first n blocks of a string added whose block 0 has the index i: to block j the mask at i + j is added, and the permutation
-- of that sum is added to x
unfoldable pub add_blocks : (k : List ℕ) (i : ℕ) (s : Str) (n : ℕ) (x : List ℕ) → List ℕ
add_blocks k i s zero x = x
add_blocks k i s (suc j) x = sum (add_blocks k i s j x) (perm (sum (block s j) (mask_at k (i + j))))

-- how far a string moves the index: its blocks and one blank index
unfoldable pub index_growth : Str → ℕ
index_growth s = blocks s + 1

-- x with a history added, the oldest string first, from the index i on
unfoldable pub add_history : (k : List ℕ) (i : ℕ) (h : List Str) (x : List ℕ) → List ℕ
add_history k i [] x = x
add_history k i (s ∷ h) x = add_history k (i + index_growth s) h (add_blocks k i s (blocks s) x)

-- I after the last string of a history
unfoldable pub index_of : List Str → ℕ
index_of [] = 0
index_of (s ∷ h) = index_growth s + index_of h

-- the accumulator x of a history
unfoldable pub accumulator : (key : List ℕ) → List Str → List ℕ
accumulator key h = add_history (key_mask key) 0 h zeros

-- k': the mask after a history, k rolled I times
unfoldable pub output_mask : (key : List ℕ) → List Str → List ℕ
output_mask key h = mask_at (key_mask key) (index_of h)

-- ---- expansion

-- output block j: the permutation of y rolled j times by output rolling, plus k'
unfoldable pub output_block : (y k' : List ℕ) (j : ℕ) → List ℕ
output_block y k' j = sum (perm (iterate j roll_out y)) k'

-- byte i of the output
unfoldable pub output_byte : (y k' : List ℕ) (i : ℕ) → ℕ
output_byte y k' i = state_byte (output_block y k' (i / 48)) (i % 48)

-- n bytes of an output from byte i on
abbrev pub run : (ℕ → ℕ) → (i n : ℕ) → List ℕ
run f i n = tabulate n (λ j. f (i + j))

-- the deck function: its output for a history, as a stream of bytes
unfoldable pub deck : (key : List ℕ) → List Str → ℕ → ℕ
deck key h = output_byte (perm (accumulator key h)) (output_mask key h)
