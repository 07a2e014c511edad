-- What four output blocks side by side are made of. Assumes nothing.
use Rattle.std.specs.Prelude.{List, ℕ, ◌/◌, ◌%◌}
use Rattle.word.specs.Lists.{sum}
use Rattle.state.specs.Bytes.{state_byte}
use Rattle.xoodoo.specs.Xoodoo.{perm}

-- byte i of the blocks that the states f 0, f 1, f 2 and f 3 give: their permutations plus k'
abbrev pub four_byte : (f : ℕ → List ℕ) (k' : List ℕ) → ℕ → ℕ
four_byte f k' i = state_byte (sum (perm (f (i / 48))) k') (i % 48)
