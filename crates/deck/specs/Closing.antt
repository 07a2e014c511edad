-- The byte that follows a string's last byte and closes it: its frame bits and the padding bit (document 01, "The deck function").
-- Assumes nothing.
use Rattle.std.specs.Prelude.{Bool, cond, List, [], ◌∷◌, ℕ, zero, suc, ◌+◌, ◌*◌, ◌/◌, leb}
use Rattle.word.specs.Word.{bit, digit}
use Rattle.deck.specs.Strings.{Str}

-- the byte that follows a string's last byte: the frame bits, the padding bit, zeros
unfoldable pub closing_byte : List Bool → ℕ
closing_byte [] = 1
closing_byte (f ∷ fs) = digit f + 2 * closing_byte fs

-- the frame bits that a closing byte carries: its bits below its highest 1-bit, of which there are at most n
unfoldable pub frame_bits : (n c : ℕ) → List Bool
frame_bits zero c = []
frame_bits (suc n) c = cond (leb c 1) [] (bit c 0 ∷ frame_bits n (c / 2))

-- the string of these bytes and this closing byte
abbrev pub closed_by : List ℕ → ℕ → Str
closed_by s c = record { bytes = s; frame = frame_bits 7 c }
