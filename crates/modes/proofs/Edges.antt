-- The table of edges holds, and so do the bytes after A, M and T, and after SANE's strings, at every length. Assumes nothing.
use mathlib.Core.Bool.{Bool, true, false}
use mathlib.Core.List.{List, [], ◌∷◌, ◌++◌, map}
use mathlib.Core.Path.{◌≡◌, refl, sym, ap, ap₂, ◌∙◌}
use Prim.Native.Nat.{ℕ, ◌+◌, ◌*◌, ◌/◌, ◌%◌, ◌<◌, ◌≤◌}
use native.Mathlib.Omega.{arith}
use lib.ListN.{length, get_or, set}
use lib.Seq.{get_or-append_seam}
use Rattle.word.specs.Word.{bit, of_bits}
use Rattle.word.proofs.Bit.{word-ext}
use Rattle.rolling.specs.Edges.{Row, Hold, only, s₀, s₁₁}
use Rattle.state.specs.State.{lanes}
use Rattle.rolling.specs.Rolling.{roll_in, roll_out}
use Rattle.deck.specs.Strings.{bits_of, padded, framed}
use Rattle.deck.specs.Closing.{closing_byte}
use Rattle.deck.proofs.ClosingBytes.{closing-lt}
use Rattle.deck.proofs.Strings.{padded-byte_bit}
use Rattle.modes.specs.Mode.{sanse_count, sane_count}
use Rattle.modes.specs.Rules.{growth, start_at, nonce_start_at}
use Rattle.modes.specs.Edges.{edge_rows, padded_byte, BytesAfter, SaneBytesAfter}

pub edges-hold : Hold edge_rows
unfolding sanse_count sane_count growth closing_byte start_at nonce_start_at roll_in roll_out lanes of_bits bit
edges-hold = refl

-- the table has all of document 01's rows: what they say, in its order, then a start's numbers and one count more, and the rollings; then
-- SANE's
pub edges-say : map (λ (r : Row). r.says) edge_rows
    ≡ (1 ∷ 1 ∷ 2 ∷ 3 ∷ []) ∷ (3 ∷ []) ∷ (6 ∷ []) ∷ (8 ∷ []) ∷ (1030 ∷ []) ∷ (2 ∷ []) ∷ (5 ∷ []) ∷ (4 ∷ 6 ∷ []) ∷ (10 ∷ 14 ∷ []) ∷ (11 ∷ 15 ∷ [])
    ∷ (4 ∷ 0 ∷ 0 ∷ 4 ∷ []) ∷ (8 ∷ []) ∷ only s₁₁ 0x2001 ∷ set (only s₀ 0x8000_0000) s₁₁ 4 ∷ only s₁₁ 7
    ∷ (3 ∷ []) ∷ (5 ∷ 5 ∷ 6 ∷ []) ∷ (8 ∷ []) ∷ (1029 ∷ []) ∷ (0 ∷ 0 ∷ 0 ∷ 1 ∷ []) ∷ (1 ∷ 0 ∷ 1 ∷ 1 ∷ []) ∷ (0 ∷ []) ∷ (4 ∷ 6 ∷ []) ∷ (5 ∷ 7 ∷ []) ∷ (1 ∷ [])
    ∷ (16 ∷ 16 ∷ []) ∷ (1 ∷ 0 ∷ []) ∷ (4 ∷ 4 ∷ 5 ∷ []) ∷ (7 ∷ 0 ∷ 7 ∷ []) ∷ []
edges-say = refl

-- the byte after the last of a string's bytes is the closing byte of its frame bits
pub closing_at : (x : List ℕ) (f : List Bool) → length f ≤ 7 → padded_byte (framed x f) (length x) ≡ closing_byte f
closing_at x f h = sym (word-ext (closing_byte f) 8 _ (closing-lt f h) at)
  where
    n : ℕ
    n = length x

    at : (z : ℕ) → z < 8 → bit (closing_byte f) z ≡ get_or (padded (bits_of (framed x f))) (8 * n + z) false
    at z l =
        let q : (8 * n + z) / 8 ≡ n = omega arith in
        let r : (8 * n + z) % 8 ≡ z = omega arith in
        sym (padded-byte_bit x f h (8 * n + z) ∙ ap₂ (λ (j k : ℕ). bit (get_or (x ++ closing_byte f ∷ []) j 0) k) q r
        ∙ ap (λ (y : ℕ). bit y z) (get_or-append_seam x (closing_byte f) [] 0))

pub bytes_after : (x : List ℕ) (e : Bool) → BytesAfter x e
unfolding closing_byte
bytes_after x true =
    record { after_a = closing_at x _ (omega arith); after_m = closing_at x _ (omega arith); after_t = closing_at x _ (omega arith) }
bytes_after x false =
    record { after_a = closing_at x _ (omega arith); after_m = closing_at x _ (omega arith); after_t = closing_at x _ (omega arith) }

pub sane-bytes-after : (x : List ℕ) (e : Bool) → SaneBytesAfter x e
unfolding closing_byte
sane-bytes-after x true =
    record { after_a = closing_at x _ (omega arith); after_c = closing_at x _ (omega arith); after_n = ap (λ (n : ℕ). n ∷ []) (closing_at x [] (omega arith)) }
sane-bytes-after x false =
    record { after_a = closing_at x _ (omega arith); after_c = closing_at x _ (omega arith); after_n = ap (λ (n : ℕ). n ∷ []) (closing_at x [] (omega arith)) }
