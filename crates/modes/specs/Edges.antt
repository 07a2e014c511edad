-- Document 01, "Edges, marked for proof": the whole table as rows of one table with one statement over it (`Hold`), with a few rows more and
-- the rows of SANE (document 02, request 2); and the bytes after A, M and T, and after SANE's strings, at every length. Assumes nothing.
use Rattle.std.specs.Prelude.{Bool, true, false, cond, List, [], ◌∷◌, ◌++◌, map, ◌≡◌, ℕ, ◌+◌, ◌*◌, length, get_or, replicate}
use Rattle.word.specs.Word.{digit, of_bits}
use Rattle.rolling.specs.Edges.{Row, rolling_rows}
use Rattle.deck.specs.Strings.{Str, b, bits_of, padded, framed}
use Rattle.deck.specs.Closing.{closing_byte}
use Rattle.modes.specs.Mode.{sanse_count, sanse_parameters, sane_count, sane_parameters}
use Rattle.modes.specs.PaperSane.{sane_opens}
use Rattle.modes.specs.Rules.{growth, start_at, NonceOpening, nonce_start_at}

-- ---- SANE

-- a start under a key of 16 bytes with a nonce of n bytes and a tag buffer of t
abbrev pub sane_start : (n t : ℕ) → NonceOpening
sane_start n t = nonce_start_at sane_parameters (replicate 16 0) (replicate n 0) (replicate t 0)

-- frame bits as numbers
abbrev pub digits : List Bool → List ℕ
digits f = map digit f

-- how many frame bits each string of a history has, and the byte after each
abbrev pub frames_of : List Str → List ℕ
frames_of h = map (λ (s : Str). length s.frame) h

abbrev pub closings_of : List Str → List ℕ
closings_of h = map (λ (s : Str). closing_byte s.frame) h

-- its rows
abbrev pub sane_rows : List Row
sane_rows =
    -- count, A 0 M 0; A 0 M 1; A 0 M 32; A 0 M 33; A 20 M 48; A 16,384 M 16,384
    record { gives = sane_count 0 0 ∷ []; says = 3 ∷ [] }
    ∷ record { gives = sane_count 0 1 ∷ sane_count 0 32 ∷ sane_count 0 33 ∷ []; says = 5 ∷ 5 ∷ 6 ∷ [] }
    ∷ record { gives = sane_count 20 48 ∷ []; says = 8 ∷ [] }
    ∷ record { gives = sane_count 16384 16384 ∷ []; says = 1029 ∷ [] }
    -- frame bits after A and after the cryptogram, each at e 0 and then at e 1
    ∷ record { gives = digits (sane_parameters.frame_a false) ++ digits (sane_parameters.frame_a true); says = 0 ∷ 0 ∷ 0 ∷ 1 ∷ [] }
    ∷ record { gives = digits (sane_parameters.frame_m false) ++ digits (sane_parameters.frame_m true); says = 1 ∷ 0 ∷ 1 ∷ 1 ∷ [] }
    -- how many there are after the nonce, the one string that the history opens with
    ∷ record { gives = frames_of (sane_opens (replicate 5 0)); says = 0 ∷ [] }
    -- byte after A, after the cryptogram, at e 0 and 1; after the nonce
    ∷ record { gives = closing_byte (sane_parameters.frame_a false) ∷ closing_byte (sane_parameters.frame_a true) ∷ []; says = 4 ∷ 6 ∷ [] }
    ∷ record { gives = closing_byte (sane_parameters.frame_m false) ∷ closing_byte (sane_parameters.frame_m true) ∷ []; says = 5 ∷ 7 ∷ [] }
    ∷ record { gives = closings_of (sane_opens (replicate 5 0)); says = 1 ∷ [] }
    -- the tag's length, and the output byte that keystream starts at
    ∷ record { gives = sane_parameters.tag_length ∷ sane_parameters.offset ∷ []; says = 16 ∷ 16 ∷ [] }
    -- e after a call, from e 0 and from e 1
    ∷ record { gives = digits (map sane_parameters.next_toggle (false ∷ true ∷ [])); says = 1 ∷ 0 ∷ [] }
    -- a start's count with a nonce of 0, 47, 48 bytes
    ∷ record { gives = (sane_start 0 16).count ∷ (sane_start 47 16).count ∷ (sane_start 48 16).count ∷ []; says = 4 ∷ 4 ∷ 5 ∷ [] }
    -- a start's number with a tag buffer of 15, 16, 32 bytes
    ∷ record { gives = (sane_start 0 15).number ∷ (sane_start 0 16).number ∷ (sane_start 0 32).number ∷ []; says = 7 ∷ 0 ∷ 7 ∷ [] }
    ∷ []

-- ---- the table

-- the rows, each with what the definitions give and what document 01 says
abbrev pub edge_rows : List Row
edge_rows =
    -- b of 0, 47, 48, 96
    record { gives = b 0 ∷ b 47 ∷ b 48 ∷ b 96 ∷ []; says = 1 ∷ 1 ∷ 2 ∷ 3 ∷ [] }
    -- count, A 0 M 0; A 0 M 1; A 20 M 48; A 16,384 M 16,384
    ∷ record { gives = sanse_count 0 0 ∷ []; says = 3 ∷ [] }
    ∷ record { gives = sanse_count 0 1 ∷ []; says = 6 ∷ [] }
    ∷ record { gives = sanse_count 20 48 ∷ []; says = 8 ∷ [] }
    ∷ record { gives = sanse_count 16384 16384 ∷ []; says = 1030 ∷ [] }
    -- index growth, A 0 M 0; A 20 M 48
    ∷ record { gives = growth 0 0 ∷ []; says = 2 ∷ [] }
    ∷ record { gives = growth 20 48 ∷ []; says = 5 ∷ [] }
    -- byte after A, after M, after T, at e 0 and 1
    ∷ record { gives = closing_byte (sanse_parameters.frame_a false) ∷ closing_byte (sanse_parameters.frame_a true) ∷ []; says = 4 ∷ 6 ∷ [] }
    ∷ record { gives = closing_byte (sanse_parameters.frame_m false) ∷ closing_byte (sanse_parameters.frame_m true) ∷ []; says = 10 ∷ 14 ∷ [] }
    ∷ record { gives = closing_byte (sanse_parameters.frame_t false) ∷ closing_byte (sanse_parameters.frame_t true) ∷ []; says = 11 ∷ 15 ∷ [] }
    -- the number of a start with a key of 15, 16, 47, 48 bytes
    ∷ record {
      gives = (start_at (replicate 15 0)).number ∷ (start_at (replicate 16 0)).number ∷ (start_at (replicate 47 0)).number ∷ (start_at (replicate 48 0)).number ∷ [];
      says = 4 ∷ 0 ∷ 0 ∷ 4 ∷ [];
    }
    -- count, A 48 M 1
    ∷ record { gives = sanse_count 48 1 ∷ []; says = 8 ∷ [] }
    -- the rows of the rollings, and those of SANE
    ∷ rolling_rows
    ++ sane_rows

-- ---- the bytes after A, M and T

-- byte j of a padded string
abbrev pub padded_byte : Str → ℕ → ℕ
padded_byte s j = of_bits 8 (λ z. get_or (padded (bits_of s)) (8 * j + z) false)

-- directly after the last of the bytes x stand the frame bits and the padding bit as one byte: 4 or 6 after A, 10 or 14 after M, 11 or 15
-- after T, for e 0 or 1
pub record BytesAfter (x : List ℕ) (e : Bool) : Type 0 where
  pub after_a : padded_byte (framed x (sanse_parameters.frame_a e)) (length x) ≡ cond e 6 4
  pub after_m : padded_byte (framed x (sanse_parameters.frame_m e)) (length x) ≡ cond e 14 10
  pub after_t : padded_byte (framed x (sanse_parameters.frame_t e)) (length x) ≡ cond e 15 11

-- and so in SANE: 4 or 6 after A, 5 or 7 after the cryptogram, and 1 after the nonce
pub record SaneBytesAfter (x : List ℕ) (e : Bool) : Type 0 where
  pub after_a : padded_byte (framed x (sane_parameters.frame_a e)) (length x) ≡ cond e 6 4
  pub after_c : padded_byte (framed x (sane_parameters.frame_m e)) (length x) ≡ cond e 7 5
  pub after_n : map (λ (s : Str). padded_byte s (length x)) (sane_opens x) ≡ 1 ∷ []
