-- The edges of SAE (document 02, request 9), as rows of one table of the definitions (`Hold`); and the bytes after its strings, at every length.
-- Assumes nothing.
use Rattle.std.specs.Prelude.{true, false, List, [], ◌∷◌, ◌++◌, map, ◌≡◌, ℕ, length, replicate}
use Rattle.rolling.specs.Edges.{Row}
use Rattle.deck.specs.Strings.{framed}
use Rattle.deck.specs.Closing.{closing_byte}
use Rattle.envelope.specs.Layout.{letter_s, letter_n, letter_f, tag_length}
use Rattle.modes.specs.Mode.{sanse_parameters, sane_parameters}
use Rattle.modes.specs.Rules.{NonceOpening, nonce_start_at}
use Rattle.modes.specs.Edges.{digits, frames_of, closings_of, padded_byte}
use Rattle.sae_mode.specs.Sae.{sae_parameters}
use Rattle.sae_mode.specs.PaperSae.{sae_opens}

-- a start under a key of 16 bytes with a nonce of n bytes and a tag buffer of t
abbrev pub sae_start : (n t : ℕ) → NonceOpening
sae_start n t = nonce_start_at sae_parameters (replicate 16 0) (replicate n 0) (replicate t 0)

abbrev pub sae_rows : List Row
sae_rows =
    -- count, A 0 M 0; A 0 M 1, 32, 33; A 20 M 48; A 16,384 M 16,384: as for N
    record { gives = sae_parameters.count 0 0 ∷ []; says = 3 ∷ [] }
    ∷ record { gives = sae_parameters.count 0 1 ∷ sae_parameters.count 0 32 ∷ sae_parameters.count 0 33 ∷ []; says = 5 ∷ 5 ∷ 6 ∷ [] }
    ∷ record { gives = sae_parameters.count 20 48 ∷ sae_parameters.count 16384 16384 ∷ []; says = 8 ∷ 1029 ∷ [] }
    -- frame bits after A and after the cryptogram, at e 0 and then at e 1: no e among them
    ∷ record { gives = digits (sae_parameters.frame_a false) ++ digits (sae_parameters.frame_a true); says = 0 ∷ 0 ∷ [] }
    ∷ record { gives = digits (sae_parameters.frame_m false) ++ digits (sae_parameters.frame_m true); says = 1 ∷ 1 ∷ [] }
    -- and after the nonce: none
    ∷ record { gives = frames_of (sae_opens (replicate 5 0)); says = 0 ∷ [] }
    -- byte after A, after the cryptogram, after the nonce
    ∷ record { gives = closing_byte (sae_parameters.frame_a false) ∷ closing_byte (sae_parameters.frame_m false) ∷ closings_of (sae_opens (replicate 5 0)); says = 2 ∷ 3 ∷ 1 ∷ [] }
    -- the tag's length, and the output byte that keystream starts at
    ∷ record { gives = sae_parameters.tag_length ∷ sae_parameters.offset ∷ []; says = 16 ∷ 16 ∷ [] }
    -- e after a call, from e 0 and from e 1: with the letter S, with N, and with F
    ∷ record { gives = sanse_parameters.letter ∷ digits (map sanse_parameters.next_toggle (false ∷ true ∷ [])); says = 83 ∷ 1 ∷ 0 ∷ [] }
    ∷ record { gives = sane_parameters.letter ∷ digits (map sane_parameters.next_toggle (false ∷ true ∷ [])); says = 78 ∷ 1 ∷ 0 ∷ [] }
    ∷ record { gives = sae_parameters.letter ∷ digits (map sae_parameters.next_toggle (false ∷ true ∷ [])); says = 70 ∷ 0 ∷ 1 ∷ [] }
    -- the bytes of a tag in an envelope of each letter
    ∷ record { gives = tag_length letter_s ∷ tag_length letter_n ∷ tag_length letter_f ∷ []; says = 32 ∷ 16 ∷ 16 ∷ [] }
    -- a start's count with a nonce of 0, 47, 48 bytes, and its number with a tag buffer of 15, 16, 32
    ∷ record { gives = (sae_start 0 16).count ∷ (sae_start 47 16).count ∷ (sae_start 48 16).count ∷ []; says = 4 ∷ 4 ∷ 5 ∷ [] }
    ∷ record { gives = (sae_start 0 15).number ∷ (sae_start 0 16).number ∷ (sae_start 0 32).number ∷ []; says = 7 ∷ 0 ∷ 7 ∷ [] }
    ∷ []

-- the bytes that stand after A, the cryptogram and the nonce, directly after their last one
pub record SaeBytesAfter (x : List ℕ) : Type 0 where
  pub after_a : padded_byte (framed x (sae_parameters.frame_a false)) (length x) ≡ 2
  pub after_c : padded_byte (framed x (sae_parameters.frame_m false)) (length x) ≡ 3
  pub after_n : map (λ s. padded_byte s (length x)) (sae_opens x) ≡ 1 ∷ []
