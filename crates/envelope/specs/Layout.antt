-- The layout of an envelope: document 01, "Envelope" (limits of lengths: "Counts and limits"), and document 02, requests 2 (the letter N) and 9 (the
-- letter F). A header is a thing of its own, a function of its letter, its group and its two lengths. Assumes nothing.
use Rattle.std.specs.Prelude.{ℕ, ◌≤◌, ◌≡◌, cond, List, [], ◌∷◌, ◌++◌, length, eqb}
use Rattle.decimal.specs.Decimal.{decimal}

-- the letters `S` (a message of SANSE), `N` (of SANE) and `F` (an old letter of the first version: read, never written), and the comma
abbrev pub letter_s : ℕ
letter_s = 83

abbrev pub letter_n : ℕ
letter_n = 78

abbrev pub letter_f : ℕ
letter_f = 70

abbrev pub comma : ℕ
comma = 44

-- the largest group, and the most bytes of metadata and of a message
abbrev pub max_group : ℕ
max_group = 31

abbrev pub max_length : ℕ
max_length = 16384

-- how many bytes the tag has, by the letter; 0 for a byte that is no letter of an envelope
unfoldable pub tag_length : ℕ → ℕ
tag_length letter = cond (eqb letter letter_s) 32 (cond (eqb letter letter_n) 16 (cond (eqb letter letter_f) 16 0))

-- a letter of an envelope is a byte that has a tag
abbrev pub Known : ℕ → Type 0
Known letter = tag_length letter ≡ 0 → ⊥

-- a number of the header: in decimal, and a comma
unfoldable pub field : ℕ → List ℕ
field n = decimal n ++ (comma ∷ [])

-- the header's bytes: `letter,group,A length,M length,`
unfoldable pub header : (letter group alen mlen : ℕ) → List ℕ
header letter group alen mlen = letter ∷ comma ∷ (field group ++ (field alen ++ field mlen))

-- the bytes of an envelope: header, metadata, cryptogram, tag
unfoldable pub envelope : (letter group : ℕ) (metadata cryptogram tag : List ℕ) → List ℕ
envelope letter group metadata cryptogram tag =
    header letter group (length metadata) (length cryptogram) ++ (metadata ++ (cryptogram ++ tag))

-- letter, group and lengths are within their ranges
pub record InRange (letter group alen mlen : ℕ) : Type 0 where
  pub known : Known letter
  pub group_in_range : group ≤ max_group
  pub metadata_fits : alen ≤ max_length
  pub message_fits : mlen ≤ max_length

-- the bytes s begin with a header that follows the layout; the bytes rest come after it
pub record Begins (s : List ℕ) (letter group alen mlen : ℕ) (rest : List ℕ) : Type 0 where
  pub in_range : InRange letter group alen mlen
  pub bytes : s ≡ header letter group alen mlen ++ rest

-- the bytes s begin with an envelope that follows the layout, with these three parts; the bytes rest come after it
pub record IsEnvelope (s : List ℕ) (letter group : ℕ) (metadata cryptogram tag rest : List ℕ) : Type 0 where
  pub in_range : InRange letter group (length metadata) (length cryptogram)
  pub tag_fits : length tag ≡ tag_length letter
  pub bytes : s ≡ envelope letter group metadata cryptogram tag ++ rest
