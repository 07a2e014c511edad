-- Whether bytes are the header of a call for an envelope (document 02, request 7): one that follows the layout of document 01, "Envelope", with the
-- call's letter and lengths and, in the row, its group, and nothing before or after it. proofs/Exactly.antt shows that this is exactly what the
-- layout says. Assumes nothing.
use Rattle.std.specs.Prelude.{ℕ, Bool, false, ◌&&◌, Option, Some, None, List, length, eqb}
use Rattle.envelope.specs.Read.{read_header}
use Rattle.envelope.specs.declared.Header.{Header}

-- a header was read from n bytes that has this letter and these lengths, and nothing follows it
unfoldable pub found_for : (letter a m n : ℕ) → Option Header → Bool
found_for letter a m n None = false
found_for letter a m n (Some h) = eqb h.letter letter && (eqb h.alen a && (eqb h.mlen m && eqb h.place n))

-- a header was read that has this group
abbrev pub of_group : ℕ → Option Header → Bool
of_group group None = false
of_group group (Some h) = eqb h.group group

-- the bytes x are a header with this letter and these lengths, of any group
unfoldable pub fits : (letter a m : ℕ) → List ℕ → Bool
fits letter a m x = found_for letter a m (length x) (read_header x)

-- the bytes x are a header with this letter, this group and these lengths
unfoldable pub fits_group : (letter group a m : ℕ) → List ℕ → Bool
fits_group letter group a m x = of_group group (read_header x) && fits letter a m x
