-- Writing and reading undo one another, for every letter that is written (document 01, "Envelope"; document 02, requests 2 and 9), and for a header
-- alone (request 7). Assumes nothing.
use Rattle.std.specs.Prelude.{Some, Ok}
use Prim.Native.Nat.{ℕ, ◌+◌, ◌≤◌}
use mathlib.Core.Path.{◌≡◌, refl, sym, ap, ◌∙◌, subst}
use mathlib.Core.Bool.{true}
use mathlib.Core.List.{List, ◌++◌}
use native.Mathlib.Omega.{arith}
use lib.ListN.{length, take, drop}
use lib.Seq.{take_at}
use Rattle.decimal.specs.Buffer.{written_at}
use Rattle.envelope.specs.Layout.{letter_f, header, envelope, IsEnvelope}
use Rattle.envelope.specs.declared.Header.{Header}
use Rattle.envelope.specs.declared.Envelope.{Envelope}
use Rattle.envelope.specs.Read.{a_header, read_header, an_envelope, read_envelope, header_part, metadata_part, cryptogram_part, tag_part}
use Rattle.envelope.proofs.Layouts.{envelope-length}
use Rattle.envelope.proofs.Headers.{header-sound, header-complete}
use Rattle.envelope.proofs.Reading.{envelope-complete, envelope-sound}
use Rattle.envelope.proofs.Spelling.{spelled, place_is, front-is}
use Rattle.headers.specs.Fits.{fits, fits_group}
use Rattle.headers.proofs.Exactly.{fits-group-exactly, fits-of-group}
use Rattle.envelope_write.specs.Write.{write_check, header_number, answer_by, buffer_by, write_answer, write_buffer, header_answer, header_buffer}
use Rattle.envelope_write.specs.Checks.{writable, header-writable}
use Rattle.envelope_write.specs.declared.WriteResult.{WriteResult}
use Rattle.envelope_write.proofs.Writing.{accepted, stop-given, header-accepted, header-given, done}

-- what is known of a call that was not refused: its answer, its buffer, and the bytes at the buffer's start
module _ (check : ℕ) (bytes buffer : List ℕ) (e : check ≡ 0) where
  results : (answer_by check bytes ≡ record { number = 0; len = length bytes }) × (buffer_by check bytes buffer ≡ written_at buffer 0 bytes)
  results = let d = done check bytes buffer (length bytes) (written_at buffer 0 bytes) (sym e) refl refl in (sym d.0, sym d.1)

  len_is : (answer_by check bytes).len ≡ length bytes
  len_is = ap (λ (r : WriteResult). r.len) results.0

  in_buffer : buffer_by check bytes buffer ≡ bytes ++ drop (length bytes) buffer
  unfolding written_at
  in_buffer = let place : 0 + length bytes ≡ length bytes = omega arith in results.1 ∙ ap (λ (k : ℕ). bytes ++ drop k buffer) place

  front : take (answer_by check bytes).len (buffer_by check bytes buffer) ≡ bytes
  front =
      ap (λ (k : ℕ). take k (buffer_by check bytes buffer)) len_is
      ∙ ap (take (length bytes)) in_buffer
      ∙ take_at bytes (drop (length bytes) buffer) (length bytes) refl

-- Reading the bytes s gives this letter, this group, these three parts, this place, and the header that goes with them
abbrev pub ReadsAs : List ℕ → (letter group place : ℕ) (metadata cryptogram tag : List ℕ) → Type 0
ReadsAs s letter group place metadata cryptogram tag =
    (read_envelope s ≡ Ok (an_envelope letter group place)) × (metadata_part s ≡ metadata) × (cryptogram_part s ≡ cryptogram) × (tag_part s ≡ tag)
    × (header_part s ≡ header letter group (length metadata) (length cryptogram))

module _ (letter group : ℕ) (metadata cryptogram tag buffer : List ℕ) (e : (write_answer letter group metadata cryptogram tag buffer).number ≡ 0) where
  abbrev bytes : List ℕ
  bytes = envelope letter group metadata cryptogram tag

  reads : (s rest : List ℕ) → s ≡ bytes ++ rest → ReadsAs s letter group (write_answer letter group metadata cryptogram tag buffer).len metadata cryptogram tag
  unfolding write_answer
  reads s rest is =
      let w = accepted letter group (length metadata) (length cryptogram) (length tag) (length buffer) (sym e) in
      let there : IsEnvelope s letter group metadata cryptogram tag rest = record { in_range = w.to_write.in_range; tag_fits = w.tag_fits; bytes = is } in
      subst (λ (k : ℕ). ReadsAs s letter group k metadata cryptogram tag) (sym (len_is (write_check letter group metadata cryptogram tag buffer) bytes buffer e))
      (envelope-complete s letter group metadata cryptogram tag rest there)

  -- What was written without a refusal, whatever follows it, reads as what was handed in, with the number of bytes written as the place.
  pub write-then-read : (rest : List ℕ)
      → ReadsAs (take (write_answer letter group metadata cryptogram tag buffer).len (write_buffer letter group metadata cryptogram tag buffer) ++ rest)
      letter group (write_answer letter group metadata cryptogram tag buffer).len metadata cryptogram tag
  unfolding write_answer write_buffer
  write-then-read rest =
      reads _ rest (ap (λ (l : List ℕ). l ++ rest) (front (write_check letter group metadata cryptogram tag buffer) bytes buffer e))

  -- So does the whole buffer afterwards.
  pub buffer-reads : ReadsAs (write_buffer letter group metadata cryptogram tag buffer) letter group (write_answer letter group metadata cryptogram tag buffer).len metadata cryptogram tag
  unfolding write_answer write_buffer
  buffer-reads = reads _ _ (in_buffer (write_check letter group metadata cryptogram tag buffer) bytes buffer e)

-- Bytes that are read without a refusal are, up to the place, exactly what writing their letter, group and parts gives to any buffer with room for it,
-- but for the letter F, of which no envelope is written (proofs/OnlyRead.antt).
pub read-then-write : (s buffer : List ℕ) (e : Envelope) → read_envelope s ≡ Ok e → (e.letter ≡ letter_f → ⊥) → e.place ≤ length buffer
    → (write_answer e.letter e.group (metadata_part s) (cryptogram_part s) (tag_part s) buffer ≡ record { number = 0; len = e.place })
    × (write_buffer e.letter e.group (metadata_part s) (cryptogram_part s) (tag_part s) buffer ≡ written_at buffer 0 (take e.place s))
unfolding write_answer write_buffer
read-then-write s buffer e read f room =
    let h = envelope-sound s e read in
    let place = place_is s e read in
    let size = envelope-length e.letter e.group (metadata_part s) (cryptogram_part s) (tag_part s) in
    let free = stop-given e.letter e.group (length (metadata_part s)) (length (cryptogram_part s)) (length (tag_part s)) (length buffer) 0
    (writable (record { not_F = f; in_range = h.in_range }) h.tag_fits (omega arith)) in
    let d = done _ (spelled s e) buffer e.place (written_at buffer 0 (spelled s e)) (sym free) place refl in
    (sym d.0, sym d.1 ∙ ap (written_at buffer 0) (sym (front-is s e read)))

-- A header that was written alone without a refusal, whatever follows it, reads as what was handed in, with the number of bytes written as the place;
-- so does the whole buffer afterwards; and the bytes written are taken as the header of that letter, that group and these lengths.
module _ (letter group alen mlen : ℕ) (buffer : List ℕ) (e : (header_answer letter group alen mlen buffer).number ≡ 0) where
  header-reads : (s rest : List ℕ) → s ≡ header letter group alen mlen ++ rest
      → read_header s ≡ Some (a_header letter group alen mlen (header_answer letter group alen mlen buffer).len)
  unfolding header_answer
  header-reads s rest is =
      let range = (header-accepted letter group alen mlen (length buffer) (sym e)).0.in_range in
      header-complete s letter group alen mlen rest (record { in_range = range; bytes = is })
      ∙ ap (λ (k : ℕ). Some (a_header letter group alen mlen k)) (sym (len_is (header_number letter group alen mlen (length buffer)) (header letter group alen mlen) buffer e))

  header-front : take (header_answer letter group alen mlen buffer).len (header_buffer letter group alen mlen buffer) ≡ header letter group alen mlen
  unfolding header_answer header_buffer
  header-front = front (header_number letter group alen mlen (length buffer)) (header letter group alen mlen) buffer e

  pub header-write-then-read : (rest : List ℕ)
      → read_header (take (header_answer letter group alen mlen buffer).len (header_buffer letter group alen mlen buffer) ++ rest)
      ≡ Some (a_header letter group alen mlen (header_answer letter group alen mlen buffer).len)
  header-write-then-read rest = header-reads _ rest (ap (λ (l : List ℕ). l ++ rest) header-front)

  pub header-buffer-reads : read_header (header_buffer letter group alen mlen buffer) ≡ Some (a_header letter group alen mlen (header_answer letter group alen mlen buffer).len)
  unfolding header_answer header_buffer
  header-buffer-reads = header-reads _ _ (in_buffer (header_number letter group alen mlen (length buffer)) (header letter group alen mlen) buffer e)

  pub header-write-fits :
      (fits_group letter group alen mlen (take (header_answer letter group alen mlen buffer).len (header_buffer letter group alen mlen buffer)) ≡ true)
      × (fits letter alen mlen (take (header_answer letter group alen mlen buffer).len (header_buffer letter group alen mlen buffer)) ≡ true)
  unfolding header_answer
  header-write-fits =
      let by-group = (fits-group-exactly letter group alen mlen _).1 ((header-accepted letter group alen mlen (length buffer) (sym e)).0.in_range, header-front) in
      (by-group, fits-of-group letter group alen mlen _ by-group)

-- A header that is read is, up to its place, exactly what writing its letter, group and lengths gives to any buffer with room for it, but for the letter F.
pub header-read-then-write : (s buffer : List ℕ) (h : Header) → read_header s ≡ Some h → (h.letter ≡ letter_f → ⊥) → h.place ≤ length buffer
    → (header_answer h.letter h.group h.alen h.mlen buffer ≡ record { number = 0; len = h.place })
    × (header_buffer h.letter h.group h.alen h.mlen buffer ≡ written_at buffer 0 (take h.place s))
unfolding header_answer header_buffer
header-read-then-write s buffer h read f room =
    let stands = header-sound s h read in
    let bytes = header h.letter h.group h.alen h.mlen in
    let free = header-given h.letter h.group h.alen h.mlen (length buffer) 0 (header-writable (record { not_F = f; in_range = stands.0.in_range }) (omega (arith, stands.1))) in
    let d = done _ bytes buffer h.place (written_at buffer 0 bytes) (sym free) stands.1 refl in
    let up_to : take h.place s ≡ bytes = ap (take h.place) stands.0.bytes ∙ take_at bytes (drop h.place s) h.place (sym stands.1) in
    (sym d.0, sym d.1 ∙ ap (written_at buffer 0) (sym up_to))
