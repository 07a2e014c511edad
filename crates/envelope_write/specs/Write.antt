-- What a writer makes: document 01, "Envelope", and numbers 3, 6, 7 and 8 of "What stops a call"; document 02, request 2, has it handed the letter,
-- with number 1 for one that is unknown, request 7 a header written alone, and request 9 number 18 for the letter F, before every other check. Assumes
-- nothing.
use Rattle.std.specs.Prelude.{ℕ, ◌+◌, cond, Result, Ok, Err, List, length, ltb, eqb}
use Rattle.refusals.specs.declared.Refusal.{Refusal}
use Rattle.refusals.specs.Numbers.{number_of}
use Rattle.decimal.specs.Buffer.{written_at}
use Rattle.envelope.specs.Layout.{letter_f, max_group, max_length, tag_length, header, envelope}
use Rattle.envelope_write.specs.declared.WriteResult.{WriteResult}

-- the first of the checks 18, 1, 3 and 6 that letter, group and lengths meet; where they meet none, the number n
unfoldable pub range_then : (letter group alen mlen n : ℕ) → ℕ
range_then letter group alen mlen n =
    cond (eqb letter letter_f) 18
    (cond (eqb (tag_length letter) 0) 1
    (cond (ltb max_group group) 3
    (cond (ltb max_length alen) 6
    (cond (ltb max_length mlen) 6 n))))

-- the first check that is met, by the lengths of metadata, cryptogram, tag and buffer, or 0
unfoldable pub write_number : (letter group alen mlen tlen room : ℕ) → ℕ
write_number letter group alen mlen tlen room =
    range_then letter group alen mlen
    (cond (eqb tlen (tag_length letter)) (cond (ltb room (length (header letter group alen mlen) + alen + mlen + tlen)) 8 0) 7)

-- the same for a header alone
unfoldable pub header_number : (letter group alen mlen room : ℕ) → ℕ
header_number letter group alen mlen room = range_then letter group alen mlen (cond (ltb room (length (header letter group alen mlen))) 8 0)

-- what C gets of writing: number 0 and how many bytes were written; or the check's number, and no bytes
abbrev pub write_result : Result ℕ Refusal → WriteResult
write_result (Ok n) = record { number = 0; len = n }
write_result (Err e) = record { number = number_of e; len = 0 }

-- what writing some bytes answers, by the check that is met: the number, and how many bytes were written
abbrev pub answer_by : ℕ → List ℕ → WriteResult
answer_by n bytes = record { number = n; len = cond (eqb n 0) (length bytes) 0 }

-- the buffer afterwards: the bytes at its start and the rest kept, or, on a refusal, as it was
abbrev pub buffer_by : ℕ → (bytes buffer : List ℕ) → List ℕ
buffer_by n bytes buffer = cond (eqb n 0) (written_at buffer 0 bytes) buffer

-- the check by what is handed in
abbrev pub write_check : (letter group : ℕ) (metadata cryptogram tag buffer : List ℕ) → ℕ
write_check letter group metadata cryptogram tag buffer =
    write_number letter group (length metadata) (length cryptogram) (length tag) (length buffer)

-- what writing an envelope answers, and the buffer afterwards
unfoldable pub write_answer : (letter group : ℕ) (metadata cryptogram tag buffer : List ℕ) → WriteResult
write_answer letter group metadata cryptogram tag buffer =
    answer_by (write_check letter group metadata cryptogram tag buffer) (envelope letter group metadata cryptogram tag)

unfoldable pub write_buffer : (letter group : ℕ) (metadata cryptogram tag buffer : List ℕ) → List ℕ
write_buffer letter group metadata cryptogram tag buffer =
    buffer_by (write_check letter group metadata cryptogram tag buffer) (envelope letter group metadata cryptogram tag) buffer

-- what writing a header alone answers, and the buffer afterwards
unfoldable pub header_answer : (letter group alen mlen : ℕ) → List ℕ → WriteResult
header_answer letter group alen mlen buffer =
    answer_by (header_number letter group alen mlen (length buffer)) (header letter group alen mlen)

unfoldable pub header_buffer : (letter group alen mlen : ℕ) → List ℕ → List ℕ
header_buffer letter group alen mlen buffer =
    buffer_by (header_number letter group alen mlen (length buffer)) (header letter group alen mlen) buffer
