-- What a reader finds in a run of bytes, which may be any bytes and of which more may follow the envelope: document 01, "Envelope", and numbers 1
-- and 2 of "What stops a call"; document 02, request 2, has the letter given too. proofs/Reading.antt shows that this is exactly what the layout
-- says. Assumes nothing.
use Rattle.std.specs.Prelude.{ℕ, ◌+◌, ◌-◌, cond, Option, Some, None, option_map, option_and_then, Result, Ok, Err, List, [], length, take, drop, get_or, ltb, eqb}
use Rattle.refusals.specs.declared.Refusal.{Refusal}
use Rattle.refusals.specs.declared.Refusal.TheVariants.{BadHeader, TooFewBytes}
use Rattle.refusals.specs.Numbers.{number_of}
use Rattle.decimal.specs.Decimal.{read_decimal}
use Rattle.decimal.specs.declared.Number.{Number}
use Rattle.envelope.specs.Layout.{comma, max_group, max_length, tag_length}
use Rattle.envelope.specs.declared.Header.{Header}
use Rattle.envelope.specs.declared.Parts.{Parts}
use Rattle.envelope.specs.declared.Envelope.{Envelope}
use Rattle.envelope.specs.declared.ReadResult.{ReadResult}

-- a header that ends at a place
abbrev pub a_header : (letter group alen mlen place : ℕ) → Header
a_header letter group alen mlen place =
    record { letter = letter; group = group; alen = alen; mlen = mlen; place = place }

-- the header, from the last of its numbers back to the first: each is read at the place after the one before it
abbrev pub header_m : List ℕ → (letter : ℕ) → Number → Number → Option Header
header_m s letter g a =
    option_map (λ m. a_header letter g.value a.value m.value m.next) (read_decimal max_length comma s a.next)

abbrev pub header_a : List ℕ → (letter : ℕ) → Number → Option Header
header_a s letter g = option_and_then (header_m s letter g) (read_decimal max_length comma s g.next)

abbrev pub header_g : List ℕ → (letter : ℕ) → Option Header
header_g s letter = option_and_then (header_a s letter) (read_decimal max_group comma s 2)

-- the header at the start of the bytes s: letter, comma, group, A length, M length, and the place after it; or none
unfoldable pub read_header : List ℕ → Option Header
read_header s =
    cond (eqb (tag_length (get_or s 0 0)) 0) None
    (cond (eqb (get_or s 1 0) comma) (header_g s (get_or s 0 0)) None)

-- how many bytes belong to the header h behind it: metadata, cryptogram and tag
abbrev pub body_length : Header → ℕ
body_length h = h.alen + h.mlen + tag_length h.letter

-- where the three parts begin and where the envelope ends, in n bytes that have the header h; number 2 where they are too few
unfoldable pub parts_of : ℕ → Header → Result Parts Refusal
parts_of n h =
    cond (ltb (n - h.place) (body_length h)) (Err TooFewBytes)
    (Ok (record {
      letter = h.letter;
      group = h.group;
      metadata = h.place;
      cryptogram = h.place + h.alen;
      tag = h.place + h.alen + h.mlen;
      place = h.place + body_length h;
    }))

-- the same, of the header that was read; number 1 where there is none
abbrev pub parts_in : ℕ → Option Header → Result Parts Refusal
parts_in n None = Err BadHeader
parts_in n (Some h) = parts_of n h

unfoldable pub read_parts : List ℕ → Result Parts Refusal
read_parts s = parts_in (length s) (read_header s)

-- an envelope of a letter for a group, that ends at a place
abbrev pub an_envelope : (letter group place : ℕ) → Envelope
an_envelope letter group place = record { letter = letter; group = group; place = place }

-- what goes with the parts: all but where these begin
abbrev pub answer_of : Result Parts Refusal → Result Envelope Refusal
answer_of (Ok p) = Ok (an_envelope p.letter p.group p.place)
answer_of (Err e) = Err e

-- what reading an envelope answers: the letter, the group, and the place after the envelope; or the check that is met
unfoldable pub read_envelope : List ℕ → Result Envelope Refusal
read_envelope s = answer_of (read_parts s)

-- the number of what was read: that of the check that was met, or 0
abbrev pub read_number : {A : Type 0} → Result A Refusal → ℕ
read_number (Ok _) = 0
read_number (Err e) = number_of e

-- what C gets: number 0 and the parts; or the check's number, three empty parts, a zero byte for the letter, group 0, place 0
abbrev pub read_answer : Result Parts Refusal → ReadResult
read_answer (Ok p) =
    record { number = 0; letter = p.letter; group = p.group; metadata = p.metadata; cryptogram = p.cryptogram; tag = p.tag; place = p.place }
read_answer (Err e) = record { number = number_of e; letter = 0; group = 0; metadata = 0; cryptogram = 0; tag = 0; place = 0 }

-- the bytes of s from the place i up to the place j
abbrev pub between : ℕ → ℕ → List ℕ → List ℕ
between i j s = take (j - i) (drop i s)

-- a run of bytes that the parts tell; none where the envelope is refused
abbrev pub run_of : (Parts → List ℕ) → Result Parts Refusal → List ℕ
run_of f (Ok p) = f p
run_of f (Err e) = []

-- the header's bytes, and the three parts behind them (document 02, request 7, has the header handed over too)
unfoldable pub header_part : List ℕ → List ℕ
header_part s = run_of (λ p. between 0 p.metadata s) (read_parts s)

unfoldable pub metadata_part : List ℕ → List ℕ
metadata_part s = run_of (λ p. between p.metadata p.cryptogram s) (read_parts s)

unfoldable pub cryptogram_part : List ℕ → List ℕ
cryptogram_part s = run_of (λ p. between p.cryptogram p.tag s) (read_parts s)

unfoldable pub tag_part : List ℕ → List ℕ
tag_part s = run_of (λ p. between p.tag p.place s) (read_parts s)
