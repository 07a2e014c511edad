-- The letter F is read and never written (document 02, request 9): 18 goes by it alone, before every other check. Assumes nothing.
use Prim.Native.Nat.{ℕ}
use mathlib.Core.Path.{◌≡◌, refl, sym}
use mathlib.Core.Logic.{◌↔◌}
use mathlib.Core.List.{List}
use native.Mathlib.Omega.{arith}
use lib.ListN.{length}
use Rattle.envelope.specs.Layout.{letter_f, header, envelope}
use Rattle.envelope_write.specs.Checks.{RangeStop, only-read, bad-letter, group-above, metadata-long, message-long, WriteStop, out_of_range, tag-wrong, no_room, writable, HeaderStop, header-out-of-range, header-no-room, header-writable}
use Rattle.envelope_write.specs.Write.{write_check, write_number, header_number, write_answer, write_buffer, header_answer, header_buffer}
use Rattle.envelope_write.proofs.Writing.{write-number-exact, header-number-exact, stopped}

range-18-only : {letter group alen mlen n : ℕ} → n ≡ 18 → RangeStop letter group alen mlen n → letter ≡ letter_f
range-18-only e (only-read h) = h
range-18-only e (bad-letter f h) = absurd (omega arith)
range-18-only e (group-above l h) = absurd (omega arith)
range-18-only e (metadata-long l g h) = absurd (omega arith)
range-18-only e (message-long l g a h) = absurd (omega arith)

-- An envelope gets 18 exactly where its letter is F, whatever else is handed in.
pub write-18-exact : (letter group alen mlen tlen room : ℕ) → (write_number letter group alen mlen tlen room ≡ 18) ↔ (letter ≡ letter_f)
write-18-exact letter group alen mlen tlen room = (
  (λ e. go 18 refl ((write-number-exact letter group alen mlen tlen room 18).0 e)),
  (λ h. (write-number-exact letter group alen mlen tlen room 18).1 (out_of_range (only-read h))),
)
  where
    go : (n : ℕ) → n ≡ 18 → WriteStop letter group alen mlen tlen room n → letter ≡ letter_f
    go n e (out_of_range h) = range-18-only e h
    go n e (tag-wrong i h) = absurd (omega arith)
    go n e (no_room i t h) = absurd (omega arith)
    go n e (writable i t h) = absurd (omega arith)

-- So does a header alone.
pub header-18-exact : (letter group alen mlen room : ℕ) → (header_number letter group alen mlen room ≡ 18) ↔ (letter ≡ letter_f)
header-18-exact letter group alen mlen room = (
  (λ e. go 18 refl ((header-number-exact letter group alen mlen room 18).0 e)),
  (λ h. (header-number-exact letter group alen mlen room 18).1 (header-out-of-range (only-read h))),
)
  where
    go : (n : ℕ) → n ≡ 18 → HeaderStop letter group alen mlen room n → letter ≡ letter_f
    go n e (header-out-of-range h) = range-18-only e h
    go n e (header-no-room i h) = absurd (omega arith)
    go n e (header-writable i h) = absurd (omega arith)

-- Then no bytes are written, and the buffer is as it was: of an envelope with any parts, and of a header with any lengths.
pub envelope-not-written : (group : ℕ) (metadata cryptogram tag buffer : List ℕ)
    → (write_answer letter_f group metadata cryptogram tag buffer ≡ record { number = 18; len = 0 })
    × (write_buffer letter_f group metadata cryptogram tag buffer ≡ buffer)
unfolding write_answer write_buffer
envelope-not-written group metadata cryptogram tag buffer =
    let e = (write-18-exact letter_f group (length metadata) (length cryptogram) (length tag) (length buffer)).1 refl in
    let s = stopped (write_check letter_f group metadata cryptogram tag buffer) (envelope letter_f group metadata cryptogram tag) buffer 18 (sym e) (λ z. omega arith) in
    (sym s.0, sym s.1)

pub header-not-written : (group alen mlen : ℕ) (buffer : List ℕ)
    → (header_answer letter_f group alen mlen buffer ≡ record { number = 18; len = 0 }) × (header_buffer letter_f group alen mlen buffer ≡ buffer)
unfolding header_answer header_buffer
header-not-written group alen mlen buffer =
    let e = (header-18-exact letter_f group alen mlen (length buffer)).1 refl in
    let s = stopped (header_number letter_f group alen mlen (length buffer)) (header letter_f group alen mlen) buffer 18 (sym e) (λ z. omega arith) in
    (sym s.0, sym s.1)
