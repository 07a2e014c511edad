-- The checks that writing an envelope, or a header alone, meets, each number with its condition: document 01, "What stops a call" (3, 6, 7, 8) and
-- "Envelope", and document 02, request 2 (1 for the letter, and 7 by the letter), request 7 (the header alone) and request 9 (18 for the letter F,
-- before every other). Number 0 stands for a call that nothing stops. proofs/Writing.antt shows that a call gets a number exactly where its condition
-- holds. Assumes nothing.
use Rattle.std.specs.Prelude.{ℕ, ◌+◌, ◌<◌, ◌≤◌, ◌≡◌, length}
use Rattle.envelope.specs.Layout.{letter_f, max_group, max_length, tag_length, Known, header, InRange}

-- a letter that envelopes are written with: one of an envelope, and not F
abbrev pub Written : ℕ → Type 0
Written letter = (letter ≡ letter_f → ⊥) × Known letter

-- letter, group and lengths are within their ranges, and the letter is not F
pub record ToWrite (letter group alen mlen : ℕ) : Type 0 where
  pub not_F : letter ≡ letter_f → ⊥
  pub in_range : InRange letter group alen mlen

-- The letter, the group and the lengths, of which one is out of range. Each check is met only where none before it is.
pub data RangeStop (letter group alen mlen : ℕ) : ℕ → Type 0 where
  only-read : letter ≡ letter_f → RangeStop letter group alen mlen 18
  bad-letter : (letter ≡ letter_f → ⊥) → tag_length letter ≡ 0 → RangeStop letter group alen mlen 1
  group-above : Written letter → max_group < group → RangeStop letter group alen mlen 3
  metadata-long : Written letter → group ≤ max_group → max_length < alen → RangeStop letter group alen mlen 6
  message-long : Written letter → group ≤ max_group → alen ≤ max_length → max_length < mlen → RangeStop letter group alen mlen 6

-- Writing an envelope to a buffer of `room` bytes: these first, then the tag's length by the letter, and then the room.
pub data WriteStop (letter group alen mlen tlen room : ℕ) : ℕ → Type 0 where
  out_of_range : {n : ℕ} → RangeStop letter group alen mlen n → WriteStop letter group alen mlen tlen room n
  tag-wrong : ToWrite letter group alen mlen → (tlen ≡ tag_length letter → ⊥) → WriteStop letter group alen mlen tlen room 7
  no_room : ToWrite letter group alen mlen → tlen ≡ tag_length letter
      → room < length (header letter group alen mlen) + alen + mlen + tlen → WriteStop letter group alen mlen tlen room 8
  writable : ToWrite letter group alen mlen → tlen ≡ tag_length letter
      → length (header letter group alen mlen) + alen + mlen + tlen ≤ room → WriteStop letter group alen mlen tlen room 0

-- Writing a header alone: these first, and then the room.
pub data HeaderStop (letter group alen mlen room : ℕ) : ℕ → Type 0 where
  header-out-of-range : {n : ℕ} → RangeStop letter group alen mlen n → HeaderStop letter group alen mlen room n
  header-no-room : ToWrite letter group alen mlen → room < length (header letter group alen mlen) → HeaderStop letter group alen mlen room 8
  header-writable : ToWrite letter group alen mlen → length (header letter group alen mlen) ≤ room → HeaderStop letter group alen mlen room 0
