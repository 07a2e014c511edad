-- A writer, of an envelope or of a header alone, gives a number exactly where its condition holds. Assumes nothing.
use Rattle.std.specs.Prelude.{Result, Ok, Err}
use Rattle.refusals.specs.declared.Refusal.{Refusal}
use Rattle.refusals.specs.Numbers.{number_of}
use Rattle.refusals.proofs.Numbers.{number-tells, number-positive}
use Prim.Native.Nat.{ℕ, ◌+◌, ◌<◌, ◌≤◌}
use mathlib.Core.Path.{◌≡◌, refl, sym, ap, ◌∙◌, subst}
use mathlib.Core.Logic.{◌↔◌, ◌⊎◌, inl, inr}
use mathlib.Core.Bool.{Bool, true, false}
use mathlib.Core.List.{List}
use native.Mathlib.Omega.{arith}
use lib.ListN.{length}
use lib.Dec.{eqb}
use borrow.Author.Tests.{ne_eqb, eqb-true, eqb-false}
use Rattle.decimal.specs.Buffer.{written_at}
use Rattle.decimal.proofs.Laws.{lt-or-le}
use Rattle.envelope.specs.Layout.{letter_f, max_group, max_length, tag_length, Known, header}
use Rattle.envelope_write.specs.Checks.{Written, ToWrite, RangeStop, only-read, bad-letter, group-above, metadata-long, message-long, WriteStop, out_of_range, tag-wrong, no_room, writable, HeaderStop, header-out-of-range, header-no-room, header-writable}
use Rattle.envelope_write.specs.Write.{range_then, write_number, header_number, write_result, answer_by, buffer_by}
use Rattle.envelope_write.specs.declared.WriteResult.{WriteResult}
use Rattle.envelope_write.proofs.WriteSteps.{range-18, range-1, range-3, range-6-metadata, range-6-message, range-passed, number-7, number-8, number-0, header-8, header-0}

eq-or-ne : (a b : ℕ) → (a ≡ b) ⊎ (a ≡ b → ⊥)
eq-or-ne a b = go (eqb a b) refl
  where
    go : (t : Bool) → eqb a b ≡ t → (a ≡ b) ⊎ (a ≡ b → ⊥)
    go true e = inl (eqb-true a b e)
    go false e = inr (eqb-false a b e)

module _ (letter group alen mlen : ℕ) where
  -- a check of letter, group or lengths that is met gives its number, whatever comes after, and that is not 0
  range-given : (after : ℕ) {n : ℕ} → RangeStop letter group alen mlen n → range_then letter group alen mlen after ≡ n
  range-given after (only-read h) = range-18 letter group alen mlen after h
  range-given after (bad-letter f h) = range-1 letter group alen mlen after f h
  range-given after (group-above l h) = range-3 letter group alen mlen after l h
  range-given after (metadata-long l g h) = range-6-metadata letter group alen mlen after l g h
  range-given after (message-long l g a h) = range-6-message letter group alen mlen after l g a h

  range-not-0 : {n : ℕ} → RangeStop letter group alen mlen n → n ≡ 0 → ⊥
  range-not-0 (only-read h) z = omega arith
  range-not-0 (bad-letter f h) z = omega arith
  range-not-0 (group-above l h) z = omega arith
  range-not-0 (metadata-long l g h) z = omega arith
  range-not-0 (message-long l g a h) z = omega arith

  -- one of them is met, or all are within their ranges
  abbrev RangeCases : Type 0
  RangeCases = ToWrite letter group alen mlen ⊎ ((n : ℕ) × RangeStop letter group alen mlen n)

  range-cases : RangeCases
  range-cases = by-F (eq-or-ne letter letter_f)
    where
      by-message : Written letter → group ≤ max_group → alen ≤ max_length → (max_length < mlen) ⊎ (mlen ≤ max_length) → RangeCases
      by-message l g a (inl h) = inr (6, message-long l g a h)
      by-message l g a (inr m) =
          inl (record { not_F = l.0; in_range = record { known = l.1; group_in_range = g; metadata_fits = a; message_fits = m } })

      by-metadata : Written letter → group ≤ max_group → (max_length < alen) ⊎ (alen ≤ max_length) → RangeCases
      by-metadata l g (inl h) = inr (6, metadata-long l g h)
      by-metadata l g (inr a) = by-message l g a (lt-or-le max_length mlen)

      by-group : Written letter → (max_group < group) ⊎ (group ≤ max_group) → RangeCases
      by-group l (inl h) = inr (3, group-above l h)
      by-group l (inr g) = by-metadata l g (lt-or-le max_length alen)

      by-letter : (letter ≡ letter_f → ⊥) → (tag_length letter ≡ 0) ⊎ Known letter → RangeCases
      by-letter f (inl h) = inr (1, bad-letter f h)
      by-letter f (inr l) = by-group (f, l) (lt-or-le max_group group)

      by-F : (letter ≡ letter_f) ⊎ (letter ≡ letter_f → ⊥) → RangeCases
      by-F (inl h) = inr (18, only-read h)
      by-F (inr f) = by-letter f (eq-or-ne (tag_length letter) 0)

  -- a check that is met stays, whatever comes after
  pub range-kept : (e : Refusal) (after : ℕ) → number_of e ≡ range_then letter group alen mlen 0 → number_of e ≡ range_then letter group alen mlen after
  range-kept e after is = go range-cases
    where
      go : RangeCases → number_of e ≡ range_then letter group alen mlen after
      go (inl i) = let no : ⊥ = omega (arith, number-positive e, range-passed letter group alen mlen 0 i) in absurd no
      go (inr s) = is ∙ range-given 0 s.1 ∙ sym (range-given after s.1)

module _ (letter group alen mlen tlen room : ℕ) where
  -- whose condition holds, that number is given
  pub stop-given : (n : ℕ) → WriteStop letter group alen mlen tlen room n → write_number letter group alen mlen tlen room ≡ n
  unfolding write_number
  stop-given n (out_of_range h) = range-given letter group alen mlen _ h
  stop-given n (tag-wrong i h) = number-7 letter group alen mlen tlen room i h
  stop-given n (no_room i t h) = number-8 letter group alen mlen tlen room i t _ refl h
  stop-given n (writable i t h) = number-0 letter group alen mlen tlen room i t _ refl h

  -- the condition of some number holds
  abbrev Stops : Type 0
  Stops = (n : ℕ) × WriteStop letter group alen mlen tlen room n

  some-stop : Stops
  some-stop = by-range (range-cases letter group alen mlen)
    where
      by-room : ToWrite letter group alen mlen → tlen ≡ tag_length letter
          → (room < length (header letter group alen mlen) + alen + mlen + tlen) ⊎ (length (header letter group alen mlen) + alen + mlen + tlen ≤ room)
          → Stops
      by-room i t (inl h) = (8, no_room i t h)
      by-room i t (inr h) = (0, writable i t h)

      by-tag : ToWrite letter group alen mlen → (tlen ≡ tag_length letter) ⊎ (tlen ≡ tag_length letter → ⊥) → Stops
      by-tag i (inl t) = by-room i t (lt-or-le room _)
      by-tag i (inr h) = (7, tag-wrong i h)

      by-range : RangeCases letter group alen mlen → Stops
      by-range (inl i) = by-tag i (eq-or-ne tlen (tag_length letter))
      by-range (inr s) = (s.0, out_of_range s.1)

  -- Writing an envelope gives a number exactly where its condition holds.
  pub write-number-exact : (n : ℕ) → (write_number letter group alen mlen tlen room ≡ n) ↔ WriteStop letter group alen mlen tlen room n
  write-number-exact n = (
    (λ e. subst (WriteStop letter group alen mlen tlen room) (sym (stop-given some-stop.0 some-stop.1) ∙ e) some-stop.1),
    stop-given n,
  )

  -- what is known where nothing stops the call
  pub record Writable : Type 0 where
    pub to_write : ToWrite letter group alen mlen
    pub tag_fits : tlen ≡ tag_length letter
    pub room_fits : length (header letter group alen mlen) + alen + mlen + tlen ≤ room

  pub accepted : 0 ≡ write_number letter group alen mlen tlen room → Writable
  accepted is = go 0 refl ((write-number-exact 0).0 (sym is))
    where
      go : (n : ℕ) → n ≡ 0 → WriteStop letter group alen mlen tlen room n → Writable
      go n z (out_of_range h) = absurd (range-not-0 letter group alen mlen h z)
      go n z (tag-wrong i h) = let none : ⊥ = omega arith in absurd none
      go n z (no_room i t h) = let none : ⊥ = omega arith in absurd none
      go n z (writable i t h) = record { to_write = i; tag_fits = t; room_fits = h }

module _ (letter group alen mlen room : ℕ) where
  pub header-given : (n : ℕ) → HeaderStop letter group alen mlen room n → header_number letter group alen mlen room ≡ n
  unfolding header_number
  header-given n (header-out-of-range h) = range-given letter group alen mlen _ h
  header-given n (header-no-room i h) = header-8 letter group alen mlen room i _ refl h
  header-given n (header-writable i h) = header-0 letter group alen mlen room i _ refl h

  header-stop : (n : ℕ) × HeaderStop letter group alen mlen room n
  header-stop = by-range (range-cases letter group alen mlen)
    where
      by-room : ToWrite letter group alen mlen → (room < length (header letter group alen mlen)) ⊎ (length (header letter group alen mlen) ≤ room)
          → (n : ℕ) × HeaderStop letter group alen mlen room n
      by-room i (inl h) = (8, header-no-room i h)
      by-room i (inr h) = (0, header-writable i h)

      by-range : RangeCases letter group alen mlen → (n : ℕ) × HeaderStop letter group alen mlen room n
      by-range (inl i) = by-room i (lt-or-le room _)
      by-range (inr s) = (s.0, header-out-of-range s.1)

  -- Writing a header alone gives a number exactly where its condition holds.
  pub header-number-exact : (n : ℕ) → (header_number letter group alen mlen room ≡ n) ↔ HeaderStop letter group alen mlen room n
  header-number-exact n = (
    (λ e. subst (HeaderStop letter group alen mlen room) (sym (header-given header-stop.0 header-stop.1) ∙ e) header-stop.1),
    header-given n,
  )

  -- where nothing stops the call, all is in range, and there is room
  pub header-accepted : 0 ≡ header_number letter group alen mlen room → ToWrite letter group alen mlen × (length (header letter group alen mlen) ≤ room)
  header-accepted is = go 0 refl ((header-number-exact 0).0 (sym is))
    where
      go : (n : ℕ) → n ≡ 0 → HeaderStop letter group alen mlen room n → ToWrite letter group alen mlen × (length (header letter group alen mlen) ≤ room)
      go n z (header-out-of-range h) = absurd (range-not-0 letter group alen mlen h z)
      go n z (header-no-room i h) = let none : ⊥ = omega arith in absurd none
      go n z (header-writable i h) = (i, h)

-- the answer and the buffer of a call that is stopped, and of one that is not, by the check and the bytes to be written
module _ (check : ℕ) (bytes buffer : List ℕ) where
  pub stopped : (n : ℕ) → n ≡ check → (n ≡ 0 → ⊥)
      → (◌≡◌ {A = WriteResult} (record { number = n; len = 0 }) (answer_by check bytes)) × (buffer ≡ buffer_by check bytes buffer)
  stopped n is h = (sym (simp (sym is, ne_eqb n 0 h)), sym (simp (sym is, ne_eqb n 0 h)))

  pub done : (n : ℕ) (after : List ℕ) → 0 ≡ check → n ≡ length bytes → after ≡ written_at buffer 0 bytes
      → (◌≡◌ {A = WriteResult} (record { number = 0; len = n }) (answer_by check bytes)) × (after ≡ buffer_by check bytes buffer)
  done n after z is-n is-after = (sym (simp (sym z, sym is-n)), is-after ∙ sym (simp (sym z)))

  -- the same of what a function gives, which stops with the check e
  pub refused : (e : Refusal) {r : Result ℕ Refusal} → number_of e ≡ check → r ≡ Err e
      → (write_result r ≡ answer_by check bytes) × (buffer ≡ buffer_by check bytes buffer)
  refused e is given =
      let s = stopped (number_of e) is (λ z. omega (arith, number-positive e)) in
      (ap write_result given ∙ s.0, s.1)

-- what C gets tells what writing gave: no bit of it is left open
pub write-tells : (a b : Result ℕ Refusal) → write_result a ≡ write_result b → a ≡ b
write-tells (Ok m) (Ok n) h = ap (λ (r : WriteResult). Ok r.len) h
write-tells (Ok m) (Err f) h = let bad : ⊥ = omega (arith, ap (λ (r : WriteResult). r.number) h, number-positive f) in absurd bad
write-tells (Err e) (Ok n) h = let bad : ⊥ = omega (arith, ap (λ (r : WriteResult). r.number) h, number-positive e) in absurd bad
write-tells (Err e) (Err f) h = ap Err (number-tells e f (ap (λ (r : WriteResult). r.number) h))
