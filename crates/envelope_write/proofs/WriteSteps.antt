-- What each test and each write of the code that makes an envelope comes to. Assumes nothing.
use Prim.Native.Nat.{ℕ, ◌+◌, ◌-◌, ◌<◌, ◌≤◌}
use mathlib.Core.Path.{◌≡◌, sym, ap, ◌∙◌}
use mathlib.Core.Bool.{cond}
use mathlib.Core.List.{List, [], ◌++◌, append_assoc, append-nil}
use native.Mathlib.Omega.{arith}
use lib.ListN.{length, take, drop, length-append, length-set, length-take, length-drop}
use lib.Seq.{take_at, drop_at}
use borrow.Rule.Slice.PartMut.{mid_of, post_of, put_mid}
use lib.Dec.{eqb, ltb}
use borrow.Author.Tests.{lt-ltb, le-ltb, eq-eqb, ne_eqb}
use Rattle.decimal.specs.Buffer.{written_at}
use Rattle.std.proofs.lemmas.Grind.{common_steps}
use Rattle.decimal.specs.Decimal.{decimal}
use Rattle.decimal.proofs.Laws.{decimal-within}
use Rattle.envelope.specs.Layout.{letter_f, max_group, max_length, tag_length, header}
use Rattle.envelope.proofs.Layouts.{header-length, header-longest, field-length, tag-bound}
use Rattle.envelope_write.specs.Checks.{Written, ToWrite}
use Rattle.envelope_write.specs.Write.{range_then, write_number, header_number}

-- how long what is written is
pub decimal_short : (n : ℕ) → n < 4294967296 → length (decimal n) ≤ 10
decimal_short n h = decimal-within 9 n (omega arith)

pub ruleset lengths = (decimal_short, header-length, field-length, length-set, length-append, length-take, length-drop)

module _ (letter group alen mlen n : ℕ) where
  -- the checks of letter, group and lengths; n is what comes after them
  pub range-18 : letter ≡ letter_f → range_then letter group alen mlen n ≡ 18
  unfolding range_then
  range-18 h = simp (eq-eqb letter letter_f h)

  pub range-1 : (letter ≡ letter_f → ⊥) → tag_length letter ≡ 0 → range_then letter group alen mlen n ≡ 1
  unfolding range_then
  range-1 f h = simp (ne_eqb letter letter_f f, eq-eqb (tag_length letter) 0 h)

  pub range-3 : Written letter → max_group < group → range_then letter group alen mlen n ≡ 3
  unfolding range_then
  range-3 l h = simp (ne_eqb letter letter_f l.0, ne_eqb (tag_length letter) 0 l.1, lt-ltb max_group group h)

  pub range-6-metadata : Written letter → group ≤ max_group → max_length < alen → range_then letter group alen mlen n ≡ 6
  unfolding range_then
  range-6-metadata l g h =
      simp (ne_eqb letter letter_f l.0, ne_eqb (tag_length letter) 0 l.1, le-ltb max_group group g, lt-ltb max_length alen h)

  pub range-6-message : Written letter → group ≤ max_group → alen ≤ max_length → max_length < mlen → range_then letter group alen mlen n ≡ 6
  unfolding range_then
  range-6-message l g a h =
      simp (ne_eqb letter letter_f l.0, ne_eqb (tag_length letter) 0 l.1, le-ltb max_group group g, le-ltb max_length alen a, lt-ltb max_length mlen h)

  pub range-passed : ToWrite letter group alen mlen → range_then letter group alen mlen n ≡ n
  unfolding range_then
  range-passed r =
      let i = r.in_range in
      simp (
        ne_eqb letter letter_f r.not_F,
        ne_eqb (tag_length letter) 0 i.known,
        le-ltb max_group group i.group_in_range,
        le-ltb max_length alen i.metadata_fits,
        le-ltb max_length mlen i.message_fits,
      )

module _ (letter group alen mlen tlen room : ℕ) (r : ToWrite letter group alen mlen) where
  -- the tests up to the tag's
  to-tag : write_number letter group alen mlen tlen room
      ≡ cond (eqb tlen (tag_length letter)) (cond (ltb room (length (header letter group alen mlen) + alen + mlen + tlen)) 8 0) 7
  unfolding write_number
  to-tag = range-passed letter group alen mlen _ r

  pub number-7 : (tlen ≡ tag_length letter → ⊥) → write_number letter group alen mlen tlen room ≡ 7
  number-7 h = to-tag ∙ simp (ne_eqb tlen (tag_length letter) h)

  -- n is the header's length
  module _ (t : tlen ≡ tag_length letter) (n : ℕ) (is-n : n ≡ length (header letter group alen mlen)) where
    pub number-8 : room < n + alen + mlen + tlen → write_number letter group alen mlen tlen room ≡ 8
    number-8 h = to-tag ∙ simp (eq-eqb tlen (tag_length letter) t, sym is-n, lt-ltb room (n + alen + mlen + tlen) h)

    pub number-0 : n + alen + mlen + tlen ≤ room → write_number letter group alen mlen tlen room ≡ 0
    number-0 h = to-tag ∙ simp (eq-eqb tlen (tag_length letter) t, sym is-n, le-ltb room (n + alen + mlen + tlen) h)

-- the same for a header alone, whose length is n
module _ (letter group alen mlen room : ℕ) (r : ToWrite letter group alen mlen) (n : ℕ) (is-n : n ≡ length (header letter group alen mlen)) where
  pub header-8 : room < n → header_number letter group alen mlen room ≡ 8
  unfolding header_number
  header-8 h = range-passed letter group alen mlen _ r ∙ simp (sym is-n, lt-ltb room n h)

  pub header-0 : n ≤ room → header_number letter group alen mlen room ≡ 0
  unfolding header_number
  header-0 h = range-passed letter group alen mlen _ r ∙ simp (sym is-n, le-ltb room n h)

-- a run written behind others, to the part of the buffer that begins where these end
pub written-behind : (buffer : List ℕ) {out after : List ℕ} (bytes more : List ℕ) (at : ℕ) → at ≡ length bytes → at + length more ≤ length buffer
    → out ≡ written_at buffer 0 bytes → after ≡ written_at (mid_of at (length out - at) out) 0 more
    → put_mid at (length out - at) out after ≡ written_at buffer 0 (bytes ++ more)
unfolding written_at
written-behind buffer {out} {after} bytes more at is-at room before is-after =
    let whole : out ≡ bytes ++ drop at buffer = before ∙ ap (λ (k : ℕ). bytes ++ drop k buffer) (omega arith) in
    let size : length out ≡ length buffer = ap length whole ∙ simp (length-append, length-drop) (omega arith) in
    let front : take at out ≡ bytes = ap (take at) whole ∙ take_at bytes (drop at buffer) at (sym is-at) in
    let rest : drop at out ≡ drop at buffer = ap (drop at) whole ∙ drop_at bytes (drop at buffer) at (sym is-at) in
    let left : length (drop at buffer) ≡ length out - at = simp length-drop (omega arith) in
    let part : mid_of at (length out - at) out ≡ drop at buffer = ap (take (length out - at)) rest ∙ grind (arith, common_steps) in
    let end : post_of at (length out - at) out ≡ [] = ap (drop (length out - at)) rest ∙ grind (arith, common_steps) in
    let written : after ≡ more ++ drop (at + length more) buffer =
    is-after ∙ ap (λ (l : List ℕ). more ++ drop (0 + length more) l) part ∙ ap (λ (l : List ℕ). more ++ l) (grind (arith, common_steps)) in
    let size₂ : 0 + length (bytes ++ more) ≡ at + length more = simp length-append (omega arith) in
    simp (front, written, end, append-nil, append_assoc) (ap (λ (k : ℕ). bytes ++ (more ++ drop k buffer)) (sym size₂))
