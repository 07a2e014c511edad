-- What reading finds is exactly what the layout says: each number where its condition holds, and the parts of the envelope that stands there.
-- Assumes nothing.
use Rattle.std.specs.Prelude.{Option, Some, None, Result, Ok, Err}
use Rattle.refusals.specs.declared.Refusal.{Refusal}
use Rattle.refusals.specs.declared.Refusal.TheVariants.{BadHeader, TooFewBytes}
use Rattle.refusals.specs.Numbers.{number_of}
use Prim.Native.Nat.{ℕ, ◌+◌, ◌-◌, ◌≤◌, ◌<◌}
use mathlib.Core.Path.{◌≡◌, refl, sym, ap, ap₂, ◌∙◌, subst}
use mathlib.Core.Logic.{◌↔◌, ◌⊎◌, inl, inr}
use mathlib.Core.List.{List, [], ◌++◌, append_assoc}
use native.Mathlib.Omega.{arith}
use lib.ListN.{length, take, drop, length-append, length-drop, take-append-drop}
use lib.Seq.{drop_at, take_at, length-take-le}
use borrow.Author.Tests.{lt-ltb, le-ltb}
use Rattle.decimal.proofs.Laws.{lt-or-le}
use Rattle.envelope.specs.Layout.{tag_length, header, envelope, Begins, IsEnvelope}
use Rattle.envelope.specs.Read.{read_header, parts_of, parts_in, read_parts, an_envelope, answer_of, read_envelope, read_number, read_answer, between, run_of, header_part, metadata_part, cryptogram_part, tag_part}
use Rattle.envelope.specs.Checks.{ReadStop, bad-header, too_few, readable}
use Rattle.envelope.specs.declared.Header.{Header}
use Rattle.envelope.specs.declared.Parts.{Parts}
use Rattle.envelope.specs.declared.Envelope.{Envelope}
use Rattle.envelope.proofs.Headers.{header-sound, header-complete, header_refused}

-- the condition of some number holds
some-stop : (s : List ℕ) → (n : ℕ) × ReadStop s n
some-stop s = by-header (read_header s) refl
  where
    by-rest : (l g a m : ℕ) (rest : List ℕ) → Begins s l g a m rest → (length rest < a + m + tag_length l) ⊎ (a + m + tag_length l ≤ length rest) → (n : ℕ) × ReadStop s n
    by-rest l g a m rest h (inl less) = (2, too_few l g a m rest h less)
    by-rest l g a m rest h (inr enough) = (0, readable l g a m rest h enough)

    by-header : (o : Option Header) → read_header s ≡ o → (n : ℕ) × ReadStop s n
    by-header (Some h) e = by-rest _ _ _ _ _ (header-sound s h e).0 (lt-or-le _ _)
    by-header None e = (1, bad-header ((header_refused s).0 e))

-- what is found where each condition holds
parts-bad : (s : List ℕ) → ((l g a m : ℕ) (rest : List ℕ) → Begins s l g a m rest → ⊥) → read_parts s ≡ Err BadHeader
unfolding read_parts
parts-bad s none = ap (parts_in (length s)) ((header_refused s).1 none)

module _ (s : List ℕ) (letter group alen mlen : ℕ) (rest : List ℕ) (h : Begins s letter group alen mlen rest) where
  behind : length s - length (header letter group alen mlen) ≡ length rest
  behind = omega (arith, ap length h.bytes, length-append (header letter group alen mlen) rest)

  pub parts-few : length rest < alen + mlen + tag_length letter → read_parts s ≡ Err TooFewBytes
  unfolding read_parts parts_of
  parts-few less =
      ap (parts_in (length s)) (header-complete s letter group alen mlen rest h)
      ∙ simp (behind, lt-ltb (length rest) (alen + mlen + tag_length letter) less)

  pub parts_whole : alen + mlen + tag_length letter ≤ length rest
      → read_parts s ≡ Ok (record {
        letter = letter;
        group = group;
        metadata = length (header letter group alen mlen);
        cryptogram = length (header letter group alen mlen) + alen;
        tag = length (header letter group alen mlen) + alen + mlen;
        place = length (header letter group alen mlen) + (alen + mlen + tag_length letter);
      })
  unfolding read_parts parts_of
  parts_whole enough =
      ap (parts_in (length s)) (header-complete s letter group alen mlen rest h)
      ∙ simp (behind, le-ltb (length rest) (alen + mlen + tag_length letter) enough)

pub parts-number : (s : List ℕ) (n : ℕ) → ReadStop s n → read_number (read_envelope s) ≡ n
unfolding read_envelope
parts-number s n (bad-header none) = ap (λ r. read_number (answer_of r)) (parts-bad s none)
parts-number s n (too_few l g a m rest h less) = ap (λ r. read_number (answer_of r)) (parts-few s l g a m rest h less)
parts-number s n (readable l g a m rest h enough) = ap (λ r. read_number (answer_of r)) (parts_whole s l g a m rest h enough)

-- Reading gives a number exactly where its condition holds.
pub read-number-exact : (s : List ℕ) (n : ℕ) → (read_number (read_envelope s) ≡ n) ↔ ReadStop s n
read-number-exact s n =
    ((λ e. subst (ReadStop s) (sym (parts-number s (some-stop s).0 (some-stop s).1) ∙ e) (some-stop s).1), parts-number s n)

-- only a check is given: empty parts, the header's bytes too; and C gets its number, a zero byte for the letter, group 0 and 0 for each place
abbrev pub OnlyNumber : List ℕ → Type 0
OnlyNumber s =
    (e : Refusal) × (read_envelope s ≡ Err e) × (read_parts s ≡ Err e)
    × (read_answer (read_parts s) ≡ record { number = number_of e; letter = 0; group = 0; metadata = 0; cryptogram = 0; tag = 0; place = 0 })
    × (metadata_part s ≡ []) × (cryptogram_part s ≡ []) × (tag_part s ≡ []) × (header_part s ≡ [])

-- what C gets of a check that is met
answered : (e : Refusal) → read_answer (Err e) ≡ record { number = number_of e; letter = 0; group = 0; metadata = 0; cryptogram = 0; tag = 0; place = 0 }
answered e = grind arith

-- A refusal gives nothing but its check.
pub read-refused : (s : List ℕ) → (read_number (read_envelope s) ≡ 0 → ⊥) → OnlyNumber s
unfolding read_envelope header_part metadata_part cryptogram_part tag_part
read-refused s stopped = go (read_parts s) refl
  where
    go : (r : Result Parts Refusal) → read_parts s ≡ r → OnlyNumber s
    go (Err e) is = (e, simp is, is, ap read_answer is ∙ answered e, simp is, simp is, simp is, simp is)
    go (Ok p) is = absurd (stopped (simp is))

-- the places of the parts are in order and within the bytes
pub record InOrder (n : ℕ) (p : Parts) : Type 0 where
  pub first : p.metadata ≤ p.cryptogram
  pub second : p.cryptogram ≤ p.tag
  pub third : p.tag ≤ p.place
  pub inside : p.place ≤ n

pub in_order : (s : List ℕ) (p : Parts) → read_parts s ≡ Ok p → InOrder (length s) p
in_order s p e = go (some-stop s).0 (some-stop s).1
  where
    go : (n : ℕ) → ReadStop s n → InOrder (length s) p
    go n (bad-header none) = let h = parts-bad s none in let no : ⊥ = cc in absurd no
    go n (too_few l g a m rest h less) = let f = parts-few s l g a m rest h less in let no : ⊥ = cc in absurd no
    go n (readable l g a m rest h enough) =
        let q : Parts =
        record {
          letter = l;
          group = g;
          metadata = length (header l g a m);
          cryptogram = length (header l g a m) + a;
          tag = length (header l g a m) + a + m;
          place = length (header l g a m) + (a + m + tag_length l);
        } in
        let w : read_parts s ≡ Ok q = parts_whole s l g a m rest h enough in
        let is : q ≡ p = cc in
        subst (InOrder (length s)) is (omega (arith, ap length h.bytes, length-append (header l g a m) rest))

-- a run of bytes between others
between-at : (before run after : List ℕ) (i j : ℕ) → length before ≡ i → i + length run ≡ j → between i j (before ++ (run ++ after)) ≡ run
between-at before run after i j is-i is-j =
    ap (take (j - i)) (drop_at before (run ++ after) i is-i) ∙ take_at run after (j - i) (omega arith)

-- An envelope that stands there is read: its letter, its group, its parts, its length as the place after it, and the header's bytes. Whatever follows
-- it is free.
pub envelope-complete : (s : List ℕ) (letter group : ℕ) (metadata cryptogram tag rest : List ℕ) → IsEnvelope s letter group metadata cryptogram tag rest
    → (read_envelope s ≡ Ok (an_envelope letter group (length (envelope letter group metadata cryptogram tag))))
    × (metadata_part s ≡ metadata) × (cryptogram_part s ≡ cryptogram) × (tag_part s ≡ tag) × (header_part s ≡ header letter group (length metadata) (length cryptogram))
unfolding read_envelope header_part metadata_part cryptogram_part tag_part envelope
envelope-complete s letter group metadata cryptogram tag rest h =
    let head = header letter group (length metadata) (length cryptogram) in
    let whole : s ≡ head ++ (metadata ++ (cryptogram ++ (tag ++ rest))) = h.bytes ∙ simp append_assoc in
    let begins : Begins s letter group (length metadata) (length cryptogram) (metadata ++ (cryptogram ++ (tag ++ rest))) = record { in_range = h.in_range; bytes = whole } in
    let enough : length metadata + length cryptogram + tag_length letter ≤ length (metadata ++ (cryptogram ++ (tag ++ rest))) = simp length-append (omega (arith, h.tag_fits)) in
    let found = parts_whole s letter group (length metadata) (length cryptogram) (metadata ++ (cryptogram ++ (tag ++ rest))) begins enough in
    let total : length head + (length metadata + length cryptogram + tag_length letter) ≡ length (head ++ (metadata ++ (cryptogram ++ tag))) = simp length-append (omega (arith, h.tag_fits)) in
    let behind-metadata : s ≡ (head ++ metadata) ++ (cryptogram ++ (tag ++ rest)) = whole ∙ simp append_assoc in
    let behind-cryptogram : s ≡ ((head ++ metadata) ++ cryptogram) ++ (tag ++ rest) = whole ∙ simp append_assoc in (
      ap answer_of found ∙ ap (λ (k : ℕ). Ok (an_envelope letter group k)) total,
      ap (run_of (λ (p : Parts). between p.metadata p.cryptogram s)) found
          ∙ ap (between (length head) (length head + length metadata)) whole
          ∙ between-at head metadata (cryptogram ++ (tag ++ rest)) (length head) (length head + length metadata) refl refl,
      ap (run_of (λ (p : Parts). between p.cryptogram p.tag s)) found
          ∙ ap (between (length head + length metadata) (length head + length metadata + length cryptogram)) behind-metadata
          ∙ between-at (head ++ metadata) cryptogram (tag ++ rest) (length head + length metadata) (length head + length metadata + length cryptogram) (length-append head metadata) refl,
      ap (run_of (λ (p : Parts). between p.tag p.place s)) found
          ∙ ap (between (length head + length metadata + length cryptogram) (length head + (length metadata + length cryptogram + tag_length letter))) behind-cryptogram
          ∙ between-at ((head ++ metadata) ++ cryptogram) tag rest (length head + length metadata + length cryptogram)
          (length head + (length metadata + length cryptogram + tag_length letter))
          (simp length-append) (omega (arith, h.tag_fits)),
      ap (run_of (λ (p : Parts). between 0 p.metadata s)) found
          ∙ ap (between 0 (length head)) whole
          ∙ between-at [] head (metadata ++ (cryptogram ++ (tag ++ rest))) 0 (length head) refl (omega arith),
    )

-- enough bytes behind a header are the three parts and a rest
split : (s : List ℕ) (l g a m : ℕ) (rest : List ℕ) → Begins s l g a m rest → a + m + tag_length l ≤ length rest
    → (metadata : List ℕ) × (cryptogram : List ℕ) × (tag : List ℕ) × (after : List ℕ) × IsEnvelope s l g metadata cryptogram tag after
unfolding envelope
split s l g a m rest h enough =
    let t = tag_length l in
    let behind = drop a rest in
    let last = drop m behind in
    let la : length (take a rest) ≡ a = length-take-le a rest (omega arith) in
    let lb : length behind ≡ length rest - a = length-drop a rest in
    let lc : length (take m behind) ≡ m = length-take-le m behind (omega arith) in
    let ll : length last ≡ length behind - m = length-drop m behind in
    let lt : length (take t last) ≡ t = length-take-le t last (omega arith) in
    let joined : rest ≡ take a rest ++ (take m behind ++ (take t last ++ drop t last)) =
    sym (take-append-drop a rest) ∙ ap (λ (x : List ℕ). take a rest ++ x) (sym (take-append-drop m behind) ∙ ap (λ (x : List ℕ). take m behind ++ x) (sym (take-append-drop t last))) in (
      take a rest,
      take m behind,
      take t last,
      drop t last,
      record {
        in_range = record {
          known = h.in_range.known;
          group_in_range = h.in_range.group_in_range;
          metadata_fits = omega (arith, h.in_range.metadata_fits);
          message_fits = omega (arith, h.in_range.message_fits);
        };
        tag_fits = lt;
        bytes =
            h.bytes
            ∙ ap₂ (λ (x y : ℕ). header l g x y ++ rest) (sym la) (sym lc)
            ∙ ap (λ (x : List ℕ). header l g (length (take a rest)) (length (take m behind)) ++ x) joined
            ∙ simp append_assoc;
      },
    )

-- the envelope e, read at the start of the bytes s, is made of what reading them gives, and its place is where it ends
abbrev pub AsRead : List ℕ → Envelope → Type 0
AsRead s e = IsEnvelope s e.letter e.group (metadata_part s) (cryptogram_part s) (tag_part s) (drop e.place s)

-- Bytes that are read without a refusal begin with the envelope of the letter, the group and the three parts that reading gives.
pub envelope-sound : (s : List ℕ) (e : Envelope) → read_envelope s ≡ Ok e → AsRead s e
envelope-sound s e read = go 0 refl ((read-number-exact s 0).0 (ap read_number read))
  where
    given : (l g : ℕ) (metadata cryptogram tag after : List ℕ) → IsEnvelope s l g metadata cryptogram tag after → AsRead s e
    given l g metadata cryptogram tag after h =
        let c = envelope-complete s l g metadata cryptogram tag after h in
        let is : an_envelope l g (length (envelope l g metadata cryptogram tag)) ≡ e = cc in
        let rest : drop (length (envelope l g metadata cryptogram tag)) s ≡ after =
        ap (drop (length (envelope l g metadata cryptogram tag))) h.bytes
        ∙ drop_at (envelope l g metadata cryptogram tag) after (length (envelope l g metadata cryptogram tag)) refl in
        subst (AsRead s) is (simp (c.1, c.2, c.3, rest) h)

    go : (n : ℕ) → n ≡ 0 → ReadStop s n → AsRead s e
    go n z (bad-header none) = let no_way : ⊥ = omega arith in absurd no_way
    go n z (too_few l g a m rest h less) = let no_way : ⊥ = omega arith in absurd no_way
    go n z (readable l g a m rest h enough) = let p = split s l g a m rest h enough in given l g p.0 p.1 p.2 p.3 p.4
