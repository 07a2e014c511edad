-- A header is taken exactly where it is the layout's, with the letter, the lengths and the group that are wanted and nothing before or after it
-- (document 02, request 7). Assumes nothing.
use Rattle.std.specs.Prelude.{Option, Some, None, Ok}
use Prim.Native.Nat.{ℕ, ◌≤◌}
use mathlib.Core.Path.{◌≡◌, refl, sym, ap, ◌∙◌, subst}
use mathlib.Core.Logic.{◌↔◌}
use mathlib.Core.Bool.{true, ◌&&◌, and-eq-true_iff}
use mathlib.Core.List.{List, [], ◌++◌, append-nil}
use native.Mathlib.Omega.{arith}
use lib.ListN.{length, drop}
use lib.Seq.{drop-length}
use lib.Dec.{eqb}
use borrow.Author.Tests.{eq-eqb, eqb-true}
use Rattle.decimal.specs.Decimal.{decimal, decimal_within}
use Rattle.decimal.proofs.Laws.{decimal-some}
use Rattle.envelope.specs.Layout.{letter_s, letter_n, max_group, max_length, header, InRange, Begins}
use Rattle.envelope.specs.Read.{a_header, read_header, read_envelope, header_part, metadata_part, cryptogram_part}
use Rattle.envelope.specs.declared.Header.{Header}
use Rattle.envelope.specs.declared.Envelope.{Envelope}
use Rattle.envelope.proofs.Headers.{header-sound, header-complete}
use Rattle.envelope.proofs.Layouts.{header-length, header-longest, header-of-17, tag-of-S, tag-of-N}
use Rattle.envelope.proofs.Reading.{envelope-sound}
use Rattle.envelope.proofs.Spelling.{header-part-is}
use Rattle.headers.specs.Fits.{found_for, of_group, fits, fits_group}

-- the bytes x are the layout's header of this letter, this group and these lengths, in range
abbrev pub IsHeader : (letter g a m : ℕ) → List ℕ → Type 0
IsHeader letter g a m x = InRange letter g a m × (x ≡ header letter g a m)

-- the four tests, where all were passed
tests-of : (letter a m n : ℕ) (h : Header) → found_for letter a m n (Some h) ≡ true → (h.letter ≡ letter) × (h.alen ≡ a) × (h.mlen ≡ m) × (h.place ≡ n)
unfolding found_for
tests-of letter a m n h e =
    let t₁ = (and-eq-true_iff (eqb h.letter letter) (eqb h.alen a && (eqb h.mlen m && eqb h.place n))).0 e in
    let t₂ = (and-eq-true_iff (eqb h.alen a) (eqb h.mlen m && eqb h.place n)).0 t₁.1 in
    let t₃ = (and-eq-true_iff (eqb h.mlen m) (eqb h.place n)).0 t₂.1 in
    (eqb-true _ _ t₁.0, eqb-true _ _ t₂.0, eqb-true _ _ t₃.0, eqb-true _ _ t₃.1)

-- bytes that are taken are the header of the group that was read
taken : (letter a m : ℕ) (x : List ℕ) → fits letter a m x ≡ true → (h : Header) × (read_header x ≡ Some h) × IsHeader letter h.group a m x
unfolding fits found_for
taken letter a m x e = go (read_header x) refl e
  where
    go : (o : Option Header) → read_header x ≡ o → found_for letter a m (length x) o ≡ true → (h : Header) × (read_header x ≡ Some h) × IsHeader letter h.group a m x
    go None is e = let no : ⊥ = cc in absurd no
    go (Some h) is e =
        let t = tests-of letter a m (length x) h e in
        let b : Begins x letter h.group a m (drop (length x) x) = simp (t.0, t.1, t.2, t.3) at (header-sound x h is).0 in
        (h, is, (b.in_range, b.bytes ∙ ap (λ (l : List ℕ). header letter h.group a m ++ l) (drop-length x) ∙ append-nil (header letter h.group a m)))

-- and a header that follows the layout is taken
module _ (letter g a m : ℕ) (x : List ℕ) (is : IsHeader letter g a m x) where
  read_as : read_header x ≡ Some (a_header letter g a m (length (header letter g a m)))
  read_as = header-complete x letter g a m [] (record { in_range = is.0; bytes = is.1 ∙ sym (append-nil (header letter g a m)) })

  takes : fits letter a m x ≡ true
  unfolding fits found_for
  takes =
      ap (found_for letter a m (length x)) read_as
      ∙ simp (eq-eqb letter letter refl, eq-eqb a a refl, eq-eqb m m refl, eq-eqb (length (header letter g a m)) (length x) (ap length (sym is.1)))

-- A header of a letter and two lengths is taken exactly where it is the layout's, of some group.
pub fits-exactly : (letter a m : ℕ) (x : List ℕ) → (fits letter a m x ≡ true) ↔ ((g : ℕ) × InRange letter g a m × (x ≡ header letter g a m))
fits-exactly letter a m x = (
  (λ e. let t = taken letter a m x e in (t.0.group, t.2.0, t.2.1)),
  (λ p. takes letter p.0 a m x (p.1, p.2)),
)

-- With a group it is taken exactly where it is the layout's, of that group.
pub fits-group-exactly : (letter g a m : ℕ) (x : List ℕ) → (fits_group letter g a m x ≡ true) ↔ (InRange letter g a m × (x ≡ header letter g a m))
unfolding fits_group
fits-group-exactly letter g a m x = (
  (λ e.
      let t = (and-eq-true_iff (of_group g (read_header x)) (fits letter a m x)).0 e in
      let h = taken letter a m x t.1 in
      subst (λ (k : ℕ). IsHeader letter k a m x) (eqb-true h.0.group g (sym (ap (of_group g) h.1) ∙ t.0)) h.2),
  (λ is.
      (and-eq-true_iff (of_group g (read_header x)) (fits letter a m x)).1 (
        ap (of_group g) (read_as letter g a m x is) ∙ eq-eqb g g refl,
        takes letter g a m x is,
      )),
)

-- What is taken with a group is taken without one.
pub fits-of-group : (letter g a m : ℕ) (x : List ℕ) → fits_group letter g a m x ≡ true → fits letter a m x ≡ true
fits-of-group letter g a m x e = takes letter g a m x ((fits-group-exactly letter g a m x).0 e)

-- It has at most 17 bytes, and at least 8.
pub fits-short : (letter a m : ℕ) (x : List ℕ) → fits letter a m x ≡ true → length x ≤ 17
fits-short letter a m x e = let t = taken letter a m x e in omega (arith, ap length t.2.1, header-longest t.2.0)

pub fits-long : (letter a m : ℕ) (x : List ℕ) → fits letter a m x ≡ true → 8 ≤ length x
fits-long letter a m x e =
    let t = taken letter a m x e in
    omega (arith, ap length t.2.1, header-length letter t.0.group a m, decimal-some t.0.group, decimal-some a, decimal-some m)

-- There are headers of 17 and of 8 bytes, as `S,31,16384,16384,` and `N,0,0,0,`.
pub fits-of-17 : (fits_group letter_s max_group max_length max_length (header letter_s max_group max_length max_length) ≡ true)
    × (length (header letter_s max_group max_length max_length) ≡ 17)
fits-of-17 = (
  (fits-group-exactly letter_s max_group max_length max_length _).1 (
    record { known = λ z. omega (arith, tag-of-S); group_in_range = omega arith; metadata_fits = omega arith; message_fits = omega arith },
    refl,
  ),
  header-of-17 letter_s,
)

pub fits-of-8 : (fits_group letter_n 0 0 0 (header letter_n 0 0 0) ≡ true) × (length (header letter_n 0 0 0) ≡ 8)
unfolding decimal decimal_within
fits-of-8 = (
  (fits-group-exactly letter_n 0 0 0 _).1 (
    record { known = λ z. omega (arith, tag-of-N); group_in_range = omega arith; metadata_fits = omega arith; message_fits = omega arith },
    refl,
  ),
  header-length letter_n 0 0 0,
)

-- The header's bytes of an envelope that is read are taken for its letter, its group and the lengths of its parts.
pub part-fits : (s : List ℕ) (e : Envelope) → read_envelope s ≡ Ok e
    → (fits_group e.letter e.group (length (metadata_part s)) (length (cryptogram_part s)) (header_part s) ≡ true)
    × (fits e.letter (length (metadata_part s)) (length (cryptogram_part s)) (header_part s) ≡ true)
part-fits s e read =
    let by-group : fits_group e.letter e.group (length (metadata_part s)) (length (cryptogram_part s)) (header_part s) ≡ true =
    (fits-group-exactly _ _ _ _ _).1 ((envelope-sound s e read).in_range, header-part-is s e read) in
    (by-group, fits-of-group _ _ _ _ _ by-group)
