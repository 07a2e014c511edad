-- The test of a call's header is what the layout says of one; the ledger's judgement of it is the same; and with a header A has at most 16,401
-- bytes. Assumes nothing.
use mathlib.Core.Bool.{Bool, true, false, ◌||◌, cond, true≢false}
use mathlib.Core.List.{List, [], ◌∷◌, ◌++◌, append-nil}
use mathlib.Core.Logic.{◌↔◌, ◌⊎◌, inl, inr}
use mathlib.Core.Path.{◌≡◌, refl, sym, ap, ap₂, ◌∙◌}
use Prim.Native.Nat.{ℕ, zero, suc, ◌+◌, ◌/◌, ◌%◌, ◌<◌, ◌≤◌}
use native.Mathlib.Omega.{arith}
use borrow.Author.Tests.{lt-ltb, le-ltb, ltb-true, ltb-false}
use lib.Dec.{ltb}
use lib.ListN.{length, length-append}
use Rattle.word.proofs.Lists.{cons}
use Rattle.decimal.specs.Decimal.{decimal}
use Rattle.decimal.proofs.Laws.{lt-or-le, decimal-small, decimal-large}
use Rattle.envelope.specs.Layout.{comma, Known, InRange, header}
use Rattle.envelope.proofs.Layouts.{header-longest, header-then}
use Rattle.headers.specs.Fits.{fits}
use Rattle.headers.proofs.Exactly.{fits-exactly, fits-group-exactly}
use Rattle.modes.specs.Call.{CallHeader, bare, under, header_bytes, CallInput}
use Rattle.modes.specs.Header.{HeaderOf, FollowsLayout, ForGroup, header_fits, group_fits}
use Rattle.modes.specs.Ledger.{equal_tags, numeral, header_text, of_group, right_header, string_a}
use Rattle.modes.proofs.Entries.{equal_tags-refl, equal_tags-true}

-- ---- the tests

-- a test is false exactly where what it says does not hold
not-holds : {P : Type 0} {t : Bool} → (t ≡ true) ↔ P → (t ≡ false) ↔ (P → ⊥)
not-holds {P} {t} h = (λ e p. true≢false (sym (h.1 p) ∙ e), go t h)
  where
    go : (t : Bool) → (t ≡ true) ↔ P → (P → ⊥) → t ≡ false
    go true h n = absurd (n (h.0 refl))
    go false h n = refl

-- two tests of one thing are equal
same_test : {P : Type 0} {s t : Bool} → (s ≡ true) ↔ P → (t ≡ true) ↔ P → s ≡ t
same_test {P} {s} {t} h g = go s refl
  where
    go : (q : Bool) → s ≡ q → s ≡ t
    go true e = e ∙ sym (g.1 (h.0 e))
    go false e = e ∙ sym ((not-holds g).1 ((not-holds h).0 e))

module _ (letter : ℕ) (i : CallInput) where
  pub fits-follows : (header_fits letter i.header (length i.metadata) (length i.text) ≡ true) ↔ FollowsLayout letter i
  fits-follows = (go i.header refl, back)
    where
      go : (h : CallHeader) → i.header ≡ h → header_fits letter h (length i.metadata) (length i.text) ≡ true → FollowsLayout letter i
      go bare e k = FollowsLayout.without e
      go (under x) e k =
          let z = (fits-exactly letter (length i.metadata) (length i.text) x).0 k in
          FollowsLayout.of-group z.0 (record { in_range = z.1; bytes = e ∙ ap under z.2 })

      back : FollowsLayout letter i → header_fits letter i.header (length i.metadata) (length i.text) ≡ true
      back (FollowsLayout.without e) = ap (λ (h : CallHeader). header_fits letter h (length i.metadata) (length i.text)) e
      back (FollowsLayout.of-group g o) =
          ap (λ (h : CallHeader). header_fits letter h (length i.metadata) (length i.text)) o.bytes
          ∙ (fits-exactly letter (length i.metadata) (length i.text) _).1 (g, o.in_range, refl)

  pub fits_not : (header_fits letter i.header (length i.metadata) (length i.text) ≡ false) ↔ (FollowsLayout letter i → ⊥)
  fits_not = not-holds fits-follows

  pub fits-group : (group : ℕ) → (group_fits letter group i.header (length i.metadata) (length i.text) ≡ true) ↔ ForGroup letter group i
  fits-group group = (go i.header refl, back)
    where
      go : (h : CallHeader) → i.header ≡ h → group_fits letter group h (length i.metadata) (length i.text) ≡ true → ForGroup letter group i
      go bare e k = ForGroup.without e
      go (under x) e k =
          let z = (fits-group-exactly letter group (length i.metadata) (length i.text) x).0 k in
          ForGroup.its_own (record { in_range = z.0; bytes = e ∙ ap under z.1 })

      back : ForGroup letter group i → group_fits letter group i.header (length i.metadata) (length i.text) ≡ true
      back (ForGroup.without e) = ap (λ (h : CallHeader). group_fits letter group h (length i.metadata) (length i.text)) e
      back (ForGroup.its_own o) =
          ap (λ (h : CallHeader). group_fits letter group h (length i.metadata) (length i.text)) o.bytes
          ∙ (fits-group-exactly letter group (length i.metadata) (length i.text) _).1 (o.in_range, refl)

  pub fits-group-not : (group : ℕ) → (group_fits letter group i.header (length i.metadata) (length i.text) ≡ false) ↔ (ForGroup letter group i → ⊥)
  fits-group-not group = not-holds (fits-group group)

  -- a header of the call's group is one of some group
  pub group-follows : {group : ℕ} → ForGroup letter group i → FollowsLayout letter i
  group-follows (ForGroup.without e) = FollowsLayout.without e
  group-follows {group} (ForGroup.its_own o) = FollowsLayout.of-group group o

  -- with a header that fits, or none, A has at most 16,401 bytes
  pub string-most : FollowsLayout letter i → length i.metadata ≤ 16384 → length (string_a i) ≤ 16401
  string-most (FollowsLayout.without e) h =
      omega (arith, length-append (header_bytes i.header) i.metadata, ap (λ (x : CallHeader). length (header_bytes x)) e)
  string-most (FollowsLayout.of-group g o) h =
      omega (
        arith,
        length-append (header_bytes i.header) i.metadata,
        ap (λ (x : CallHeader). length (header_bytes x)) o.bytes,
        header-longest o.in_range,
      )

-- ---- the ledger's text

-- a number of two digits and more, digit by digit
digits_2 : (n : ℕ) → 10 ≤ n → n < 100 → decimal n ≡ (48 + n / 10) ∷ (48 + n % 10) ∷ []
digits_2 n h l = decimal-large n h ∙ rw (decimal-small (n / 10) (omega arith)) refl

digits_3 : (n : ℕ) → 100 ≤ n → n < 1000 → decimal n ≡ (48 + n / 10 / 10) ∷ (48 + n / 10 % 10) ∷ (48 + n % 10) ∷ []
digits_3 n h l = decimal-large n (omega arith) ∙ rw (digits_2 (n / 10) (omega arith) (omega arith)) refl

digits_4 : (n : ℕ) → 1000 ≤ n → n < 10000
    → decimal n ≡ (48 + n / 10 / 10 / 10) ∷ (48 + n / 10 / 10 % 10) ∷ (48 + n / 10 % 10) ∷ (48 + n % 10) ∷ []
digits_4 n h l = decimal-large n (omega arith) ∙ rw (digits_3 (n / 10) (omega arith) (omega arith)) refl

digits_5 : (n : ℕ) → 10000 ≤ n → n < 100000
    → decimal n ≡ (48 + n / 10 / 10 / 10 / 10) ∷ (48 + n / 10 / 10 / 10 % 10) ∷ (48 + n / 10 / 10 % 10) ∷ (48 + n / 10 % 10) ∷ (48 + n % 10) ∷ []
digits_5 n h l = decimal-large n (omega arith) ∙ rw (digits_4 (n / 10) (omega arith) (omega arith)) refl

numeral-is : (n : ℕ) → n < 100000 → numeral n ≡ decimal n
unfolding numeral
numeral-is n h = go (lt-or-le n 10) (lt-or-le n 100) (lt-or-le n 1000) (lt-or-le n 10000)
  where
    go : (n < 10) ⊎ (10 ≤ n) → (n < 100) ⊎ (100 ≤ n) → (n < 1000) ⊎ (1000 ≤ n) → (n < 10000) ⊎ (10000 ≤ n) → numeral n ≡ decimal n
    go (inl a) b c d = rw (lt-ltb n 10 a) (cons (omega arith) refl) ∙ sym (decimal-small n a)
    go (inr a) (inl b) c d = rw (le-ltb n 10 a, lt-ltb n 100 b) (cons (omega arith) (cons (omega arith) refl)) ∙ sym (digits_2 n a b)
    go (inr a) (inr b) (inl c) d =
        rw (le-ltb n 10 a, le-ltb n 100 b, lt-ltb n 1000 c) (cons (omega arith) (cons (omega arith) (cons (omega arith) refl))) ∙ sym (digits_3 n b c)
    go (inr a) (inr b) (inr c) (inl d) =
        rw (le-ltb n 10 a, le-ltb n 100 b, le-ltb n 1000 c, lt-ltb n 10000 d)
        (cons (omega arith) (cons (omega arith) (cons (omega arith) (cons (omega arith) refl)))) ∙ sym (digits_4 n c d)
    go (inr a) (inr b) (inr c) (inr d) =
        rw (le-ltb n 10 a, le-ltb n 100 b, le-ltb n 1000 c, le-ltb n 10000 d)
        (cons (omega arith) (cons (omega arith) (cons (omega arith) (cons (omega arith) (cons (omega arith) refl))))) ∙ sym (digits_5 n d h)

pub text-is : {letter group A M : ℕ} → InRange letter group A M → header_text letter group A M ≡ header letter group A M
unfolding header_text
text-is {letter} {group} {A} {M} r =
    rw (numeral-is group (omega arith), numeral-is A (omega arith), numeral-is M (omega arith))
    (sym (header-then letter group A M []) ∙ append-nil (header letter group A M))

-- ---- the ledger's judgement

module _ (letter : ℕ) (known : Known letter) (A M : ℕ) (x : List ℕ) where
  -- bytes that are the text of one of the first n groups
  group-found : (n : ℕ) → of_group n letter A M x ≡ true → (g : ℕ) × (g < n) × (x ≡ header_text letter g A M)
  unfolding of_group
  group-found zero h = absurd (true≢false (sym h))
  group-found (suc n) h = go (equal_tags x (header_text letter n A M)) refl h (group-found n)
    where
      go : (q : Bool) → equal_tags x (header_text letter n A M) ≡ q → q || of_group n letter A M x ≡ true
          → (of_group n letter A M x ≡ true → (g : ℕ) × (g < n) × (x ≡ header_text letter g A M)) → (g : ℕ) × (g < suc n) × (x ≡ header_text letter g A M)
      go true e k ih = (n, omega arith, equal_tags-true x (header_text letter n A M) e)
      go false e k ih = let z = ih k in (z.0, omega (arith, z.1), z.2)

  found-group : (n g : ℕ) → g < n → x ≡ header_text letter g A M → of_group n letter A M x ≡ true
  unfolding of_group
  found-group zero g h e = absurd (omega arith)
  found-group (suc n) g h e = go (lt-or-le g n) (found-group n g)
    where
      go : (g < n) ⊎ (n ≤ g) → (g < n → x ≡ header_text letter g A M → of_group n letter A M x ≡ true)
          → equal_tags x (header_text letter n A M) || of_group n letter A M x ≡ true
      go (inl l) ih = rw (ih l e) (or-true (equal_tags x (header_text letter n A M)))
        where
          or-true : (q : Bool) → q || true ≡ true
          or-true true = refl
          or-true false = refl
      go (inr l) ih =
          let k : g ≡ n = omega arith in
          rw (ap (equal_tags x) (ap (λ (j : ℕ). header_text letter j A M) (sym k) ∙ sym e) ∙ equal_tags-refl x) refl

  text-exactly : (right_header letter (under x) A M ≡ true) ↔ ((g : ℕ) × InRange letter g A M × (x ≡ header letter g A M))
  text-exactly = (go (ltb 16384 A) (ltb 16384 M) refl refl, back)
    where
      go : (p q : Bool) → ltb 16384 A ≡ p → ltb 16384 M ≡ q → cond (p || q) false (of_group 32 letter A M x) ≡ true
          → (g : ℕ) × InRange letter g A M × (x ≡ header letter g A M)
      go true q s t k = absurd (true≢false (sym k))
      go false true s t k = absurd (true≢false (sym k))
      go false false s t k =
          let z = group-found 32 k in
          let r : InRange letter z.0 A M = record {
            known = known;
            group_in_range = omega (arith, z.1);
            metadata_fits = ltb-false 16384 A s;
            message_fits = ltb-false 16384 M t;
          } in
          (z.0, r, z.2 ∙ text-is r)

      back : (g : ℕ) × InRange letter g A M × (x ≡ header letter g A M) → right_header letter (under x) A M ≡ true
      back z =
          rw (le-ltb 16384 A z.1.metadata_fits, le-ltb 16384 M z.1.message_fits)
          (found-group 32 z.0 (omega (arith, z.1.group_in_range)) (z.2 ∙ sym (text-is z.1)))

-- the ledger's judgement is the rules' test
pub right_is : (letter : ℕ) → Known letter → (h : CallHeader) (A M : ℕ) → right_header letter h A M ≡ header_fits letter h A M
right_is letter known bare A M = refl
right_is letter known (under x) A M = same_test (text-exactly letter known A M x) (fits-exactly letter A M x)

-- so it is what the layout says
module _ (letter : ℕ) (known : Known letter) (i : CallInput) where
  pub right-follows : (right_header letter i.header (length i.metadata) (length i.text) ≡ true) ↔ FollowsLayout letter i
  right-follows =
      let e = right_is letter known i.header (length i.metadata) (length i.text) in
      (λ h. (fits-follows letter i).0 (sym e ∙ h), λ f. e ∙ (fits-follows letter i).1 f)

  pub right-not : (right_header letter i.header (length i.metadata) (length i.text) ≡ false) ↔ (FollowsLayout letter i → ⊥)
  right-not = not-holds right-follows
