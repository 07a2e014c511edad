-- The size and the day of a line are found exactly where they are spelled. Assumes nothing.
use Rattle.std.specs.Prelude.{Option, Some, None}
use Rattle.std.specs.Bool.{then_some}
use Rattle.std.proofs.lemmas.Option.{option_and_then_some}
use Prim.Native.Nat.{ℕ, zero, suc, ◌+◌, ◌*◌, ◌/◌, ◌%◌, ◌^◌, ◌<◌, ◌≤◌}
use mathlib.Core.Path.{◌≡◌, refl, sym, ap, ap₂, ◌∙◌, subst}
use mathlib.Core.Bool.{Bool, true, false}
use mathlib.Core.Logic.{◌⊎◌, inl, inr}
use mathlib.Core.List.{List, [], ◌∷◌, ◌++◌, append_assoc}
use native.Mathlib.Omega.{arith}
use native.Mathlib.Nat.{pow-suc}
use lib.ListN.{length, drop, get_or, length-append, get_or-eq_default}
use lib.Seq.{drop-drop, drop-append-add, get_or-drop}
use lib.Arith.{digits_div, digits_mod}
use lib.Dec.{eqb}
use borrow.Author.Tests.{eq-eqb, eqb-true}
use Rattle.decimal.specs.Decimal.{digit_char, digit_of}
use Rattle.decimal.specs.declared.Number.{Number}
use Rattle.decimal.proofs.Laws.{lt-or-le, digit-back, digit-forth}
use Rattle.decimal.proofs.Steps.{from_place}
use Rattle.sizes.specs.declared.Size.{Size}
use Rattle.sizes.specs.Sizes.{letter_of, size_of}
use Rattle.sizes.proofs.Letters.{size-exactly}
use Rattle.issue_line.specs.Layout.{comma, line_feed, letter_a, letter_h, last_digits}
use Rattle.issue_line.specs.Read.{read_size, read_digits, read_day}
use Rattle.issue_line.specs.declared.FoundSize.{FoundSize}

-- something was found that a test lets through: the test held
pub found-held : {A : Type 0} (t : Bool) (x y : A) → then_some t x ≡ Some y → (t ≡ true) × (x ≡ y)
found-held true x y e = (refl, cc)
found-held false x y e = let no : ⊥ = cc in absurd no

-- a size at the place before its two bytes
abbrev size_at : ℕ → Size → FoundSize
size_at at size = record { size = size; next = at + 2 }

-- a size: its letter and a comma, and then the rest
abbrev pub SizeStands : List ℕ → ℕ → FoundSize → Type 0
SizeStands s at z = (z.next ≡ at + 2) × (drop at s ≡ letter_of z.size ∷ comma ∷ drop z.next s)

two-places : (s : List ℕ) (at : ℕ) → get_or s (at + 1) 0 ≡ comma → drop at s ≡ get_or s at 0 ∷ comma ∷ drop (at + 2) s
two-places s at e = go (lt-or-le (at + 1) (length s))
  where
    go : (at + 1 < length s) ⊎ (length s ≤ at + 1) → drop at s ≡ get_or s at 0 ∷ comma ∷ drop (at + 2) s
    go (inl h) =
        let place : at + 1 + 1 ≡ at + 2 = omega arith in
        from_place s at (omega arith)
        ∙ ap (λ (l : List ℕ). get_or s at 0 ∷ l) (from_place s (at + 1) h)
        ∙ ap₂ (λ (x n : ℕ). get_or s at 0 ∷ x ∷ drop n s) e place
    go (inr h) = let out : get_or s (at + 1) 0 ≡ 0 = get_or-eq_default s 0 h in let no : ⊥ = omega arith in absurd no

pub size-sound : (s : List ℕ) (at : ℕ) (z : FoundSize) → read_size s at ≡ Some z → SizeStands s at z
unfolding read_size
size-sound s at z e =
    option_and_then_some (λ (size : Size). then_some (eqb (get_or s (at + 1) 0) comma) (size_at at size)) (size_of (get_or s at 0)) z e (λ size is h.
    let ends = found-held (eqb (get_or s (at + 1) 0) comma) (size_at at size) z h in
    let letter = ((size-exactly (get_or s at 0)).one size).0 is in
    subst (SizeStands s at) ends.1
    (refl, two-places s at (eqb-true (get_or s (at + 1) 0) comma ends.0) ∙ ap (λ (x : ℕ). x ∷ comma ∷ drop (at + 2) s) (sym letter)))

-- each byte from A to H is the letter of a size
pub size_with : (n : ℕ) → letter_a ≤ n → n ≤ letter_h → (size : Size) × (size_of n ≡ Some size) × (letter_of size ≡ n)
size_with n from to = go (size_of n) refl
  where
    go : (o : Option Size) → size_of n ≡ o → (size : Size) × (size_of n ≡ Some size) × (letter_of size ≡ n)
    go (Some size) e = (size, e, ((size-exactly n).one size).0 e)
    go None e = out ((size-exactly n).none.0 e)
      where
        out : (n < 65) ⊎ (72 < n) → (size : Size) × (size_of n ≡ Some size) × (letter_of size ≡ n)
        out (inl h) = absurd (omega arith)
        out (inr h) = absurd (omega arith)

pub size-complete : (s : List ℕ) (at n : ℕ) (rest : List ℕ) → letter_a ≤ n → n ≤ letter_h → drop at s ≡ n ∷ comma ∷ rest
    → (size : Size) × (letter_of size ≡ n) × (read_size s at ≡ Some (record { size = size; next = at + 2 })) × (drop (at + 2) s ≡ rest)
unfolding read_size
size-complete s at n rest from to h =
    let place : at + 0 ≡ at = omega arith in
    let first : get_or s at 0 ≡ n = ap (λ (i : ℕ). get_or s i 0) (sym place) ∙ sym (get_or-drop at s 0 0) ∙ ap (λ (l : List ℕ). get_or l 0 0) h in
    let second : get_or s (at + 1) 0 ≡ comma = sym (get_or-drop at s 1 0) ∙ ap (λ (l : List ℕ). get_or l 1 0) h in
    let z = size_with n from to in
    let is : size_of (get_or s at 0) ≡ Some z.0 = ap size_of first ∙ z.1 in
    (z.0, z.2, simp (is, eq-eqb (get_or s (at + 1) 0) comma second), sym (drop-drop 2 at s) ∙ ap (drop 2) h)

-- the digits of a number, of a width
pub digits-length : (width n : ℕ) → length (last_digits width n) ≡ width
unfolding last_digits
digits-length zero n = refl
digits-length (suc width) n = simp length-append (omega (arith, digits-length width (n / 10)))

digits-snoc : (width v d : ℕ) → d < 10 → last_digits (suc width) (v * 10 + d) ≡ last_digits width v ++ (digit_char d ∷ [])
unfolding last_digits
digits-snoc width v d h =
    ap (λ (q : ℕ). last_digits width q ++ (digit_char ((v * 10 + d) % 10) ∷ [])) (digits_div v h)
    ∙ ap (λ (r : ℕ). last_digits width v ++ (digit_char r ∷ [])) (digits_mod v h)

-- What was found after some digits, whose number is v: all eight stand there, and a line feed.
abbrev DigitsStand : (width left v i : ℕ) → List ℕ → Number → Type 0
DigitsStand width left v i s r =
    (rest : List ℕ) × (last_digits width v ++ s ≡ last_digits 8 r.value ++ (line_feed ∷ rest)) × (r.next ≡ i + left + 1) × (r.value < 100000000)

digits-sound : (left width v i : ℕ) (s : List ℕ) (r : Number) → width + left ≡ 8 → v < 10 ^ width → read_digits left v i s ≡ Some r
    → DigitsStand width left v i s r
unfolding read_digits
digits-sound zero width v i [] r w h e = let no : ⊥ = cc in absurd no
digits-sound zero width v i (b ∷ s) r w h e =
    let t = found-held (eqb b line_feed) (record { value = v; next = i + 1 }) r e in
    let eight : width ≡ 8 = omega arith in
    subst (DigitsStand width zero v i (b ∷ s)) t.1 (
      s,
      ap₂ (λ (k x : ℕ). last_digits k v ++ (x ∷ s)) eight (eqb-true b line_feed t.0),
      omega arith,
      subst (λ (k : ℕ). v < 10 ^ k) eight h,
    )
digits-sound (suc left) width v i [] r w h e = let no : ⊥ = cc in absurd no
digits-sound (suc left) width v i (b ∷ s) r w h e =
    option_and_then_some (λ (d : ℕ). read_digits left (v * 10 + d) (i + 1) s) (digit_of b) r e (λ d is more.
    let t = digit-forth b d is in
    let k = digits-sound left (suc width) (v * 10 + d) (i + 1) s r (omega arith) (omega (arith, pow-suc 10 width)) more in
    let spelled : last_digits (suc width) (v * 10 + d) ≡ last_digits width v ++ (b ∷ []) =
    digits-snoc width v d t.0 ∙ ap (λ (x : ℕ). last_digits width v ++ (x ∷ [])) t.1 in (
      k.0,
      sym (append_assoc (last_digits width v) (b ∷ []) s) ∙ ap (λ (l : List ℕ). l ++ s) (sym spelled) ∙ k.1,
      omega (arith, k.2),
      k.3,
    ))

-- A day that was found stands there: eight digits and a line feed, and then the rest.
abbrev pub DayStands : List ℕ → ℕ → Number → Type 0
DayStands s at d = (d.value ≤ 99999999) × (d.next ≡ at + 9) × (drop at s ≡ last_digits 8 d.value ++ (line_feed ∷ drop d.next s))

behind-day : (s : List ℕ) (at n : ℕ) (rest : List ℕ) → drop at s ≡ last_digits 8 n ++ (line_feed ∷ rest) → drop (at + 9) s ≡ rest
behind-day s at n rest h =
    let nine : ◌≡◌ {A = ℕ} 9 (length (last_digits 8 n) + 1) = omega (arith, digits-length 8 n) in
    sym (drop-drop 9 at s)
    ∙ ap (drop 9) h
    ∙ ap (λ (k : ℕ). drop k (last_digits 8 n ++ (line_feed ∷ rest))) nine
    ∙ drop-append-add (last_digits 8 n) (line_feed ∷ rest) 1

no-digits : (l : List ℕ) → last_digits 0 0 ++ l ≡ l
unfolding last_digits
no-digits l = refl

pub day-sound : (s : List ℕ) (at : ℕ) (r : Number) → read_day s at ≡ Some r → DayStands s at r
unfolding read_day
day-sound s at r e =
    let k = digits-sound 8 0 0 at (drop at s) r (omega arith) (omega arith) e in
    let whole : drop at s ≡ last_digits 8 r.value ++ (line_feed ∷ k.0) = sym (no-digits (drop at s)) ∙ k.1 in
    let place : r.next ≡ at + 9 = omega (arith, k.2) in
    let rest : drop r.next s ≡ k.0 = ap (λ (i : ℕ). drop i s) place ∙ behind-day s at r.value k.0 whole in
    (omega (arith, k.3), place, whole ∙ ap (λ (l : List ℕ). last_digits 8 r.value ++ (line_feed ∷ l)) (sym rest))

-- one digit is taken, and all digits of a number
digit-taken : (left v i d : ℕ) (t : List ℕ) → d < 10 → read_digits (suc left) v i (digit_char d ∷ t) ≡ read_digits left (v * 10 + d) (i + 1) t
unfolding read_digits
digit-taken left v i d t h = simp (digit-back d h)

digits-taken : (width left n i : ℕ) (t : List ℕ) → n < 10 ^ width
    → read_digits (width + left) 0 i (last_digits width n ++ t) ≡ read_digits left n (i + width) t
unfolding last_digits
digits-taken zero left n i t h =
    let a : 0 + left ≡ left = omega arith in
    let b : 0 ≡ n = omega arith in
    let c : i ≡ i + 0 = omega arith in
    ap (λ (k : ℕ). read_digits k 0 i t) a ∙ ap₂ (λ (x k : ℕ). read_digits left x k t) b c
digits-taken (suc width) left n i t h =
    let a : suc width + left ≡ width + suc left = omega arith in
    let b : n / 10 * 10 + n % 10 ≡ n = omega arith in
    let c : i + width + 1 ≡ i + suc width = omega arith in
    let few : n / 10 < 10 ^ width = omega (arith, pow-suc 10 width) in
    ap₂ (λ (k : ℕ) (l : List ℕ). read_digits k 0 i l) a (append_assoc (last_digits width (n / 10)) (digit_char (n % 10) ∷ []) t)
    ∙ digits-taken width (suc left) (n / 10) i (digit_char (n % 10) ∷ t) few
    ∙ digit-taken left (n / 10) (i + width) (n % 10) t (omega arith)
    ∙ ap₂ (λ (x k : ℕ). read_digits left x k t) b c

feed-taken : (v i : ℕ) (t : List ℕ) → read_digits 0 v i (line_feed ∷ t) ≡ Some (record { value = v; next = i + 1 })
unfolding read_digits
feed-taken v i t = refl

-- A day that stands there is found.
pub day-complete : (s : List ℕ) (at n : ℕ) (rest : List ℕ) → n ≤ 99999999 → drop at s ≡ last_digits 8 n ++ (line_feed ∷ rest)
    → read_day s at ≡ Some (record { value = n; next = at + 9 })
unfolding read_day
day-complete s at n rest fits h =
    let place : at + 8 + 1 ≡ at + 9 = omega arith in
    ap (read_digits 8 0 at) h
    ∙ digits-taken 8 0 n at (line_feed ∷ rest) (omega arith)
    ∙ feed-taken n (at + 8) rest
    ∙ ap (λ (i : ℕ). Some (record { value = n; next = i })) place
