-- A reader finds exactly the numbers that are spelled: what it finds stands there, and what stands there it finds. Assumes nothing.
use Rattle.std.specs.Prelude.{Option, Some, None, option_and_then}
use Prim.Native.Nat.{ℕ, zero, suc, ◌+◌, ◌*◌, ◌/◌, ◌%◌, ◌<◌, ◌≤◌}
use mathlib.Core.Path.{◌≡◌, refl, sym, ap, ◌∙◌, subst}
use mathlib.Core.Bool.{Bool, true, false, cond}
use mathlib.Core.Logic.{◌↔◌, ◌⊎◌, inl, inr}
use mathlib.Core.List.{List, [], ◌∷◌, ◌++◌, append_assoc}
use native.Mathlib.Omega.{arith}
use native.Mathlib.Nat.{le_refl}
use lib.ListN.{length, drop, length-append}
use lib.Dec.{leb, eqb}
use borrow.Author.Tests.{le-leb, leb-true, eq-eqb, ne_eqb, eqb-true, eqb-false}
use Rattle.decimal.specs.declared.Number.{Number}
use Rattle.decimal.specs.Decimal.{digit_char, decimal, Spelled, digit_of, up_to, with_digit, read_more, read_first, read_decimal}
use Rattle.decimal.proofs.Laws.{lt-or-le, decimal-small, decimal-large, decimal-snoc, digit-back, digit-forth, after-number}

module _ (max end : ℕ) where
  -- one more digit is taken
  more-digit : (v i d : ℕ) (t : List ℕ) → digit_of end ≡ None → (v ≡ 0 → ⊥) → d < 10 → v * 10 + d ≤ max
      → read_more max end v i (digit_char d ∷ t) ≡ read_more max end (v * 10 + d) (i + 1) t
  unfolding read_more
  more-digit v i d t no_digit nz small fits =
      let back : digit_of (digit_char d) ≡ Some d = digit-back d small in
      let differs : digit_char d ≡ end → ⊥ = λ e. (let same : digit_of (digit_char d) ≡ digit_of end = ap digit_of e in cc) in
      simp (ne_eqb (digit_char d) end differs, back, ne_eqb v 0 nz, le-leb (v * 10 + d) max fits)

  first-digit : (n at : ℕ) (t : List ℕ) → n < 10 → n ≤ max → read_first max end at (digit_char n ∷ t) ≡ read_more max end n (at + 1) t
  unfolding read_first
  first-digit n at t small fits = simp (digit-back n small, le-leb n max fits)

  -- all digits of a number are taken, from a number of steps that is enough
  first-all : (f n at : ℕ) (t : List ℕ) → digit_of end ≡ None → n ≤ f → n ≤ max
      → read_first max end at (decimal n ++ t) ≡ read_more max end n (at + length (decimal n)) t
  first-all zero n at t no_digit hf hm =
      let small : n < 10 = omega arith in
      rw (decimal-small n small) (first-digit n at t small hm)
  first-all (suc f) n at t no_digit hf hm =
      go (lt-or-le n 10) (first-all f (n / 10) at (digit_char (n % 10) ∷ t) no_digit)
    where
      go : (n < 10) ⊎ (10 ≤ n)
          → (n / 10 ≤ f → n / 10 ≤ max → read_first max end at (decimal (n / 10) ++ (digit_char (n % 10) ∷ t)) ≡ read_more max end (n / 10) (at + length (decimal (n / 10))) (digit_char (n % 10) ∷ t))
          → read_first max end at (decimal n ++ t) ≡ read_more max end n (at + length (decimal n)) t
      go (inl h) ih = rw (decimal-small n h) (first-digit n at t h hm)
      go (inr h) ih =
          let whole : n / 10 * 10 + n % 10 ≡ n = omega arith in
          let longer : at + length (decimal (n / 10)) + 1 ≡ at + length (decimal n) = omega (arith, simp length-append at (ap length (decimal-large n h))) in
          ap (λ (l : List ℕ). read_first max end at (l ++ t)) (decimal-large n h)
          ∙ ap (read_first max end at) (append_assoc (decimal (n / 10)) (digit_char (n % 10) ∷ []) t)
          ∙ ih (omega arith) (omega arith)
          ∙ more-digit (n / 10) (at + length (decimal (n / 10))) (n % 10) t no_digit (omega arith) (omega arith) (omega arith)
          ∙ ap (λ (x : ℕ). read_more max end x (at + length (decimal (n / 10)) + 1) t) whole
          ∙ ap (λ (x : ℕ). read_more max end n x t) longer

  more-end : (v i : ℕ) (t : List ℕ) → read_more max end v i (end ∷ t) ≡ Some (record { value = v; next = i + 1 })
  unfolding read_more
  more-end v i t = simp (eq-eqb end end refl)

  -- a number within max was found
  up-to-sound : (n w : ℕ) → up_to max n ≡ Some w → (n ≡ w) × (n ≤ max)
  up-to-sound n w e = go (leb n max) refl e
    where
      go : (t : Bool) → leb n max ≡ t → cond t (Some n) None ≡ Some w → (n ≡ w) × (n ≤ max)
      go true p e = (cc, leb-true n max p)
      go false p e = let no : ⊥ = cc in absurd no

  -- one more digit was taken, which the byte is the character of
  digit-sound : (v b w : ℕ) → with_digit max v b ≡ Some w → (w ≤ max) × (decimal w ≡ decimal v ++ (b ∷ []))
  digit-sound v b w e = go (digit_of b) refl (eqb v 0) refl e
    where
      go : (o : Option ℕ) → digit_of b ≡ o → (t : Bool) → eqb v 0 ≡ t → option_and_then (λ d. cond t None (up_to max (v * 10 + d))) o ≡ Some w
          → (w ≤ max) × (decimal w ≡ decimal v ++ (b ∷ []))
      go None q t p e = let no : ⊥ = cc in absurd no
      go (Some d) q true p e = let no : ⊥ = cc in absurd no
      go (Some d) q false p e =
          let h = up-to-sound (v * 10 + d) w e in
          let is = digit-forth b d q in (
            omega arith,
            ap decimal (sym h.0) ∙ decimal-snoc v d (eqb-false v 0 p) is.0 ∙ ap (λ (x : ℕ). decimal v ++ (x ∷ [])) is.1,
          )

  -- a number was found: one that the bytes spell
  abbrev MoreSound : ℕ → ℕ → List ℕ → Number → Type 0
  MoreSound v i s r =
      (rest : List ℕ) × (r.value ≤ max) × (decimal v ++ s ≡ decimal r.value ++ (end ∷ rest)) × (r.next + length (decimal v) ≡ i + length (decimal r.value) + 1)

  more-sound : (v i : ℕ) (s : List ℕ) (r : Number) → v ≤ max → read_more max end v i s ≡ Some r → MoreSound v i s r
  unfolding read_more
  more-sound v i [] r hv e = let no : ⊥ = cc in absurd no
  more-sound v i (b ∷ s) r hv e = go (eqb b end) refl (with_digit max v b) refl (λ w. more-sound w (i + 1) s r) e
    where
      go : (t : Bool) → eqb b end ≡ t → (o : Option ℕ) → with_digit max v b ≡ o
          → ((w : ℕ) → w ≤ max → read_more max end w (i + 1) s ≡ Some r → MoreSound w (i + 1) s r)
          → cond t (Some (record { value = v; next = i + 1 })) (option_and_then (λ w. read_more max end w (i + 1) s) o) ≡ Some r
          → MoreSound v i (b ∷ s) r
      go true p o q ih e =
          let is : record { value = v; next = i + 1 } ≡ r = cc in
          subst (MoreSound v i (b ∷ s)) is (s, hv, ap (λ (x : ℕ). decimal v ++ (x ∷ s)) (eqb-true b end p), omega arith)
      go false p None q ih e = let no : ⊥ = cc in absurd no
      go false p (Some w) q ih e =
          let one = digit-sound v b w q in
          let h = ih w one.0 e in (
            h.0,
            h.1,
            sym (append_assoc (decimal v) (b ∷ []) s) ∙ ap (λ (l : List ℕ). l ++ s) (sym one.1) ∙ h.2,
            omega (arith, simp length-append at (ap length one.1), h.3),
          )

  abbrev FirstSound : ℕ → List ℕ → Number → Type 0
  FirstSound at s r =
      (rest : List ℕ) × (r.value ≤ max) × (s ≡ decimal r.value ++ (end ∷ rest)) × (r.next ≡ at + length (decimal r.value) + 1)

  first-sound : (at : ℕ) (s : List ℕ) (r : Number) → read_first max end at s ≡ Some r → FirstSound at s r
  unfolding read_first
  first-sound at [] r e = let no : ⊥ = cc in absurd no
  first-sound at (b ∷ s) r e = go (digit_of b) refl e
    where
      go : (o : Option ℕ) → digit_of b ≡ o → option_and_then (λ v. read_more max end v (at + 1) s) (option_and_then (up_to max) o) ≡ Some r → FirstSound at (b ∷ s) r
      go None q e = let no : ⊥ = cc in absurd no
      go (Some d) q e = go₁ (up_to max d) refl e
        where
          go₁ : (o : Option ℕ) → up_to max d ≡ o → option_and_then (λ v. read_more max end v (at + 1) s) o ≡ Some r → FirstSound at (b ∷ s) r
          go₁ None u e = let no : ⊥ = cc in absurd no
          go₁ (Some v) u e =
              let t = up-to-sound d v u in
              let is = digit-forth b d q in
              let h = more-sound v (at + 1) s r (omega arith) e in
              let spelled : decimal v ≡ b ∷ [] = ap decimal (sym t.0) ∙ decimal-small d is.0 ∙ ap (λ (x : ℕ). x ∷ []) is.1 in
              (h.0, h.1, ap (λ (l : List ℕ). l ++ s) (sym spelled) ∙ h.2, omega (arith, ap length spelled, h.3))

  -- A number that was found stands there: it is at most max, its bytes and the byte end stand at the place, and `next` is the place after them.
  pub read-sound : (s : List ℕ) (at : ℕ) (r : Number) → read_decimal max end s at ≡ Some r
      → Spelled max end (drop at s) r.value (drop r.next s) × (r.next ≡ at + length (decimal r.value) + 1)
  unfolding read_decimal
  read-sound s at r e =
      let h = first-sound at (drop at s) r e in
      let behind : drop r.next s ≡ h.0 = ap (λ (k : ℕ). drop k s) h.3 ∙ after-number end s at r.value h.0 h.2 in
      ((h.1, h.2 ∙ ap (λ (l : List ℕ). decimal r.value ++ (end ∷ l)) (sym behind)), h.3)

  -- A number that stands there is found, where the byte that ends it is no digit.
  pub read-complete : (s : List ℕ) (at n : ℕ) (rest : List ℕ) → digit_of end ≡ None → Spelled max end (drop at s) n rest
      → read_decimal max end s at ≡ Some (record { value = n; next = at + length (decimal n) + 1 })
  unfolding read_decimal
  read-complete s at n rest no_digit h =
      ap (read_first max end at) h.1
      ∙ first-all n n at (end ∷ rest) no_digit (le_refl n) h.0
      ∙ more-end n (at + length (decimal n)) rest

  -- So nothing is found exactly where no such number stands.
  pub read-refused : (s : List ℕ) (at : ℕ) → digit_of end ≡ None
      → (read_decimal max end s at ≡ None) ↔ ((n : ℕ) (rest : List ℕ) → Spelled max end (drop at s) n rest → ⊥)
  read-refused s at no_digit = (
    (λ e n rest h. let found = read-complete s at n rest no_digit h in cc),
    (λ none. go (read_decimal max end s at) refl none),
  )
    where
      go : (o : Option Number) → read_decimal max end s at ≡ o → ((n : ℕ) (rest : List ℕ) → Spelled max end (drop at s) n rest → ⊥)
          → o ≡ None
      go None e none = refl
      go (Some r) e none = absurd (none r.value (drop r.next s) (read-sound s at r e).0)
