-- A header is found exactly where one stands that follows the layout. Assumes nothing.
use Rattle.std.specs.Prelude.{Option, Some, None, option_map, option_and_then}
use Prim.Native.Nat.{ℕ, ◌+◌}
use mathlib.Core.Path.{◌≡◌, refl, sym, ap, ap₂, ◌∙◌, subst}
use mathlib.Core.Logic.{◌↔◌}
use mathlib.Core.Bool.{Bool, true, false, cond}
use mathlib.Core.List.{List, [], ◌∷◌, ◌++◌}
use native.Mathlib.Omega.{arith}
use lib.ListN.{length, drop, get_or}
use lib.Seq.{drop_at}
use lib.Dec.{eqb}
use borrow.Author.Tests.{ne_eqb, eqb-true, eqb-false}
use Rattle.decimal.specs.Decimal.{decimal, digit_of, read_decimal, Spelled}
use Rattle.decimal.specs.declared.Number.{Number}
use Rattle.decimal.proofs.Laws.{after-number}
use Rattle.decimal.proofs.Reading.{read-sound, read-complete}
use Rattle.envelope.specs.Layout.{comma, max_group, max_length, tag_length, header, InRange, Begins}
use Rattle.envelope.specs.Read.{a_header, header_m, header_a, header_g, read_header}
use Rattle.envelope.specs.declared.Header.{Header}
use Rattle.envelope.proofs.Layouts.{header-length, header-then}

-- a comma is no digit
pub comma-ends : digit_of comma ≡ None
unfolding digit_of
comma-ends = refl

two_bytes : (s : List ℕ) → get_or s 1 0 ≡ comma → s ≡ get_or s 0 0 ∷ get_or s 1 0 ∷ drop 2 s
two_bytes [] e = let no : ⊥ = omega arith in absurd no
two_bytes (x ∷ []) e = let no : ⊥ = omega arith in absurd no
two_bytes (x ∷ y ∷ s) e = refl

-- the header h stands at the start of s, and ends at its place
abbrev pub Stands : List ℕ → Header → Type 0
Stands s h =
    Begins s h.letter h.group h.alen h.mlen (drop h.place s) × (h.place ≡ length (header h.letter h.group h.alen h.mlen))

-- a number of the header, read at the place `at`
abbrev Stood : ℕ → List ℕ → ℕ → Number → Type 0
Stood max s at n =
    Spelled max comma (drop at s) n.value (drop n.next s) × (n.next ≡ at + length (decimal n.value) + 1)

joined : (s : List ℕ) (l : ℕ) (g a m : Number) → (tag_length l ≡ 0 → ⊥) → s ≡ l ∷ comma ∷ drop 2 s
    → Stood max_group s 2 g → Stood max_length s g.next a → Stood max_length s a.next m
    → Stands s (a_header l g.value a.value m.value m.next)
joined s l g a m known first hg ha hm =
    let tail₂ : drop a.next s ≡ decimal m.value ++ (comma ∷ drop m.next s) = hm.0.1 in
    let tail₁ : drop g.next s ≡ decimal a.value ++ (comma ∷ (decimal m.value ++ (comma ∷ drop m.next s))) =
    ha.0.1 ∙ ap (λ (r : List ℕ). decimal a.value ++ (comma ∷ r)) tail₂ in
    let tail₀ : drop 2 s ≡ decimal g.value ++ (comma ∷ (decimal a.value ++ (comma ∷ (decimal m.value ++ (comma ∷ drop m.next s))))) =
    hg.0.1 ∙ ap (λ (r : List ℕ). decimal g.value ++ (comma ∷ r)) tail₁ in (
      record {
        in_range = record { known = known; group_in_range = hg.0.0; metadata_fits = ha.0.0; message_fits = hm.0.0 };
        bytes = first ∙ ap (λ (r : List ℕ). l ∷ comma ∷ r) tail₀ ∙ sym (header-then l g.value a.value m.value (drop m.next s));
      },
      omega (arith, header-length l g.value a.value m.value, hg.1, ha.1, hm.1),
    )

-- A header that was found stands there.
pub header-sound : (s : List ℕ) (h : Header) → read_header s ≡ Some h → Stands s h
unfolding read_header
header-sound s h e = start (eqb (tag_length (get_or s 0 0)) 0) refl (eqb (get_or s 1 0) comma) refl e
  where
    by-mlen : (l : ℕ) (g a : Number) → (tag_length l ≡ 0 → ⊥) → s ≡ l ∷ comma ∷ drop 2 s → Stood max_group s 2 g → Stood max_length s g.next a
        → (o : Option Number) → read_decimal max_length comma s a.next ≡ o
        → option_map (λ m. a_header l g.value a.value m.value m.next) o ≡ Some h → Stands s h
    by-mlen l g a known first hg ha None q e = let no : ⊥ = cc in absurd no
    by-mlen l g a known first hg ha (Some m) q e =
        let is : a_header l g.value a.value m.value m.next ≡ h = cc in
        subst (Stands s) is (joined s l g a m known first hg ha (read-sound max_length comma s a.next m q))

    by-alen : (l : ℕ) (g : Number) → (tag_length l ≡ 0 → ⊥) → s ≡ l ∷ comma ∷ drop 2 s → Stood max_group s 2 g
        → (o : Option Number) → read_decimal max_length comma s g.next ≡ o → option_and_then (header_m s l g) o ≡ Some h → Stands s h
    by-alen l g known first hg None q e = let no : ⊥ = cc in absurd no
    by-alen l g known first hg (Some a) q e = by-mlen l g a known first hg (read-sound max_length comma s g.next a q) _ refl e

    by-group : (l : ℕ) → (tag_length l ≡ 0 → ⊥) → s ≡ l ∷ comma ∷ drop 2 s
        → (o : Option Number) → read_decimal max_group comma s 2 ≡ o → option_and_then (header_a s l) o ≡ Some h → Stands s h
    by-group l known first None q e = let no : ⊥ = cc in absurd no
    by-group l known first (Some g) q e = by-alen l g known first (read-sound max_group comma s 2 g q) _ refl e

    start : (p : Bool) → eqb (tag_length (get_or s 0 0)) 0 ≡ p → (q : Bool) → eqb (get_or s 1 0) comma ≡ q
        → cond p None (cond q (header_g s (get_or s 0 0)) None) ≡ Some h → Stands s h
    start true i q j e = let no : ⊥ = cc in absurd no
    start false i false j e = let no : ⊥ = cc in absurd no
    start false i true j e =
        let second : get_or s 1 0 ≡ comma = eqb-true (get_or s 1 0) comma j in
        by-group (get_or s 0 0) (eqb-false (tag_length (get_or s 0 0)) 0 i)
        (two_bytes s second ∙ ap (λ (x : ℕ). get_or s 0 0 ∷ x ∷ drop 2 s) second) _ refl e

-- A header that stands there is found.
pub header-complete : (s : List ℕ) (letter group alen mlen : ℕ) (rest : List ℕ) → Begins s letter group alen mlen rest
    → read_header s ≡ Some (a_header letter group alen mlen (length (header letter group alen mlen)))
unfolding read_header
header-complete s letter group alen mlen rest h =
    let whole = h.bytes ∙ header-then letter group alen mlen rest in
    let g-there = ap (drop 2) whole in
    let a-there = after-number comma s 2 group _ g-there in
    let m-there = after-number comma s (2 + length (decimal group) + 1) alen _ a-there in
    let g = read-complete max_group comma s 2 group _ comma-ends (h.in_range.group_in_range, g-there) in
    let a = read-complete max_length comma s (2 + length (decimal group) + 1) alen _ comma-ends (h.in_range.metadata_fits, a-there) in
    let m = read-complete max_length comma s (2 + length (decimal group) + 1 + length (decimal alen) + 1) mlen _ comma-ends (h.in_range.message_fits, m-there) in
    let known : eqb (tag_length (get_or s 0 0)) 0 ≡ false = ap (λ (l : List ℕ). eqb (tag_length (get_or l 0 0)) 0) whole ∙ ne_eqb (tag_length letter) 0 h.in_range.known in
    let second : eqb (get_or s 1 0) comma ≡ true = ap (λ (l : List ℕ). eqb (get_or l 1 0) comma) whole in
    let first : get_or s 0 0 ≡ letter = ap (λ (l : List ℕ). get_or l 0 0) whole in
    let place : 2 + length (decimal group) + 1 + length (decimal alen) + 1 + length (decimal mlen) + 1 ≡ length (header letter group alen mlen) = omega (arith, header-length letter group alen mlen) in
    simp (known, second, g, a, m) (ap₂ (λ (l p : ℕ). Some (a_header l group alen mlen p)) first place)

-- None is found exactly where the bytes begin with no header that follows the layout.
pub header_refused : (s : List ℕ) → (read_header s ≡ None) ↔ ((letter group alen mlen : ℕ) (rest : List ℕ) → Begins s letter group alen mlen rest → ⊥)
header_refused s = ((λ e l g a m rest h. let found = header-complete s l g a m rest h in cc), (λ none. go none (read_header s) refl))
  where
    go : ((letter group alen mlen : ℕ) (rest : List ℕ) → Begins s letter group alen mlen rest → ⊥)
        → (o : Option Header) → read_header s ≡ o → o ≡ None
    go none None e = refl
    go none (Some h) e = absurd (none _ _ _ _ _ (header-sound s h e).0)

-- A header shows what it is of: where two headers in range, and what follows them, are the same bytes, letter, group and lengths are the same, and so
-- is what follows.
pub header-then-injective : {l g a m l' g' a' m' : ℕ} (s s' : List ℕ) → InRange l g a m → InRange l' g' a' m'
    → header l g a m ++ s ≡ header l' g' a' m' ++ s' → (l ≡ l') × (g ≡ g') × (a ≡ a') × (m ≡ m') × (s ≡ s')
header-then-injective {l} {g} {a} {m} {l'} {g'} {a'} {m'} s s' r r' e =
    let both : Some (a_header l g a m (length (header l g a m))) ≡ Some (a_header l' g' a' m' (length (header l' g' a' m'))) =
    sym (header-complete (header l g a m ++ s) l g a m s (record { in_range = r; bytes = refl }))
    ∙ header-complete (header l g a m ++ s) l' g' a' m' s' (record { in_range = r'; bytes = e }) in
    let same : a_header l g a m (length (header l g a m)) ≡ a_header l' g' a' m' (length (header l' g' a' m')) = cc in
    let place : length (header l g a m) ≡ length (header l' g' a' m') = ap (λ (h : Header). h.place) same in (
      ap (λ (h : Header). h.letter) same,
      ap (λ (h : Header). h.group) same,
      ap (λ (h : Header). h.alen) same,
      ap (λ (h : Header). h.mlen) same,
      sym (drop_at (header l g a m) s _ refl) ∙ ap (drop (length (header l g a m))) e ∙ drop_at (header l' g' a' m') s' _ (sym place),
    )

-- So two headers in range that are the same bytes have one letter, one group and the same lengths.
pub header-injective : {l g a m l' g' a' m' : ℕ} → InRange l g a m → InRange l' g' a' m' → header l g a m ≡ header l' g' a' m'
    → (l ≡ l') × (g ≡ g') × (a ≡ a') × (m ≡ m')
header-injective r r' e =
    let all = header-then-injective [] [] r r' (ap (λ (x : List ℕ). x ++ []) e) in
    (all.0, all.1, all.2, all.3)
