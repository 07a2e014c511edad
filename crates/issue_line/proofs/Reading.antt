-- A line is found exactly where the bytes are one that follows the layout, and then with its fields. Assumes nothing.
use Rattle.std.specs.Prelude.{Option, Some, None, option_and_then}
use Rattle.std.proofs.lemmas.Option.{option_and_then_some}
use Prim.Native.Nat.{ℕ, ◌+◌}
use mathlib.Core.Path.{◌≡◌, refl, sym, ap, ap₂, ◌∙◌, subst}
use mathlib.Core.Bool.{Bool, true, false, ◌&&◌, true≢false, and-eq-true_iff}
use mathlib.Core.Logic.{◌↔◌}
use mathlib.Core.List.{List, [], ◌∷◌, ◌++◌}
use native.Mathlib.Omega.{arith}
use lib.ListN.{length, drop, length-append, length-drop}
use lib.Seq.{drop-length}
use lib.Dec.{leb, eqb}
use borrow.Author.Tests.{le-leb, eq-eqb, leb-true, eqb-true}
use Rattle.decimal.specs.Decimal.{decimal, digit_of, read_decimal, Spelled}
use Rattle.decimal.specs.declared.Number.{Number}
use Rattle.decimal.proofs.Laws.{after-number}
use Rattle.decimal.proofs.Reading.{read-sound, read-complete}
use Rattle.sizes.specs.declared.Size.{Size}
use Rattle.sizes.specs.Sizes.{letter_of}
use Rattle.sizes.proofs.Letters.{letter-tells, letter-within}
use Rattle.issue_line.specs.Layout.{comma, line_feed, max_group, max_ring, last_digits, line, IsLine}
use Rattle.issue_line.specs.Read.{Line, read_size, read_day, no_line, a_line, line_of, read_fields, found_line, read_line, ReadsExactly}
use Rattle.issue_line.specs.declared.FoundSize.{FoundSize}
use Rattle.issue_line.specs.declared.Line.{Line as LineFields}
use Rattle.issue_line.proofs.Fields.{found-held, SizeStands, size-sound, size-complete, digits-length, DayStands, day-sound, day-complete}

-- a comma is no digit
comma-ends : digit_of comma ≡ None
unfolding digit_of
comma-ends = refl

-- the bytes s are the line x
abbrev pub Stands : List ℕ → Line → Type 0
Stands s x = IsLine s x.group x.size x.first x.last x.day

-- the fields that the tests of a line let through
abbrev fields : Number → FoundSize → Number → Number → Number → LineFields
fields g z f l d = record { group = g.value; size = z.size; first = f.value; last = l.value; day = d.value }

abbrev in_order : (n : ℕ) → Number → Number → Number → Bool
in_order n f l d = leb 1 f.value && (leb f.value l.value && eqb d.next n)

fields-stand : (s : List ℕ) (g : Number) (z : FoundSize) (f l d : Number) (x : LineFields) → line_of (length s) g z f l d ≡ Some x
    → Spelled max_group comma (drop 0 s) g.value (drop g.next s) → SizeStands s g.next z
    → Spelled max_ring comma (drop z.next s) f.value (drop f.next s) → Spelled max_ring comma (drop f.next s) l.value (drop l.next s)
    → DayStands s l.next d → Stands s (found_line (Some x))
unfolding line_of line
fields-stand s g z f l d x e hg hz hf hl hd =
    let held = found-held (in_order (length s) f l d) (fields g z f l d) x e in
    let a = (and-eq-true_iff (leb 1 f.value) (leb f.value l.value && eqb d.next (length s))).0 held.0 in
    let b = (and-eq-true_iff (leb f.value l.value) (eqb d.next (length s))).0 a.1 in
    let over : drop d.next s ≡ [] = ap (λ (i : ℕ). drop i s) (eqb-true d.next (length s) b.1) ∙ drop-length s in
    let tail-day : drop l.next s ≡ last_digits 8 d.value ++ (line_feed ∷ []) = hd.2 ∙ ap (λ (t : List ℕ). last_digits 8 d.value ++ (line_feed ∷ t)) over in
    let letter = letter-within z.size in
    subst (λ (y : LineFields). Stands s (found_line (Some y))) held.1
    (record {
      group_in_range = hg.0;
      size_from = letter.0;
      size_to = letter.1;
      first_some = leb-true 1 f.value a.0;
      in_order = leb-true f.value l.value b.0;
      last_fits = hl.0;
      day_fits = hd.0;
      bytes =
          hg.1
          ∙ ap (λ (t : List ℕ). decimal g.value ++ (comma ∷ t)) hz.1
          ∙ ap (λ (t : List ℕ). decimal g.value ++ (comma ∷ letter_of z.size ∷ comma ∷ t)) hf.1
          ∙ ap (λ (t : List ℕ). decimal g.value ++ (comma ∷ letter_of z.size ∷ comma ∷ (decimal f.value ++ (comma ∷ t)))) hl.1
          ∙ ap (λ (t : List ℕ). decimal g.value ++ (comma ∷ letter_of z.size ∷ comma ∷ (decimal f.value ++ (comma ∷ (decimal l.value ++ (comma ∷ t)))))) tail-day;
    })

-- what is read after the fields before it
abbrev after_last : List ℕ → Number → FoundSize → Number → Number → Option LineFields
after_last s g z f l = option_and_then (line_of (length s) g z f l) (read_day s l.next)

abbrev after_first : List ℕ → Number → FoundSize → Number → Option LineFields
after_first s g z f = option_and_then (after_last s g z f) (read_decimal max_ring comma s f.next)

abbrev after_size : List ℕ → Number → FoundSize → Option LineFields
after_size s g z = option_and_then (after_first s g z) (read_decimal max_ring comma s z.next)

abbrev after_group : List ℕ → Number → Option LineFields
after_group s g = option_and_then (after_size s g) (read_size s g.next)

-- Fields that were found are those of the line that the bytes are.
fields-sound : (s : List ℕ) (x : LineFields) → read_fields s ≡ Some x → Stands s (found_line (Some x))
unfolding read_fields
fields-sound s x e =
    option_and_then_some (after_group s) (read_decimal max_group comma s 0) x e (λ g is-g e₁.
    option_and_then_some (after_size s g) (read_size s g.next) x e₁ (λ z is-z e₂.
    option_and_then_some (after_first s g z) (read_decimal max_ring comma s z.next) x e₂ (λ f is-f e₃.
    option_and_then_some (after_last s g z f) (read_decimal max_ring comma s f.next) x e₃ (λ l is-l e₄.
    option_and_then_some (line_of (length s) g z f l) (read_day s l.next) x e₄ (λ d is-d e₅.
    fields-stand s g z f l d x e₅ (read-sound max_group comma s 0 g is-g).0 (size-sound s g.next z is-z) (read-sound max_ring comma s z.next f is-f).0
    (read-sound max_ring comma s f.next l is-l).0 (day-sound s l.next d is-d))))))

-- A line that was found is what the bytes are.
pub line-sound : (s : List ℕ) → (read_line s).found ≡ true → Stands s (read_line s)
unfolding read_line
line-sound s e = go (read_fields s) refl e
  where
    go : (o : Option LineFields) → read_fields s ≡ o → (found_line o).found ≡ true → Stands s (found_line o)
    go None is e = absurd (true≢false (sym e))
    go (Some x) is e = fields-sound s x is

ends : (s : List ℕ) (at day : ℕ) → drop at s ≡ last_digits 8 day ++ (line_feed ∷ []) → at + 9 ≡ length s
ends s at day h =
    omega (arith, sym (length-drop at s) ∙ ap length h ∙ length-append (last_digits 8 day) (line_feed ∷ []), digits-length 8 day)

-- Bytes that are a line are found, with its fields.
pub line-complete : (s : List ℕ) (group size first last day : ℕ) → IsLine s group size first last day → read_line s ≡ a_line group size first last day
unfolding read_line read_fields line_of line
line-complete s group size first last day h =
    let p₁ = 0 + length (decimal group) + 1 in
    let p₂ = p₁ + 2 in
    let p₃ = p₂ + length (decimal first) + 1 in
    let p₄ = p₃ + length (decimal last) + 1 in
    let at_size = after-number comma s 0 group _ h.bytes in
    let z = size-complete s p₁ size _ h.size_from h.size_to at_size in
    let at_last = after-number comma s p₂ first _ z.3 in
    let at-day = after-number comma s p₃ last _ at_last in
    let g = read-complete max_group comma s 0 group _ comma-ends (h.group_in_range, h.bytes) in
    let f = read-complete max_ring comma s p₂ first _ comma-ends (omega arith, z.3) in
    let l = read-complete max_ring comma s p₃ last _ comma-ends (h.last_fits, at_last) in
    let d = day-complete s p₄ day [] h.day_fits at-day in
    let whole : p₄ + 9 ≡ length s = ends s p₄ day at-day in
    simp (g, z.2, f, l, d, le-leb 1 first h.first_some, le-leb first last h.in_order, eq-eqb (p₄ + 9) (length s) whole)
    (ap (λ (n : ℕ). a_line group n first last day) z.1)

-- So none is found exactly where the bytes are no line.
pub line_refused : (s : List ℕ) → ((read_line s).found ≡ false) ↔ ((group size first last day : ℕ) → IsLine s group size first last day → ⊥)
line_refused s = (
  (λ e group size first last day h. true≢false (ap (λ (x : Line). x.found) (sym (line-complete s group size first last day h)) ∙ e)),
  (λ none. go none (read_line s).found refl),
)
  where
    go : ((group size first last day : ℕ) → IsLine s group size first last day → ⊥) → (t : Bool) → (read_line s).found ≡ t → (read_line s).found ≡ false
    go none true e = absurd (none _ _ _ _ _ (line-sound s e))
    go none false e = e

-- the fields of a line that was not found
none_found : (s : List ℕ) → (read_line s).found ≡ false → read_line s ≡ no_line
unfolding read_line
none_found s e = go (read_fields s) e
  where
    go : (o : Option LineFields) → (found_line o).found ≡ false → found_line o ≡ no_line
    go None e = refl
    go (Some x) e = absurd (true≢false e)

pub reads-exactly : (s : List ℕ) → ReadsExactly s
reads-exactly s =
    record {
      one = λ group size first last day. (
        (λ e. subst (Stands s) e (line-sound s (ap (λ (x : Line). x.found) e))),
        line-complete s group size first last day,
      );
      none = (
        (λ e. (line_refused s).0 (ap (λ (x : Line). x.found) e)),
        (λ no. none_found s ((line_refused s).1 no)),
      );
    }

-- What a reader gives is told by what it gives in these words: no bit of it is left open.
pub line-tells : (a b : Option LineFields) → found_line a ≡ found_line b → a ≡ b
line-tells None None h = refl
line-tells None (Some y) h = absurd (true≢false (sym (ap (λ (x : Line). x.found) h)))
line-tells (Some x) None h = absurd (true≢false (ap (λ (x : Line). x.found) h))
line-tells (Some x) (Some y) h =
    ap₂ (λ group size. made group size x.first x.last x.day) (ap (λ (l : Line). l.group) h) (letter-tells x.size y.size (ap (λ (l : Line). l.size) h))
    ∙ ap₂ (λ first last. made y.group y.size first last x.day) (ap (λ (l : Line). l.first) h) (ap (λ (l : Line). l.last) h)
    ∙ ap (made y.group y.size y.first y.last) (ap (λ (l : Line). l.day) h)
  where
    made : (group : ℕ) → Size → (first last day : ℕ) → Option LineFields
    made group size first last day = Some (record { group = group; size = size; first = first; last = last; day = day })
