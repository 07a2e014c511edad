-- One call at a ledger, for any mode of which unwrap gives back what wrap took (`PaperLaws`): what is accepted, what is refused, and that
-- what a wrap gave comes back. Assumes nothing.
use mathlib.Core.Bool.{Bool, true, false, not, ◌||◌, ◌&&◌, cond}
use mathlib.Core.List.{List, [], ◌∷◌}
use mathlib.Core.Logic.{◌≢◌, ◌⊎◌, inl, inr}
use mathlib.Core.Path.{◌≡◌, refl, sym, ap, ap₂, ◌∙◌, subst}
use Prim.Native.Nat.{ℕ, zero, suc, ◌+◌, ◌≤◌}
use native.Mathlib.Omega.{arith}
use borrow.Author.Tests.{le-ltb, eq-eqb, eqb-true}
use lib.Dec.{ltb, eqb}
use lib.ListN.{length}
use Rattle.deck.specs.Strings.{Str}
use Rattle.deck.specs.Deck.{index_of}
use Rattle.modes.specs.Call.{CallInput, Side}
use Rattle.modes.specs.Mode.{Mode, whole_history}
use Rattle.modes.specs.Paper.{PaperResult}
use Rattle.modes.specs.Rules.{growth, same_bytes}
use Rattle.modes.specs.Ledger.{PaperMode, Ledger, equal_tags, right_header, string_a, wrap_finds, unwrap_finds, check_before11, on_check, accepts, refuses11, ledger_wrap, ledger_unwrap}
use Rattle.modes.specs.Delivery.{delivery}
use Rattle.envelope.specs.Layout.{Known}
use Rattle.modes.proofs.Papers.{to_paper, paper_of}
use Rattle.modes.proofs.Steps.{ModeLaws}
use Rattle.modes.proofs.Modes.{Follows}
use Rattle.modes.proofs.Sessions.{whole_history-grows}

-- ---- what is asked of a mode

-- what unwrap finds where it is handed what these steps of wrap gave for the message p
abbrev pub restored_paper : PaperResult → List ℕ → PaperResult
restored_paper r p = record { history = r.history; toggle = r.toggle; text = p; tag = r.tag }

pub record PaperLaws (m : PaperMode) : Type 0 where
  pub known : Known m.letter
  pub undone : (key : List ℕ) (h : List Str) (e : Bool) (a p : List ℕ)
      → m.unwraps key h e a (m.wraps key h e a p).text (m.wraps key h e a p).tag ≡ restored_paper (m.wraps key h e a p) p
  pub wraps_length : (key : List ℕ) (h : List Str) (e : Bool) (a p : List ℕ) → length (m.wraps key h e a p).text ≡ length p
  pub wraps_tag : (key : List ℕ) (h : List Str) (e : Bool) (a p : List ℕ) → length (m.wraps key h e a p).tag ≡ m.tag_length
  pub wraps_index : (key : List ℕ) (h : List Str) (e : Bool) (a p : List ℕ)
      → index_of (m.wraps key h e a p).history ≡ index_of h + growth (length a) (length p)
  pub unwraps_index : (key : List ℕ) (h : List Str) (e : Bool) (a c t : List ℕ)
      → index_of (m.unwraps key h e a c t).history ≡ index_of h + growth (length a) (length c)

own-laws : {r : Mode} → ModeLaws r → PaperLaws (paper_of r)
unfolding paper_of
own-laws {r} laws =
    record {
      known = laws.known;
      undone = λ key h e a p. ap (to_paper r e) (laws.undone (whole_history key) h e a p);
      wraps_length = λ key. laws.wraps_length (whole_history key);
      wraps_tag = λ key. laws.wraps_tag (whole_history key);
      wraps_index = λ key. laws.wraps_index (whole_history key) (whole_history-grows key);
      unwraps_index = λ key. laws.unwraps_index (whole_history key) (whole_history-grows key);
    }

pub paper-laws : {r : Mode} {m : PaperMode} → Follows r m → PaperLaws m
paper-laws f = subst PaperLaws f.paper (own-laws f.laws)

-- ---- tags

pub equal_tags-refl : (s : List ℕ) → equal_tags s s ≡ true
equal_tags-refl [] = refl
equal_tags-refl (x ∷ s) = rw (eq-eqb x x refl) (equal_tags-refl s)

pub equal_tags-true : (s t : List ℕ) → equal_tags s t ≡ true → s ≡ t
equal_tags-true [] [] h = refl
equal_tags-true [] (y ∷ t) h = cc
equal_tags-true (x ∷ s) [] h = cc
equal_tags-true (x ∷ s) (y ∷ t) h = go (eqb x y) refl h (equal_tags-true s t)
  where
    go : (q : Bool) → eqb x y ≡ q → cond q (equal_tags s t) false ≡ true → (equal_tags s t ≡ true → s ≡ t) → ◌≡◌ {A = List ℕ} (x ∷ s) (y ∷ t)
    go true e r ih = ap₂ {C = List ℕ} (λ y z. y ∷ z) (eqb-true x y e) (ih r)
    go false e r ih = cc

pub equal_tags-false : (s t : List ℕ) → s ≢ t → equal_tags s t ≡ false
equal_tags-false s t h = go (equal_tags s t) refl
  where
    go : (q : Bool) → equal_tags s t ≡ q → q ≡ false
    go true e = absurd (h (equal_tags-true s t e))
    go false e = refl

-- the rules' comparison is the ledger's
pub equal_tags-is : (s t : List ℕ) → same_bytes s t ≡ equal_tags s t
equal_tags-is [] [] = refl
equal_tags-is [] (y ∷ t) = refl
equal_tags-is (x ∷ s) [] = refl
equal_tags-is (x ∷ s) (y ∷ t) = go (eqb x y) (equal_tags-is s t)
  where
    go : (q : Bool) → same_bytes s t ≡ equal_tags s t → q && same_bytes s t ≡ cond q (equal_tags s t) false
    go true h = h
    go false h = refl

-- ---- one call at a ledger

module _ (m : PaperMode) (l : Ledger) (i : CallInput) where
  -- a wrap is accepted where it meets none of the checks before 11
  pub wrap-none : (ledger_wrap m l i).answer.number ≡ 0 → check_before11 m (wrap_finds m l i) i ≡ 0
  unfolding ledger_wrap
  wrap-none h = go (check_before11 m (wrap_finds m l i) i) h
    where
      go : (n : ℕ) → (on_check m n l i (accepts m l i (wrap_finds m l i) (wrap_finds m l i).tag)).answer.number ≡ 0 → n ≡ 0
      go zero g = refl
      go (suc n) g = g

  pub wrap-done : check_before11 m (wrap_finds m l i) i ≡ 0 → ledger_wrap m l i ≡ accepts m l i (wrap_finds m l i) (wrap_finds m l i).tag
  unfolding ledger_wrap
  wrap-done h = ap (λ (n : ℕ). on_check m n l i (accepts m l i (wrap_finds m l i) (wrap_finds m l i).tag)) h

  pub wrap-stays : (ledger_wrap m l i).answer.number ≢ 0 → (ledger_wrap m l i).ledger ≡ l
  unfolding ledger_wrap
  wrap-stays h = go (check_before11 m (wrap_finds m l i) i) h
    where
      go : (n : ℕ) → (on_check m n l i (accepts m l i (wrap_finds m l i) (wrap_finds m l i).tag)).answer.number ≢ 0
          → (on_check m n l i (accepts m l i (wrap_finds m l i) (wrap_finds m l i).tag)).ledger ≡ l
      go zero g = absurd (g refl)
      go (suc n) g = refl

  -- an arrival that meets none of the checks before 11, by its tag
  pub unwrap-same : check_before11 m (unwrap_finds m l i) i ≡ 0 → i.tag ≡ (unwrap_finds m l i).tag
      → ledger_unwrap m l i ≡ accepts m l i (unwrap_finds m l i) i.tag
  unfolding ledger_unwrap
  unwrap-same h g =
      ap₂ (λ (n : ℕ) (q : Bool). on_check m n l i (cond q (accepts m l i (unwrap_finds m l i) i.tag) (refuses11 m l i)))
      h (ap (equal_tags i.tag) (sym g) ∙ equal_tags-refl i.tag)

  pub unwrap-differs : check_before11 m (unwrap_finds m l i) i ≡ 0 → i.tag ≢ (unwrap_finds m l i).tag → ledger_unwrap m l i ≡ refuses11 m l i
  unfolding ledger_unwrap
  unwrap-differs h g =
      ap₂ (λ (n : ℕ) (q : Bool). on_check m n l i (cond q (accepts m l i (unwrap_finds m l i) i.tag) (refuses11 m l i)))
      h (equal_tags-false i.tag (unwrap_finds m l i).tag g)

  -- an arrival that meets a check, 11 included, is refused and leaves the ledger
  pub unwrap-stopped : (check_before11 m (unwrap_finds m l i) i ≢ 0) ⊎ (i.tag ≢ (unwrap_finds m l i).tag)
      → ((ledger_unwrap m l i).answer.number ≢ 0) × ((ledger_unwrap m l i).ledger ≡ l)
  unfolding ledger_unwrap
  unwrap-stopped h = go (check_before11 m (unwrap_finds m l i) i) h
    where
      r : PaperResult
      r = unwrap_finds m l i

      last : (q : Bool) → equal_tags i.tag r.tag ≡ q → i.tag ≢ r.tag
          → ((cond q (accepts m l i r i.tag) (refuses11 m l i)).answer.number ≢ 0) × ((cond q (accepts m l i r i.tag) (refuses11 m l i)).ledger ≡ l)
      last true e g = absurd (g (equal_tags-true i.tag r.tag e))
      last false e g = (omega arith, refl)

      go : (n : ℕ) → (n ≢ 0) ⊎ (i.tag ≢ r.tag)
          → ((on_check m n l i (cond (equal_tags i.tag r.tag) (accepts m l i r i.tag) (refuses11 m l i))).answer.number ≢ 0)
          × ((on_check m n l i (cond (equal_tags i.tag r.tag) (accepts m l i r i.tag) (refuses11 m l i))).ledger ≡ l)
      go zero (inl g) = absurd (g refl)
      go zero (inr g) = last (equal_tags i.tag r.tag) refl g
      go (suc n) g = (omega arith, refl)

-- a call that no check stopped is stopped by none with a tag of the mode's length and any output buffer that holds the text
check-again : (wrong : Bool) (a n t l o o' x : ℕ)
    → ◌≡◌ {A = ℕ} (cond wrong 1 (cond (ltb 16384 a || ltb 16384 n) 6 (cond (not (eqb t l)) 7 (cond (ltb o n) 8 (cond (ltb 1048576 x) 9 0))))) 0 → n ≤ o'
    → ◌≡◌ {A = ℕ} (cond wrong 1 (cond (ltb 16384 a || ltb 16384 n) 6 (cond (not (eqb l l)) 7 (cond (ltb o' n) 8 (cond (ltb 1048576 x) 9 0))))) 0
check-again wrong a n t l o o' x h f =
    go wrong (ltb 16384 a || ltb 16384 n) (not (eqb t l)) (ltb o n) (ltb 1048576 x) (not (eqb l l)) (ltb o' n) h (ap not (eq-eqb l l refl)) (le-ltb o' n f)
  where
    go : (b₁ b₂ b₃ b₄ b₅ c₃ c₄ : Bool) → ◌≡◌ {A = ℕ} (cond b₁ 1 (cond b₂ 6 (cond b₃ 7 (cond b₄ 8 (cond b₅ 9 0))))) 0
        → c₃ ≡ false → c₄ ≡ false → ◌≡◌ {A = ℕ} (cond b₁ 1 (cond b₂ 6 (cond c₃ 7 (cond c₄ 8 (cond b₅ 9 0))))) 0
    go true b₂ b₃ b₄ b₅ c₃ c₄ z p q = omega arith
    go false true b₃ b₄ b₅ c₃ c₄ z p q = omega arith
    go false false true b₄ b₅ c₃ c₄ z p q = omega arith
    go false false false true b₅ c₃ c₄ z p q = omega arith
    go false false false false true c₃ c₄ z p q = omega arith
    go false false false false false c₃ c₄ z p q = rw (p, q) refl

module _ {m : PaperMode} (laws : PaperLaws m) (l : Ledger) where
  -- what an accepted wrap gave, arriving at a ledger like the one that gave it: the message, and the ledger after that wrap
  pub unwrap-done : (x : Side) (i : CallInput) (out : List ℕ) → check_before11 m (wrap_finds m l i) i ≡ 0 → length i.text ≤ length out
      → (let j : CallInput = delivery (record { from = x; input = i; cryptogram = (wrap_finds m l i).text; tag = (wrap_finds m l i).tag }) out in
      ledger_unwrap m l j ≡ accepts m l j (restored_paper (wrap_finds m l i) i.text) (wrap_finds m l i).tag)
  unfolding ledger_unwrap
  unwrap-done x i out h f =
      ap (λ (r : PaperResult). on_check m (check_before11 m r j) l j (cond (equal_tags j.tag r.tag) (accepts m l j r j.tag) (refuses11 m l j)))
      (laws.undone l.key l.history l.toggle (string_a i) i.text)
      ∙ ap₂ (λ (n : ℕ) (q : Bool). on_check m n l j (cond q (accepts m l j r j.tag) (refuses11 m l j))) number (equal_tags-refl w.tag)
    where
      w : PaperResult
      w = wrap_finds m l i

      r : PaperResult
      r = restored_paper w i.text

      j : CallInput
      j = delivery (record { from = x; input = i; cryptogram = w.text; tag = w.tag }) out

      number : check_before11 m r j ≡ 0
      number =
          ap₂ (λ (n t : ℕ). cond (not (right_header m.letter i.header (length i.metadata) n)) 1
          (cond (ltb 16384 (length i.metadata) || ltb 16384 n) 6
          (cond (not (eqb t m.tag_length)) 7 (cond (ltb (length out) n) 8 (cond (ltb 1048576 (index_of w.history)) 9 0)))))
          (laws.wraps_length l.key l.history l.toggle (string_a i) i.text)
          (laws.wraps_tag l.key l.history l.toggle (string_a i) i.text)
          ∙ check-again (not (right_header m.letter i.header (length i.metadata) (length i.text))) (length i.metadata) (length i.text) (length i.tag) m.tag_length (length i.out) (length out) (index_of w.history) h f
