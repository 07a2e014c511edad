-- Each number is given if and only if its condition holds and no earlier one does: where the conditions are any (`First`), and at a
-- ledger; and the claims leave no number open. Assumes nothing.
use mathlib.Core.Bool.{Bool, true, false, not, ◌||◌, cond, true≢false}
use mathlib.Core.List.{List}
use mathlib.Core.Logic.{◌↔◌, ◌≢◌, ◌⊎◌, inl, inr}
use mathlib.Core.Path.{◌≡◌, refl, sym, ap, ◌∙◌}
use Prim.Native.Nat.{ℕ, zero, suc}
use native.Mathlib.Omega.{arith}
use borrow.Author.Tests.{ltb-true, ltb-false, eqb-true, eqb-false}
use lib.Dec.{ltb, eqb}
use lib.ListN.{length}
use Rattle.deck.specs.Deck.{index_of}
use Rattle.envelope.specs.Layout.{Known}
use Rattle.modes.specs.Call.{CallInput}
use Rattle.modes.specs.Header.{FollowsLayout}
use Rattle.modes.specs.Paper.{PaperResult}
use Rattle.modes.specs.Rules.{first_check_of}
use Rattle.modes.specs.Ledger.{PaperMode, Ledger, equal_tags, right_header, wrap_finds, unwrap_finds, check_before11, on_check, accepts, refuses11, ledger_wrap, ledger_unwrap}
use Rattle.modes.specs.Exactly.{Check1, Check6, Check7, Check8, Check9, NoneBefore11, Exactly1to9, WrapExactly, UnwrapExactly}
use Rattle.modes.proofs.Entries.{equal_tags-refl, equal_tags-true}
use Rattle.modes.proofs.Header.{right-follows, right-not}

-- a number that is k, under the condition of k; and one that is not, where that condition does not hold
pub is : {P : Type 0} {n k : ℕ} → n ≡ k → P → (n ≡ k) ↔ P
is e p = (λ h. p, λ h. e)

pub isnt : {P : Type 0} {n k : ℕ} → n ≢ k → (P → ⊥) → (n ≡ k) ↔ P
isnt e p = (λ h. absurd (e h), λ h. absurd (p h))

-- the first check, or x where there is none
abbrev pub or_else : ℕ → ℕ → ℕ
or_else zero x = x
or_else (suc k) x = suc k

-- ---- the first check that is met, by which of the conditions hold

module _ (letter : ℕ) (Check5 : Type 0) (tag_length after : ℕ) (i : CallInput) where
  abbrev Fits : Type 0
  Fits = FollowsLayout letter i

  abbrev C1 : Type 0
  C1 = Check1 letter Check5 tag_length after i

  abbrev C6 : Type 0
  C6 = Check6 letter Check5 tag_length after i

  abbrev C7 : Type 0
  C7 = Check7 letter Check5 tag_length after i

  abbrev C8 : Type 0
  C8 = Check8 letter Check5 tag_length after i

  abbrev C9 : Type 0
  C9 = Check9 letter Check5 tag_length after i

  abbrev None : Type 0
  None = NoneBefore11 letter Check5 tag_length after i

  -- one of the numbers, with all that it says
  pub data First : ℕ → Type 0 where
    is1 : C1 → First 1
    is5 : Fits → Check5 → First 5
    is6 : Fits → (Check5 → ⊥) → C6 → First 6
    is7 : Fits → (Check5 → ⊥) → (C6 → ⊥) → C7 → First 7
    is8 : Fits → (Check5 → ⊥) → (C6 → ⊥) → (C7 → ⊥) → C8 → First 8
    is9 : Fits → (Check5 → ⊥) → (C6 → ⊥) → (C7 → ⊥) → (C8 → ⊥) → C9 → First 9
    is0 : None → First 0

  -- the first check is one of them, with a header that fits
  pub first-check : Fits → (q : Bool) → (q ≡ false → Check5) → (q ≡ true → Check5 → ⊥)
      → First (first_check_of q after tag_length (length i.metadata) (length i.text) (length i.tag) (length i.out))
  first-check w false f g = is5 w (f refl)
  first-check w true f g =
      go (ltb 16384 (length i.metadata)) (ltb 16384 (length i.text)) (eqb (length i.tag) tag_length)
      (ltb (length i.out) (length i.text)) (ltb 1048576 after) refl refl refl refl refl
    where
      fits : ltb 16384 (length i.metadata) ≡ false → ltb 16384 (length i.text) ≡ false → C6 → ⊥
      fits p q (inl h) = omega (arith, h, ltb-false 16384 (length i.metadata) p)
      fits p q (inr h) = omega (arith, h, ltb-false 16384 (length i.text) q)

      sized : eqb (length i.tag) tag_length ≡ true → C7 → ⊥
      sized p h = h (eqb-true (length i.tag) tag_length p)

      holds : ltb (length i.out) (length i.text) ≡ false → C8 → ⊥
      holds p h = omega (arith, h, ltb-false (length i.out) (length i.text) p)

      go : (b₁ b₂ b₃ b₄ b₅ : Bool) → ltb 16384 (length i.metadata) ≡ b₁ → ltb 16384 (length i.text) ≡ b₂
          → eqb (length i.tag) tag_length ≡ b₃ → ltb (length i.out) (length i.text) ≡ b₄ → ltb 1048576 after ≡ b₅
          → First (cond (b₁ || b₂) 6 (cond (not b₃) 7 (cond b₄ 8 (cond b₅ 9 0))))
      go true b₂ b₃ b₄ b₅ p q s t u = is6 w (g refl) (inl (ltb-true 16384 (length i.metadata) p))
      go false true b₃ b₄ b₅ p q s t u = is6 w (g refl) (inr (ltb-true 16384 (length i.text) q))
      go false false false b₄ b₅ p q s t u = is7 w (g refl) (fits p q) (eqb-false (length i.tag) tag_length s)
      go false false true true b₅ p q s t u = is8 w (g refl) (fits p q) (sized s) (ltb-true (length i.out) (length i.text) t)
      go false false true false true p q s t u = is9 w (g refl) (fits p q) (sized s) (holds t) (ltb-true 1048576 after u)
      go false false true false false p q s t u =
          is0 (record {
            header = w;
            is_open = g refl;
            metadata = ltb-false 16384 (length i.metadata) p;
            text = ltb-false 16384 (length i.text) q;
            tag = eqb-true (length i.tag) tag_length s;
            out = ltb-false (length i.out) (length i.text) t;
            index = ltb-false 1048576 after u;
          })

  -- a call that meets none meets none of them singly
  no6 : None → C6 → ⊥
  no6 c (inl h) = omega (arith, h, c.metadata)
  no6 c (inr h) = omega (arith, h, c.text)

  no8 : None → C8 → ⊥
  no8 c h = omega (arith, h, c.out)

  no9 : None → C9 → ⊥
  no9 c h = omega (arith, h, c.index)

  -- the number n of a call whose first check is k, and which gets x, 0 or 11, where there is none
  exactly : (k x n : ℕ) → First k → (x ≡ 0) ⊎ (x ≡ 11) → n ≡ or_else k x → Exactly1to9 letter Check5 tag_length after i n
  exactly k x n (is1 f) y e =
      record {
        one = is e f;
        five = isnt (omega arith) (λ h. h.0 f);
        six = isnt (omega arith) (λ h. h.0 f);
        seven = isnt (omega arith) (λ h. h.0 f);
        eight = isnt (omega arith) (λ h. h.0 f);
        nine = isnt (omega arith) (λ h. h.0 f);
      }
  exactly k x n (is5 f a) y e =
      record {
        one = isnt (omega arith) (λ h. h f);
        five = is e (λ h. h f, a);
        six = isnt (omega arith) (λ h. h.1 a);
        seven = isnt (omega arith) (λ h. h.1 a);
        eight = isnt (omega arith) (λ h. h.1 a);
        nine = isnt (omega arith) (λ h. h.1 a);
      }
  exactly k x n (is6 f o a) y e =
      record {
        one = isnt (omega arith) (λ h. h f);
        five = isnt (omega arith) (λ h. o h.1);
        six = is e (λ h. h f, o, a);
        seven = isnt (omega arith) (λ h. h.2 a);
        eight = isnt (omega arith) (λ h. h.2 a);
        nine = isnt (omega arith) (λ h. h.2 a);
      }
  exactly k x n (is7 f o a b) y e =
      record {
        one = isnt (omega arith) (λ h. h f);
        five = isnt (omega arith) (λ h. o h.1);
        six = isnt (omega arith) (λ h. a h.2);
        seven = is e (λ h. h f, o, a, b);
        eight = isnt (omega arith) (λ h. h.3 b);
        nine = isnt (omega arith) (λ h. h.3 b);
      }
  exactly k x n (is8 f o a b c) y e =
      record {
        one = isnt (omega arith) (λ h. h f);
        five = isnt (omega arith) (λ h. o h.1);
        six = isnt (omega arith) (λ h. a h.2);
        seven = isnt (omega arith) (λ h. b h.3);
        eight = is e (λ h. h f, o, a, b, c);
        nine = isnt (omega arith) (λ h. h.4 c);
      }
  exactly k x n (is9 f o a b c d) y e =
      record {
        one = isnt (omega arith) (λ h. h f);
        five = isnt (omega arith) (λ h. o h.1);
        six = isnt (omega arith) (λ h. a h.2);
        seven = isnt (omega arith) (λ h. b h.3);
        eight = isnt (omega arith) (λ h. c h.4);
        nine = is e (λ h. h f, o, a, b, c, d);
      }
  exactly k x n (is0 c) y e =
      record {
        one = isnt (other (omega arith) (omega arith)) (λ h. h c.header);
        five = isnt (other (omega arith) (omega arith)) (λ h. c.is_open h.1);
        six = isnt (other (omega arith) (omega arith)) (λ h. no6 c h.2);
        seven = isnt (other (omega arith) (omega arith)) (λ h. h.3 c.tag);
        eight = isnt (other (omega arith) (omega arith)) (λ h. no8 c h.4);
        nine = isnt (other (omega arith) (omega arith)) (λ h. no9 c h.5);
      }
    where
      other : {q : ℕ} → q ≢ 0 → q ≢ 11 → n ≢ q
      other {q} f g h = at y
        where
          at : (x ≡ 0) ⊎ (x ≡ 11) → ⊥
          at (inl z) = f (sym h ∙ e ∙ z)
          at (inr z) = g (sym h ∙ e ∙ z)

  -- a number that is 0 or 11 shows that no check before 11 is met
  none-met : (k x n : ℕ) → First k → n ≡ or_else k x → (n ≡ 0) ⊎ (n ≡ 11) → None × (n ≡ x)
  none-met k x n (is1 f) e (inl h) = absurd (omega arith)
  none-met k x n (is1 f) e (inr h) = absurd (omega arith)
  none-met k x n (is5 f a) e (inl h) = absurd (omega arith)
  none-met k x n (is5 f a) e (inr h) = absurd (omega arith)
  none-met k x n (is6 f o a) e (inl h) = absurd (omega arith)
  none-met k x n (is6 f o a) e (inr h) = absurd (omega arith)
  none-met k x n (is7 f o a b) e (inl h) = absurd (omega arith)
  none-met k x n (is7 f o a b) e (inr h) = absurd (omega arith)
  none-met k x n (is8 f o a b c) e (inl h) = absurd (omega arith)
  none-met k x n (is8 f o a b c) e (inr h) = absurd (omega arith)
  none-met k x n (is9 f o a b c d) e (inl h) = absurd (omega arith)
  none-met k x n (is9 f o a b c d) e (inr h) = absurd (omega arith)
  none-met k x n (is0 c) e h = (c, e)

  -- where no check is met there is no first one
  pub met-none : (k : ℕ) → First k → None → k ≡ 0
  met-none k (is1 f) c = absurd (f c.header)
  met-none k (is5 f a) c = absurd (c.is_open a)
  met-none k (is6 f o a) c = absurd (no6 c a)
  met-none k (is7 f o a b) c = absurd (b c.tag)
  met-none k (is8 f o a b d) c = absurd (no8 c d)
  met-none k (is9 f o a b d g) c = absurd (no9 c g)
  met-none k (is0 a) c = refl

  -- the number of a call that gets 0 where no check is met
  pub by_first : (k n : ℕ) → First k → n ≡ or_else k 0 → Exactly1to9 letter Check5 tag_length after i n × ((n ≡ 0) ↔ None)
  by_first k n f e =
      (exactly k 0 n f (inl refl) e, (λ h. (none-met k 0 n f e (inl h)).0, λ c. e ∙ ap (λ (k : ℕ). or_else k 0) (met-none k f c)))

  -- the number of a call that compares its tag with the one found where no check is met: 0 or 11, by whether they are equal
  pub by-tag : (found : List ℕ) (k n : ℕ) (q : Bool) → First k → (q ≡ true → i.tag ≡ found) → (q ≡ false → i.tag ≢ found) → n ≡ or_else k (cond q 0 11)
      → Exactly1to9 letter Check5 tag_length after i n × ((n ≡ 11) ↔ (None × (i.tag ≢ found))) × ((n ≡ 0) ↔ (None × (i.tag ≡ found)))
  by-tag found k n true f s d e = (
    exactly k 0 n f (inl refl) e,
    (λ h. absurd (omega (arith, (none-met k 0 n f e (inr h)).1)), λ c. absurd (c.1 (s refl))),
    (λ h. ((none-met k 0 n f e (inl h)).0, s refl), λ c. e ∙ ap (λ (k : ℕ). or_else k 0) (met-none k f c.0)),
  )
  by-tag found k n false f s d e = (
    exactly k 11 n f (inr refl) e,
    (λ h. ((none-met k 11 n f e (inr h)).0, d refl), λ c. e ∙ ap (λ (k : ℕ). or_else k 11) (met-none k f c.0)),
    (λ h. absurd (omega (arith, (none-met k 11 n f e (inl h)).1)), λ c. absurd (d refl c.1)),
  )

-- ---- at a ledger, of a mode whose letter is one of an envelope

module _ (m : PaperMode) (known : Known m.letter) (r : PaperResult) (i : CallInput) where
  abbrev after : ℕ
  after = index_of r.history

  pub ledger-first : First m.letter ⊥ m.tag_length after i (check_before11 m r i)
  ledger-first = go (right_header m.letter i.header (length i.metadata) (length i.text)) refl
    where
      go : (q : Bool) → right_header m.letter i.header (length i.metadata) (length i.text) ≡ q
          → First m.letter ⊥ m.tag_length after i
          (cond (not q) 1 (first_check_of true after m.tag_length (length i.metadata) (length i.text) (length i.tag) (length i.out)))
      go true e = first-check m.letter ⊥ m.tag_length after i ((right-follows m.letter known i).0 e) true true≢false (λ h z. z)
      go false e = is1 ((right-not m.letter known i).0 e)

  -- the first check is 0 exactly where none is met
  pub check-none : check_before11 m r i ≡ 0 → NoneBefore11 m.letter ⊥ m.tag_length after i
  check-none h = (none-met m.letter ⊥ m.tag_length after i (check_before11 m r i) 0 0 ledger-first (sym (ap (λ (k : ℕ). or_else k 0) h)) (inl refl)).0

  pub none-check : NoneBefore11 m.letter ⊥ m.tag_length after i → check_before11 m r i ≡ 0
  none-check c = met-none m.letter ⊥ m.tag_length after i (check_before11 m r i) ledger-first c

module _ (m : PaperMode) (known : Known m.letter) (l : Ledger) (i : CallInput) where
  wrap-number : (ledger_wrap m l i).answer.number ≡ or_else (check_before11 m (wrap_finds m l i) i) 0
  unfolding ledger_wrap
  wrap-number = go (check_before11 m (wrap_finds m l i) i)
    where
      go : (k : ℕ) → (on_check m k l i (accepts m l i (wrap_finds m l i) (wrap_finds m l i).tag)).answer.number ≡ or_else k 0
      go zero = refl
      go (suc k) = refl

  pub wrap-exactly : WrapExactly m l i (ledger_wrap m l i).answer.number
  wrap-exactly =
      let r : PaperResult = wrap_finds m l i in
      let z = by_first m.letter ⊥ m.tag_length (index_of r.history) i (check_before11 m r i) _ (ledger-first m known r i) wrap-number in
      record { refused = z.0; accepted = z.1 }

  unwrap-number : (ledger_unwrap m l i).answer.number ≡ or_else (check_before11 m (unwrap_finds m l i) i) (cond (equal_tags i.tag (unwrap_finds m l i).tag) 0 11)
  unfolding ledger_unwrap
  unwrap-number = go (check_before11 m (unwrap_finds m l i) i) (equal_tags i.tag (unwrap_finds m l i).tag)
    where
      go : (k : ℕ) (q : Bool) → (on_check m k l i (cond q (accepts m l i (unwrap_finds m l i) i.tag) (refuses11 m l i))).answer.number ≡ or_else k (cond q 0 11)
      go zero true = refl
      go zero false = refl
      go (suc k) q = refl

  pub unwrap-exactly : UnwrapExactly m l i (ledger_unwrap m l i).answer.number
  unwrap-exactly =
      let z =
      by-tag m.letter ⊥ m.tag_length (index_of r.history) i r.tag (check_before11 m r i) _ (equal_tags i.tag r.tag) (ledger-first m known r i)
      (equal_tags-true i.tag r.tag) differ unwrap-number in
      record { refused = z.0; eleven = z.1; accepted = z.2 }
    where
      r : PaperResult
      r = unwrap_finds m l i

      differ : equal_tags i.tag r.tag ≡ false → i.tag ≢ r.tag
      differ e h = true≢false (sym (equal_tags-refl i.tag) ∙ ap (equal_tags i.tag) h ∙ e)

-- ---- the claims leave no number open

module _ (m : PaperMode) (known : Known m.letter) (l : Ledger) (i : CallInput) (n : ℕ) where
  pub wrap-decided : WrapExactly m l i n → n ≡ (ledger_wrap m l i).answer.number
  wrap-decided x = go (check_before11 m (wrap_finds m l i) i) (ledger-first m known (wrap_finds m l i) i) ∙ sym (wrap-number m known l i)
    where
      go : (k : ℕ) → First m.letter ⊥ m.tag_length (index_of (wrap_finds m l i).history) i k → n ≡ or_else k 0
      go k (is1 f) = x.refused.one.1 f
      go k (is5 f z) = absurd z
      go k (is6 f o a) = x.refused.six.1 (λ h. h f, o, a)
      go k (is7 f o a b) = x.refused.seven.1 (λ h. h f, o, a, b)
      go k (is8 f o a b c) = x.refused.eight.1 (λ h. h f, o, a, b, c)
      go k (is9 f o a b c d) = x.refused.nine.1 (λ h. h f, o, a, b, c, d)
      go k (is0 c) = x.accepted.1 c

  pub unwrap-decided : UnwrapExactly m l i n → n ≡ (ledger_unwrap m l i).answer.number
  unwrap-decided x =
      go (check_before11 m (unwrap_finds m l i) i) (equal_tags i.tag (unwrap_finds m l i).tag) refl (ledger-first m known (unwrap_finds m l i) i) ∙ sym (unwrap-number m known l i)
    where
      found : List ℕ
      found = (unwrap_finds m l i).tag

      go : (k : ℕ) (q : Bool) → equal_tags i.tag found ≡ q → First m.letter ⊥ m.tag_length (index_of (unwrap_finds m l i).history) i k → n ≡ or_else k (cond q 0 11)
      go k q e (is1 f) = x.refused.one.1 f
      go k q e (is5 f z) = absurd z
      go k q e (is6 f o a) = x.refused.six.1 (λ h. h f, o, a)
      go k q e (is7 f o a b) = x.refused.seven.1 (λ h. h f, o, a, b)
      go k q e (is8 f o a b c) = x.refused.eight.1 (λ h. h f, o, a, b, c)
      go k q e (is9 f o a b c d) = x.refused.nine.1 (λ h. h f, o, a, b, c, d)
      go k true e (is0 c) = x.accepted.1 (c, equal_tags-true i.tag found e)
      go k false e (is0 c) = x.eleven.1 (c, λ h. true≢false (sym (equal_tags-refl i.tag) ∙ ap (equal_tags i.tag) h ∙ e))
