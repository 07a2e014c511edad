-- Codes of packets: each number exactly, of any session; the code of what a session keeps is that of the whole history; and its count, from the
-- leaf's. Assumes nothing.
use mathlib.Core.Bool.{Bool, true, false, not, ◌||◌, cond, true≢false}
use mathlib.Core.List.{List, [], ◌∷◌}
use mathlib.Core.Logic.{◌↔◌, ◌≢◌, ◌⊎◌, inl, inr}
use mathlib.Core.Path.{◌≡◌, refl, sym, ap, ◌∙◌}
use Prim.Native.Nat.{ℕ, suc, ◌+◌, ◌*◌, ◌<◌, ◌≤◌}
use native.Mathlib.Omega.{arith}
use borrow.Author.Tests.{ltb-true, ltb-false, eqb-true, eqb-false}
use lib.Dec.{ltb, eqb}
use lib.ListN.{length}
use Rattle.deck.specs.declared.DeckState.{DeckState}
use Rattle.deck.specs.Strings.{Str}
use Rattle.deck.specs.Deck.{deck, index_of, index_growth, output_mask}
use Rattle.deck.specs.Incremental.{output, from_scratch}
use Rattle.deck.proofs.Incremental.{output-from_scratch}
use Rattle.xoofff.specs.Leaves.{output_blocks}
use Rattle.modes.specs.Mode.{HistoryRep, incremental}
use Rattle.modes.specs.Rules.{SessionState}
use Rattle.modes.specs.OneCall.{session_of}
use Rattle.modes.specs.Codes.{CodeOutcome, code_check, no_code, code_given, unless_check, code_at, Code5, Code12, AnyCode, CodeClaim}
use Rattle.modes.proofs.Exactly.{is, isnt}

-- ---- the count

-- 8 bytes from a multiple of 8 on lie in one block of 48
pub one_block : (packet : ℕ) → output_blocks (32 + 8 * packet) 8 ≡ 1
unfolding output_blocks
one_block packet = omega arith

-- so that a code takes one permutation of the accumulator and one for its block, by the leaf's count of blocks
pub code-counts : (f : ℕ → ℕ) (packet : ℕ) (out : List ℕ) → (code_given f packet out).count ≡ 1 + output_blocks (32 + 8 * packet) 8
code-counts f packet out = omega (arith, one_block packet)

-- ---- each number exactly, of any session

module _ {S : Type 0} (d : HistoryRep S) (s : SessionState S) (packet : ℕ) (out : List ℕ) where
  abbrev index : ℕ
  index = d.index s.history

  -- the first check that is met, with all that it says
  data First : ℕ → Type 0 where
    is5 : s.opened ≡ false → First 5
    is12 : s.opened ≡ true → Code12 d s packet out → First 12
    is8 : s.opened ≡ true → 0 < index → packet ≤ 2047 → length out < 8 → First 8
    is0 : s.opened ≡ true → 0 < index → packet ≤ 2047 → 8 ≤ length out → First 0

  first : First (code_check s.opened index packet (length out))
  first = go s.opened refl (eqb index 0) refl (ltb 2047 packet) refl (ltb (length out) 8) refl
    where
      go : (q : Bool) → s.opened ≡ q → (a : Bool) → eqb index 0 ≡ a → (b : Bool) → ltb 2047 packet ≡ b → (c : Bool) → ltb (length out) 8 ≡ c
          → First (cond (not q) 5 (cond (a || b) 12 (cond c 8 0)))
      go false o a x b y c z = is5 o
      go true o true x b y c z = is12 o (inl (eqb-true index 0 x))
      go true o false x true y c z = is12 o (inr (ltb-true 2047 packet y))
      go true o false x false y true z = is8 o (omega (arith, eqb-false index 0 x)) (ltb-false 2047 packet y) (ltb-true (length out) 8 z)
      go true o false x false y false z = is0 o (omega (arith, eqb-false index 0 x)) (ltb-false 2047 packet y) (ltb-false (length out) 8 z)

  abbrev done : CodeOutcome
  done = code_given (d.keystream s.history) packet out

  -- the session is open: 5 is not met; and where the index is not 0 and the packet within its limit 12 is not met
  no5 : s.opened ≡ true → Code5 d s packet out → ⊥
  no5 o z = true≢false (sym o ∙ z)

  no12 : 0 < index → packet ≤ 2047 → Code12 d s packet out → ⊥
  no12 i p (inl z) = omega arith
  no12 i p (inr z) = omega arith

  by_first : (n : ℕ) → First n → AnyCode d s packet out (unless_check n out done)
  by_first n (is5 z) =
      record {
        five = is refl z;
        twelve = isnt (λ h. omega arith) (λ w. w.0 z);
        eight = isnt (λ h. omega arith) (λ w. w.0 z);
        given = isnt (λ h. omega arith) (λ w. no5 w.0 z);
        code = λ h. absurd (omega arith);
        refused = λ h. refl;
      }
  by_first n (is12 o z) =
      record {
        five = isnt (λ h. omega arith) (no5 o);
        twelve = is refl (no5 o, z);
        eight = isnt (λ h. omega arith) (λ w. w.1 z);
        given = isnt (λ h. omega arith) (λ w. no12 w.1 w.2 z);
        code = λ h. absurd (omega arith);
        refused = λ h. refl;
      }
  by_first n (is8 o i p z) =
      record {
        five = isnt (λ h. omega arith) (no5 o);
        twelve = isnt (λ h. omega arith) (λ w. no12 i p w.1);
        eight = is refl (no5 o, no12 i p, z);
        given = isnt (λ h. omega arith) (λ w. omega (arith, w.3));
        code = λ h. absurd (omega arith);
        refused = λ h. refl;
      }
  by_first n (is0 o i p z) =
      record {
        five = isnt (λ h. omega arith) (no5 o);
        twelve = isnt (λ h. omega arith) (λ w. no12 i p w.1);
        eight = isnt (λ h. omega arith) (λ w. omega (arith, w.2));
        given = is refl (o, i, p, z);
        code = λ h. refl;
        refused = λ h. absurd (h refl);
      }

  pub any_code : AnyCode d s packet out (code_at d s packet out)
  unfolding code_at
  any_code = by_first (code_check s.opened index packet (length out)) first

  -- the claim leaves nothing open
  pub any-code-decided : (o : CodeOutcome) → AnyCode d s packet out o → o ≡ code_at d s packet out
  unfolding code_at
  any-code-decided o c = go (code_check s.opened index packet (length out)) first
    where
      stopped : (n : ℕ) → o.number ≡ suc n → o ≡ no_code (suc n) out
      stopped n e = c.refused (λ z. omega arith) ∙ ap (λ (n : ℕ). no_code n out) e

      go : (n : ℕ) → First n → o ≡ unless_check n out done
      go n (is5 z) = stopped 4 (c.five.1 z)
      go n (is12 p z) = stopped 11 (c.twelve.1 (no5 p, z))
      go n (is8 p i q z) = stopped 7 (c.eight.1 (no5 p, no12 i q, z))
      go n (is0 p i q z) = c.code (c.given.1 (p, i, q, z))

-- ---- of the session that a history gives

-- the index is 0 exactly where the history has no string
pub index-none : (h : List Str) → (index_of h ≡ 0) ↔ (h ≡ [])
unfolding index_of index_growth
index-none [] = (λ e. refl, λ e. refl)
index-none (s ∷ h) = (λ e. absurd (omega arith), λ e. ap index_of e)

index-some : (h : List Str) → h ≢ [] → 0 < index_of h
unfolding index_of index_growth
index-some [] n = absurd (n refl)
index-some (s ∷ h) n = omega arith

module _ (key : List ℕ) (h : List Str) (e : Bool) (packet : ℕ) (out : List ℕ) where
  abbrev session : SessionState DeckState
  session = session_of key h e

  -- the code of what a session keeps of the history is that of the deck function, from the first string on
  pub code-from-scratch : code_given (output session.history) packet out ≡ code_given (deck key h) packet out
  unfolding from_scratch output_mask
  code-from-scratch = ap (λ (f : ℕ → ℕ). code_given f packet out) (output-from_scratch key h)

  pub code-claim : CodeClaim key h packet out (code_at incremental session packet out)
  code-claim =
      record {
        twelve = λ z. stopped 11 (a.twelve.1 (no5', is12' z));
        eight = λ n p z. stopped 7 (a.eight.1 (no5', no12' n p, z));
        code = λ n p z. a.code (a.given.1 (refl, index-some h n, p, z)) ∙ code-from-scratch;
      }
    where
      a : AnyCode incremental session packet out (code_at incremental session packet out)
      a = any_code incremental session packet out

      stopped : (n : ℕ) → (code_at incremental session packet out).number ≡ suc n → code_at incremental session packet out ≡ no_code (suc n) out
      stopped n g = a.refused (λ z. omega arith) ∙ ap (λ (n : ℕ). no_code n out) g

      no5' : Code5 incremental session packet out → ⊥
      no5' = true≢false

      is12' : (h ≡ []) ⊎ (2047 < packet) → Code12 incremental session packet out
      is12' (inl z) = inl ((index-none h).1 z)
      is12' (inr z) = inr z

      no12' : h ≢ [] → packet ≤ 2047 → Code12 incremental session packet out → ⊥
      no12' n p (inl z) = n ((index-none h).0 z)
      no12' n p (inr z) = omega arith

-- ---- what the claim says

module _ (key : List ℕ) (packet : ℕ) (out : List ℕ) where
  -- one of the claim's three cases is there
  data Case (h : List Str) : Type 0 where
    without_code : (h ≡ []) ⊎ (2047 < packet) → Case h
    no_room : h ≢ [] → packet ≤ 2047 → length out < 8 → Case h
    room : h ≢ [] → packet ≤ 2047 → 8 ≤ length out → Case h

  case : (h : List Str) → Case h
  case [] = without_code (inl refl)
  case (s ∷ h) = go (ltb 2047 packet) refl (ltb (length out) 8) refl
    where
      some : s ∷ h ≢ []
      some e = omega (arith, ap length e)

      go : (a : Bool) → ltb 2047 packet ≡ a → (b : Bool) → ltb (length out) 8 ≡ b → Case (s ∷ h)
      go true x b y = without_code (inr (ltb-true 2047 packet x))
      go false x true y = no_room some (ltb-false 2047 packet x) (ltb-true (length out) 8 y)
      go false x false y = room some (ltb-false 2047 packet x) (ltb-false (length out) 8 y)

  -- it leaves nothing open
  pub claim-decides : (h : List Str) (o o' : CodeOutcome) → CodeClaim key h packet out o → CodeClaim key h packet out o' → o ≡ o'
  claim-decides h o o' c c' = go (case h)
    where
      go : Case h → o ≡ o'
      go (without_code z) = c.twelve z ∙ sym (c'.twelve z)
      go (no_room n p z) = c.eight n p z ∙ sym (c'.eight n p z)
      go (room n p z) = c.code n p z ∙ sym (c'.code n p z)

  -- 12 is given just where the history has no string, or the packet is above 2,047
  pub claim-twelve : (h : List Str) (o : CodeOutcome) → CodeClaim key h packet out o → (o.number ≡ 12) ↔ ((h ≡ []) ⊎ (2047 < packet))
  claim-twelve h o c = (λ e. go e (case h), λ z. ap (λ (o : CodeOutcome). o.number) (c.twelve z))
    where
      go : o.number ≡ 12 → Case h → (h ≡ []) ⊎ (2047 < packet)
      go e (without_code z) = z
      go e (no_room n p z) = absurd (omega (arith, e, ap (λ (o : CodeOutcome). o.number) (c.eight n p z)))
      go e (room n p z) = absurd (omega (arith, e, ap (λ (o : CodeOutcome). o.number) (c.code n p z)))
