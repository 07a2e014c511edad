-- A start with a nonce is refused by 4, 6 or 7 exactly by the lengths of what it is handed, and is otherwise the start of the history whose one
-- string is the nonce, with Algorithm 2's tag. Assumes nothing.
use mathlib.Core.Bool.{Bool, true, false, not, ◌&&◌, cond}
use mathlib.Core.List.{List, [], ◌∷◌}
use mathlib.Core.Logic.{◌↔◌, ◌≢◌, ◌⊎◌, inl, inr}
use mathlib.Core.Path.{◌≡◌, refl, sym, ap, ◌∙◌, subst}
use Prim.Native.Nat.{ℕ, suc, ◌+◌, ◌/◌, ◌<◌, ◌≤◌}
use native.Mathlib.Omega.{arith}
use borrow.Author.Tests.{ltb-true, ltb-false, eqb-true, eqb-false, leb-true, leb-false}
use lib.Dec.{ltb, leb, eqb}
use lib.ListN.{length}
use Rattle.deck.specs.declared.DeckState.{DeckState}
use Rattle.deck.specs.Strings.{framed}
use Rattle.deck.specs.Deck.{run, index_of, index_growth, output_mask, deck}
use Rattle.deck.specs.Incremental.{append, output, from_scratch}
use Rattle.deck.proofs.Strings.{blocks_is}
use Rattle.deck.proofs.Incremental.{from_scratch-more, output-from_scratch}
use Rattle.modes.specs.Mode.{incremental, tag_of, sane_parameters}
use Rattle.modes.specs.PaperSane.{sane_opens, sane_opening_tag}
use Rattle.modes.specs.Rules.{SessionState, NonceOpening, key_fits, nonce_check, nonce_session, nonce_opening, nonce_start_at, new_session}
use Rattle.modes.specs.OneCall.{session_of}
use Rattle.modes.specs.NonceStart.{NonceAccepted, nonce_refused, Nonce4, Nonce6, Nonce7, NonceFits, NonceExactly}
use Rattle.modes.proofs.PapersStream.{first16-is}
use Rattle.modes.proofs.Exactly.{is, isnt}
use Rattle.modes.proofs.Start.{new-session}

-- ---- the session, its index and the tag

-- the session is that of the history whose one string is the nonce
pub nonce-session : (key nonce : List ℕ) → nonce_session key nonce ≡ session_of key (sane_opens nonce) false
unfolding from_scratch output_mask
nonce-session key nonce = λ i. record { history = history i; toggle = false; opened = true }
  where
    history : append (new_session key).history (framed nonce []) ≡ (session_of key (sane_opens nonce) false).history
    history =
        ap (λ (s : SessionState DeckState). append s.history (framed nonce [])) (new-session key) ∙ sym (from_scratch-more key [] (framed nonce []))

-- b(N) + 1
pub nonce-index : (nonce : List ℕ) → index_of (sane_opens nonce) ≡ (length nonce / 48 + 1) + 1
unfolding index_of index_growth
nonce-index nonce = omega (arith, blocks_is (framed nonce []) (omega arith))

-- the tag is Algorithm 2's
nonce-tag : (key nonce : List ℕ) → tag_of sane_parameters incremental (nonce_session key nonce).history ≡ sane_opening_tag key nonce
unfolding from_scratch output_mask
nonce-tag key nonce =
    ap (λ (s : SessionState DeckState). tag_of sane_parameters incremental s.history) (nonce-session key nonce)
    ∙ ap (λ (f : ℕ → ℕ). run f 0 16) outputs ∙ sym (first16-is (deck key (sane_opens nonce)))
  where
    outputs : output (session_of key (sane_opens nonce) false).history ≡ deck key (sane_opens nonce)
    outputs = output-from_scratch key (sane_opens nonce)

-- ---- the number

module _ (key nonce tag : List ℕ) where
  -- what is known of a start's number
  data First : ℕ → Type 0 where
    is4 : Nonce4 key nonce tag → First 4
    is6 : (Nonce4 key nonce tag → ⊥) → Nonce6 key nonce tag → First 6
    is7 : (Nonce4 key nonce tag → ⊥) → (Nonce6 key nonce tag → ⊥) → Nonce7 key nonce tag → First 7
    is0 : NonceFits key nonce tag → First 0

  not4 : 16 ≤ length key → length key ≤ 47 → Nonce4 key nonce tag → ⊥
  not4 a b (inl h) = omega arith
  not4 a b (inr h) = omega arith

  first-check : First (nonce_check (key_fits key) 16 (length nonce) (length tag))
  first-check = go (leb 16 (length key)) (leb (length key) 47) (ltb 16384 (length nonce)) (eqb (length tag) 16) refl refl refl refl
    where
      go : (p q r s : Bool) → leb 16 (length key) ≡ p → leb (length key) 47 ≡ q → ltb 16384 (length nonce) ≡ r → eqb (length tag) 16 ≡ s
          → First (cond (not (p && q)) 4 (cond r 6 (cond (not s) 7 0)))
      go false q r s a b c d = is4 (inl (leb-false 16 (length key) a))
      go true false r s a b c d = is4 (inr (leb-false (length key) 47 b))
      go true true true s a b c d = is6 (not4 (leb-true 16 (length key) a) (leb-true (length key) 47 b)) (ltb-true 16384 (length nonce) c)
      go true true false false a b c d =
          is7 (not4 (leb-true 16 (length key) a) (leb-true (length key) 47 b)) (λ h. omega (arith, ltb-false 16384 (length nonce) c))
          (eqb-false (length tag) 16 d)
      go true true false true a b c d =
          is0
          (record {
            key-long = leb-true 16 (length key) a;
            key-short = leb-true (length key) 47 b;
            nonce-short = ltb-false 16384 (length nonce) c;
            tag_fits = eqb-true (length tag) 16 d;
          })

  -- the opening of each number
  abbrev opening : ℕ → NonceOpening
  opening n = nonce_opening sane_parameters key nonce tag n

  -- where nothing stops it
  opened : NonceAccepted key nonce (opening 0)
  opened =
      record {
        number = refl;
        count = refl;
        tag = nonce-tag key nonce;
        session = nonce-session key nonce;
        index = ap (λ (s : SessionState DeckState). s.history.index) (nonce-session key nonce) ∙ nonce-index nonce;
      }

  -- each condition that is met rules out those of other numbers
  no4 : NonceFits key nonce tag → Nonce4 key nonce tag → ⊥
  no4 f = not4 f.key-long f.key-short

  by_first : (n : ℕ) → First n → NonceExactly key nonce tag (opening n)
  by_first n (is4 z) =
      record {
        accepted = isnt (λ h. omega arith) (λ f. no4 f z);
        four = is refl z;
        six = isnt (λ h. omega arith) (λ w. w.0 z);
        seven = isnt (λ h. omega arith) (λ w. w.0 z);
        opens = λ h. absurd (omega arith);
        refused = λ h. refl;
      }
  by_first n (is6 a z) =
      record {
        accepted = isnt (λ h. omega arith) (λ f. omega (arith, f.nonce-short));
        four = isnt (λ h. omega arith) a;
        six = is refl (a, z);
        seven = isnt (λ h. omega arith) (λ w. w.1 z);
        opens = λ h. absurd (omega arith);
        refused = λ h. refl;
      }
  by_first n (is7 a b z) =
      record {
        accepted = isnt (λ h. omega arith) (λ f. z f.tag_fits);
        four = isnt (λ h. omega arith) a;
        six = isnt (λ h. omega arith) (λ w. b w.1);
        seven = is refl (a, b, z);
        opens = λ h. absurd (omega arith);
        refused = λ h. refl;
      }
  by_first n (is0 f) =
      record {
        accepted = is refl f;
        four = isnt (λ h. omega arith) (no4 f);
        six = isnt (λ h. omega arith) (λ w. omega (arith, w.1, f.nonce-short));
        seven = isnt (λ h. omega arith) (λ w. w.2 f.tag_fits);
        opens = λ h. opened;
        refused = λ h. absurd (h refl);
      }

  pub nonce-exactly : NonceExactly key nonce tag (nonce_start_at sane_parameters key nonce tag)
  unfolding nonce_start_at
  nonce-exactly = by_first (nonce_check (key_fits key) 16 (length nonce) (length tag)) first-check

  -- the claim leaves nothing open
  pub nonce-decided : (o : NonceOpening) → NonceExactly key nonce tag o → o ≡ nonce_start_at sane_parameters key nonce tag
  unfolding nonce_start_at
  nonce-decided o c = go (nonce_check (key_fits key) 16 (length nonce) (length tag)) first-check
    where
      stopped : (n : ℕ) → o.number ≡ suc n → o ≡ opening (suc n)
      stopped n e = c.refused (λ z. omega arith) ∙ ap (λ (n : ℕ). nonce_refused tag n) e

      go : (n : ℕ) → First n → o ≡ opening n
      go n (is4 z) = stopped 3 (c.four.1 z)
      go n (is6 a z) = stopped 5 (c.six.1 (a, z))
      go n (is7 a b z) = stopped 6 (c.seven.1 (a, b, z))
      go n (is0 f) =
          let a = c.opens (c.accepted.1 f) in
          let t = a.tag ∙ sym opened.tag in
          let s = a.session ∙ sym opened.session in
          λ i. record { number = a.number i; count = a.count i; session = s i; tag = t i }
