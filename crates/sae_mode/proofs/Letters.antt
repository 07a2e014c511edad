-- One letter: an unwrap by the session of a history gives what 001 says over that history, and a refusal leaves the session. Assumes nothing.
use mathlib.Core.Bool.{Bool, true, false, cond, true≢false}
use mathlib.Core.List.{List, [], ◌∷◌}
use mathlib.Core.Logic.{◌≢◌}
use mathlib.Core.Path.{◌≡◌, refl, sym, ap, ◌∙◌, subst}
use Prim.Native.Nat.{ℕ}
use borrow.Author.Tests.{eqb-true, eqb-false}
use lib.Dec.{eqb}
use lib.ListN.{length, take}
use lib.Seq.{take_at}
use Rattle.deck.specs.declared.DeckState.{DeckState}
use Rattle.deck.specs.Strings.{Str}
use Rattle.deck.specs.Deck.{index_of}
use Rattle.modes.specs.Mode.{incremental}
use Rattle.modes.specs.Rules.{Outcome}
use Rattle.modes.specs.Ledger.{equal_tags}
use Rattle.modes.specs.Exactly.{NoneBefore11, UnwrapExactly}
use Rattle.modes.specs.OneCall.{session_of, Within, UnwrapClaim}
use Rattle.modes.proofs.AnySession.{any-unwrap}
use Rattle.modes.proofs.Entries.{equal_tags-true, equal_tags-refl}
use Rattle.modes.proofs.Exactly.{unwrap-exactly, unwrap-decided}
use Rattle.modes.proofs.Ledgers.{unwrap-by-ledger}
use Rattle.modes.proofs.OneCall.{one-call-by}
use Rattle.sae_mode.specs.Sae.{sae, Handed, input_of, sae_unwrap_at}
use Rattle.sae_mode.specs.PaperSae.{Returns, plaintext, error, equal, sae_returns}
use Rattle.sae_mode.specs.Letters.{sae_paper, arrives, ledger_of, unless_refused, given, LetterClaim}
use Rattle.sae_mode.proofs.Papers.{sae-follows, laws, found-length}

-- ---- the last lines of 001's Unwrap

-- the paper's comparison is the ledger's
equal_is : (t u : List ℕ) (y n : Returns) → equal t u y n ≡ cond (equal_tags u t) y n
equal_is [] [] y n = refl
equal_is [] (x ∷ u) y n = refl
equal_is (x ∷ t) [] y n = refl
equal_is (x ∷ t) (z ∷ u) y n = go (eqb x z) (eqb z x) refl refl (equal_is t u y n)
  where
    go : (p q : Bool) → eqb x z ≡ p → eqb z x ≡ q → equal t u y n ≡ cond (equal_tags u t) y n
        → cond p (equal t u y n) n ≡ cond (cond q (equal_tags u t) false) y n
    go true true a b r = r
    go false false a b r = refl
    go true false a b r = absurd (eqb-false z x b (sym (eqb-true x z a)))
    go false true a b r = absurd (eqb-false x z a (sym (eqb-true z x b)))

-- ---- one letter

module _ (key : List ℕ) (h : List Str) (i : Handed) where
  -- what the rules give for it
  abbrev result : Outcome DeckState
  result = sae_unwrap_at incremental (session_of key h false) i

  -- the conditions before 11, in the two ways that the claims have them
  within : NoneBefore11 70 ⊥ 16 (index_of (arrives key h i).history) (input_of i) → Within sae_paper (input_of i) (arrives key h i).history
  within n = record { header = n.header; metadata = n.metadata; text = n.text; tag = n.tag; out = n.out; index = n.index }

  numbers : UnwrapExactly sae_paper (ledger_of key h i) (input_of i) result.number
  numbers =
      subst (UnwrapExactly sae_paper (ledger_of key h i) (input_of i)) (sym (ap (λ (o : Outcome DeckState). o.number) (unwrap-by-ledger sae-follows (ledger_of key h i) (input_of i))))
      (unwrap-exactly sae_paper laws.known (ledger_of key h i) (input_of i))

  claim : UnwrapClaim sae_paper key h false (input_of i) result
  claim = (one-call-by sae-follows).unwrap-claim key h false (input_of i)

  agrees : Within sae_paper (input_of i) (arrives key h i).history → given key h i result ≡ sae_returns key h i.metadata i.text i.tag
  agrees w = go (equal_tags i.tag (arrives key h i).tag) refl ∙ sym (equal_is (arrives key h i).tag i.tag (plaintext (arrives key h i).text) error)
    where
      go : (q : Bool) → equal_tags i.tag (arrives key h i).tag ≡ q
          → given key h i result ≡ cond (equal_tags i.tag (arrives key h i).tag) (plaintext (arrives key h i).text) error
      go true e =
          let t : i.tag ≡ (arrives key h i).tag = equal_tags-true i.tag (arrives key h i).tag e in
          let a = claim.accepted w t in
          let x : take (length i.text) result.out ≡ (arrives key h i).text =
          ap (take (length i.text)) a.out ∙ take_at (arrives key h i).text _ (length i.text) (found-length key h i.metadata i.text) in
          ap (λ (n : ℕ). unless_refused n (plaintext (take (length i.text) result.out))) a.number
          ∙ ap plaintext x ∙ sym (ap (λ (b : Bool). cond b (plaintext (arrives key h i).text) error) e)
      go false e =
          let t : i.tag ≢ (arrives key h i).tag = λ z. true≢false (sym (equal_tags-refl i.tag) ∙ ap (equal_tags i.tag) z ∙ e) in
          ap (λ (n : ℕ). unless_refused n (plaintext (take (length i.text) result.out))) (claim.wrong-tag w t).number
          ∙ sym (ap (λ (b : Bool). cond b (plaintext (arrives key h i).text) error) e)

  pub letter-claim : LetterClaim key h i (sae_unwrap_at incremental (session_of key h false) i)
  letter-claim =
      record {
        numbers = numbers;
        agrees = agrees;
        opens = λ z.
            let w = numbers.accepted.0 z in
            let a = claim.accepted (within w.0) w.1 in
            let t = a.tag ∙ sym w.1 in
            λ j. record { number = a.number j; count = a.count j; session = a.session j; out = a.out j; tag = t j };
        wrong-tag = λ z.
            let w = numbers.eleven.0 z in
            let a = claim.wrong-tag (within w.0) w.1 in
            λ j. record { number = a.number j; count = a.count j; session = a.session j; out = a.out j; tag = a.tag j };
        refused = (any-unwrap sae incremental (session_of key h false) (input_of i)).refused;
      }

module _ {key : List ℕ} {h : List Str} {i : Handed} {o : Outcome DeckState} (c : LetterClaim key h i o) where
  -- the session after a letter
  pub opened-session : o.number ≡ 0 → o.session ≡ session_of key (arrives key h i).history false
  opened-session z = ap (λ (o : Outcome DeckState). o.session) (c.opens z)

  pub stopped-session : o.number ≢ 0 → o.session ≡ session_of key h false
  stopped-session n = go (eqb o.number 11) refl
    where
      go : (q : Bool) → eqb o.number 11 ≡ q → o.session ≡ session_of key h false
      go true e = ap (λ (o : Outcome DeckState). o.session) (c.wrong-tag (eqb-true o.number 11 e))
      go false e = ap (λ (o : Outcome DeckState). o.session) (c.refused n (eqb-false o.number 11 e))

  -- the claim leaves nothing open
  pub letter-decided : (o' : Outcome DeckState) → LetterClaim key h i o' → o ≡ o'
  letter-decided o' d = go (eqb o.number 0) (eqb o.number 11) refl refl
    where
      e : o.number ≡ o'.number
      e =
          unwrap-decided sae_paper laws.known (ledger_of key h i) (input_of i) o.number c.numbers
          ∙ sym (unwrap-decided sae_paper laws.known (ledger_of key h i) (input_of i) o'.number d.numbers)

      go : (p q : Bool) → eqb o.number 0 ≡ p → eqb o.number 11 ≡ q → o ≡ o'
      go true q a b = let z = eqb-true o.number 0 a in c.opens z ∙ sym (d.opens (sym e ∙ z))
      go false true a b = let z = eqb-true o.number 11 b in c.wrong-tag z ∙ sym (d.wrong-tag (sym e ∙ z))
      go false false a b =
          let n = eqb-false o.number 0 a in
          let m = eqb-false o.number 11 b in
          c.refused n m ∙ ap (λ (k : ℕ). record { number = k; count = 0; session = session_of key h false; out = i.out; tag = i.tag }) e
          ∙ sym (d.refused (λ z. n (e ∙ z)) (λ z. m (e ∙ z)))
