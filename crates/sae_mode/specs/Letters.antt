-- Old letters in their order (document 02, request 9): what is claimed of each call of a list that is made on one session of SAE, over the history of
-- the letters that were accepted before it, by Algorithm 2 of 001. Assumes nothing.
use Rattle.std.specs.Prelude.{Bool, false, List, [], ◌∷◌, ◌≢◌, ◌≡◌, ℕ, zero, suc, length, take, replicate}
use Rattle.deck.specs.declared.DeckState.{DeckState}
use Rattle.deck.specs.Strings.{Str}
use Rattle.modes.specs.Paper.{PaperResult}
use Rattle.modes.specs.Rules.{Outcome}
use Rattle.modes.specs.Ledger.{PaperMode, Ledger, sane_permutations}
use Rattle.modes.specs.Exactly.{UnwrapExactly}
use Rattle.modes.specs.OneCall.{session_of, starts_with, Within}
use Rattle.sae_mode.specs.Sae.{Handed, input_of, sae_wrap_at}
use Rattle.sae_mode.specs.PaperSae.{SaeResult, Returns, plaintext, error, sae_wrap, sae_unwrap, sae_returns}

-- ---- SAE among the papers' modes

-- 001 has no e: what is handed as one is handed on
abbrev pub keeping : Bool → SaeResult → PaperResult
keeping e r = record { history = r.history; toggle = e; text = r.text; tag = r.tag }

-- its letter is `F`, its tags have 16 bytes, and its counts are request 2's for SANE
abbrev pub sae_paper : PaperMode
sae_paper =
    record {
      letter = 70;
      tag_length = 16;
      count = sane_permutations;
      wraps = λ key h e A P. keeping e (sae_wrap key h A P);
      unwraps = λ key h e A C T. keeping e (sae_unwrap key h A C);
    }

-- ---- one letter

-- by a call's number: r where it was accepted, and otherwise an error
abbrev pub unless_refused : ℕ → Returns → Returns
unless_refused zero r = r
unless_refused (suc n) r = error

module _ (key : List ℕ) (h : List Str) (i : Handed) where
  -- where 001's Unwrap arrives for this letter at the history h
  abbrev pub arrives : SaeResult
  arrives = sae_unwrap key h i.metadata i.text

  -- the ledger of that history; e is 0
  abbrev pub ledger_of : Ledger
  ledger_of = record { key = key; history = h; toggle = false }

  -- what the call gave, in 001's words: where it was accepted the bytes at the output buffer's start, and otherwise an error
  abbrev pub given : Outcome DeckState → Returns
  given o = unless_refused o.number (plaintext (take (length i.text) o.out))

  -- the outcome o of an unwrap of the letter i, by the session that the history h gives with e 0
  pub record LetterClaim (o : Outcome DeckState) : Type 0 where
    -- each number from 6 to 9, and 11, if and only if its condition holds and no earlier one does; accepted if and only if none does
    pub numbers : UnwrapExactly sae_paper ledger_of (input_of i) o.number
    -- within the limits, it gave what 001's Unwrap returns
    pub agrees : Within sae_paper (input_of i) arrives.history → given o ≡ sae_returns key h i.metadata i.text i.tag
    -- accepted: the plaintext, the count, and the session of 001's longer history, e 0 as before
    pub opens : o.number ≡ 0
        → o
        ≡ record {
          number = 0;
          count = sane_permutations (length i.metadata) (length i.text);
          session = session_of key arrives.history false;
          out = starts_with arrives.text i.out;
          tag = i.tag;
        }
    -- another tag: the real count, zeros for the plaintext's bytes, and the session as it was
    pub wrong-tag : o.number ≡ 11
        → o
        ≡ record {
          number = 11;
          count = sane_permutations (length i.metadata) (length i.text);
          session = session_of key h false;
          out = starts_with (replicate (length i.text) 0) i.out;
          tag = i.tag;
        }
    -- every other refusal: count 0, and nothing is altered
    pub refused : o.number ≢ 0 → o.number ≢ 11
        → o ≡ record { number = o.number; count = 0; session = session_of key h false; out = i.out; tag = i.tag }

-- ---- a list of calls

-- a call on a session of SAE
pub data SaeCall : Type 0 where
  wrap unwrap : Handed → SaeCall

-- `Each key h cs os g`: the calls cs, in order from the session of the history h, gave os, and g is the history of the letters that were accepted. A letter
-- that is refused, and a wrap, which always is, leaves the history
pub data Each (key : List ℕ) : List Str → List SaeCall → List (Outcome DeckState) → List Str → Type 0 where
  none : {h : List Str} → Each key h [] [] h
  wrapped : {h g : List Str} {i : Handed} {cs : List SaeCall} {o : Outcome DeckState} {os : List (Outcome DeckState)}
      → o ≡ sae_wrap_at (session_of key h false) i → Each key h cs os g → Each key h (wrap i ∷ cs) (o ∷ os) g
  opened : {h g : List Str} {i : Handed} {cs : List SaeCall} {o : Outcome DeckState} {os : List (Outcome DeckState)}
      → o.number ≡ 0 → LetterClaim key h i o → Each key (sae_unwrap key h i.metadata i.text).history cs os g → Each key h (unwrap i ∷ cs) (o ∷ os) g
  stopped : {h g : List Str} {i : Handed} {cs : List SaeCall} {o : Outcome DeckState} {os : List (Outcome DeckState)}
      → o.number ≢ 0 → LetterClaim key h i o → Each key h cs os g → Each key h (unwrap i ∷ cs) (o ∷ os) g
