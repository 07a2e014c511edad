-- Request 9's claims hold of the program's start, wrap and unwrap of SAE, each known by its own `ensures` alone; what they say, written out; and that what they
-- speak of is there. Assumes nothing.
use mathlib.Core.Bool.{false}
use mathlib.Core.List.{List}
use mathlib.Core.Path.{◌≡◌, refl}
use Prim.Native.Nat.{ℕ}
use Rattle.deck.specs.declared.DeckState.{DeckState}
use Rattle.deck.specs.Strings.{Str}
use Rattle.modes.specs.Mode.{incremental}
use Rattle.modes.specs.Rules.{Outcome}
use Rattle.modes.specs.OneCall.{session_of}
use Rattle.modes.specs.AnySession.{AnyUnwrap}
use Rattle.modes.specs.SaneDemands.{NonceStarts, NonceStartsExist, AcceptedStartsExist}
use Rattle.modes.proofs.Demands.{Whole}
use Rattle.sae_mode.specs.Sae.{sae, Handed, input_of}
use Rattle.sae_mode.specs.Letters.{LetterClaim, SaeCall}
use Rattle.sae_mode.specs.Box.{OldLetters}
use Rattle.sae_mode.specs.Promises.{SaeStart, SaePromises, Run, SaeStartOf, AnySaeCallOf, OneLetterOf, OldLettersOf, LettersComeBackOf, SaeRunsExist}
use Rattle.sae_mode.proofs.Demands.{SaeByRules, start_of, starts-exist, accepted-exist, any-call-of, one-letter-of, old-letters-of, letters-come-back-of, runs-exist}
use Rattle.sae.specs.declared.SaeSession.{SaeSession}
use Rattle.steps.specs.declared.CallResult.{CallResult}
use Rattle.sae.specs.Session.{state_of, nonce_result, call_result, sae_kind}
use Rattle.sae.proofs.Contracts.{StartPromise, promises, start_is, wrap-is, unwrap-is}

-- ---- what the claims say of these records, written out

pub start-says : (starts : NonceStarts sae_kind)
    → SaeStartOf sae_kind starts
    ≡ ((key nonce tag : List ℕ) (r : CallResult SaeSession) (tag' : List ℕ) → starts key nonce tag r tag' → SaeStart key nonce tag (nonce_result r tag'))
start-says starts = refl

pub letters-say : (starts : NonceStarts sae_kind) (p : SaePromises sae_kind)
    → OldLettersOf sae_kind starts p
    ≡ ((key nonce t : List ℕ) (first : CallResult SaeSession) (t' : List ℕ) → starts key nonce t first t' → first.number ≡ 0
    → (cs : List SaeCall) (os : List (Outcome DeckState)) (q : SaeSession) → Run sae_kind p cs first.left os q
    → OldLetters key nonce cs os (state_of q))
letters-say starts p = refl

-- and of one call, of any record and of the record of a history
module _ (p : SaePromises sae_kind) (s : SaeSession) (i : Handed) (r : CallResult SaeSession) (out tag : List ℕ) where
  pub any-wrap-says : AnySaeCallOf sae_kind p → p.wraps s i r out tag
      → call_result r out tag ≡ record { number = 18; count = 0; session = state_of s; out = i.out; tag = i.tag }
  any-wrap-says c = c.wraps s i r out tag

  pub any-unwrap-says : AnySaeCallOf sae_kind p → p.unwraps s i r out tag → AnyUnwrap sae incremental (state_of s) (input_of i) (call_result r out tag)
  any-unwrap-says c = c.unwraps s i r out tag

  pub one-letter-says : OneLetterOf sae_kind p → (key : List ℕ) (h : List Str) → state_of s ≡ session_of key h false → p.unwraps s i r out tag
      → LetterClaim key h i (call_result r out tag)
  one-letter-says c key h = c key h s i r out tag

-- ---- the claims

-- each promise is just the call's equation with the rules
program : SaeByRules promises
program = record { wraps = wrap-is; unwraps = unwrap-is }

-- demand 1: every start, and every call of any record
pub one-start : SaeStartOf sae_kind StartPromise
one-start = start_of sae_kind StartPromise start_is

pub any-call : AnySaeCallOf sae_kind promises
any-call = any-call-of program

-- demands 1 and 2: one letter, by the record of a history
pub one-letter : OneLetterOf sae_kind promises
one-letter = one-letter-of program

-- old letters in their order, one claim about the whole list
pub old-letters : OldLettersOf sae_kind StartPromise promises
old-letters = old-letters-of program start_is

-- and the letters of messages that fit all open
pub letters-come-back : LettersComeBackOf sae_kind StartPromise promises
letters-come-back = letters-come-back-of program start_is

-- ---- what they speak of is there

-- every number, count and session is some result's
pub whole : Whole sae_kind
whole =
    record {
      made = λ n c s.
          record { number = n; count = c; left = record { history = s.history; toggle = s.toggle; opened = s.opened } };
      same = λ n c s. refl;
    }

-- whatever a call is handed, there are arguments and a result of which the function's `ensures` holds
pub start-exists : NonceStartsExist sae_kind StartPromise
start-exists = starts-exist sae_kind StartPromise start_is whole

pub accepted-start-exists : AcceptedStartsExist sae_kind StartPromise
accepted-start-exists = accepted-exist sae_kind StartPromise start_is whole

pub run-exists : SaeRunsExist sae_kind promises
run-exists = runs-exist program whole
