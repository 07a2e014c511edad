-- Demand 3, a single claim about a whole list of calls at the two ends (document 01, "The two ends of demand 3"): for any mode from any
-- history that both sessions open with, and for SANSE with its two starts. Assumes nothing.
use Rattle.std.specs.Prelude.{List, [], ◌∷◌, map, ◌≡◌, ℕ}
use Rattle.deck.specs.declared.DeckState.{DeckState}
use Rattle.deck.specs.Strings.{Str}
use Rattle.modes.specs.Call.{CallInput, Side, Call, wrap, unwrap}
use Rattle.modes.specs.Rules.{SessionState, Outcome, Opening}
use Rattle.modes.specs.Paper.{sanse_opens}
use Rattle.modes.specs.Ledger.{PaperMode, sanse_paper, Ledger, LedgerAnswer, Entry}
use Rattle.modes.specs.Exactly.{WrapExactly, UnwrapExactly}
use Rattle.modes.specs.OneCall.{session_of}
use Rattle.modes.specs.Start.{StartAccepted}
use Rattle.modes.specs.TwoEnds.{Ends, at, Ledgers, ledger_at, next_ledgers, entries, finish_ledgers, fresh_ledgers}
use Rattle.modes.specs.Delivery.{nothing, Delivers, Returned}

-- ---- the words

-- the session that a ledger gives: it is open and has the ledger's e and index, x as accumulator and k rolled I times as mask
abbrev pub session_given : Ledger → SessionState DeckState
session_given l = session_of l.key l.history l.toggle

-- the outcome that a call of the program has where the ledger has this entry: the ledger's answer, and a session that is open and has the
-- ledger's e and index, x as accumulator and k rolled I times as mask
abbrev pub outcome_of : Entry → Outcome DeckState
outcome_of e =
    record {
      number = e.answer.number;
      count = e.answer.count;
      session = session_of e.ledger.key e.ledger.history e.ledger.toggle;
      out = e.answer.out;
      tag = e.answer.tag;
    }

-- what a call gave beside the session
abbrev pub answer_of : Outcome DeckState → LedgerAnswer
answer_of o = record { number = o.number; count = o.count; out = o.out; tag = o.tag }

-- `ByChecks m cs p os`: each of the calls cs, in its place in the list from the ledgers p on, got in os the number of the first check that it
-- meets as the ledger at its end then judges it, and was accepted exactly when it meets none
pub data ByChecks (m : PaperMode) : List Call → Ledgers → List (Outcome DeckState) → Type 0 where
  none : {p : Ledgers} → ByChecks m [] p []
  wraps : {x : Side} {i : CallInput} {cs : List Call} {p : Ledgers} {o : Outcome DeckState} {os : List (Outcome DeckState)}
      → WrapExactly m (ledger_at x p) i o.number
      → ByChecks m cs (next_ledgers m (wrap x i) p) os
      → ByChecks m (wrap x i ∷ cs) p (o ∷ os)
  unwraps : {x : Side} {i : CallInput} {cs : List Call} {p : Ledgers} {o : Outcome DeckState} {os : List (Outcome DeckState)}
      → UnwrapExactly m (ledger_at x p) i o.number
      → ByChecks m cs (next_ledgers m (unwrap x i) p) os
      → ByChecks m (unwrap x i ∷ cs) p (o ∷ os)

-- ---- the claims

-- demand 3 of the outcomes os of a list of calls, made at both ends from ledgers that are fresh under the key with the history that both
-- sessions open with, and of the sessions q that the ends finish with
pub record ByLedgers (m : PaperMode) (key : List ℕ) (opening : List Str) (cs : List Call) (os : List (Outcome DeckState)) (q : Ends DeckState) : Type 0 where
  -- each call is accepted exactly when it meets no check
  pub checks : ByChecks m cs (fresh_ledgers key opening) os
  -- each call gives what the ledger at its end says, and leaves the session that the ledger's history then gives
  pub same : os ≡ map outcome_of (entries m cs (fresh_ledgers key opening))
  -- each end finishes with the session that its ledger's history then gives
  pub finish : (x : Side) → at x q ≡ session_given (ledger_at x (finish_ledgers m cs (fresh_ledgers key opening)))
  -- where each message is delivered, each comes back, and each other arrival is refused
  pub back : Delivers m nothing cs (fresh_ledgers key opening) → Returned nothing cs (map answer_of os)
  -- and both ends finish with the same session
  pub level : Delivers m nothing cs (fresh_ledgers key opening) → q.office ≡ q.group

-- demand 3 for SANSE, under a key of 16 to 47 bytes: both starts are accepted, and every list of calls after them is as the ledgers say
pub record Demand3 (key : List ℕ) (cs : List Call) (first second : Opening) (os : List (Outcome DeckState)) (q : Ends DeckState) : Type 0 where
  pub office_start : StartAccepted key first
  pub group_start : StartAccepted key second
  pub calls : ByLedgers sanse_paper key sanse_opens cs os q
