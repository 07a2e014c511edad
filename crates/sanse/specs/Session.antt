-- A record of the program, and what the program's calls gave, in the words of the modes' rules: sessions of SANSE as a kind of record, of
-- which demands 1 to 3 speak (`Demands` of the modes). `proofs/Demands.antt` proves them of the promises that the program's functions make in
-- their `ensures`, and `proofs/Contracts.antt` that these ask nothing of a call. Assumes nothing.
use Rattle.std.specs.Prelude.{List, ℕ}
use Rattle.deck.specs.declared.DeckState.{DeckState}
use Rattle.modes.specs.Call.{bare, under, CallInput}
use Rattle.modes.specs.Rules.{SessionState, Outcome, Opening}
use Rattle.modes.specs.Promises as promises
use Rattle.sanse.specs.declared.Session.{Session}
use Rattle.steps.specs.declared.CallResult.{CallResult}

-- the session that a record holds
abbrev pub state_of : Session → SessionState DeckState
state_of s = record { history = s.history; toggle = s.toggle; opened = s.opened }

-- the kind of record
abbrev pub sanse_kind : promises.Kind
sanse_kind =
    record {
      Record = Session;
      Result = CallResult Session;
      state_of = state_of;
      number = λ r. r.number;
      count = λ r. r.count;
      left = λ r. r.left;
    }

-- what start gave
abbrev pub start_result : CallResult Session → Opening
start_result = promises.start_result sanse_kind

-- what wrap or unwrap gave, with the output buffer and the tag as the call left them
abbrev pub call_result : CallResult Session → (out tag : List ℕ) → Outcome DeckState
call_result = promises.call_result sanse_kind

-- what wrap or unwrap was handed beside the record
abbrev pub handed : (metadata text out tag : List ℕ) → CallInput
handed metadata text out tag = record { header = bare; metadata = metadata; text = text; out = out; tag = tag }

-- and for an envelope with this header
abbrev pub handed_for : (header metadata text out tag : List ℕ) → CallInput
handed_for header metadata text out tag = record { header = under header; metadata = metadata; text = text; out = out; tag = tag }
