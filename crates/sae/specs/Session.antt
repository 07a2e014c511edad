-- A record of the program, and what the program's calls gave, in the words of the rules: sessions of SAE as a kind of record of their own, of which
-- request 9's claims speak (`Promises` of sae_mode). `proofs/Demands.antt` proves them of the promises that the program's functions make in their
-- `ensures`, and `proofs/Contracts.antt` that these ask nothing of a call. Assumes nothing.
use Rattle.std.specs.Prelude.{List, ℕ}
use Rattle.deck.specs.declared.DeckState.{DeckState}
use Rattle.modes.specs.Rules.{SessionState, Outcome, NonceOpening}
use Rattle.modes.specs.Promises as promises
use Rattle.modes.specs.SaneDemands as starts
use Rattle.sae_mode.specs.Sae.{Handed}
use Rattle.sae.specs.declared.SaeSession.{SaeSession}
use Rattle.steps.specs.declared.CallResult.{CallResult}

-- the session that a record holds
abbrev pub state_of : SaeSession → SessionState DeckState
state_of s = record { history = s.history; toggle = s.toggle; opened = s.opened }

-- the kind of record
abbrev pub sae_kind : promises.Kind
sae_kind =
    record {
      Record = SaeSession;
      Result = CallResult SaeSession;
      state_of = state_of;
      number = λ r. r.number;
      count = λ r. r.count;
      left = λ r. r.left;
    }

-- what start gave, with the tag buffer as it left it
abbrev pub nonce_result : CallResult SaeSession → (tag : List ℕ) → NonceOpening
nonce_result = starts.nonce_result sae_kind

-- what wrap or unwrap gave, with the output buffer and the tag as the call left them
abbrev pub call_result : CallResult SaeSession → (out tag : List ℕ) → Outcome DeckState
call_result = promises.call_result sae_kind

-- what wrap or unwrap was handed beside the record
abbrev pub handed : (metadata text out tag : List ℕ) → Handed
handed metadata text out tag = record { metadata = metadata; text = text; out = out; tag = tag }
