-- The promises of start, wrap and unwrap of SANE over a lent record (document 02, requests 2 and 7): the same equations with the rules as the functions
-- by value have, of the record at entry and at exit. Demands 1 to 3 are those of the modes' `Demands` and `SaneDemands`, of these promises.
-- Assumes nothing.
use Rattle.std.specs.Prelude.{List, ◌≡◌, ℕ}
use Rattle.modes.specs.Call.{CallInput}
use Rattle.modes.specs.Mode.{sane, sane_parameters, incremental}
use Rattle.modes.specs.Rules.{nonce_start_at, wrap_at, unwrap_at}
use Rattle.modes.specs.Promises.{Promises, by_rules}
use Rattle.modes.specs.SaneDemands.{NonceStarts, nonce_by_rules}
use Rattle.steps.specs.declared.Answer.{Answer}
use Rattle.steps.specs.declared.CallResult.{CallResult}
use Rattle.sane.specs.declared.SaneSession.{SaneSession}
use Rattle.sane.specs.Session.{state_of, nonce_result, call_result, sane_kind}

-- an answer, with the record as the call left it
abbrev pub result_of : Answer → SaneSession → CallResult SaneSession
result_of r s = record { number = r.number; count = r.count; left = s }

-- a start with the key, the nonce and the tag buffer answered r and left the record s and the tag buffer tag'. What the record was before does
-- not matter
abbrev pub Started : (key nonce tag : List ℕ) → Answer → (s : SaneSession) → (tag' : List ℕ) → Type 0
Started key nonce tag r s tag' = nonce_result (result_of r s) tag' ≡ nonce_start_at sane_parameters key nonce tag

-- a wrap of the record s, handed i beside it, answered r and left the record s', the output buffer out and the tag buffer tag
abbrev pub Wrapped : (s : SaneSession) → CallInput → Answer → (s' : SaneSession) → (out tag : List ℕ) → Type 0
Wrapped s i r s' out tag = call_result (result_of r s') out tag ≡ wrap_at sane incremental (state_of s) i

-- the same of an unwrap, whose tag is read only
abbrev pub Unwrapped : (s : SaneSession) → CallInput → Answer → (s' : SaneSession) → (out tag : List ℕ) → Type 0
Unwrapped s i r s' out tag = call_result (result_of r s') out tag ≡ unwrap_at sane incremental (state_of s) i

-- so start promises its equation with the rules, and nothing else: the record that a call leaves is the one behind the reference at its exit
abbrev pub lent_starts : NonceStarts sane_kind
lent_starts = nonce_by_rules sane_kind

-- and of wrap and unwrap, without an envelope and for one
abbrev pub lent_promises : Promises sane_kind
lent_promises = by_rules sane_kind sane
