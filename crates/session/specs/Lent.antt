-- The promises of start, wrap and unwrap over a lent record (document 01, "A session is one record, lent to wrap and unwrap and altered by
-- them"): the same equations with the rules as the functions by value have, of the record at entry and at exit. Demands 1 to 3 are those of
-- the modes' `Demands`, of these promises. Assumes nothing.
use Rattle.std.specs.Prelude.{List, ◌≡◌, ℕ}
use Rattle.modes.specs.Call.{CallInput}
use Rattle.modes.specs.Mode.{sanse, incremental}
use Rattle.modes.specs.Rules.{start_at, wrap_at, unwrap_at}
use Rattle.modes.specs.Promises.{Promises, Starts, by_rules, start_by_rules}
use Rattle.steps.specs.declared.Answer.{Answer}
use Rattle.steps.specs.declared.CallResult.{CallResult}
use Rattle.sanse.specs.declared.Session.{Session}
use Rattle.sanse.specs.Session.{state_of, start_result, call_result, sanse_kind}

-- an answer, with the record as the call left it
abbrev pub result_of : Answer → Session → CallResult Session
result_of r s = record { number = r.number; count = r.count; left = s }

-- a start under the key answered r and left the record s. What the record was before does not matter
abbrev pub Started : (key : List ℕ) → Answer → (s : Session) → Type 0
Started key r s = start_result (result_of r s) ≡ start_at key

-- a wrap of the record s, handed i beside it, answered r and left the record s', the output buffer out and the tag buffer tag
abbrev pub Wrapped : (s : Session) → CallInput → Answer → (s' : Session) → (out tag : List ℕ) → Type 0
Wrapped s i r s' out tag = call_result (result_of r s') out tag ≡ wrap_at sanse incremental (state_of s) i

-- the same of an unwrap, whose tag is read only
abbrev pub Unwrapped : (s : Session) → CallInput → Answer → (s' : Session) → (out tag : List ℕ) → Type 0
Unwrapped s i r s' out tag = call_result (result_of r s') out tag ≡ unwrap_at sanse incremental (state_of s) i

-- so start promises its equation with the rules, and nothing else: the record that a call leaves is the one behind the reference at its exit
abbrev pub lent_starts : Starts sanse_kind
lent_starts = start_by_rules sanse_kind

-- and of wrap and unwrap, without an envelope and for one
abbrev pub lent_promises : Promises sanse_kind
lent_promises = by_rules sanse_kind sanse
