-- The promises of start, unwrap and wrap of SAE over a lent record (document 02, request 9): the same equations with the rules as the functions by
-- value have, of the record at entry and at exit. What is claimed of them is in the modes' words for SAE (`Promises` of sae_mode). Assumes nothing.
use Rattle.std.specs.Prelude.{List, ◌≡◌, ℕ}
use Rattle.modes.specs.Mode.{incremental}
use Rattle.modes.specs.Rules.{nonce_start_at}
use Rattle.modes.specs.SaneDemands.{NonceStarts}
use Rattle.sae_mode.specs.Sae.{sae_parameters, Handed, sae_wrap_at, sae_unwrap_at}
use Rattle.sae_mode.specs.Promises.{SaePromises, sae_by_rules, sae_start_by_rules}
use Rattle.steps.specs.declared.Answer.{Answer}
use Rattle.steps.specs.declared.CallResult.{CallResult}
use Rattle.sae.specs.declared.SaeSession.{SaeSession}
use Rattle.sae.specs.Session.{state_of, nonce_result, call_result, sae_kind}

-- an answer, with the record as the call left it
abbrev pub result_of : Answer → SaeSession → CallResult SaeSession
result_of r s = record { number = r.number; count = r.count; left = s }

-- a start with the key, the nonce and the tag buffer answered r and left the record s and the tag buffer tag'. What the record was before does
-- not matter
abbrev pub Started : (key nonce tag : List ℕ) → Answer → (s : SaeSession) → (tag' : List ℕ) → Type 0
Started key nonce tag r s tag' = nonce_result (result_of r s) tag' ≡ nonce_start_at sae_parameters key nonce tag

-- an unwrap of the record s, handed i beside it, answered r and left the record s' and the output buffer out; its tag is read only
abbrev pub Unwrapped : (s : SaeSession) → Handed → Answer → (s' : SaeSession) → (out tag : List ℕ) → Type 0
Unwrapped s i r s' out tag = call_result (result_of r s') out tag ≡ sae_unwrap_at incremental (state_of s) i

-- the same of a wrap, which is refused, with the tag buffer tag after it
abbrev pub Wrapped : (s : SaeSession) → Handed → Answer → (s' : SaeSession) → (out tag : List ℕ) → Type 0
Wrapped s i r s' out tag = call_result (result_of r s') out tag ≡ sae_wrap_at (state_of s) i

-- so start promises its equation with the rules, and nothing else: the record that a call leaves is the one behind the reference at its exit
abbrev pub lent_starts : NonceStarts sae_kind
lent_starts = sae_start_by_rules sae_kind

-- and of wrap and unwrap
abbrev pub lent_promises : SaePromises sae_kind
lent_promises = sae_by_rules sae_kind
