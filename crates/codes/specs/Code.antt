-- What asking for a code gave, in the words of the modes (document 02, request 1); the promise over a lent record, which is that of the function by
-- value, of the record at entry. The record is lent to be read, so that no other is left. Assumes nothing.
use Rattle.std.specs.Prelude.{List, ◌≡◌, ℕ}
use Rattle.modes.specs.Mode.{incremental}
use Rattle.modes.specs.Codes.{CodeOutcome, code_at}
use Rattle.modes.specs.CodeLists.{Codes, codes_by_rules}
use Rattle.sanse.specs.declared.Session.{Session}
use Rattle.sanse.specs.Session.{state_of, sanse_kind}
use Rattle.steps.specs.declared.Answer.{Answer}

-- an answer, with the output buffer as the call left it
abbrev pub code_result : Answer → (out : List ℕ) → CodeOutcome
code_result r out = record { number = r.number; count = r.count; out = out }

-- asked of the lent record s, of a packet and with the buffer out, it answered r and left the buffer out'
abbrev pub Coded : (s : Session) (packet : ℕ) (out : List ℕ) → Answer → (out' : List ℕ) → Type 0
Coded s packet out r out' = code_result r out' ≡ code_at incremental (state_of s) packet out

-- so it promises its equation with the definition, and nothing else
abbrev pub lent_codes : Codes sanse_kind
lent_codes = codes_by_rules sanse_kind
