-- What is claimed of codes holds of `code`, over a record that is lent to be read, known by its promise alone, which is its `ensures`
-- (`proofs/Contracts.antt`), beside the functions over a lent record. Assumes nothing.
use Rattle.modes.specs.Mode.{sanse}
use Rattle.modes.specs.CodeLists.{AnyCodeOf, OneCodeOf, WithCodesOf, SameCodesOf, SameRuns, CodeRunsExist, AskedAnywhere}
use Rattle.modes.proofs.Demands.{rules-by-rules, start-by-rules}
use Rattle.modes.proofs.CodeLists.{codes-by-rules, any-code-of, one-code-of, with-codes-of, same-codes-of, same_runs, code-runs-exist, asked-anywhere}
use Rattle.sanse.specs.Session.{sanse_kind}
use Rattle.session.specs.Lent.{lent_starts, lent_promises}
use Rattle.session.proofs.Demands.{run-exists}
use Rattle.codes.specs.Code.{lent_codes}

-- asked of any record
pub any_code : AnyCodeOf sanse_kind lent_codes
any_code = any-code-of sanse_kind lent_codes (codes-by-rules sanse_kind)

-- asked of the record of a history
pub one_code : OneCodeOf sanse_kind lent_codes
one_code = one-code-of sanse_kind lent_codes (codes-by-rules sanse_kind)

-- in every list of demand 3
pub demand-3-with-codes : WithCodesOf sanse_kind lent_starts lent_promises lent_codes
demand-3-with-codes = with-codes-of (start-by-rules sanse_kind) (rules-by-rules sanse sanse_kind) (codes-by-rules sanse_kind)

-- both ends have the same codes where each message was delivered
pub same_codes : SameCodesOf sanse_kind lent_starts lent_promises lent_codes
same_codes = same-codes-of (start-by-rules sanse_kind) (rules-by-rules sanse sanse_kind) (codes-by-rules sanse_kind)

-- a code changes nothing
pub codes-change-nothing : SameRuns sanse_kind lent_promises lent_codes
codes-change-nothing = same_runs sanse_kind lent_codes (codes-by-rules sanse_kind) lent_promises

-- every list of calls and codes has a run, and a code can be asked at every point of every list of calls
pub code-run-exists : CodeRunsExist sanse_kind lent_promises lent_codes
code-run-exists = code-runs-exist sanse_kind lent_codes (codes-by-rules sanse_kind) run-exists

pub code-anywhere : AskedAnywhere sanse_kind lent_promises lent_codes
code-anywhere = asked-anywhere sanse_kind lent_codes (codes-by-rules sanse_kind) lent_promises
