-- Demands 1 to 3 hold of the functions over a lent record, each known only by its promise, which is its `ensures` (`proofs/Contracts.antt`);
-- and what they speak of is there. Assumes nothing.
use Rattle.modes.specs.Mode.{sanse}
use Rattle.modes.specs.Ledger.{sanse_paper}
use Rattle.modes.specs.Demands.{StartOf, AnyCallOf, OneCallOf, Demand3Of, StartsExist, RunsExist}
use Rattle.modes.specs.Envelopes.{ReaddressedOf}
use Rattle.modes.specs.EitherWay.{EitherDemand3Of, NobodyCanTell, ChoicesExist, Among}
use Rattle.modes.proofs.Envelopes.{readdressed-of, sanse-readdressed}
use Rattle.modes.proofs.Modes.{sanse-follows}
use Rattle.modes.proofs.Demands.{ByRules, rules-by-rules, start-by-rules, start_of, any-call-of, one-call-of, demand-3-of, runs-exist, kept, starts-exist}
use Rattle.modes.proofs.EitherWay.{either-demand-3, nobody-can-tell, choices-exist, among}
use Rattle.sanse.specs.Session.{sanse_kind}
use Rattle.sanse.proofs.Demands.{whole}
use Rattle.session.specs.Lent.{lent_starts, lent_promises}

-- each promise is just the call's equation with the rules
lent : ByRules sanse lent_promises
lent = rules-by-rules sanse sanse_kind

-- demand 1: every start, and every call of any record
pub one-start : StartOf sanse_kind lent_starts
one-start = start_of sanse_kind lent_starts (start-by-rules sanse_kind)

pub any-call : AnyCallOf sanse_kind sanse lent_promises
any-call = any-call-of lent

-- demands 1 and 2: one call of the record of a history
pub one-call : OneCallOf sanse_kind sanse_paper lent_promises
one-call = one-call-of lent sanse-follows

-- an envelope whose group was changed on its way: another history, and 11 exactly where the tags differ
pub readdressed : ReaddressedOf sanse_kind sanse_paper lent_promises
readdressed = readdressed-of lent sanse-follows sanse-readdressed

-- demand 3, one claim about the whole list: each call is lent the record that the last call at its end left
pub demand-3 : Demand3Of sanse_kind lent_starts lent_promises
demand-3 = demand-3-of (start-by-rules sanse_kind) lent

-- whatever a call is handed, there is a result that its promise allows
pub start-exists : StartsExist sanse_kind lent_starts
start-exists = starts-exist whole lent_starts (start-by-rules sanse_kind)

pub run-exists : RunsExist sanse_kind lent_promises
run-exists = runs-exist (kept whole lent)

-- ---- each call of a list may take full blocks four side by side or not: its promise is one and the same (`wrap-same` and its neighbours of
-- `proofs/Contracts.antt`)

-- demand 3, whichever way each call of the list is made
pub demand-3-either : EitherDemand3Of sanse_kind lent_starts lent_promises lent_promises
demand-3-either = either-demand-3 (start-by-rules sanse_kind) lent lent

-- nobody can tell
pub nobody-tells : NobodyCanTell sanse_kind lent_promises lent_promises
nobody-tells = nobody-can-tell lent lent

-- such lists are there, with any choice for each call, and those of one way alone are among them
pub choice-exists : ChoicesExist sanse_kind lent_promises lent_promises
choice-exists = choices-exist (kept whole lent) (kept whole lent)

pub one-way-alone : Among sanse_kind lent_promises lent_promises
one-way-alone = among lent_promises lent_promises
