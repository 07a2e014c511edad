-- Demands 1 to 3 hold of SANE's functions over a lent record, in lists that mix calls without an envelope and calls for one, each known only by
-- its promise, which is its `ensures` (`proofs/Contracts.antt`); and what they speak of is there. Assumes nothing.
use Rattle.modes.specs.Mode.{sane}
use Rattle.modes.specs.Ledger.{sane_paper}
use Rattle.modes.specs.Demands.{AnyCallOf, OneCallOf, RunsExist}
use Rattle.modes.specs.SaneDemands.{NonceStartOf, SaneDemand3Of, NonceStartsExist, AcceptedStartsExist}
use Rattle.modes.specs.Envelopes.{ReaddressedOf}
use Rattle.modes.specs.EitherWay.{EitherSaneDemand3Of, NobodyCanTell, ChoicesExist, Among}
use Rattle.modes.proofs.Envelopes.{readdressed-of, sane-readdressed}
use Rattle.modes.proofs.Modes.{sane-follows}
use Rattle.modes.proofs.Demands.{ByRules, rules-by-rules, any-call-of, one-call-of, runs-exist, kept}
use Rattle.modes.proofs.SaneDemands.{nonce-by-rules, nonce-start-of, nonce-starts-exist, accepted-starts-exist, sane-demand-3-of}
use Rattle.modes.proofs.EitherWay.{either-sane-demand-3, nobody-can-tell, choices-exist, among}
use Rattle.sane.specs.Session.{sane_kind}
use Rattle.sane.proofs.Demands.{whole}
use Rattle.sane_session.specs.Lent.{lent_starts, lent_promises}

-- each promise is just the call's equation with the rules
lent : ByRules sane lent_promises
lent = rules-by-rules sane sane_kind

-- demand 1: every start, and every call of any record
pub one-start : NonceStartOf sane_kind lent_starts
one-start = nonce-start-of sane_kind lent_starts (nonce-by-rules sane_kind)

pub any-call : AnyCallOf sane_kind sane lent_promises
any-call = any-call-of lent

-- demands 1 and 2: one call of the record of a history
pub one-call : OneCallOf sane_kind sane_paper lent_promises
one-call = one-call-of lent sane-follows

-- an envelope whose group was changed on its way: another history, and 11 exactly where the tags differ
pub readdressed : ReaddressedOf sane_kind sane_paper lent_promises
readdressed = readdressed-of lent sane-follows sane-readdressed

-- demand 3, one claim about the whole list: each call is lent the record that the last call at its end left
pub demand-3 : SaneDemand3Of sane_kind lent_starts lent_promises
demand-3 = sane-demand-3-of (nonce-by-rules sane_kind) lent

-- whatever a call is handed, there is a result that its promise allows
pub start-exists : NonceStartsExist sane_kind lent_starts
start-exists = nonce-starts-exist whole lent_starts (nonce-by-rules sane_kind)

pub accepted-start-exists : AcceptedStartsExist sane_kind lent_starts
accepted-start-exists = accepted-starts-exist whole lent_starts (nonce-by-rules sane_kind)

pub run-exists : RunsExist sane_kind lent_promises
run-exists = runs-exist (kept whole lent)

-- ---- each call of a list may take full blocks four side by side or not: its promise is one and the same (`wrap-same` and its neighbours of
-- `proofs/Contracts.antt`)

-- demand 3, whichever way each call of the list is made
pub demand-3-either : EitherSaneDemand3Of sane_kind lent_starts lent_promises lent_promises
demand-3-either = either-sane-demand-3 (nonce-by-rules sane_kind) lent lent

-- nobody can tell
pub nobody-tells : NobodyCanTell sane_kind lent_promises lent_promises
nobody-tells = nobody-can-tell lent lent

-- such lists are there, with any choice for each call, and those of one way alone are among them
pub choice-exists : ChoicesExist sane_kind lent_promises lent_promises
choice-exists = choices-exist (kept whole lent) (kept whole lent)

pub one-way-alone : Among sane_kind lent_promises lent_promises
one-way-alone = among lent_promises lent_promises
