-- Request 9's claims hold of SAE's functions over a lent record, each known only by its promise, which is its `ensures` (`proofs/Contracts.antt`); and
-- what they speak of is there. Assumes nothing.
use Rattle.modes.specs.SaneDemands.{NonceStartsExist, AcceptedStartsExist}
use Rattle.sae_mode.specs.Promises.{SaeStartOf, AnySaeCallOf, OneLetterOf, OldLettersOf, LettersComeBackOf, SaeRunsExist}
use Rattle.sae_mode.proofs.Demands.{SaeByRules, rules-by-rules, start-by-rules, start_of, starts-exist, accepted-exist, any-call-of, one-letter-of, old-letters-of, letters-come-back-of, runs-exist}
use Rattle.sae.specs.Session.{sae_kind}
use Rattle.sae.proofs.Demands.{whole}
use Rattle.sae_session.specs.Lent.{lent_starts, lent_promises}

-- each promise is just the call's equation with the rules
lent : SaeByRules lent_promises
lent = rules-by-rules sae_kind

-- demand 1: every start, and every call of any record
pub one-start : SaeStartOf sae_kind lent_starts
one-start = start_of sae_kind lent_starts (start-by-rules sae_kind)

pub any-call : AnySaeCallOf sae_kind lent_promises
any-call = any-call-of lent

-- demands 1 and 2: one letter, of the record of a history
pub one-letter : OneLetterOf sae_kind lent_promises
one-letter = one-letter-of lent

-- old letters in their order, one claim about the whole list: each call is lent the record that the last one left
pub old-letters : OldLettersOf sae_kind lent_starts lent_promises
old-letters = old-letters-of lent (start-by-rules sae_kind)

-- and the letters of messages that fit all open
pub letters-come-back : LettersComeBackOf sae_kind lent_starts lent_promises
letters-come-back = letters-come-back-of lent (start-by-rules sae_kind)

-- whatever a call is handed, there is a result that its promise allows
pub start-exists : NonceStartsExist sae_kind lent_starts
start-exists = starts-exist sae_kind lent_starts (start-by-rules sae_kind) whole

pub accepted-start-exists : AcceptedStartsExist sae_kind lent_starts
accepted-start-exists = accepted-exist sae_kind lent_starts (start-by-rules sae_kind) whole

pub run-exists : SaeRunsExist sae_kind lent_promises
run-exists = runs-exist lent whole
