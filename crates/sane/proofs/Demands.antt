-- Demands 1 to 3 hold of the program's start, wrap and unwrap of SANE, the last two without an envelope and for one, in lists that mix both, each
-- known by its own `ensures` alone; what they say, written out; and that what they speak of is there. Assumes nothing.
use mathlib.Core.Bool.{Bool, false, true}
use mathlib.Core.List.{List}
use mathlib.Core.Path.{◌≡◌, refl}
use Prim.Native.Nat.{ℕ}
use Rattle.deck.specs.declared.DeckState.{DeckState}
use Rattle.deck.specs.Strings.{Str}
use Rattle.modes.specs.Call.{CallInput, Call}
use Rattle.modes.specs.Mode.{incremental, sane}
use Rattle.modes.specs.Rules.{Outcome}
use Rattle.modes.specs.Ledger.{sane_paper}
use Rattle.modes.specs.OneCall.{session_of, WrapClaim, UnwrapClaim}
use Rattle.modes.specs.AnySession.{AnyWrap, AnyUnwrap}
use Rattle.modes.specs.NonceStart.{NonceExactly}
use Rattle.modes.specs.Promises.{Promises, Records, Run, sessions_held}
use Rattle.modes.specs.Demands.{AnyCallOf, OneCallOf, RunsExist}
use Rattle.modes.specs.SaneDemands.{SaneDemand3, NonceStarts, NonceStartOf, SaneDemand3Of, NonceStartsExist, AcceptedStartsExist}
use Rattle.modes.specs.EitherWay.{EitherSaneDemand3Of, NobodyCanTell, ChoicesExist, Among}
use Rattle.modes.specs.Envelopes.{ReaddressedOf}
use Rattle.modes.proofs.EitherWay.{either-sane-demand-3, nobody-can-tell, choices-exist, among}
use Rattle.modes.proofs.Envelopes.{readdressed-of, sane-readdressed}
use Rattle.modes.proofs.Modes.{sane-follows}
use Rattle.modes.proofs.Demands.{ByRules, Whole, both-by-rules, any-call-of, one-call-of, runs-exist, kept}
use Rattle.modes.proofs.SaneDemands.{nonce-start-of, nonce-starts-exist, accepted-starts-exist, sane-demand-3-of}
use Rattle.sane.specs.declared.SaneSession.{SaneSession}
use Rattle.steps.specs.declared.CallResult.{CallResult}
use Rattle.sane.specs.Session.{state_of, nonce_result, call_result, sane_kind}
use Rattle.sane.proofs.Contracts.{StartPromise, promises, start_is, wrap-is, unwrap-is, wrap-envelope-is, unwrap-envelope-is}

-- ---- what the demands say of these records, written out

pub start-says : (starts : NonceStarts sane_kind)
    → NonceStartOf sane_kind starts
    ≡ ((key nonce tag : List ℕ) (r : CallResult SaneSession) (tag' : List ℕ) → starts key nonce tag r tag' → NonceExactly key nonce tag (nonce_result r tag'))
start-says starts = refl

pub demand-3-says : (starts : NonceStarts sane_kind) (p : Promises sane_kind)
    → SaneDemand3Of sane_kind starts p
    ≡ ((key nonce t u : List ℕ) (first second : CallResult SaneSession) (t' u' : List ℕ) → starts key nonce t first t' → starts key nonce u second u'
    → first.number ≡ 0 → second.number ≡ 0
    → (cs : List Call) (os : List (Outcome DeckState)) (to : Records sane_kind)
    → Run sane_kind p cs (record { office = first.left; group = second.left }) os to
    → SaneDemand3 key nonce cs (nonce_result first t') (nonce_result second u') os (sessions_held sane_kind to))
demand-3-says starts p = refl

pub starts-exist-says : (starts : NonceStarts sane_kind)
    → NonceStartsExist sane_kind starts ≡ ((key nonce tag : List ℕ) → (r : CallResult SaneSession) × (tag' : List ℕ) × starts key nonce tag r tag')
starts-exist-says starts = refl

-- and of one call, of any record and of the record of a history
module _ (p : Promises sane_kind) (s : SaneSession) (i : CallInput) (r : CallResult SaneSession) (out tag : List ℕ) where
  pub any-wrap-says : AnyCallOf sane_kind sane p → p.wraps s i r out tag → AnyWrap sane incremental (state_of s) i (call_result r out tag)
  any-wrap-says c = c.wraps s i r out tag

  pub any-unwrap-says : AnyCallOf sane_kind sane p → p.unwraps s i r out tag → AnyUnwrap sane incremental (state_of s) i (call_result r out tag)
  any-unwrap-says c = c.unwraps s i r out tag

  pub one-wrap-says : OneCallOf sane_kind sane_paper p → (key : List ℕ) (h : List Str) (e : Bool) → state_of s ≡ session_of key h e → p.wraps s i r out tag
      → WrapClaim sane_paper key h e i (call_result r out tag)
  one-wrap-says c key h e = c.wraps key h e s i r out tag

  pub one-unwrap-says : OneCallOf sane_kind sane_paper p → (key : List ℕ) (h : List Str) (e : Bool) → state_of s ≡ session_of key h e → p.unwraps s i r out tag
      → UnwrapClaim sane_paper key h e i (call_result r out tag)
  one-unwrap-says c key h e = c.unwraps key h e s i r out tag

-- ---- the demands, for each way to call wrap and unwrap: full blocks one after the other, or four side by side

-- each promise, of calls of both sorts, is just the call's equation with the rules
program : (four : Bool) → ByRules sane (promises four)
program four =
    both-by-rules (record { wraps = wrap-is four; unwraps = unwrap-is four })
    (λ x.
    record {
      wraps = λ s i r out tag. wrap-envelope-is four s i r out tag x;
      unwraps = λ s i r out tag. unwrap-envelope-is four s i r out tag x;
    })

-- demand 1: every start, and every call of any record
pub one-start : NonceStartOf sane_kind StartPromise
one-start = nonce-start-of sane_kind StartPromise start_is

pub any-call : (four : Bool) → AnyCallOf sane_kind sane (promises four)
any-call four = any-call-of (program four)

-- demands 1 and 2: one call of the record of a history
pub one-call : (four : Bool) → OneCallOf sane_kind sane_paper (promises four)
one-call four = one-call-of (program four) sane-follows

-- an envelope whose group was changed on its way: another history, and 11 exactly where the tags differ
pub readdressed : (four : Bool) → ReaddressedOf sane_kind sane_paper (promises four)
readdressed four = readdressed-of (program four) sane-follows sane-readdressed

-- demand 3, one claim about the whole list
pub demand-3 : (four : Bool) → SaneDemand3Of sane_kind StartPromise (promises four)
demand-3 four = sane-demand-3-of start_is (program four)

-- ---- what they speak of is there

-- every number, count and session is some result's
pub whole : Whole sane_kind
whole =
    record {
      made = λ n c s.
          record { number = n; count = c; left = record { history = s.history; toggle = s.toggle; opened = s.opened } };
      same = λ n c s. refl;
    }

-- whatever a call is handed, there are arguments and a result of which the function's `ensures` holds
pub start-exists : NonceStartsExist sane_kind StartPromise
start-exists = nonce-starts-exist whole StartPromise start_is

pub accepted-start-exists : AcceptedStartsExist sane_kind StartPromise
accepted-start-exists = accepted-starts-exist whole StartPromise start_is

pub run-exists : (four : Bool) → RunsExist sane_kind (promises four)
run-exists four = runs-exist (kept whole (program four))

-- ---- lists in which each call is made either way (document 02, request 10)

-- demand 3, whichever way each call of the list is made
pub demand-3-either : EitherSaneDemand3Of sane_kind StartPromise (promises false) (promises true)
demand-3-either = either-sane-demand-3 start_is (program false) (program true)

-- a record is the session that it holds, and nothing more
pub same-record : (s t : SaneSession) → state_of s ≡ state_of t → s ≡ t
same-record s t e =
    λ j. record { history = (e j).history; toggle = (e j).toggle; opened = (e j).opened }

-- nobody can tell
pub nobody-tells : NobodyCanTell sane_kind (promises false) (promises true)
nobody-tells = nobody-can-tell (program false) (program true)

-- such lists are there, with any choice for each call, and those of one way alone are among them
pub choice-exists : ChoicesExist sane_kind (promises false) (promises true)
choice-exists = choices-exist (kept whole (program false)) (kept whole (program true))

pub one-way-alone : Among sane_kind (promises false) (promises true)
one-way-alone = among (promises false) (promises true)
