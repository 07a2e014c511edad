-- Demands 1 to 3 hold of the program's start, wrap and unwrap, known by their `ensures` alone; what they say, written out; and that what they
-- speak of is there. Assumes nothing.
use mathlib.Core.Bool.{Bool, false, true}
use mathlib.Core.List.{List}
use mathlib.Core.Path.{◌≡◌, refl}
use Prim.Native.Nat.{ℕ, ◌≤◌}
use lib.ListN.{length}
use Rattle.deck.specs.declared.DeckState.{DeckState}
use Rattle.deck.specs.Strings.{Str}
use Rattle.modes.specs.Call.{CallInput, Call}
use Rattle.modes.specs.Mode.{incremental, sanse}
use Rattle.modes.specs.Rules.{Outcome}
use Rattle.modes.specs.Ledger.{sanse_paper}
use Rattle.modes.specs.OneCall.{session_of, WrapClaim, UnwrapClaim}
use Rattle.modes.specs.AnySession.{AnyWrap, AnyUnwrap}
use Rattle.modes.specs.Start.{StartExactly}
use Rattle.modes.specs.Demand3.{Demand3}
use Rattle.modes.specs.Promises.{Promises, Records, Run, sessions_held}
use Rattle.modes.specs.Demands.{StartOf, AnyCallOf, WrapOf, UnwrapOf, OneCallOf, Demand3Of, StartsExist, RunsExist}
use Rattle.modes.specs.EitherWay.{EitherDemand3Of, NobodyCanTell, ChoicesExist, Among}
use Rattle.modes.specs.Envelopes.{ReaddressedOf}
use Rattle.modes.proofs.EitherWay.{either-demand-3, nobody-can-tell, choices-exist, among}
use Rattle.modes.proofs.Envelopes.{readdressed-of, sanse-readdressed}
use Rattle.modes.proofs.Modes.{sanse-follows}
use Rattle.modes.proofs.Demands.{ByRules, Whole, both-by-rules, start_of, any-call-of, one-call-of, demand-3-of, runs-exist, kept, starts-exist}
use Rattle.sanse.specs.declared.Session.{Session}
use Rattle.steps.specs.declared.CallResult.{CallResult}
use Rattle.sanse.specs.Session.{state_of, start_result, call_result, sanse_kind}
use Rattle.sanse.proofs.Contracts.{StartPromise, promises, start_is, wrap-is, unwrap-is, wrap-envelope-is, unwrap-envelope-is}

-- ---- what the demands say of these records, written out

pub wrap-says : (p : Promises sanse_kind)
    → WrapOf sanse_kind sanse_paper p
    ≡ ((key : List ℕ) (h : List Str) (e : Bool) (s : Session) (i : CallInput) (r : CallResult Session) (out tag : List ℕ)
    → state_of s ≡ session_of key h e → p.wraps s i r out tag → WrapClaim sanse_paper key h e i (call_result r out tag))
wrap-says p = refl

pub unwrap-says : (p : Promises sanse_kind)
    → UnwrapOf sanse_kind sanse_paper p
    ≡ ((key : List ℕ) (h : List Str) (e : Bool) (s : Session) (i : CallInput) (r : CallResult Session) (out tag : List ℕ)
    → state_of s ≡ session_of key h e → p.unwraps s i r out tag → UnwrapClaim sanse_paper key h e i (call_result r out tag))
unwrap-says p = refl

pub demand-3-says : (starts : (key : List ℕ) → CallResult Session → Type 0) (p : Promises sanse_kind)
    → Demand3Of sanse_kind starts p
    ≡ ((key : List ℕ) → 16 ≤ length key → length key ≤ 47 → (first second : CallResult Session) → starts key first → starts key second
    → (cs : List Call) (os : List (Outcome DeckState)) (to : Records sanse_kind)
    → Run sanse_kind p cs (record { office = first.left; group = second.left }) os to
    → Demand3 key cs (start_result first) (start_result second) os (sessions_held sanse_kind to))
demand-3-says starts p = refl

pub start-says : (starts : (key : List ℕ) → CallResult Session → Type 0)
    → StartOf sanse_kind starts ≡ ((key : List ℕ) (r : CallResult Session) → starts key r → StartExactly key (start_result r))
start-says starts = refl

pub starts-exist-says : (starts : (key : List ℕ) → CallResult Session → Type 0) → StartsExist sanse_kind starts ≡ ((key : List ℕ) → (r : CallResult Session) × starts key r)
starts-exist-says starts = refl

pub runs-exist-says : (p : Promises sanse_kind)
    → RunsExist sanse_kind p
    ≡ ((cs : List Call) (from : Records sanse_kind) → (os : List (Outcome DeckState)) × (to : Records sanse_kind) × Run sanse_kind p cs from os to)
runs-exist-says p = refl

-- and of one call, of any record and of the record of a history
module _ (p : Promises sanse_kind) (s : Session) (i : CallInput) (r : CallResult Session) (out tag : List ℕ) where
  pub any-wrap-says : AnyCallOf sanse_kind sanse p → p.wraps s i r out tag → AnyWrap sanse incremental (state_of s) i (call_result r out tag)
  any-wrap-says c = c.wraps s i r out tag

  pub any-unwrap-says : AnyCallOf sanse_kind sanse p → p.unwraps s i r out tag → AnyUnwrap sanse incremental (state_of s) i (call_result r out tag)
  any-unwrap-says c = c.unwraps s i r out tag

  pub one-wrap-says : OneCallOf sanse_kind sanse_paper p → (key : List ℕ) (h : List Str) (e : Bool) → state_of s ≡ session_of key h e → p.wraps s i r out tag
      → WrapClaim sanse_paper key h e i (call_result r out tag)
  one-wrap-says c key h e = c.wraps key h e s i r out tag

  pub one-unwrap-says : OneCallOf sanse_kind sanse_paper p → (key : List ℕ) (h : List Str) (e : Bool) → state_of s ≡ session_of key h e → p.unwraps s i r out tag
      → UnwrapClaim sanse_paper key h e i (call_result r out tag)
  one-unwrap-says c key h e = c.unwraps key h e s i r out tag

-- ---- the demands, for each way to call wrap and unwrap: full blocks one after the other, or four side by side

-- each promise is just the call's equation with the rules
pub program : (four : Bool) → ByRules sanse (promises four)
program four =
    both-by-rules (record { wraps = wrap-is four; unwraps = unwrap-is four })
    (λ x.
    record {
      wraps = λ s i r out tag. wrap-envelope-is four s i r out tag x;
      unwraps = λ s i r out tag. unwrap-envelope-is four s i r out tag x;
    })

-- demand 1: every start, and every call of any record
pub one-start : StartOf sanse_kind StartPromise
one-start = start_of sanse_kind StartPromise start_is

pub any-call : (four : Bool) → AnyCallOf sanse_kind sanse (promises four)
any-call four = any-call-of (program four)

-- demands 1 and 2: one call of the record of a history
pub one-call : (four : Bool) → OneCallOf sanse_kind sanse_paper (promises four)
one-call four = one-call-of (program four) sanse-follows

-- an envelope whose group was changed on its way: another history, and 11 exactly where the tags differ
pub readdressed : (four : Bool) → ReaddressedOf sanse_kind sanse_paper (promises four)
readdressed four = readdressed-of (program four) sanse-follows sanse-readdressed

-- demand 3, one claim about the whole list
pub demand-3 : (four : Bool) → Demand3Of sanse_kind StartPromise (promises four)
demand-3 four = demand-3-of start_is (program four)

-- ---- what they speak of is there

-- every number, count and session is some result's
pub whole : Whole sanse_kind
whole =
    record {
      made = λ n c s.
          record { number = n; count = c; left = record { history = s.history; toggle = s.toggle; opened = s.opened } };
      same = λ n c s. refl;
    }

-- whatever a call is handed, there are arguments and a result of which the function's `ensures` holds
pub start-exists : StartsExist sanse_kind StartPromise
start-exists = starts-exist whole StartPromise start_is

pub run-exists : (four : Bool) → RunsExist sanse_kind (promises four)
run-exists four = runs-exist (kept whole (program four))

-- ---- lists in which each call is made either way (document 02, request 10)

-- demand 3, whichever way each call of the list is made
pub demand-3-either : EitherDemand3Of sanse_kind StartPromise (promises false) (promises true)
demand-3-either = either-demand-3 start_is (program false) (program true)

-- a record is the session that it holds, and nothing more
pub same-record : (s t : Session) → state_of s ≡ state_of t → s ≡ t
same-record s t e =
    λ j. record { history = (e j).history; toggle = (e j).toggle; opened = (e j).opened }

-- nobody can tell
pub nobody-tells : NobodyCanTell sanse_kind (promises false) (promises true)
nobody-tells = nobody-can-tell (program false) (program true)

-- such lists are there, with any choice for each call, and those of one way alone are among them
pub choice-exists : ChoicesExist sanse_kind (promises false) (promises true)
choice-exists = choices-exist (kept whole (program false)) (kept whole (program true))

pub one-way-alone : Among sanse_kind (promises false) (promises true)
one-way-alone = among (promises false) (promises true)
