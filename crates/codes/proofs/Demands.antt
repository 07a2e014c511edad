-- What is claimed of codes holds of `code_of`, known by its `ensures` alone, beside start, wrap and unwrap by value; and what the claims say, written
-- out. Assumes nothing.
use mathlib.Core.Bool.{Bool}
use mathlib.Core.List.{List, [], ◌∷◌, ◌++◌, map}
use mathlib.Core.Logic.{◌↔◌}
use mathlib.Core.Path.{◌≡◌, refl}
use Prim.Native.Nat.{ℕ, ◌≤◌}
use lib.ListN.{length}
use Rattle.deck.specs.declared.DeckState.{DeckState}
use Rattle.deck.specs.Strings.{Str}
use Rattle.modes.specs.Call.{Side, Call}
use Rattle.modes.specs.Mode.{incremental}
use Rattle.modes.specs.Paper.{sanse_opens}
use Rattle.modes.specs.Ledger.{sanse_paper}
use Rattle.modes.specs.TwoEnds.{fresh_ledgers}
use Rattle.modes.specs.Delivery.{nothing, Delivers}
use Rattle.modes.specs.Rules.{Outcome}
use Rattle.modes.specs.OneCall.{session_of}
use Rattle.modes.specs.Promises.{Promises, Records, Run, sessions_held}
use Rattle.modes.specs.Codes.{CodeOutcome, AnyCode, CodeClaim}
use Rattle.modes.specs.CodeLists.{Codes, Request, call, code, calls_of, CodeRun, WithCodes, AnyCodeOf, OneCodeOf, WithCodesOf, SameCodesOf, SameRuns, CodeRunsExist, AskedAnywhere}
use Rattle.modes.proofs.CodeLists.{any-code-of, one-code-of, with-codes-of, same-codes-of, same_runs, code-runs-exist, asked-anywhere}
use Rattle.sanse.specs.declared.Session.{Session}
use Rattle.steps.specs.declared.CallResult.{CallResult}
use Rattle.sanse.specs.Session.{state_of, start_result, sanse_kind}
use Rattle.sanse.proofs.Contracts.{StartPromise, promises, start_is}
use Rattle.sanse.proofs.Demands.{program, run-exists}
use Rattle.codes.proofs.Contracts.{codes, code_is}

-- ---- what the claims say of these records, written out

pub any-code-says : (c : Codes sanse_kind)
    → AnyCodeOf sanse_kind c
    ≡ ((s : Session) (packet : ℕ) (out : List ℕ) (g : CodeOutcome) → c s packet out g → AnyCode incremental (state_of s) packet out g)
any-code-says c = refl

pub code-says : (c : Codes sanse_kind)
    → OneCodeOf sanse_kind c
    ≡ ((key : List ℕ) (h : List Str) (e : Bool) (s : Session) (packet : ℕ) (out : List ℕ) (g : CodeOutcome)
    → state_of s ≡ session_of key h e → c s packet out g → CodeClaim key h packet out g)
code-says c = refl

pub with-codes-says : (starts : (key : List ℕ) → CallResult Session → Type 0) (p : Promises sanse_kind) (c : Codes sanse_kind)
    → WithCodesOf sanse_kind starts p c
    ≡ ((key : List ℕ) → 16 ≤ length key → length key ≤ 47 → (first second : CallResult Session) → starts key first → starts key second
    → (rs : List Request) (os : List (Outcome DeckState)) (gs : List CodeOutcome) (to : Records sanse_kind)
    → CodeRun sanse_kind p c rs (record { office = first.left; group = second.left }) os gs to
    → WithCodes key rs (start_result first) (start_result second) os gs (sessions_held sanse_kind to))
with-codes-says starts p c = refl

pub same-runs-says : (p : Promises sanse_kind) (c : Codes sanse_kind)
    → SameRuns sanse_kind p c
    ≡ ((rs : List Request) (from : Records sanse_kind) (os : List (Outcome DeckState)) (to : Records sanse_kind)
    → ((gs : List CodeOutcome) × CodeRun sanse_kind p c rs from os gs to) ↔ Run sanse_kind p (calls_of rs) from os to)
same-runs-says p c = refl

pub same-codes-says : (starts : (key : List ℕ) → CallResult Session → Type 0) (p : Promises sanse_kind) (c : Codes sanse_kind)
    → SameCodesOf sanse_kind starts p c
    ≡ ((key : List ℕ) → 16 ≤ length key → length key ≤ 47 → (first second : CallResult Session) → starts key first → starts key second
    → (cs : List Call) (os : List (Outcome DeckState)) (to : Records sanse_kind)
    → Run sanse_kind p cs (record { office = first.left; group = second.left }) os to
    → Delivers sanse_paper nothing cs (fresh_ledgers key sanse_opens)
    → (packet : ℕ) (out : List ℕ) (g g' : CodeOutcome) → c to.office packet out g → c to.group packet out g' → g ≡ g')
same-codes-says starts p c = refl

pub code-runs-exist-says : (p : Promises sanse_kind) (c : Codes sanse_kind)
    → CodeRunsExist sanse_kind p c
    ≡ ((rs : List Request) (from : Records sanse_kind)
    → (os : List (Outcome DeckState)) × (gs : List CodeOutcome) × (to : Records sanse_kind) × CodeRun sanse_kind p c rs from os gs to)
code-runs-exist-says p c = refl

pub asked-anywhere-says : (p : Promises sanse_kind) (c : Codes sanse_kind)
    → AskedAnywhere sanse_kind p c
    ≡ ((cs ds : List Call) (x : Side) (packet : ℕ) (out : List ℕ) (from : Records sanse_kind) (os : List (Outcome DeckState)) (to : Records sanse_kind)
    → Run sanse_kind p (cs ++ ds) from os to
    → (g : CodeOutcome) × CodeRun sanse_kind p c (map call cs ++ code x packet out ∷ map call ds) from os (g ∷ []) to)
asked-anywhere-says p c = refl

-- ---- the claims; of lists, for each way to call wrap and unwrap: full blocks one after the other, or four side by side

-- asked of any record
pub any_code : AnyCodeOf sanse_kind codes
any_code = any-code-of sanse_kind codes code_is

-- asked of the record of a history
pub one_code : OneCodeOf sanse_kind codes
one_code = one-code-of sanse_kind codes code_is

-- in every list of demand 3
pub demand-3-with-codes : (four : Bool) → WithCodesOf sanse_kind StartPromise (promises four) codes
demand-3-with-codes four = with-codes-of start_is (program four) code_is

-- both ends have the same codes where each message was delivered
pub same_codes : (four : Bool) → SameCodesOf sanse_kind StartPromise (promises four) codes
same_codes four = same-codes-of start_is (program four) code_is

-- a code changes nothing
pub codes-change-nothing : (four : Bool) → SameRuns sanse_kind (promises four) codes
codes-change-nothing four = same_runs sanse_kind codes code_is (promises four)

-- every list of calls and codes has a run, and a code can be asked at every point of every list of calls
pub code-run-exists : (four : Bool) → CodeRunsExist sanse_kind (promises four) codes
code-run-exists four = code-runs-exist sanse_kind codes code_is (run-exists four)

pub code-anywhere : (four : Bool) → AskedAnywhere sanse_kind (promises four) codes
code-anywhere four = asked-anywhere sanse_kind codes code_is (promises four)
