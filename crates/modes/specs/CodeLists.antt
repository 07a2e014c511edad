-- Codes of packets in the lists of demand 3 (document 02, request 1): asked at any place of a list of calls and at either end, each is the code
-- of the history that the ledger there then has, and the calls give what they give without it. For any functions over any kind of record, of
-- which only promises are known. Assumes nothing.
use Rattle.std.specs.Prelude.{Bool, List, [], ◌∷◌, ◌++◌, map, ◌↔◌, ◌≢◌, ◌⊎◌, ◌≡◌, ℕ, ◌<◌, ◌≤◌, length}
use Rattle.deck.specs.declared.DeckState.{DeckState}
use Rattle.deck.specs.Strings.{Str}
use Rattle.modes.specs.Call.{Side, Call, side_of}
use Rattle.modes.specs.Mode.{incremental}
use Rattle.modes.specs.Rules.{Outcome, Opening}
use Rattle.modes.specs.Paper.{sanse_opens}
use Rattle.modes.specs.Ledger.{sanse_paper}
use Rattle.modes.specs.OneCall.{session_of}
use Rattle.modes.specs.TwoEnds.{Ends, ledger_at, finish_ledgers, fresh_ledgers}
use Rattle.modes.specs.Delivery.{nothing, Delivers}
use Rattle.modes.specs.Demand3.{Demand3}
use Rattle.modes.specs.Promises.{Kind, start_result, Promises, Starts, Records, record_at, sessions_held, left_by, Run}
use Rattle.modes.specs.Codes.{CodeOutcome, code_at, AnyCode, CodeClaim}

-- ---- lists

-- what a list holds: calls, and codes asked at an end, of a packet and into an output buffer
pub data Request : Type 0 where
  call : Call → Request
  code : Side → (packet : ℕ) (out : List ℕ) → Request

-- the calls of a list, without the codes
abbrev pub calls_of : List Request → List Call
calls_of [] = []
calls_of (call c ∷ rs) = c ∷ calls_of rs
calls_of (code x packet out ∷ rs) = calls_of rs

-- no message was accepted yet at the end x: of the calls cs, which gave os, each that was made there was refused
pub data NoneAccepted (x : Side) : List Call → List (Outcome DeckState) → Type 0 where
  none : NoneAccepted x [] []
  refused : {c : Call} {cs : List Call} {o : Outcome DeckState} {os : List (Outcome DeckState)}
      → o.number ≢ 0 → NoneAccepted x cs os → NoneAccepted x (c ∷ cs) (o ∷ os)
  elsewhere : {c : Call} {cs : List Call} {o : Outcome DeckState} {os : List (Outcome DeckState)}
      → side_of c ≢ x → NoneAccepted x cs os → NoneAccepted x (c ∷ cs) (o ∷ os)

-- ---- the claims

module _ (key : List ℕ) where
  -- of the outcome g of a code that was asked at the end x after the calls cs, which gave os, from two starts under the key
  pub record CodeThere (cs : List Call) (os : List (Outcome DeckState)) (x : Side) (packet : ℕ) (out : List ℕ) (g : CodeOutcome) : Type 0 where
    -- it is the code of the history that the ledger of that end then has
    pub ledger : CodeClaim key (ledger_at x (finish_ledgers sanse_paper cs (fresh_ledgers key sanse_opens))).history packet out g
    -- it is 12 before the first message that was accepted there, and after it just where the packet is above 2,047
    pub first : (g.number ≡ 12) ↔ (NoneAccepted x cs os ⊎ (2047 < packet))

  -- `EachCode cs os rs ps gs`: so is each code of the list rs, whose calls gave ps and whose codes gave gs, where the calls cs before it gave os
  pub data EachCode : (cs : List Call) (os : List (Outcome DeckState)) → List Request → List (Outcome DeckState) → List CodeOutcome → Type 0 where
    none : {cs : List Call} {os : List (Outcome DeckState)} → EachCode cs os [] [] []
    called : {cs : List Call} {os : List (Outcome DeckState)} {rs : List Request} {ps : List (Outcome DeckState)} {gs : List CodeOutcome} {c : Call} {o : Outcome DeckState}
        → EachCode (cs ++ c ∷ []) (os ++ o ∷ []) rs ps gs → EachCode cs os (call c ∷ rs) (o ∷ ps) gs
    asked : {cs : List Call} {os : List (Outcome DeckState)} {rs : List Request} {ps : List (Outcome DeckState)} {gs : List CodeOutcome} {x : Side} {packet : ℕ} {out : List ℕ} {g : CodeOutcome}
        → CodeThere cs os x packet out g → EachCode cs os rs ps gs → EachCode cs os (code x packet out ∷ rs) ps (g ∷ gs)

  -- demand 3 of a list with codes in it: the calls are as the ledgers say, as if no code were asked; and so is each code
  pub record WithCodes (rs : List Request) (first second : Opening) (os : List (Outcome DeckState)) (gs : List CodeOutcome) (q : Ends DeckState) : Type 0 where
    pub calls : Demand3 key (calls_of rs) first second os q
    pub codes : EachCode [] [] rs os gs

-- ---- of functions over the records of a program, of which only promises are known

module _ (k : Kind) where
  -- what asking for a code promises: of the record, the packet and the buffer that it was handed, and what it gave. The record is only read, so
  -- that there is none that it leaves
  abbrev pub Codes : Type 1
  Codes = k.Record → (packet : ℕ) (out : List ℕ) → CodeOutcome → Type 0

  -- the promise that is the equation with the definition, and nothing else
  abbrev pub codes_by_rules : Codes
  codes_by_rules s packet out g = g ≡ code_at incremental (k.state_of s) packet out

  -- `CodeRun p codes rs from os gs to`: the calls and codes of the list rs, made in order from the records `from`, gave os and gs and left the
  -- records `to`. Each call is a run of its own; a code reads the record of its end as it stands
  pub data CodeRun (p : Promises k) (codes : Codes) : List Request → Records k → List (Outcome DeckState) → List CodeOutcome → Records k → Type 0 where
    none : {from : Records k} → CodeRun p codes [] from [] [] from
    called : {rs : List Request} {from mid to : Records k} {os : List (Outcome DeckState)} {gs : List CodeOutcome} {c : Call} {o : Outcome DeckState}
        → Run k p (c ∷ []) from (o ∷ []) mid → CodeRun p codes rs mid os gs to → CodeRun p codes (call c ∷ rs) from (o ∷ os) gs to
    asked : {rs : List Request} {from to : Records k} {os : List (Outcome DeckState)} {gs : List CodeOutcome} {x : Side} {packet : ℕ} {out : List ℕ} {g : CodeOutcome}
        → codes (record_at k x from) packet out g → CodeRun p codes rs from os gs to → CodeRun p codes (code x packet out ∷ rs) from os (g ∷ gs) to

  -- demand 1: asked of any record, open or not, and also one that no history gives
  abbrev pub AnyCodeOf : Codes → Type 0
  AnyCodeOf codes =
      (s : k.Record) (packet : ℕ) (out : List ℕ) (g : CodeOutcome) → codes s packet out g → AnyCode incremental (k.state_of s) packet out g

  -- asked of the record of a history
  abbrev pub OneCodeOf : Codes → Type 0
  OneCodeOf codes =
      (key : List ℕ) (h : List Str) (e : Bool) (s : k.Record) (packet : ℕ) (out : List ℕ) (g : CodeOutcome)
      → k.state_of s ≡ session_of key h e → codes s packet out g → CodeClaim key h packet out g

  -- demand 3 with codes: two starts under one key of 16 to 47 bytes, and then any list of calls and codes
  abbrev pub WithCodesOf : Starts k → Promises k → Codes → Type 0
  WithCodesOf starts p codes =
      (key : List ℕ) → 16 ≤ length key → length key ≤ 47 → (first second : k.Result) → starts key first → starts key second
      → (rs : List Request) (os : List (Outcome DeckState)) (gs : List CodeOutcome) (to : Records k) → CodeRun p codes rs (left_by k first second) os gs to
      → WithCodes key rs (start_result k first) (start_result k second) os gs (sessions_held k to)

  -- a code changes nothing: lists with and without codes in them have the same runs, from any records
  abbrev pub SameRuns : Promises k → Codes → Type 0
  SameRuns p codes =
      (rs : List Request) (from : Records k) (os : List (Outcome DeckState)) (to : Records k)
      → ((gs : List CodeOutcome) × CodeRun p codes rs from os gs to) ↔ Run k p (calls_of rs) from os to

  -- both ends have the same codes: where each message of the list was delivered, what either end then gives for a packet the other gives too
  abbrev pub SameCodesOf : Starts k → Promises k → Codes → Type 0
  SameCodesOf starts p codes =
      (key : List ℕ) → 16 ≤ length key → length key ≤ 47 → (first second : k.Result) → starts key first → starts key second
      → (cs : List Call) (os : List (Outcome DeckState)) (to : Records k) → Run k p cs (left_by k first second) os to
      → Delivers sanse_paper nothing cs (fresh_ledgers key sanse_opens)
      → (packet : ℕ) (out : List ℕ) (g g' : CodeOutcome) → codes to.office packet out g → codes to.group packet out g' → g ≡ g'

  -- ---- what these speak of is there

  -- from any records every list of calls and codes has a run
  abbrev pub CodeRunsExist : Promises k → Codes → Type 0
  CodeRunsExist p codes =
      (rs : List Request) (from : Records k)
      → (os : List (Outcome DeckState)) × (gs : List CodeOutcome) × (to : Records k) × CodeRun p codes rs from os gs to

  -- at every point of every list of calls that has a run, between cs and ds, and at either end, a code can be asked: it is answered, and the
  -- calls give what they gave
  abbrev pub AskedAnywhere : Promises k → Codes → Type 0
  AskedAnywhere p codes =
      (cs ds : List Call) (x : Side) (packet : ℕ) (out : List ℕ) (from : Records k) (os : List (Outcome DeckState)) (to : Records k)
      → Run k p (cs ++ ds) from os to → (g : CodeOutcome) × CodeRun p codes (map call cs ++ code x packet out ∷ map call ds) from os (g ∷ []) to
