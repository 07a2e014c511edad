-- Demands 1 to 3 of functions over the records of a program, of which only promises are known (`Promises`): for every kind of record k. The
-- words are those of `AnySession` and `Start` (demand 1), `OneCall` (one call of a session that a history gives) and `Demand3`. Last, that
-- what they speak of is there. Assumes nothing.
use Rattle.std.specs.Prelude.{Bool, false, List, ◌≡◌, ℕ, ◌≤◌, length}
use Rattle.deck.specs.declared.DeckState.{DeckState}
use Rattle.deck.specs.Strings.{Str}
use Rattle.modes.specs.Call.{CallInput, Call}
use Rattle.modes.specs.Mode.{Mode, incremental}
use Rattle.modes.specs.Rules.{Outcome}
use Rattle.modes.specs.Ledger.{PaperMode}
use Rattle.modes.specs.AnySession.{AnyWrap, AnyUnwrap}
use Rattle.modes.specs.OneCall.{session_of, WrapClaim, UnwrapClaim}
use Rattle.modes.specs.Start.{StartExactly}
use Rattle.modes.specs.Demand3.{ByLedgers, Demand3}
use Rattle.modes.specs.Promises.{Kind, start_result, call_result, Promises, Starts, Records, sessions_held, left_by, Run}

module _ (k : Kind) where
  -- ---- demand 1

  -- every start is accepted, or refused by 4, exactly by its key's length
  abbrev pub StartOf : Starts k → Type 0
  StartOf starts = (key : List ℕ) (r : k.Result) → starts key r → StartExactly key (start_result k r)

  -- a call that is handed any record, open or not, and also one that no history gives
  pub record AnyCallOf (m : Mode) (p : Promises k) : Type 0 where
    pub wraps : (s : k.Record) (i : CallInput) (r : k.Result) (out tag : List ℕ) → p.wraps s i r out tag
        → AnyWrap m incremental (k.state_of s) i (call_result k r out tag)
    pub unwraps : (s : k.Record) (i : CallInput) (r : k.Result) (out tag : List ℕ) → p.unwraps s i r out tag
        → AnyUnwrap m incremental (k.state_of s) i (call_result k r out tag)

  -- ---- demands 1 and 2: one call that is handed the record of a history

  -- within the limits a wrap gives what the algorithm of the papers' mode m gives over the whole history, and the record of the longer one;
  -- outside them it is refused, and alters nothing
  abbrev pub WrapOf : PaperMode → Promises k → Type 0
  WrapOf m p =
      (key : List ℕ) (h : List Str) (e : Bool) (s : k.Record) (i : CallInput) (r : k.Result) (out tag : List ℕ)
      → k.state_of s ≡ session_of key h e → p.wraps s i r out tag → WrapClaim m key h e i (call_result k r out tag)

  -- and so does an unwrap, which is refused by 11 where the tag differs
  abbrev pub UnwrapOf : PaperMode → Promises k → Type 0
  UnwrapOf m p =
      (key : List ℕ) (h : List Str) (e : Bool) (s : k.Record) (i : CallInput) (r : k.Result) (out tag : List ℕ)
      → k.state_of s ≡ session_of key h e → p.unwraps s i r out tag → UnwrapClaim m key h e i (call_result k r out tag)

  -- both
  pub record OneCallOf (m : PaperMode) (p : Promises k) : Type 0 where
    pub wraps : WrapOf m p
    pub unwraps : UnwrapOf m p

  -- ---- demand 3: the calls of a list at the two ends

  -- any mode: from two records of the history that both open with, every list of calls is as the ledgers say
  abbrev pub ListOf : PaperMode → Promises k → Type 0
  ListOf m p =
      (key : List ℕ) (opening : List Str) (from : Records k)
      → k.state_of from.office ≡ session_of key opening false → k.state_of from.group ≡ session_of key opening false
      → (cs : List Call) (os : List (Outcome DeckState)) (to : Records k) → Run k p cs from os to
      → ByLedgers m key opening cs os (sessions_held k to)

  -- SANSE: two starts under one key of 16 to 47 bytes, of which `starts` is promised, and then any list of calls. Demand 3 holds of all that
  -- they gave, and of the records that they left
  abbrev pub Demand3Of : Starts k → Promises k → Type 0
  Demand3Of starts p =
      (key : List ℕ) → 16 ≤ length key → length key ≤ 47 → (first second : k.Result) → starts key first → starts key second
      → (cs : List Call) (os : List (Outcome DeckState)) (to : Records k) → Run k p cs (left_by k first second) os to
      → Demand3 key cs (start_result k first) (start_result k second) os (sessions_held k to)

  -- ---- what the demands speak of is there

  -- under every key some result keeps the promise of a start
  abbrev pub StartsExist : Starts k → Type 0
  StartsExist starts = (key : List ℕ) → (r : k.Result) × starts key r

  -- from any records every list of calls has a run
  abbrev pub RunsExist : Promises k → Type 0
  RunsExist p = (cs : List Call) (from : Records k) → (os : List (Outcome DeckState)) × (to : Records k) × Run k p cs from os to
