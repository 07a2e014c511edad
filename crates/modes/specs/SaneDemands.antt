-- SANE at the two ends (document 02, request 2): what a start with a nonce promises, and demands 1 and 3 with such starts, of functions over any
-- kind of record k, of which only promises are known. Calls, lists and ledgers are those of every mode (`Promises`, `Demand3`, `Demands`).
-- Assumes nothing.
use Rattle.std.specs.Prelude.{List, ◌≡◌, ℕ}
use Rattle.deck.specs.declared.DeckState.{DeckState}
use Rattle.modes.specs.Call.{Call}
use Rattle.modes.specs.Mode.{sane_parameters}
use Rattle.modes.specs.PaperSane.{sane_opens}
use Rattle.modes.specs.Rules.{Outcome, NonceOpening, nonce_start_at}
use Rattle.modes.specs.Ledger.{sane_paper}
use Rattle.modes.specs.NonceStart.{NonceAccepted, NonceFits, NonceExactly}
use Rattle.modes.specs.TwoEnds.{Ends}
use Rattle.modes.specs.Demand3.{ByLedgers}
use Rattle.modes.specs.Promises.{Kind, Promises, Records, sessions_held, left_by, Run}

-- demand 3 for SANE, of two starts with one key and one nonce: each ledger opens with the nonce as the one string of its history, and every
-- list of calls after them is as the ledgers say
pub record SaneDemand3 (key nonce : List ℕ) (cs : List Call) (first second : NonceOpening) (os : List (Outcome DeckState)) (q : Ends DeckState) : Type 0 where
  pub office_start : NonceAccepted key nonce first
  pub group_start : NonceAccepted key nonce second
  pub calls : ByLedgers sane_paper key (sane_opens nonce) cs os q

module _ (k : Kind) where
  -- what a start with a nonce gave, with the tag buffer as it left it
  abbrev pub nonce_result : k.Result → (tag : List ℕ) → NonceOpening
  nonce_result r tag = record { number = k.number r; count = k.count r; session = k.state_of (k.left r); tag = tag }

  -- what it promises of its key, its nonce and its tag buffer, what it gave, and the tag buffer as it left it
  abbrev pub NonceStarts : Type 1
  NonceStarts = (key nonce tag : List ℕ) → k.Result → (tag' : List ℕ) → Type 0

  -- the promise that is its equation with the rules, and nothing else
  abbrev pub nonce_by_rules : NonceStarts
  nonce_by_rules key nonce tag r tag' = nonce_result r tag' ≡ nonce_start_at sane_parameters key nonce tag

  -- demand 1: every start is accepted, or refused by 4, 6 or 7, exactly by the lengths of what it is handed
  abbrev pub NonceStartOf : NonceStarts → Type 0
  NonceStartOf starts =
      (key nonce tag : List ℕ) (r : k.Result) (tag' : List ℕ) → starts key nonce tag r tag' → NonceExactly key nonce tag (nonce_result r tag')

  -- demand 3: two starts under one key with one nonce, of which `starts` is promised and neither is refused, and then any list of calls
  abbrev pub SaneDemand3Of : NonceStarts → Promises k → Type 0
  SaneDemand3Of starts p =
      (key nonce t u : List ℕ) (first second : k.Result) (t' u' : List ℕ) → starts key nonce t first t' → starts key nonce u second u'
      → k.number first ≡ 0 → k.number second ≡ 0
      → (cs : List Call) (os : List (Outcome DeckState)) (to : Records k) → Run k p cs (left_by k first second) os to
      → SaneDemand3 key nonce cs (nonce_result first t') (nonce_result second u') os (sessions_held k to)

  -- whatever a start is handed, some result keeps its promise
  abbrev pub NonceStartsExist : NonceStarts → Type 0
  NonceStartsExist starts = (key nonce tag : List ℕ) → (r : k.Result) × (tag' : List ℕ) × starts key nonce tag r tag'

  -- and where what it is handed fits, one that is not refused: such starts as demand 3 speaks of are there
  abbrev pub AcceptedStartsExist : NonceStarts → Type 0
  AcceptedStartsExist starts =
      (key nonce tag : List ℕ) → NonceFits key nonce tag → (r : k.Result) × (tag' : List ℕ) × starts key nonce tag r tag' × (k.number r ≡ 0)
