-- The calls of a list at the two ends (document 01, "The two ends of demand 3"): by the rules, each call with the session that the last call
-- at its end left; and by the ledgers. Assumes nothing.
use Rattle.std.specs.Prelude.{List, [], ◌∷◌, map, ◌≡◌, ℕ}
use Rattle.deck.specs.Strings.{Str}
use Rattle.modes.specs.Call.{Side, office, group, Call, wrap, unwrap, side_of}
use Rattle.modes.specs.Mode.{HistoryRep, Mode}
use Rattle.modes.specs.Rules.{SessionState, Outcome, wrap_at, unwrap_at}
use Rattle.modes.specs.Ledger.{PaperMode, Ledger, LedgerAnswer, Entry, ledger_wrap, ledger_unwrap, fresh_ledger}

-- ---- the two ends by the rules

-- the sessions at the two ends
pub record Ends (S : Type 0) : Type 0 where
  pub office : SessionState S
  pub group : SessionState S

module _ {S : Type 0} where
  -- the session at an end
  abbrev pub at : Side → Ends S → SessionState S
  at office p = p.office
  at group p = p.group

  -- the sessions with one put in the place of that at an end
  abbrev pub put : Side → SessionState S → Ends S → Ends S
  put office s p = record { office = s; group = p.group }
  put group s p = record { office = p.office; group = s }

module _ (m : Mode) {S : Type 0} (d : HistoryRep S) where
  -- what a call gives
  abbrev pub outcome : Call → Ends S → Outcome S
  outcome (wrap x i) p = wrap_at m d (at x p) i
  outcome (unwrap x i) p = unwrap_at m d (at x p) i

  -- `Runs cs p os q`: the calls cs, made in order from the sessions p, each at its end with the session that the last call there left, gave os
  -- and left q. Of each call only its equation with the rules is known
  pub data Runs : List Call → Ends S → List (Outcome S) → Ends S → Type 0 where
    none : {p : Ends S} → Runs [] p [] p
    more : {c : Call} {cs : List Call} {p q : Ends S} {o : Outcome S} {os : List (Outcome S)}
        → o ≡ outcome c p → Runs cs (put (side_of c) o.session p) os q → Runs (c ∷ cs) p (o ∷ os) q

-- ---- the two ends by the ledgers

-- the ledgers of the two ends
pub record Ledgers : Type 0 where
  pub office : Ledger
  pub group : Ledger

-- the ledger of an end
abbrev pub ledger_at : Side → Ledgers → Ledger
ledger_at office p = p.office
ledger_at group p = p.group

-- the ledgers with one put in the place of that of an end
abbrev pub set_ledger : Side → Ledger → Ledgers → Ledgers
set_ledger office l p = record { office = l; group = p.group }
set_ledger group l p = record { office = p.office; group = l }

module _ (m : PaperMode) where
  -- what the ledger at a call's end says of it
  abbrev pub ledger_step : Call → Ledgers → Entry
  ledger_step (wrap x i) p = ledger_wrap m (ledger_at x p) i
  ledger_step (unwrap x i) p = ledger_unwrap m (ledger_at x p) i

  -- the ledgers after a call
  abbrev pub next_ledgers : Call → Ledgers → Ledgers
  next_ledgers c p = set_ledger (side_of c) (ledger_step c p).ledger p

  -- what the ledgers say of each call of a list, in order
  unfoldable pub entries : List Call → Ledgers → List Entry
  entries [] p = []
  entries (c ∷ cs) p = ledger_step c p ∷ entries cs (next_ledgers c p)

  -- their answers
  abbrev pub answers : List Call → Ledgers → List LedgerAnswer
  answers cs p = map (λ (e : Entry). e.answer) (entries cs p)

  -- the ledgers after a list
  unfoldable pub finish_ledgers : List Call → Ledgers → Ledgers
  finish_ledgers [] p = p
  finish_ledgers (c ∷ cs) p = finish_ledgers cs (next_ledgers c p)

-- both ledgers under one key, before the first call, with the history that both sessions open with
abbrev pub fresh_ledgers : (key : List ℕ) (opening : List Str) → Ledgers
fresh_ledgers key opening = record { office = fresh_ledger key opening; group = fresh_ledger key opening }
