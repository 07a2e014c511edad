-- Functions over the records of a program, of which only promises are known: what each promises of a call, from what it was handed to what it
-- gave and left; and the calls of a list at the two ends, each known by its promise alone. For every kind of record, since each mode's
-- sessions are a kind of their own. Assumes nothing.
use Rattle.std.specs.Prelude.{List, [], ◌∷◌, ◌≡◌, ℕ}
use Rattle.deck.specs.declared.DeckState.{DeckState}
use Rattle.modes.specs.Call.{CallHeader, bare, under, CallInput, Side, office, group, Call, wrap, unwrap}
use Rattle.modes.specs.Mode.{Mode, incremental}
use Rattle.modes.specs.Rules.{SessionState, Outcome, Opening, start_at, wrap_at, unwrap_at}
use Rattle.modes.specs.TwoEnds.{Ends}

-- a kind of record: the records and what their functions give, the session that a record holds, and of what a function gave its number, its
-- count and the record
pub record Kind : Type 1 where
  pub Record : Type 0
  pub Result : Type 0
  pub state_of : Record → SessionState DeckState
  pub number : Result → ℕ
  pub count : Result → ℕ
  pub left : Result → Record

-- of a call that is handed this header: p where it is handed none, q where it is handed one
abbrev pub by_sort : CallHeader → (p q : Type 0) → Type 0
by_sort bare p q = p
by_sort (under x) p q = q

module _ (k : Kind) where
  -- what start gave
  abbrev pub start_result : k.Result → Opening
  start_result r = record { number = k.number r; count = k.count r; session = k.state_of (k.left r) }

  -- what wrap or unwrap gave, with the output buffer and the tag as the call left them
  abbrev pub call_result : k.Result → (out tag : List ℕ) → Outcome DeckState
  call_result r out tag = record { number = k.number r; count = k.count r; session = k.state_of (k.left r); out = out; tag = tag }

  -- ---- promises

  -- what wrap and unwrap promise of the record and what else they were handed, what they gave, and the output buffer and the tag as they left
  -- them
  pub record Promises : Type 1 where
    pub wraps : k.Record → CallInput → k.Result → (out tag : List ℕ) → Type 0
    pub unwraps : k.Record → CallInput → k.Result → (out tag : List ℕ) → Type 0

  -- calls of both sorts, without an envelope and for one, each known by the promise of its own function alone: p of one that is handed no header,
  -- q of one that is handed a header
  abbrev pub both_sorts : (p q : Promises) → Promises
  both_sorts p q =
      record {
        wraps = λ s i r out tag. by_sort i.header (p.wraps s i r out tag) (q.wraps s i r out tag);
        unwraps = λ s i r out tag. by_sort i.header (p.unwraps s i r out tag) (q.unwraps s i r out tag);
      }

  -- what a start of SANSE promises of its key and what it gave. It stands apart, since starts of other modes are handed more
  abbrev pub Starts : Type 1
  Starts = (key : List ℕ) → k.Result → Type 0

  -- the promises that are each call's equation with the rules of the mode m, and nothing else
  abbrev pub by_rules : Mode → Promises
  by_rules m =
      record {
        wraps = λ s i r out tag. call_result r out tag ≡ wrap_at m incremental (k.state_of s) i;
        unwraps = λ s i r out tag. call_result r out tag ≡ unwrap_at m incremental (k.state_of s) i;
      }

  -- and so of a start
  abbrev pub start_by_rules : Starts
  start_by_rules key r = start_result r ≡ start_at key

  -- ---- the calls of a list at the two ends

  -- the records at the two ends
  pub record Records : Type 0 where
    pub office : k.Record
    pub group : k.Record

  -- the record at an end
  abbrev pub record_at : Side → Records → k.Record
  record_at office p = p.office
  record_at group p = p.group

  -- the records with one put in the place of that at an end
  abbrev pub store : Side → k.Record → Records → Records
  store office s p = record { office = s; group = p.group }
  store group s p = record { office = p.office; group = s }

  -- the sessions that the records hold
  abbrev pub sessions_held : Records → Ends DeckState
  sessions_held p = record { office = k.state_of p.office; group = k.state_of p.group }

  -- the records that two starts left
  abbrev pub left_by : (first second : k.Result) → Records
  left_by first second = record { office = k.left first; group = k.left second }

  -- `Run p cs from os to`: the calls cs, made in order from the records `from`, gave os and left the records `to`. Each call is handed the
  -- record as start, or the last call at its end, left it; nothing else writes it; and nothing is known of a call but its promise
  pub data Run (p : Promises) : List Call → Records → List (Outcome DeckState) → Records → Type 0 where
    none : {from : Records} → Run p [] from [] from
    wrapped : {cs : List Call} {from to : Records} {os : List (Outcome DeckState)} {x : Side} {i : CallInput} {r : k.Result} {out tag : List ℕ}
        → p.wraps (record_at x from) i r out tag
        → Run p cs (store x (k.left r) from) os to
        → Run p (wrap x i ∷ cs) from (call_result r out tag ∷ os) to
    unwrapped : {cs : List Call} {from to : Records} {os : List (Outcome DeckState)} {x : Side} {i : CallInput} {r : k.Result} {out tag : List ℕ}
        → p.unwraps (record_at x from) i r out tag
        → Run p cs (store x (k.left r) from) os to
        → Run p (unwrap x i ∷ cs) from (call_result r out tag ∷ os) to
