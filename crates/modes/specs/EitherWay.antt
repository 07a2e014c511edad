-- Two functions for one call, by one block or by four side by side (document 02, request 10): lists in which each call is made by either, each known
-- by the promise of its own function alone; demand 3 of such lists; and that nobody can tell. For every kind of record k. Assumes nothing.
use Rattle.std.specs.Prelude.{Bool, false, true, List, [], ◌∷◌, ◌≡◌, ℕ, ◌≤◌, length, replicate}
use Rattle.deck.specs.declared.DeckState.{DeckState}
use Rattle.modes.specs.Call.{CallInput, Side, Call, wrap, unwrap}
use Rattle.modes.specs.Rules.{Outcome}
use Rattle.modes.specs.Demand3.{Demand3}
use Rattle.modes.specs.Promises.{Kind, start_result, call_result, Promises, Starts, Records, record_at, store, sessions_held, left_by, Run}
use Rattle.modes.specs.SaneDemands.{SaneDemand3, nonce_result, NonceStarts}

-- of a call that is made by the second function, where `four` says so, and by the first where not: p of the first, q of the second
abbrev pub by_way : (four : Bool) (p q : Type 0) → Type 0
by_way false p q = p
by_way true p q = q

module _ (k : Kind) where
  -- `Chosen p q ws cs from os to`: the calls cs, made in order from the records `from`, gave os and left the records `to`, as in `Run`. The call at each
  -- place is made by the function that promises p or by the one that promises q, as that place of ws says, and nothing else is known of it
  pub data Chosen (p q : Promises k) : List Bool → List Call → Records k → List (Outcome DeckState) → Records k → Type 0 where
    none : {from : Records k} → Chosen p q [] [] from [] from
    wrapped : {ws : List Bool} {cs : List Call} {from to : Records k} {os : List (Outcome DeckState)} {four : Bool} {x : Side} {i : CallInput}
        {r : k.Result} {out tag : List ℕ}
        → by_way four (p.wraps (record_at k x from) i r out tag) (q.wraps (record_at k x from) i r out tag)
        → Chosen p q ws cs (store k x (k.left r) from) os to
        → Chosen p q (four ∷ ws) (wrap x i ∷ cs) from (call_result k r out tag ∷ os) to
    unwrapped : {ws : List Bool} {cs : List Call} {from to : Records k} {os : List (Outcome DeckState)} {four : Bool} {x : Side} {i : CallInput}
        {r : k.Result} {out tag : List ℕ}
        → by_way four (p.unwraps (record_at k x from) i r out tag) (q.unwraps (record_at k x from) i r out tag)
        → Chosen p q ws cs (store k x (k.left r) from) os to
        → Chosen p q (four ∷ ws) (unwrap x i ∷ cs) from (call_result k r out tag ∷ os) to

  -- ---- demand 3

  -- of SANSE: two starts under one key of 16 to 47 bytes, and then any list of calls, each made by either function
  abbrev pub EitherDemand3Of : Starts k → (p q : Promises k) → Type 0
  EitherDemand3Of starts p q =
      (key : List ℕ) → 16 ≤ length key → length key ≤ 47 → (first second : k.Result) → starts key first → starts key second
      → (ws : List Bool) (cs : List Call) (os : List (Outcome DeckState)) (to : Records k) → Chosen p q ws cs (left_by k first second) os to
      → Demand3 key cs (start_result k first) (start_result k second) os (sessions_held k to)

  -- of SANE: two starts under one key with one nonce, neither of which is refused
  abbrev pub EitherSaneDemand3Of : NonceStarts k → (p q : Promises k) → Type 0
  EitherSaneDemand3Of starts p q =
      (key nonce t u : List ℕ) (first second : k.Result) (t' u' : List ℕ) → starts key nonce t first t' → starts key nonce u second u'
      → k.number first ≡ 0 → k.number second ≡ 0
      → (ws : List Bool) (cs : List Call) (os : List (Outcome DeckState)) (to : Records k) → Chosen p q ws cs (left_by k first second) os to
      → SaneDemand3 key nonce cs (nonce_result k first t') (nonce_result k second u') os (sessions_held k to)

  -- ---- nobody can tell

  -- the same calls, from records that hold the same sessions, give the same and leave the same sessions, whichever way each of them is made in
  -- the one list and in the other: any records, also such as no history gives
  abbrev pub NobodyCanTell : (p q : Promises k) → Type 0
  NobodyCanTell p q =
      (ws ws' : List Bool) (cs : List Call) (from from' to to' : Records k) (os os' : List (Outcome DeckState))
      → sessions_held k from ≡ sessions_held k from' → Chosen p q ws cs from os to → Chosen p q ws' cs from' os' to'
      → (os ≡ os') × (sessions_held k to ≡ sessions_held k to')

  -- ---- what this speaks of is there

  -- from any records every list of calls has a run, with any choice for each call
  abbrev pub ChoicesExist : (p q : Promises k) → Type 0
  ChoicesExist p q =
      (ws : List Bool) (cs : List Call) → length ws ≡ length cs → (from : Records k)
      → (os : List (Outcome DeckState)) × (to : Records k) × Chosen p q ws cs from os to

  -- the lists of each function alone are among them
  pub record Among (p q : Promises k) : Type 0 where
    pub first : {cs : List Call} {from to : Records k} {os : List (Outcome DeckState)} → Run k p cs from os to
        → Chosen p q (replicate (length cs) false) cs from os to
    pub second : {cs : List Call} {from to : Records k} {os : List (Outcome DeckState)} → Run k q cs from os to
        → Chosen p q (replicate (length cs) true) cs from os to
