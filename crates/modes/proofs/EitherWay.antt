-- Lists in which each call is made by one of two functions, both of which promise just the rules' equation, are runs by the rules: so demand 3 holds of
-- them, and nobody can tell which way each call was made. Assumes nothing.
use mathlib.Core.Bool.{Bool, false, true}
use mathlib.Core.List.{List, [], ◌∷◌}
use mathlib.Core.Path.{◌≡◌, refl, sym, ap, ap₂, ◌∙◌, subst}
use Prim.Native.Nat.{ℕ, suc, ◌≤◌}
use native.Mathlib.Omega.{arith}
use lib.ListN.{length, replicate}
use Rattle.deck.specs.declared.DeckState.{DeckState}
use Rattle.modes.specs.Call.{CallInput, Side, Call, wrap, unwrap, side_of}
use Rattle.modes.specs.Mode.{Mode, HistoryRep, incremental, sanse, sane}
use Rattle.modes.specs.Rules.{Outcome}
use Rattle.modes.specs.TwoEnds.{Ends, put, outcome, Runs}
use Rattle.modes.specs.Demand3.{Demand3}
use Rattle.modes.specs.Promises.{Kind, start_result, call_result, Promises, Starts, by_rules, Records, record_at, store, sessions_held, Run}
use Rattle.modes.specs.Demands.{Demand3Of}
use Rattle.modes.specs.SaneDemands.{SaneDemand3, nonce_result, NonceStarts, SaneDemand3Of}
use Rattle.modes.specs.EitherWay.{by_way, Chosen, EitherDemand3Of, EitherSaneDemand3Of, NobodyCanTell, ChoicesExist, Among}
use Rattle.modes.proofs.Demands.{ByRules, StartByRules, Kept, rules-by-rules, runs_of, demand-3-of}
use Rattle.modes.proofs.SaneDemands.{NonceByRules, sane-demand-3-of}

-- ---- by the rules

-- what the rules say of a call is one thing, and so is what they say of a list
pub runs_same : (m : Mode) {S : Type 0} (d : HistoryRep S) {cs : List Call} {p q q' : Ends S} {os os' : List (Outcome S)} → Runs m d cs p os q
    → Runs m d cs p os' q' → (os ≡ os') × (q ≡ q')
runs_same m d Runs.none Runs.none = (refl, refl)
runs_same m {S} d {q' = q'} (Runs.more {c} {cs} {p} {o = o} e r) (Runs.more {o = o'} {os = os'} e' r') =
    let f : o' ≡ o = e' ∙ sym e in
    let z = runs_same m d r (subst (λ (t : Outcome S). Runs m d cs (put (side_of c) t.session p) os' q') f r') in
    (ap₂ (λ (t : Outcome S) (ts : List (Outcome S)). t ∷ ts) (sym f) z.0, z.1)

-- the first of two lists that are equal
same_head : {o o' : Outcome DeckState} {os os' : List (Outcome DeckState)} → ◌≡◌ {A = List (Outcome DeckState)} (o ∷ os) (o' ∷ os') → o ≡ o'
same_head e = cc

module _ {m : Mode} {k : Kind} {p q : Promises k} (a : ByRules m p) (b : ByRules m q) where
  -- a call by either function
  way-wraps : (four : Bool) (s : k.Record) (i : CallInput) (r : k.Result) (out tag : List ℕ)
      → by_way four (p.wraps s i r out tag) (q.wraps s i r out tag) → (by_rules k m).wraps s i r out tag
  way-wraps false s i r out tag w = (a.wraps s i r out tag).0 w
  way-wraps true s i r out tag w = (b.wraps s i r out tag).0 w

  way-unwraps : (four : Bool) (s : k.Record) (i : CallInput) (r : k.Result) (out tag : List ℕ)
      → by_way four (p.unwraps s i r out tag) (q.unwraps s i r out tag) → (by_rules k m).unwraps s i r out tag
  way-unwraps false s i r out tag w = (a.unwraps s i r out tag).0 w
  way-unwraps true s i r out tag w = (b.unwraps s i r out tag).0 w

  -- and a list of them
  pub chosen-runs : {ws : List Bool} {cs : List Call} {from to : Records k} {os : List (Outcome DeckState)} → Chosen k p q ws cs from os to
      → Run k (by_rules k m) cs from os to
  chosen-runs Chosen.none = Run.none
  chosen-runs (Chosen.wrapped {ws} {cs} {from} {to} {os} {four} {x} {i} {r} {out} {tag} w c) =
      Run.wrapped (way-wraps four (record_at k x from) i r out tag w) (chosen-runs c)
  chosen-runs (Chosen.unwrapped {ws} {cs} {from} {to} {os} {four} {x} {i} {r} {out} {tag} w c) =
      Run.unwrapped (way-unwraps four (record_at k x from) i r out tag w) (chosen-runs c)

  pub nobody-can-tell : NobodyCanTell k p q
  nobody-can-tell ws ws' cs from from' to to' os os' e c c' =
      runs_same m incremental (runs_of (rules-by-rules m k) (chosen-runs c))
      (subst (λ (z : Ends DeckState). Runs m incremental cs z os' (sessions_held k to')) (sym e) (runs_of (rules-by-rules m k) (chosen-runs c')))

-- ---- demand 3

pub either-demand-3 : {k : Kind} {starts : Starts k} {p q : Promises k} → StartByRules k starts → ByRules sanse p → ByRules sanse q
    → EitherDemand3Of k starts p q
either-demand-3 {k} {starts} {p} {q} s a b key h g first second u v ws cs os to c =
    demand-3-of s (rules-by-rules sanse k) key h g first second u v cs os to (chosen-runs a b c)

pub either-sane-demand-3 : {k : Kind} {starts : NonceStarts k} {p q : Promises k} → NonceByRules k starts → ByRules sane p → ByRules sane q
    → EitherSaneDemand3Of k starts p q
either-sane-demand-3 {k} {starts} {p} {q} s a b key nonce t u first second t' u' v w h g ws cs os to c =
    sane-demand-3-of s (rules-by-rules sane k) key nonce t u first second t' u' v w h g cs os to (chosen-runs a b c)

-- ---- what this speaks of is there

-- some result keeps the promise of the function that is chosen
module _ {k : Kind} {p q : Promises k} (a : Kept p) (b : Kept q) where
  kept-wraps : (four : Bool) (s : k.Record) (i : CallInput)
      → (r : k.Result) × (out : List ℕ) × (tag : List ℕ) × by_way four (p.wraps s i r out tag) (q.wraps s i r out tag)
  kept-wraps false s i = a.wraps s i
  kept-wraps true s i = b.wraps s i

  kept-unwraps : (four : Bool) (s : k.Record) (i : CallInput)
      → (r : k.Result) × (out : List ℕ) × (tag : List ℕ) × by_way four (p.unwraps s i r out tag) (q.unwraps s i r out tag)
  kept-unwraps false s i = a.unwraps s i
  kept-unwraps true s i = b.unwraps s i

  pub choices-exist : ChoicesExist k p q
  choices-exist [] [] e from = ([], from, Chosen.none)
  choices-exist [] (c ∷ cs) e from = absurd (omega arith)
  choices-exist (w ∷ ws) [] e from = absurd (omega arith)
  choices-exist (w ∷ ws) (wrap x i ∷ cs) e from =
      let g = kept-wraps w (record_at k x from) i in
      let z = choices-exist ws cs (omega arith) (store k x (k.left g.0) from) in
      (call_result k g.0 g.1 g.2 ∷ z.0, z.1, Chosen.wrapped g.3 z.2)
  choices-exist (w ∷ ws) (unwrap x i ∷ cs) e from =
      let g = kept-unwraps w (record_at k x from) i in
      let z = choices-exist ws cs (omega arith) (store k x (k.left g.0) from) in
      (call_result k g.0 g.1 g.2 ∷ z.0, z.1, Chosen.unwrapped g.3 z.2)

-- the lists of one function alone
module _ {k : Kind} (p q : Promises k) where
  all_first : {cs : List Call} {from to : Records k} {os : List (Outcome DeckState)} → Run k p cs from os to
      → Chosen k p q (replicate (length cs) false) cs from os to
  all_first Run.none = Chosen.none
  all_first (Run.wrapped w r) = Chosen.wrapped {four = false} w (all_first r)
  all_first (Run.unwrapped w r) = Chosen.unwrapped {four = false} w (all_first r)

  all-second : {cs : List Call} {from to : Records k} {os : List (Outcome DeckState)} → Run k q cs from os to
      → Chosen k p q (replicate (length cs) true) cs from os to
  all-second Run.none = Chosen.none
  all-second (Run.wrapped w r) = Chosen.wrapped {four = true} w (all-second r)
  all-second (Run.unwrapped w r) = Chosen.unwrapped {four = true} w (all-second r)

  pub among : Among k p q
  among = record { first = all_first; second = all-second }

-- ---- what the claims are good for: none of them is of one choice alone

-- each choice is of one call
pub chosen-length : {k : Kind} {p q : Promises k} {ws : List Bool} {cs : List Call} {from to : Records k} {os : List (Outcome DeckState)}
    → Chosen k p q ws cs from os to → length ws ≡ length cs
chosen-length Chosen.none = refl
chosen-length (Chosen.wrapped w c) = ap suc (chosen-length c)
chosen-length (Chosen.unwrapped w c) = ap suc (chosen-length c)

-- demand 3 of lists with choices is demand 3 of the lists of each function alone
module _ {k : Kind} {p q : Promises k} where
  pub either_first : {starts : Starts k} → EitherDemand3Of k starts p q → Demand3Of k starts p
  either_first d key h g first second a b cs os to r = d key h g first second a b (replicate (length cs) false) cs os to (all_first p q r)

  pub either_second : {starts : Starts k} → EitherDemand3Of k starts p q → Demand3Of k starts q
  either_second d key h g first second a b cs os to r = d key h g first second a b (replicate (length cs) true) cs os to (all-second p q r)

  pub either-sane-first : {starts : NonceStarts k} → EitherSaneDemand3Of k starts p q → SaneDemand3Of k starts p
  either-sane-first d key nonce t u first second t' u' a b h g cs os to r =
      d key nonce t u first second t' u' a b h g (replicate (length cs) false) cs os to (all_first p q r)

  pub either-sane-second : {starts : NonceStarts k} → EitherSaneDemand3Of k starts p q → SaneDemand3Of k starts q
  either-sane-second d key nonce t u first second t' u' a b h g cs os to r =
      d key nonce t u first second t' u' a b h g (replicate (length cs) true) cs os to (all-second p q r)

  -- where nobody can tell, one call by the one function and the same call by the other give the same: number, count, session and buffers; and so do two
  -- lists, of which each was made by one function alone
  module _ (n : NobodyCanTell k p q) where
    pub same-wrap : (x : Side) (from : Records k) (i : CallInput) {r r' : k.Result} {out tag out' tag' : List ℕ}
        → p.wraps (record_at k x from) i r out tag → q.wraps (record_at k x from) i r' out' tag' → call_result k r out tag ≡ call_result k r' out' tag'
    same-wrap x from i a b =
        same_head (n (false ∷ []) (true ∷ []) (wrap x i ∷ []) from from _ _ _ _ refl (Chosen.wrapped {four = false} a Chosen.none) (Chosen.wrapped {four = true} b Chosen.none)).0

    pub same-unwrap : (x : Side) (from : Records k) (i : CallInput) {r r' : k.Result} {out tag out' tag' : List ℕ}
        → p.unwraps (record_at k x from) i r out tag → q.unwraps (record_at k x from) i r' out' tag' → call_result k r out tag ≡ call_result k r' out' tag'
    same-unwrap x from i a b =
        same_head (n (false ∷ []) (true ∷ []) (unwrap x i ∷ []) from from _ _ _ _ refl (Chosen.unwrapped {four = false} a Chosen.none) (Chosen.unwrapped {four = true} b Chosen.none)).0

    pub same_lists : {cs : List Call} {from to to' : Records k} {os os' : List (Outcome DeckState)} → Run k p cs from os to → Run k q cs from os' to'
        → (os ≡ os') × (sessions_held k to ≡ sessions_held k to')
    same_lists a b = n _ _ _ _ _ _ _ _ _ refl (all_first p q a) (all-second p q b)

-- ---- what the claims say, written out: of every list of choices
module _ (k : Kind) (p q : Promises k) where
  pub either-says : (starts : Starts k)
      → EitherDemand3Of k starts p q
      ≡ ((key : List ℕ) → 16 ≤ length key → length key ≤ 47 → (first second : k.Result) → starts key first → starts key second
      → (ws : List Bool) (cs : List Call) (os : List (Outcome DeckState)) (to : Records k)
      → Chosen k p q ws cs (record { office = k.left first; group = k.left second }) os to
      → Demand3 key cs (start_result k first) (start_result k second) os (sessions_held k to))
  either-says starts = refl

  pub either-sane-says : (starts : NonceStarts k)
      → EitherSaneDemand3Of k starts p q
      ≡ ((key nonce t u : List ℕ) (first second : k.Result) (t' u' : List ℕ) → starts key nonce t first t' → starts key nonce u second u'
      → k.number first ≡ 0 → k.number second ≡ 0
      → (ws : List Bool) (cs : List Call) (os : List (Outcome DeckState)) (to : Records k)
      → Chosen k p q ws cs (record { office = k.left first; group = k.left second }) os to
      → SaneDemand3 key nonce cs (nonce_result k first t') (nonce_result k second u') os (sessions_held k to))
  either-sane-says starts = refl

  pub nobody-says : NobodyCanTell k p q
      ≡ ((ws ws' : List Bool) (cs : List Call) (from from' to to' : Records k) (os os' : List (Outcome DeckState))
      → sessions_held k from ≡ sessions_held k from' → Chosen k p q ws cs from os to → Chosen k p q ws' cs from' os' to'
      → (os ≡ os') × (sessions_held k to ≡ sessions_held k to'))
  nobody-says = refl
