-- Demands 1 to 3 hold of all promises, over any kind of record, that are each call's equation with the rules of a mode that follows its
-- paper; and such promises are kept by some result whatever a call is handed, so that every list has a run. Assumes nothing.
use mathlib.Core.List.{List, [], ◌∷◌}
use mathlib.Core.Logic.{◌↔◌}
use mathlib.Core.Path.{◌≡◌, refl, sym, ap, ap₂, ◌∙◌, subst}
use Prim.Native.Nat.{ℕ}
use Rattle.deck.specs.declared.DeckState.{DeckState}
use Rattle.modes.specs.Call.{CallHeader, bare, under, CallInput, with_header, Side, office, group, Call, wrap, unwrap}
use Rattle.modes.specs.Mode.{Mode, incremental, sanse}
use Rattle.modes.specs.Rules.{SessionState, Outcome, start_at, wrap_at, unwrap_at}
use Rattle.modes.specs.Paper.{sanse_opens}
use Rattle.modes.specs.Ledger.{PaperMode}
use Rattle.modes.specs.AnySession.{AnyWrap, AnyUnwrap}
use Rattle.modes.specs.OneCall.{WrapClaim, UnwrapClaim}
use Rattle.modes.specs.Start.{StartExactly}
use Rattle.modes.specs.TwoEnds.{Ends, at, put, Runs}
use Rattle.modes.specs.Promises.{Kind, by_sort, start_result, call_result, Promises, both_sorts, Starts, by_rules, start_by_rules, Records, record_at, store, left_by, Run, sessions_held}
use Rattle.modes.specs.Demands.{StartOf, AnyCallOf, OneCallOf, ListOf, Demand3Of, StartsExist, RunsExist}
use Rattle.modes.proofs.Modes.{Follows, sanse-follows}
use Rattle.modes.proofs.AnySession.{any-wrap, any-unwrap}
use Rattle.modes.proofs.OneCall.{one-call-by}
use Rattle.modes.proofs.Start.{start-exactly}
use Rattle.modes.proofs.Demand3.{by-ledgers}

-- ---- what is asked of promises

-- that they are each call's equation with the rules of the mode m, no less and no more
pub record ByRules (m : Mode) {k : Kind} (p : Promises k) : Type 0 where
  pub wraps : (s : k.Record) (i : CallInput) (r : k.Result) (out tag : List ℕ) → p.wraps s i r out tag ↔ (by_rules k m).wraps s i r out tag
  pub unwraps : (s : k.Record) (i : CallInput) (r : k.Result) (out tag : List ℕ) → p.unwraps s i r out tag ↔ (by_rules k m).unwraps s i r out tag

-- that they are so of calls with this header, or none
pub record ByRulesUnder (m : Mode) {k : Kind} (h : CallHeader) (p : Promises k) : Type 0 where
  pub wraps : (s : k.Record) (i : CallInput) (r : k.Result) (out tag : List ℕ)
      → p.wraps s (with_header h i) r out tag ↔ (by_rules k m).wraps s (with_header h i) r out tag
  pub unwraps : (s : k.Record) (i : CallInput) (r : k.Result) (out tag : List ℕ)
      → p.unwraps s (with_header h i) r out tag ↔ (by_rules k m).unwraps s (with_header h i) r out tag

-- and of a start
abbrev pub StartByRules : (k : Kind) → Starts k → Type 0
StartByRules k starts = (key : List ℕ) (r : k.Result) → starts key r ↔ start_by_rules k key r

-- the equations themselves are such
pub rules-by-rules : (m : Mode) (k : Kind) → ByRules m (by_rules k m)
rules-by-rules m k = record { wraps = λ s i r out tag. (λ e. e, λ e. e); unwraps = λ s i r out tag. (λ e. e, λ e. e) }

-- promises that are such are so of calls with any header, or none
pub by-rules-under : {m : Mode} {k : Kind} {p : Promises k} → ByRules m p → (h : CallHeader) → ByRulesUnder m h p
by-rules-under l h = record { wraps = λ s i. l.wraps s (with_header h i); unwraps = λ s i. l.unwraps s (with_header h i) }

-- of calls of both sorts nothing is known but the promise of their own sort
module _ {k : Kind} (p q : Promises k) (s : k.Record) (i : CallInput) (r : k.Result) (out tag : List ℕ) where
  pub both-without : ((both_sorts k p q).wraps s (with_header bare i) r out tag ≡ p.wraps s (with_header bare i) r out tag)
      × ((both_sorts k p q).unwraps s (with_header bare i) r out tag ≡ p.unwraps s (with_header bare i) r out tag)
  both-without = (refl, refl)

  pub both-for : (x : List ℕ) → ((both_sorts k p q).wraps s (with_header (under x) i) r out tag ≡ q.wraps s (with_header (under x) i) r out tag)
      × ((both_sorts k p q).unwraps s (with_header (under x) i) r out tag ≡ q.unwraps s (with_header (under x) i) r out tag)
  both-for x = (refl, refl)

-- promises of which the first are so of calls without an envelope, and the second of calls for one, are such of calls of both sorts
module _ {m : Mode} {k : Kind} {p q : Promises k} (a : ByRulesUnder m bare p) (b : (x : List ℕ) → ByRulesUnder m (under x) q) where
  both-wraps : (h : CallHeader) (s : k.Record) (i : CallInput) (r : k.Result) (out tag : List ℕ)
      → by_sort h (p.wraps s (with_header h i) r out tag) (q.wraps s (with_header h i) r out tag) ↔ (by_rules k m).wraps s (with_header h i) r out tag
  both-wraps bare = a.wraps
  both-wraps (under x) = (b x).wraps

  both-unwraps : (h : CallHeader) (s : k.Record) (i : CallInput) (r : k.Result) (out tag : List ℕ)
      → by_sort h (p.unwraps s (with_header h i) r out tag) (q.unwraps s (with_header h i) r out tag) ↔ (by_rules k m).unwraps s (with_header h i) r out tag
  both-unwraps bare = a.unwraps
  both-unwraps (under x) = (b x).unwraps

  pub both-by-rules : ByRules m (both_sorts k p q)
  both-by-rules = record { wraps = λ s i. both-wraps i.header s i; unwraps = λ s i. both-unwraps i.header s i }

pub start-by-rules : (k : Kind) → StartByRules k (start_by_rules k)
start-by-rules k key r = (λ e. e, λ e. e)

-- ---- what the demands speak of is there

-- promises that some result keeps, whatever a call is handed
pub record Kept {k : Kind} (p : Promises k) : Type 0 where
  pub wraps : (s : k.Record) (i : CallInput) → (r : k.Result) × (out : List ℕ) × (tag : List ℕ) × p.wraps s i r out tag
  pub unwraps : (s : k.Record) (i : CallInput) → (r : k.Result) × (out : List ℕ) × (tag : List ℕ) × p.unwraps s i r out tag

-- then every list of calls has a run
pub runs-exist : {k : Kind} {p : Promises k} → Kept p → RunsExist k p
runs-exist {k} {p} l [] from = ([], from, Run.none)
runs-exist {k} {p} l (wrap x i ∷ cs) from =
    let w = l.wraps (record_at k x from) i in
    let z = runs-exist l cs (store k x (k.left w.0) from) in
    (call_result k w.0 w.1 w.2 ∷ z.0, z.1, Run.wrapped w.3 z.2)
runs-exist {k} {p} l (unwrap x i ∷ cs) from =
    let w = l.unwraps (record_at k x from) i in
    let z = runs-exist l cs (store k x (k.left w.0) from) in
    (call_result k w.0 w.1 w.2 ∷ z.0, z.1, Run.unwrapped w.3 z.2)

-- a kind of record in which every number, count and session is some result's
pub record Whole (k : Kind) : Type 0 where
  pub made : (n c : ℕ) (s : SessionState DeckState) → k.Result
  pub same : (n c : ℕ) (s : SessionState DeckState) → start_result k (made n c s) ≡ record { number = n; count = c; session = s }

module _ {k : Kind} (w : Whole k) where
  -- the result that an outcome is, and that it is one
  pub made_of : (o : Outcome DeckState)
      → (r : k.Result) × (call_result k r o.out o.tag ≡ o)
  made_of o =
      let e = w.same o.number o.count o.session in (
        w.made o.number o.count o.session,
        λ j. record { number = (e j).number; count = (e j).count; session = (e j).session; out = o.out; tag = o.tag },
      )

  -- promises that are the rules' equations are kept
  pub kept : {m : Mode} {p : Promises k} → ByRules m p → Kept p
  kept {m} {p} l =
      record {
        wraps = λ s i.
            let o = wrap_at m incremental (k.state_of s) i in
            let z = made_of o in
            (z.0, o.out, o.tag, (l.wraps s i z.0 o.out o.tag).1 z.1);
        unwraps = λ s i.
            let o = unwrap_at m incremental (k.state_of s) i in
            let z = made_of o in
            (z.0, o.out, o.tag, (l.unwraps s i z.0 o.out o.tag).1 z.1);
      }

  -- and so is a start's
  pub starts-exist : (starts : Starts k) → StartByRules k starts → StartsExist k starts
  starts-exist starts s key =
      let o = start_at key in
      let r = w.made o.number o.count o.session in
      (r, (s key r).1 (w.same o.number o.count o.session))

-- ---- the demands

module _ (k : Kind) where
  pub at_records : (x : Side) (p : Records k) → k.state_of (record_at k x p) ≡ at x (sessions_held k p)
  at_records office p = refl
  at_records group p = refl

  store-records : (x : Side) (s : k.Record) (p : Records k) → sessions_held k (store k x s p) ≡ put x (k.state_of s) (sessions_held k p)
  store-records office s p = refl
  store-records group s p = refl

-- demand 1, of a start of SANSE
pub start_of : (k : Kind) (starts : Starts k) → StartByRules k starts → StartOf k starts
start_of k starts s key r w = subst (StartExactly key) (sym ((s key r).0 w)) (start-exactly key)

module _ {m : Mode} {k : Kind} {p : Promises k} (l : ByRules m p) where
  -- demand 1, of any record
  pub any-call-of : AnyCallOf k m p
  any-call-of =
      record {
        wraps = λ s i r out tag w. subst (AnyWrap m incremental (k.state_of s) i) (sym ((l.wraps s i r out tag).0 w)) (any-wrap m incremental (k.state_of s) i);
        unwraps = λ s i r out tag w. subst (AnyUnwrap m incremental (k.state_of s) i) (sym ((l.unwraps s i r out tag).0 w)) (any-unwrap m incremental (k.state_of s) i);
      }

  -- demands 1 and 2, of one call
  pub one-call-of : {n : PaperMode} → Follows m n → OneCallOf k n p
  one-call-of {n} f =
      record {
        wraps = λ key h e s i r out tag q w.
            subst (WrapClaim n key h e i) (sym ((l.wraps s i r out tag).0 w ∙ ap (λ (z : SessionState DeckState). wrap_at m incremental z i) q)) ((one-call-by f).wrap-claim key h e i);
        unwraps = λ key h e s i r out tag q w.
            subst (UnwrapClaim n key h e i) (sym ((l.unwraps s i r out tag).0 w ∙ ap (λ (z : SessionState DeckState). unwrap_at m incremental z i) q)) ((one-call-by f).unwrap-claim key h e i);
      }

  -- the promises' runs are runs by the rules
  pub runs_of : {cs : List Call} {from to : Records k} {os : List (Outcome DeckState)} → Run k p cs from os to
      → Runs m incremental cs (sessions_held k from) os (sessions_held k to)
  runs_of Run.none = Runs.none
  runs_of (Run.wrapped {cs} {from} {to} {os} {x} {i} {r} {out} {tag} w q) =
      Runs.more ((l.wraps (record_at k x from) i r out tag).0 w ∙ ap (λ (z : SessionState DeckState). wrap_at m incremental z i) (at_records k x from))
      (subst (λ (z : Ends DeckState). Runs m incremental cs z os (sessions_held k to)) (store-records k x (k.left r) from) (runs_of q))
  runs_of (Run.unwrapped {cs} {from} {to} {os} {x} {i} {r} {out} {tag} w q) =
      Runs.more ((l.unwraps (record_at k x from) i r out tag).0 w ∙ ap (λ (z : SessionState DeckState). unwrap_at m incremental z i) (at_records k x from))
      (subst (λ (z : Ends DeckState). Runs m incremental cs z os (sessions_held k to)) (store-records k x (k.left r) from) (runs_of q))

  -- demand 3 of any mode, from two records of one history
  pub list_of : {n : PaperMode} → Follows m n → ListOf k n p
  list_of f key opening from a b cs os to r =
      by-ledgers f key opening cs os (sessions_held k to)
      (subst (λ (z : Ends DeckState). Runs m incremental cs z os (sessions_held k to))
      (ap₂ (λ (s t : SessionState DeckState). record { office = s; group = t }) a b) (runs_of r))

-- demand 3 of SANSE, one claim about the whole list
pub demand-3-of : {k : Kind} {starts : Starts k} {p : Promises k} → StartByRules k starts → ByRules sanse p → Demand3Of k starts p
demand-3-of {k} {starts} s l key h g first second a b cs os to r =
    let x = (start_of k starts s key first a).opens h g in
    let y = (start_of k starts s key second b).opens h g in
    record {
      office_start = x;
      group_start = y;
      calls = list_of l sanse-follows key sanse_opens (left_by k first second) x.session y.session cs os to r;
    }
