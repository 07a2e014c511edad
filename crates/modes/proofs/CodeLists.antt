-- Codes of packets in the lists of demand 3, of all promises that are their equations with the rules: each code is that of the ledger's history,
-- and lists with and without codes have the same runs. Assumes nothing.
use mathlib.Core.List.{List, [], ◌∷◌, ◌++◌, map}
use mathlib.Core.Logic.{◌↔◌, ◌⊎◌, inl, inr}
use mathlib.Core.Path.{◌≡◌, refl, sym, ap, ap₂, ◌∙◌, subst}
use Prim.Native.Nat.{ℕ, ◌<◌, ◌≤◌}
use native.Mathlib.Omega.{arith}
use lib.ListN.{length}
use Rattle.deck.specs.declared.DeckState.{DeckState}
use Rattle.deck.specs.Strings.{Str}
use Rattle.deck.specs.Deck.{deck}
use Rattle.modes.specs.Call.{Side, office, group, Call, wrap, unwrap}
use Rattle.modes.specs.Mode.{Mode, incremental, sanse}
use Rattle.modes.specs.Rules.{SessionState, Outcome, Opening}
use Rattle.modes.specs.Paper.{sanse_opens}
use Rattle.modes.specs.Ledger.{PaperMode, sanse_paper, Ledger, ledger_wrap, ledger_unwrap}
use Rattle.modes.specs.TwoEnds.{Ends, at, Ledgers, ledger_at, set_ledger, next_ledgers, entries, finish_ledgers, fresh_ledgers}
use Rattle.modes.specs.Demand3.{outcome_of, ByLedgers}
use Rattle.modes.specs.Promises.{Kind, Promises, Starts, Records, record_at, sessions_held, left_by, Run}
use Rattle.modes.specs.Demands.{RunsExist}
use Rattle.modes.specs.Codes.{CodeOutcome, no_code, code_given, code_at, AnyCode, CodeClaim}
use Rattle.modes.specs.CodeLists.{Request, call, code, calls_of, NoneAccepted, CodeThere, EachCode, WithCodes, Codes, codes_by_rules, CodeRun, AnyCodeOf, OneCodeOf, WithCodesOf, SameCodesOf, SameRuns, CodeRunsExist, AskedAnywhere}
use Rattle.modes.proofs.Modes.{Follows, sanse-follows}
use Rattle.modes.proofs.Ledgers.{wrap-key, unwrap-key}
use Rattle.modes.proofs.Entries.{paper-laws}
use Rattle.modes.proofs.NoneAccepted.{none-accepted}
use Rattle.modes.proofs.Demand3.{demand-3-decides}
use Rattle.modes.proofs.Demands.{ByRules, StartByRules, at_records, demand-3-of}
use Rattle.modes.proofs.Codes.{any_code, code-claim, claim-decides, claim-twelve}

-- ---- a ledger keeps its key

module _ {r : Mode} {m : PaperMode} (f : Follows r m) where
  set_key : (x y : Side) (l : Ledger) (p : Ledgers) → l.key ≡ (ledger_at y p).key → (ledger_at x (set_ledger y l p)).key ≡ (ledger_at x p).key
  set_key office office l p e = e
  set_key group group l p e = e
  set_key office group l p e = refl
  set_key group office l p e = refl

  step-key : (x : Side) (c : Call) (p : Ledgers) → (ledger_at x (next_ledgers m c p)).key ≡ (ledger_at x p).key
  step-key x (wrap y i) p =
      set_key x y (ledger_wrap m (ledger_at y p) i).ledger p
      (subst (λ (m : PaperMode). (ledger_wrap m (ledger_at y p) i).ledger.key ≡ (ledger_at y p).key) f.paper (wrap-key f.laws (ledger_at y p) i))
  step-key x (unwrap y i) p =
      set_key x y (ledger_unwrap m (ledger_at y p) i).ledger p
      (subst (λ (m : PaperMode). (ledger_unwrap m (ledger_at y p) i).ledger.key ≡ (ledger_at y p).key) f.paper (unwrap-key f.laws (ledger_at y p) i))

  finish-key : (x : Side) (cs : List Call) (p : Ledgers) → (ledger_at x (finish_ledgers m cs p)).key ≡ (ledger_at x p).key
  unfolding finish_ledgers
  finish-key x [] p = refl
  finish-key x (c ∷ cs) p = finish-key x cs (next_ledgers m c p) ∙ step-key x c p

fresh-key : (x : Side) (key : List ℕ) (opening : List Str) → (ledger_at x (fresh_ledgers key opening)).key ≡ key
fresh-key office key opening = refl
fresh-key group key opening = refl

fresh-none : (x : Side) (key : List ℕ) → (ledger_at x (fresh_ledgers key sanse_opens)).history ≡ []
fresh-none office key = refl
fresh-none group key = refl

-- ---- runs with codes

-- what is asked of a promise of codes: that it is the equation with the definition, no less and no more
abbrev pub CodesByRules : (k : Kind) → Codes k → Type 0
CodesByRules k codes = (s : k.Record) (packet : ℕ) (out : List ℕ) (g : CodeOutcome) → codes s packet out g ↔ codes_by_rules k s packet out g

-- the equation itself is such
pub codes-by-rules : (k : Kind) → CodesByRules k (codes_by_rules k)
codes-by-rules k s packet out g = (λ e. e, λ e. e)

module _ {k : Kind} {p : Promises k} where
  -- a call after a run
  snoc : {cs : List Call} {from mid to : Records k} {os : List (Outcome DeckState)} {c : Call} {o : Outcome DeckState}
      → Run k p cs from os mid → Run k p (c ∷ []) mid (o ∷ []) to → Run k p (cs ++ c ∷ []) from (os ++ o ∷ []) to
  snoc Run.none r = r
  snoc (Run.wrapped w q) r = Run.wrapped w (snoc q r)
  snoc (Run.unwrapped w q) r = Run.unwrapped w (snoc q r)

  -- no call before a run
  past_none : {cs : List Call} {from mid to : Records k} {os : List (Outcome DeckState)} → Run k p [] from [] mid → Run k p cs mid os to → Run k p cs from os to
  past_none Run.none r = r

  -- a call before a run
  before : {cs : List Call} {from mid to : Records k} {os : List (Outcome DeckState)} {c : Call} {o : Outcome DeckState}
      → Run k p (c ∷ []) from (o ∷ []) mid → Run k p cs mid os to → Run k p (c ∷ cs) from (o ∷ os) to
  before (Run.wrapped w q) r = Run.wrapped w (past_none q r)
  before (Run.unwrapped w q) r = Run.unwrapped w (past_none q r)

  -- without the codes
  without : {codes : Codes k} {rs : List Request} {from to : Records k} {os : List (Outcome DeckState)} {gs : List CodeOutcome}
      → CodeRun k p codes rs from os gs to → Run k p (calls_of rs) from os to
  without CodeRun.none = Run.none
  without (CodeRun.called r q) = before r (without q)
  without (CodeRun.asked w q) = without q

module _ (k : Kind) (codes : Codes k) (g : CodesByRules k codes) where
  pub any-code-of : AnyCodeOf k codes
  any-code-of s packet out o w =
      subst (AnyCode incremental (k.state_of s) packet out) (sym ((g s packet out o).0 w)) (any_code incremental (k.state_of s) packet out)

  pub one-code-of : OneCodeOf k codes
  one-code-of key h e s packet out o q w =
      subst (CodeClaim key h packet out) (sym ((g s packet out o).0 w ∙ ap (λ (z : SessionState DeckState). code_at incremental z packet out) q))
      (code-claim key h e packet out)

  -- with codes: one is given whatever is asked
  within : {p : Promises k} (rs : List Request) {from to : Records k} {os : List (Outcome DeckState)} → Run k p (calls_of rs) from os to
      → (gs : List CodeOutcome) × CodeRun k p codes rs from os gs to
  within [] Run.none = ([], CodeRun.none)
  within (call c ∷ rs) (Run.wrapped w q) = let z = within rs q in (z.0, CodeRun.called (Run.wrapped w Run.none) z.1)
  within (call c ∷ rs) (Run.unwrapped w q) = let z = within rs q in (z.0, CodeRun.called (Run.unwrapped w Run.none) z.1)
  within (code x packet out ∷ rs) {from} r =
      let z = within rs r in
      let s = record_at k x from in
      let o = code_at incremental (k.state_of s) packet out in
      (o ∷ z.0, CodeRun.asked ((g s packet out o).1 refl) z.1)

  -- from any records every list of calls and codes has a run
  pub code-runs-exist : {p : Promises k} → RunsExist k p → CodeRunsExist k p codes
  code-runs-exist e rs from =
      let z = e (calls_of rs) from in
      let w = within rs z.2 in
      (z.0, w.0, z.1, w.1)

  -- a list of calls alone
  only_calls : {p : Promises k} (cs : List Call) {from to : Records k} {os : List (Outcome DeckState)} → Run k p cs from os to
      → CodeRun k p codes (map call cs) from os [] to
  only_calls [] Run.none = CodeRun.none
  only_calls (c ∷ cs) (Run.wrapped w q) = CodeRun.called (Run.wrapped w Run.none) (only_calls cs q)
  only_calls (c ∷ cs) (Run.unwrapped w q) = CodeRun.called (Run.unwrapped w Run.none) (only_calls cs q)

  -- a code can be asked at every point of it, at either end
  pub asked-anywhere : (p : Promises k) → AskedAnywhere k p codes
  asked-anywhere p [] ds x packet out from os to r =
      let s = record_at k x from in
      let o = code_at incremental (k.state_of s) packet out in
      (o, CodeRun.asked ((g s packet out o).1 refl) (only_calls ds r))
  asked-anywhere p (c ∷ cs) ds x packet out from os to (Run.wrapped w q) =
      let z = asked-anywhere p cs ds x packet out _ _ to q in (z.0, CodeRun.called (Run.wrapped w Run.none) z.1)
  asked-anywhere p (c ∷ cs) ds x packet out from os to (Run.unwrapped w q) =
      let z = asked-anywhere p cs ds x packet out _ _ to q in (z.0, CodeRun.called (Run.unwrapped w Run.none) z.1)

  -- lists with and without codes have the same runs
  pub same_runs : (p : Promises k) → SameRuns k p codes
  same_runs p rs from os to = (λ w. without w.1, λ r. within rs r)

-- ---- demand 3 with codes

module _ {k : Kind} {starts : Starts k} {p : Promises k} {codes : Codes k} (s : StartByRules k starts) (l : ByRules sanse p) (g : CodesByRules k codes)
    (key : List ℕ) (long : 16 ≤ length key) (short : length key ≤ 47) (one two : k.Result) (a : starts key one) (b : starts key two) where
  -- one code, after some calls
  there : {cs : List Call} {os : List (Outcome DeckState)} {from : Records k} → Run k p cs (left_by k one two) os from
      → (x : Side) (packet : ℕ) (out : List ℕ) (o : CodeOutcome) → codes (record_at k x from) packet out o → CodeThere key cs os x packet out o
  there {cs} {os} {from} r x packet out o w =
      record {
        ledger = claim;
        first = (λ e. to ((claim-twelve key packet out _ o claim).0 e), λ z. (claim-twelve key packet out _ o claim).1 (back z));
      }
    where
      by : ByLedgers sanse_paper key sanse_opens cs os (sessions_held k from)
      by = (demand-3-of s l key long short one two a b cs os from r).calls

      then : Ledger
      then = ledger_at x (finish_ledgers sanse_paper cs (fresh_ledgers key sanse_opens))

      claim : CodeClaim key then.history packet out o
      claim =
          subst (λ (key : List ℕ). CodeClaim key then.history packet out o)
          (finish-key sanse-follows x cs (fresh_ledgers key sanse_opens) ∙ fresh-key x key sanse_opens)
          (one-code-of k codes g then.key then.history then.toggle (record_at k x from) packet out o (at_records k x from ∙ by.finish x) w)

      empty : (then.history ≡ [])
          ↔ (((ledger_at x (fresh_ledgers key sanse_opens)).history ≡ []) × NoneAccepted x cs (map outcome_of (entries sanse_paper cs (fresh_ledgers key sanse_opens))))
      empty = none-accepted (paper-laws sanse-follows) x cs (fresh_ledgers key sanse_opens)

      to : (then.history ≡ []) ⊎ (2047 < packet) → NoneAccepted x cs os ⊎ (2047 < packet)
      to (inl z) = inl (subst (NoneAccepted x cs) (sym by.same) (empty.0 z).1)
      to (inr z) = inr z

      back : NoneAccepted x cs os ⊎ (2047 < packet) → (then.history ≡ []) ⊎ (2047 < packet)
      back (inl z) = inl (empty.1 (fresh-none x key, subst (NoneAccepted x cs) by.same z))
      back (inr z) = inr z

  each : {cs : List Call} {os ps : List (Outcome DeckState)} {rs : List Request} {gs : List CodeOutcome} {from to : Records k}
      → Run k p cs (left_by k one two) os from → CodeRun k p codes rs from ps gs to → EachCode key cs os rs ps gs
  each r CodeRun.none = EachCode.none
  each {cs} r (CodeRun.called {c = c} w q) = EachCode.called (each {cs = cs ++ c ∷ []} (snoc r w) q)
  each r (CodeRun.asked {x = x} {packet = packet} {out = out} {g = o} w q) = EachCode.asked (there r x packet out o w) (each r q)

pub with-codes-of : {k : Kind} {starts : Starts k} {p : Promises k} {codes : Codes k} → StartByRules k starts → ByRules sanse p → CodesByRules k codes
    → WithCodesOf k starts p codes
with-codes-of s l g key long short one two a b rs os gs to r =
    record {
      calls = demand-3-of s l key long short one two a b (calls_of rs) os to (without r);
      codes = each s l g key long short one two a b Run.none r;
    }

-- where each message was delivered, both ends have the same codes
pub same-codes-of : {k : Kind} {starts : Starts k} {p : Promises k} {codes : Codes k} → StartByRules k starts → ByRules sanse p → CodesByRules k codes
    → SameCodesOf k starts p codes
same-codes-of s l g key long short one two a b cs os to r d packet out o o' w w' =
    (g to.office packet out o).0 w
    ∙ ap (λ (z : SessionState DeckState). code_at incremental z packet out) ((demand-3-of s l key long short one two a b cs os to r).calls.level d)
    ∙ sym ((g to.group packet out o').0 w')

-- what is claimed of the codes of a list leaves none of them open
pub codes-decide : {key : List ℕ} {cs : List Call} {os ps : List (Outcome DeckState)} {rs : List Request} {gs gs' : List CodeOutcome}
    → EachCode key cs os rs ps gs → EachCode key cs os rs ps gs' → gs ≡ gs'
codes-decide EachCode.none EachCode.none = refl
codes-decide (EachCode.called q) (EachCode.called q') = codes-decide q q'
codes-decide {key} (EachCode.asked {packet = packet} {out = out} {g = o} w q) (EachCode.asked {g = o'} w' q') =
    ap₂ {C = List CodeOutcome} (λ o os. o ∷ os) (claim-decides key packet out _ o o' w.ledger w'.ledger) (codes-decide q q')

-- nor does the whole claim: of one list under one key it is true of one list of outcomes, one list of codes, and one session at each end
pub with-codes-decides : {key : List ℕ} {rs : List Request} {one two one' two' : Opening} {os os' : List (Outcome DeckState)} {gs gs' : List CodeOutcome} {q q' : Ends DeckState}
    → WithCodes key rs one two os gs q → WithCodes key rs one' two' os' gs' q' → (os ≡ os') × (gs ≡ gs') × ((x : Side) → at x q ≡ at x q')
with-codes-decides {key} {rs} {gs = gs} a b =
    let z = demand-3-decides a.calls b.calls in
    (z.0, codes-decide (subst (λ (os : List (Outcome DeckState)). EachCode key [] [] rs os gs) z.0 a.codes) b.codes, z.1)

-- what the claim says of one code: before the first message that was accepted there it gets 12, and nothing is written; after it, it is that of
-- the ledger's history
module _ {key : List ℕ} {cs : List Call} {os : List (Outcome DeckState)} {x : Side} {packet : ℕ} {out : List ℕ} {o : CodeOutcome} (c : CodeThere key cs os x packet out o) where
  abbrev history : List Str
  history = (ledger_at x (finish_ledgers sanse_paper cs (fresh_ledgers key sanse_opens))).history

  pub before-first : NoneAccepted x cs os → o ≡ no_code 12 out
  before-first n = c.ledger.twelve ((claim-twelve key packet out history o c.ledger).0 (c.first.1 (inl n)))

  pub after_first : (NoneAccepted x cs os → ⊥) → packet ≤ 2047 → 8 ≤ length out → o ≡ code_given (deck key history) packet out
  after_first n p room = c.ledger.code (λ e. none (c.first.0 (ap (λ (o : CodeOutcome). o.number) (c.ledger.twelve (inl e))))) p room
    where
      none : NoneAccepted x cs os ⊎ (2047 < packet) → ⊥
      none (inl z) = n z
      none (inr z) = omega arith
