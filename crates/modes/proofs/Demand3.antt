-- Demand 3: for any mode that follows its paper, and for SANSE with its two starts. Assumes nothing.
use mathlib.Core.List.{List, [], ◌∷◌, map}
use mathlib.Core.Path.{◌≡◌, refl, sym, ap, ap₂, ◌∙◌, subst}
use Prim.Native.Nat.{ℕ, ◌≤◌}
use lib.ListN.{length}
use Rattle.deck.specs.declared.DeckState.{DeckState}
use Rattle.deck.specs.Strings.{Str}
use Rattle.envelope.specs.Layout.{Known}
use Rattle.modes.specs.Call.{Side, office, group, Call, wrap, unwrap, side_of}
use Rattle.modes.specs.Mode.{HistoryRep, Mode, incremental, sanse}
use Rattle.modes.specs.Rules.{Outcome, Opening, start_at}
use Rattle.modes.specs.Paper.{sanse_opens}
use Rattle.modes.specs.Ledger.{PaperMode, LedgerAnswer, Entry}
use Rattle.modes.specs.OneCall.{session_of}
use Rattle.modes.specs.Start.{StartAccepted}
use Rattle.modes.specs.TwoEnds.{Ends, at, put, outcome, Runs, Ledgers, ledger_at, next_ledgers, entries, finish_ledgers, fresh_ledgers}
use Rattle.modes.specs.Delivery.{nothing, Returned}
use Rattle.modes.specs.Demand3.{session_given, outcome_of, answer_of, ByChecks, ByLedgers, Demand3}
use Rattle.modes.proofs.Modes.{Follows, sanse-follows}
use Rattle.modes.proofs.Ledgers.{ends_of, runs-are}
use Rattle.modes.proofs.Entries.{paper-laws}
use Rattle.modes.proofs.Delivery.{returned, level}
use Rattle.modes.proofs.Exactly.{wrap-exactly, unwrap-exactly, wrap-decided, unwrap-decided}
use Rattle.modes.proofs.Start.{start-accepted}

-- what the outcomes show beside the sessions are the ledgers' answers
answers-are : (es : List Entry) → map answer_of (map outcome_of es) ≡ map (λ (e : Entry). e.answer) es
answers-are [] = refl
answers-are (e ∷ es) = ap (λ (l : List LedgerAnswer). e.answer ∷ l) (answers-are es)

-- each call gets its number exactly by the checks, as the ledger at its end judges it
by-checks : (m : PaperMode) → Known m.letter → (cs : List Call) (p : Ledgers) → ByChecks m cs p (map outcome_of (entries m cs p))
unfolding entries
by-checks m k [] p = ByChecks.none
by-checks m k (wrap x i ∷ cs) p = ByChecks.wraps (wrap-exactly m k (ledger_at x p) i) (by-checks m k cs (next_ledgers m (wrap x i) p))
by-checks m k (unwrap x i ∷ cs) p = ByChecks.unwraps (unwrap-exactly m k (ledger_at x p) i) (by-checks m k cs (next_ledgers m (unwrap x i) p))

-- and they leave no number open: each is the ledger's
pub checks-decide : {m : PaperMode} {cs : List Call} {p : Ledgers} {os : List (Outcome DeckState)} → Known m.letter → ByChecks m cs p os
    → map (λ (o : Outcome DeckState). o.number) os ≡ map (λ (e : Entry). e.answer.number) (entries m cs p)
unfolding entries
checks-decide k ByChecks.none = refl
checks-decide {m} k (ByChecks.wraps {x = x} {i = i} {p = p} {o = o} w r) =
    ap₂ {C = List ℕ} (λ (n : ℕ) (ns : List ℕ). n ∷ ns) (wrap-decided m k (ledger_at x p) i o.number w) (checks-decide k r)
checks-decide {m} k (ByChecks.unwraps {x = x} {i = i} {p = p} {o = o} w r) =
    ap₂ {C = List ℕ} (λ (n : ℕ) (ns : List ℕ). n ∷ ns) (unwrap-decided m k (ledger_at x p) i o.number w) (checks-decide k r)

at-ends : (x : Side) (p : Ledgers) → at x (ends_of p) ≡ session_given (ledger_at x p)
at-ends office p = refl
at-ends group p = refl

-- any mode that follows its paper, from the sessions of the history that it opens with
pub by-ledgers : {r : Mode} {m : PaperMode} → Follows r m
    → (key : List ℕ) (opening : List Str) (cs : List Call) (os : List (Outcome DeckState)) (q : Ends DeckState)
    → Runs r incremental cs (ends_of (fresh_ledgers key opening)) os q → ByLedgers m key opening cs os q
by-ledgers {r} {m} f key opening cs os q run =
    record {
      checks = subst (ByChecks m cs fresh) (sym z.0) (by-checks m (paper-laws f).known cs fresh);
      same = z.0;
      finish = λ x. ap (at x) z.1 ∙ at-ends x (finish_ledgers m cs fresh);
      back = λ d.
          subst (Returned nothing cs) (sym (ap (map answer_of) z.0 ∙ answers-are (entries m cs fresh))) (returned (paper-laws f) d refl);
      level = λ d.
          ap (λ (q : Ends DeckState). q.office) z.1
          ∙ ap (λ l. session_of l.key l.history l.toggle) (level (paper-laws f) d refl)
          ∙ sym (ap (λ (q : Ends DeckState). q.group) z.1);
    }
  where
    fresh : Ledgers
    fresh = fresh_ledgers key opening

    z : (os ≡ map outcome_of (entries m cs fresh)) × (q ≡ ends_of (finish_ledgers m cs fresh))
    z = runs-are f run fresh refl

-- every list has a run
pub runs : (m : Mode) {S : Type 0} (d : HistoryRep S) (cs : List Call) (p : Ends S) → (os : List (Outcome S)) × (q : Ends S) × Runs m d cs p os q
runs m d [] p = ([], p, Runs.none)
runs m d (c ∷ cs) p =
    let o = outcome m d c p in
    let z = runs m d cs (put (side_of c) o.session p) in
    (o ∷ z.0, z.1, Runs.more refl z.2)

-- ---- SANSE with the two starts

-- demand 3: two starts under one key of 16 to 47 bytes, and any list of calls after them, all known by their equations alone
pub demand-3 : (key : List ℕ) → 16 ≤ length key → length key ≤ 47
    → (first second : Opening) → first ≡ start_at key → second ≡ start_at key
    → (cs : List Call) (os : List (Outcome DeckState)) (q : Ends DeckState)
    → Runs sanse incremental cs (record { office = first.session; group = second.session }) os q
    → Demand3 key cs first second os q
demand-3 key h g first second e e' cs os q r =
    record {
      office_start = a;
      group_start = b;
      calls = by-ledgers sanse-follows key sanse_opens cs os q (subst (λ (p : Ends DeckState). Runs sanse incremental cs p os q) from r);
    }
  where
    a : StartAccepted key first
    a = subst (StartAccepted key) (sym e) (start-accepted key h g)

    b : StartAccepted key second
    b = subst (StartAccepted key) (sym e') (start-accepted key h g)

    from : ◌≡◌ {A = Ends DeckState} (record { office = first.session; group = second.session }) (ends_of (fresh_ledgers key sanse_opens))
    from = λ i. record { office = a.session i; group = b.session i }

-- the claim leaves nothing open: of one list under one key it is true of one list of outcomes and of one session at each end
pub demand-3-decides : {key : List ℕ} {cs : List Call} {first second first' second' : Opening} {os os' : List (Outcome DeckState)} {q q' : Ends DeckState}
    → Demand3 key cs first second os q → Demand3 key cs first' second' os' q' → (os ≡ os') × ((x : Side) → at x q ≡ at x q')
demand-3-decides a b = (a.calls.same ∙ sym b.calls.same, λ x. a.calls.finish x ∙ sym (b.calls.finish x))
