-- The lists in which each message is delivered, and what it is that each comes back (demand 3; document 01, "The two ends of demand 3"); and
-- that the first leave out no list of the second. Assumes nothing.
use Rattle.std.specs.Prelude.{List, [], ◌∷◌, ◌++◌, ◌↔◌, ◌≢◌, ◌⊎◌, ◌≡◌, ℕ, ◌≤◌, length, take, drop}
use Rattle.modes.specs.Call.{CallInput, Side, other, Call, wrap, unwrap}
use Rattle.modes.specs.Ledger.{PaperMode, LedgerAnswer, wrap_finds, unwrap_finds, check_before11, ledger_wrap}
use Rattle.modes.specs.TwoEnds.{Ledgers, ledger_at, next_ledgers, answers}

-- ---- messages on their way

-- what an accepted wrap gave, on its way: the end that it was given at, what that wrap was handed, and its cryptogram and tag
pub record Sent : Type 0 where
  pub from : Side
  pub input : CallInput
  pub cryptogram : List ℕ
  pub tag : List ℕ

-- what is handed to unwrap where this arrives, into an output buffer: the header of the wrap or none, its metadata, the cryptogram and the tag
abbrev pub delivery : Sent → (out : List ℕ) → CallInput
delivery w out = record { header = w.input.header; metadata = w.input.metadata; text = w.cryptogram; out = out; tag = w.tag }

-- what a wrap at an end gave, with these ledgers
abbrev pub sent_by : PaperMode → Side → CallInput → Ledgers → Sent
sent_by m x i p = record { from = x; input = i; cryptogram = (wrap_finds m (ledger_at x p) i).text; tag = (wrap_finds m (ledger_at x p) i).tag }

-- what is on its way
pub data InFlight : Type 0 where
  nothing : InFlight
  sent : Sent → InFlight

-- ---- lists in which each message is delivered

-- `Delivers m t cs p`: with t on its way and the ledgers p, in the list cs what each accepted wrap gave is handed to unwrap at the other
-- end, with its header or none, with its metadata and into a buffer that holds it, before the next accepted wrap or the end of the list; and
-- every other arrival, a repeat included, meets a check before number 11 or carries a tag different from the one that the algorithm finds for it there
pub data Delivers (m : PaperMode) : InFlight → List Call → Ledgers → Type 0 where
  finished : {p : Ledgers} → Delivers m nothing [] p
  wrap-refused : {t : InFlight} {x : Side} {i : CallInput} {cs : List Call} {p : Ledgers}
      → (ledger_wrap m (ledger_at x p) i).answer.number ≢ 0
      → Delivers m t cs (next_ledgers m (wrap x i) p)
      → Delivers m t (wrap x i ∷ cs) p
  wrap-accepted : {x : Side} {i : CallInput} {cs : List Call} {p : Ledgers}
      → (ledger_wrap m (ledger_at x p) i).answer.number ≡ 0
      → Delivers m (sent (sent_by m x i p)) cs (next_ledgers m (wrap x i) p)
      → Delivers m nothing (wrap x i ∷ cs) p
  delivered : {w : Sent} {out : List ℕ} {cs : List Call} {p : Ledgers}
      → length w.input.text ≤ length out
      → Delivers m nothing cs (next_ledgers m (unwrap (other w.from) (delivery w out)) p)
      → Delivers m (sent w) (unwrap (other w.from) (delivery w out) ∷ cs) p
  other-arrival : {t : InFlight} {x : Side} {i : CallInput} {cs : List Call} {p : Ledgers}
      → (check_before11 m (unwrap_finds m (ledger_at x p) i) i ≢ 0) ⊎ (i.tag ≢ (unwrap_finds m (ledger_at x p) i).tag)
      → Delivers m t cs (next_ledgers m (unwrap x i) p)
      → Delivers m t (unwrap x i ∷ cs) p

-- ---- lists in which each message comes back

-- `Returned t cs rs`: with t on its way, the calls cs had the answers rs, and in them each message comes back, before the next accepted
-- wrap or the end of the list: the unwrap is accepted and puts exactly the message's bytes at the start of its output buffer. Each other
-- arrival is refused. What a wrap gave is read from its answer
pub data Returned : InFlight → List Call → List LedgerAnswer → Type 0 where
  finished : Returned nothing [] []
  wrap-refused : {t : InFlight} {x : Side} {i : CallInput} {cs : List Call} {a : LedgerAnswer} {rs : List LedgerAnswer}
      → a.number ≢ 0 → Returned t cs rs → Returned t (wrap x i ∷ cs) (a ∷ rs)
  wrap-accepted : {x : Side} {i : CallInput} {cs : List Call} {a : LedgerAnswer} {rs : List LedgerAnswer}
      → a.number ≡ 0
      → Returned (sent (record { from = x; input = i; cryptogram = take (length i.text) a.out; tag = a.tag })) cs rs
      → Returned nothing (wrap x i ∷ cs) (a ∷ rs)
  comes_back : {w : Sent} {out : List ℕ} {cs : List Call} {a : LedgerAnswer} {rs : List LedgerAnswer}
      → a.number ≡ 0
      → a.out ≡ w.input.text ++ drop (length w.input.text) out
      → Returned nothing cs rs
      → Returned (sent w) (unwrap (other w.from) (delivery w out) ∷ cs) (a ∷ rs)
  arrival-refused : {t : InFlight} {x : Side} {i : CallInput} {cs : List Call} {a : LedgerAnswer} {rs : List LedgerAnswer}
      → a.number ≢ 0 → Returned t cs rs → Returned t (unwrap x i ∷ cs) (a ∷ rs)

-- ---- no list is left out

-- from equal ledgers with nothing on its way, the lists in which each message is delivered are just those in which, by the ledgers' answers,
-- each message comes back and each other arrival is refused
abbrev pub DeliversExactly : PaperMode → Type 0
DeliversExactly m = (cs : List Call) (p : Ledgers) → p.office ≡ p.group → Delivers m nothing cs p ↔ Returned nothing cs (answers m cs p)
