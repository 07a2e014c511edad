-- The ledger of document 01 and the rules: for any mode that follows its paper, wrap and unwrap of the session that a ledger's history gives have the
-- ledger's answer and leave the session that its history then gives; for one call, and for every list of calls. Assumes nothing.
use mathlib.Core.Bool.{Bool, true, false, not, cond}
use mathlib.Core.List.{List, ◌∷◌, ◌++◌, map}
use mathlib.Core.Path.{◌≡◌, refl, sym, ap, ap₂, ◌∙◌}
use Prim.Native.Nat.{ℕ, zero, suc}
use lib.ListN.{length, drop, replicate, length-replicate}
use Rattle.deck.specs.declared.DeckState.{DeckState}
use Rattle.deck.specs.Strings.{Str}
use Rattle.deck.specs.Deck.{output_mask}
use Rattle.deck.specs.Incremental.{from_scratch}
use Rattle.modes.specs.Call.{CallInput, Side, office, group, Call, wrap, unwrap, side_of}
use Rattle.modes.specs.Mode.{StepResult, Mode, whole_history, incremental}
use Rattle.modes.specs.Header.{header_fits}
use Rattle.modes.specs.Rules.{SessionState, Outcome, first_check_of, metadata_string, if_no_check, check_from5, check_number, wrap_steps, unwrap_steps, accepted, wrong_tag, compare_tag, wrap_at, unwrap_at}
use Rattle.modes.specs.Ledger.{PaperMode, Ledger, Entry, equal_tags, string_a, right_header, wrap_finds, unwrap_finds, check_before11, on_check, accepts, refuses11, ledger_wrap, ledger_unwrap}
use Rattle.modes.specs.OneCall.{session_of}
use Rattle.modes.specs.TwoEnds.{Ends, at, put, outcome, Runs, Ledgers, ledger_at, set_ledger, ledger_step, next_ledgers, entries, finish_ledgers}
use Rattle.modes.specs.Demand3.{outcome_of}
use Rattle.modes.proofs.Papers.{paper_of}
use Rattle.modes.proofs.Steps.{ModeLaws}
use Rattle.modes.proofs.Modes.{Follows}
use Rattle.modes.proofs.Entries.{equal_tags-is}
use Rattle.modes.proofs.Header.{right_is}
use Rattle.modes.proofs.Sessions.{map_outcome, incremental-simulates, whole_history-grows, wrap_at-simulates, unwrap_at-simulates}

-- ---- one call

-- a ledger as a session that holds all its strings
abbrev to_session : Ledger → SessionState (List Str)
to_session l = record { history = l.history; toggle = l.toggle; opened = true }

abbrev to_outcome : Entry → Outcome (List Str)
to_outcome e = record { number = e.answer.number; count = e.answer.count; session = to_session e.ledger; out = e.answer.out; tag = e.answer.tag }

module _ {m : Mode} (laws : ModeLaws m) (l : Ledger) (i : CallInput) where
  on_check-is : (n : ℕ) (o : Outcome (List Str)) (e : Entry) → o ≡ to_outcome e
      → if_no_check n (to_session l) i o ≡ to_outcome (on_check (paper_of m) n l i e)
  on_check-is zero o e h = h
  on_check-is (suc n) o e h = refl

  -- the first check, by the rules' test of the header and the ledger's judgement of it, and by an index
  checks-are : {n n' : ℕ} → n' ≡ n
      → cond (header_fits m.parameters.letter i.header (length i.metadata) (length i.text))
      (first_check_of true n m.parameters.tag_length (length i.metadata) (length i.text) (length i.tag) (length i.out)) 1
      ≡ cond (not (right_header m.parameters.letter i.header (length i.metadata) (length i.text))) 1
      (first_check_of true n' m.parameters.tag_length (length i.metadata) (length i.text) (length i.tag) (length i.out))
  checks-are {n} {n'} e =
      go (header_fits m.parameters.letter i.header (length i.metadata) (length i.text))
      (right_header m.parameters.letter i.header (length i.metadata) (length i.text))
      (right_is m.parameters.letter laws.known i.header (length i.metadata) (length i.text))
    where
      check : ℕ → ℕ
      check n = first_check_of true n m.parameters.tag_length (length i.metadata) (length i.text) (length i.tag) (length i.out)

      go : (p q : Bool) → q ≡ p → cond p (check n) 1 ≡ cond (not q) 1 (check n')
      go true q h = rw h (ap check (sym e))
      go false q h = rw h refl

  wrap-check : check_number m (whole_history l.key) (to_session l) i ≡ check_before11 (paper_of m) (wrap_finds (paper_of m) l i) i
  unfolding check_number check_from5 metadata_string paper_of
  wrap-check =
      checks-are (laws.wraps_index (whole_history l.key) (whole_history-grows l.key) l.history l.toggle (string_a i) i.text)

  unwrap-check : check_number m (whole_history l.key) (to_session l) i ≡ check_before11 (paper_of m) (unwrap_finds (paper_of m) l i) i
  unfolding check_number check_from5 metadata_string paper_of
  unwrap-check =
      checks-are (laws.unwraps_index (whole_history l.key) (whole_history-grows l.key) l.history l.toggle (string_a i) i.text i.tag)

  wrap-entry : wrap_at m (whole_history l.key) (to_session l) i ≡ to_outcome (ledger_wrap (paper_of m) l i)
  unfolding wrap_at ledger_wrap metadata_string paper_of
  wrap-entry =
      let r : StepResult (List Str) = wrap_steps m (whole_history l.key) (to_session l) i in
      ap (λ (n : ℕ). if_no_check n (to_session l) i (accepted m (whole_history l.key) (to_session l) i r r.tag)) wrap-check
      ∙ on_check-is (check_before11 (paper_of m) (wrap_finds (paper_of m) l i) i) _ (accepts (paper_of m) l i (wrap_finds (paper_of m) l i) (wrap_finds (paper_of m) l i).tag) refl

  unwrap-entry : unwrap_at m (whole_history l.key) (to_session l) i ≡ to_outcome (ledger_unwrap (paper_of m) l i)
  unfolding unwrap_at ledger_unwrap metadata_string paper_of
  unwrap-entry =
      ap (λ (n : ℕ). if_no_check n (to_session l) i (compare_tag m (whole_history l.key) (to_session l) i r)) unwrap-check
      ∙ on_check-is (check_before11 (paper_of m) (unwrap_finds (paper_of m) l i) i) _ _
      (ap (λ (t : Bool). cond t (accepted m (whole_history l.key) (to_session l) i r i.tag) (wrong_tag m (whole_history l.key) (to_session l) i))
      (equal_tags-is i.tag r.tag)
      ∙ both (equal_tags i.tag r.tag))
    where
      r : StepResult (List Str)
      r = unwrap_steps m (whole_history l.key) (to_session l) i

      both : (t : Bool) → cond t (accepted m (whole_history l.key) (to_session l) i r i.tag) (wrong_tag m (whole_history l.key) (to_session l) i)
          ≡ to_outcome (cond t (accepts (paper_of m) l i (unwrap_finds (paper_of m) l i) i.tag) (refuses11 (paper_of m) l i))
      both true = refl
      both false =
          ap (λ (n : ℕ). record {
            number = 11;
            count = m.parameters.count (length (string_a i)) (length i.text);
            session = to_session l;
            out = replicate (length i.text) 0 ++ drop n i.out;
            tag = i.tag;
          })
          (length-replicate {A = ℕ} (length i.text) 0)

  -- a call leaves the ledger's key
  on_check-key : (n : ℕ) (e : Entry) → e.ledger.key ≡ l.key → (on_check (paper_of m) n l i e).ledger.key ≡ l.key
  on_check-key zero e h = h
  on_check-key (suc n) e h = refl

  pub wrap-key : (ledger_wrap (paper_of m) l i).ledger.key ≡ l.key
  unfolding ledger_wrap
  wrap-key = on_check-key (check_before11 (paper_of m) (wrap_finds (paper_of m) l i) i) _ refl

  pub unwrap-key : (ledger_unwrap (paper_of m) l i).ledger.key ≡ l.key
  unfolding ledger_unwrap
  unwrap-key = on_check-key (check_before11 (paper_of m) (unwrap_finds (paper_of m) l i) i) _ (both (equal_tags i.tag (unwrap_finds (paper_of m) l i).tag))
    where
      both : (t : Bool) → (cond t (accepts (paper_of m) l i (unwrap_finds (paper_of m) l i) i.tag) (refuses11 (paper_of m) l i)).ledger.key ≡ l.key
      both true = refl
      both false = refl

  -- the outcome for an entry, under any key
  under-key : (e : Entry) → e.ledger.key ≡ l.key → map_outcome (from_scratch l.key) (to_outcome e) ≡ outcome_of e
  unfolding from_scratch output_mask
  under-key e h = ap (λ (key : List ℕ). map_outcome (from_scratch key) (to_outcome e)) (sym h)

  -- the session of the history, by the rules: the ledger's answer, and the session of the ledger after the call
  wrap-by-own : wrap_at m incremental (session_of l.key l.history l.toggle) i ≡ outcome_of (ledger_wrap (paper_of m) l i)
  unfolding from_scratch output_mask
  wrap-by-own =
      wrap_at-simulates laws (incremental-simulates l.key) (to_session l) i ∙ ap (map_outcome (from_scratch l.key)) wrap-entry
      ∙ under-key (ledger_wrap (paper_of m) l i) wrap-key

  unwrap-by-own : unwrap_at m incremental (session_of l.key l.history l.toggle) i ≡ outcome_of (ledger_unwrap (paper_of m) l i)
  unfolding from_scratch output_mask
  unwrap-by-own =
      unwrap_at-simulates laws (incremental-simulates l.key) (to_session l) i ∙ ap (map_outcome (from_scratch l.key)) unwrap-entry
      ∙ under-key (ledger_unwrap (paper_of m) l i) unwrap-key

module _ {r : Mode} {m : PaperMode} (f : Follows r m) (l : Ledger) (i : CallInput) where
  pub wrap-by-ledger : wrap_at r incremental (session_of l.key l.history l.toggle) i ≡ outcome_of (ledger_wrap m l i)
  wrap-by-ledger = wrap-by-own f.laws l i ∙ ap (λ (m : PaperMode). outcome_of (ledger_wrap m l i)) f.paper

  pub unwrap-by-ledger : unwrap_at r incremental (session_of l.key l.history l.toggle) i ≡ outcome_of (ledger_unwrap m l i)
  unwrap-by-ledger = unwrap-by-own f.laws l i ∙ ap (λ (m : PaperMode). outcome_of (ledger_unwrap m l i)) f.paper

-- ---- every list of calls

-- the sessions that the ledgers' histories give
abbrev pub ends_of : Ledgers → Ends DeckState
ends_of p =
    record {
      office = session_of p.office.key p.office.history p.office.toggle;
      group = session_of p.group.key p.group.history p.group.toggle;
    }

at-ends_of : (x : Side) (p : Ledgers) → at x (ends_of p) ≡ session_of (ledger_at x p).key (ledger_at x p).history (ledger_at x p).toggle
at-ends_of office p = refl
at-ends_of group p = refl

put-ends_of : (x : Side) (l : Ledger) (p : Ledgers) → put x (session_of l.key l.history l.toggle) (ends_of p) ≡ ends_of (set_ledger x l p)
put-ends_of office l p = refl
put-ends_of group l p = refl

module _ {r : Mode} {m : PaperMode} (f : Follows r m) where
  outcome-is : (c : Call) (p : Ledgers) → outcome r incremental c (ends_of p) ≡ outcome_of (ledger_step m c p)
  outcome-is (wrap x i) p = ap (λ (s : SessionState DeckState). wrap_at r incremental s i) (at-ends_of x p) ∙ wrap-by-ledger f (ledger_at x p) i
  outcome-is (unwrap x i) p = ap (λ (s : SessionState DeckState). unwrap_at r incremental s i) (at-ends_of x p) ∙ unwrap-by-ledger f (ledger_at x p) i

  -- a run from the sessions of ledgers has the ledgers' answers, and leaves the sessions of the ledgers after it
  pub runs-are : {cs : List Call} {s q : Ends DeckState} {os : List (Outcome DeckState)} → Runs r incremental cs s os q
      → (p : Ledgers) → s ≡ ends_of p → (os ≡ map outcome_of (entries m cs p)) × (q ≡ ends_of (finish_ledgers m cs p))
  unfolding entries finish_ledgers
  runs-are Runs.none p h = (refl, h)
  runs-are (Runs.more {c = c} {o = o} e z) p h =
      let g : o ≡ outcome_of (ledger_step m c p) = e ∙ ap (outcome r incremental c) h ∙ outcome-is c p in
      let y = runs-are z (next_ledgers m c p)
      (ap₂ (λ (o : Outcome DeckState) (s : Ends DeckState). put (side_of c) o.session s) g h
      ∙ put-ends_of (side_of c) (ledger_step m c p).ledger p) in
      (ap₂ {C = List (Outcome DeckState)} (λ o os. o ∷ os) g y.0, y.1)
