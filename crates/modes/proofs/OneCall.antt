-- Demands 1 and 2 for one call, from the ledger with that history. Assumes nothing.
use mathlib.Core.Bool.{Bool, cond}
use mathlib.Core.List.{List, ◌++◌}
use mathlib.Core.Logic.{◌⊎◌, inl, inr}
use mathlib.Core.Path.{◌≡◌, refl, sym, ap, ◌∙◌, subst}
use Prim.Native.Nat.{ℕ, suc, ◌≤◌}
use native.Mathlib.Omega.{arith}
use lib.ListN.{length, drop, replicate, length-replicate}
use Rattle.deck.specs.declared.DeckState.{DeckState}
use Rattle.deck.specs.Strings.{Str}
use Rattle.deck.specs.Deck.{index_of}
use Rattle.modes.specs.Call.{CallInput}
use Rattle.modes.specs.Mode.{Mode, incremental, sanse}
use Rattle.modes.specs.Paper.{PaperResult}
use Rattle.modes.specs.Rules.{Outcome, wrap_at, unwrap_at}
use Rattle.modes.specs.Ledger.{PaperMode, sanse_paper, Ledger, Entry, equal_tags, check_before11, on_check, accepts, refuses11, ledger_wrap, ledger_unwrap}
use Rattle.modes.specs.OneCall.{session_of, Within, Accepted, WrongTag, Refused, wrap_arrives, unwrap_arrives, WrapClaim, UnwrapClaim, OneCall}
use Rattle.modes.specs.Demand3.{outcome_of}
use Rattle.modes.proofs.Modes.{Follows, sanse-follows}
use Rattle.modes.proofs.Ledgers.{wrap-by-ledger, unwrap-by-ledger}
use Rattle.modes.proofs.Entries.{paper-laws, wrap-done, unwrap-same, unwrap-differs}
use Rattle.modes.proofs.Exactly.{First, ledger-first, none-check}

module _ {p : Mode} {m : PaperMode} (f : Follows p m) (key : List ℕ) (h : List Str) (e : Bool) (i : CallInput) where
  abbrev ledger : Ledger
  ledger = record { key = key; history = h; toggle = e }

  none : (r : PaperResult) → Within m i r.history → check_before11 m r i ≡ 0
  none r w = none-check m (paper-laws f).known r i (record { header = w.header; is_open = λ z. z; metadata = w.metadata; text = w.text; tag = w.tag; out = w.out; index = w.index })

  -- the outcome of an entry of an accepted call, and of one with number 11
  accepted-is : (r : PaperResult) (tag : List ℕ) → tag ≡ r.tag → (o : Outcome DeckState) → o ≡ outcome_of (accepts m ledger i r tag) → Accepted m key i r o
  accepted-is r tag t o g =
      record {
        number = ap (λ (o : Outcome DeckState). o.number) g;
        count = ap (λ (o : Outcome DeckState). o.count) g;
        out = ap (λ (o : Outcome DeckState). o.out) g;
        tag = ap (λ (o : Outcome DeckState). o.tag) g ∙ t;
        session = ap (λ (o : Outcome DeckState). o.session) g;
      }

  refused-is : (o : Outcome DeckState) → o ≡ outcome_of (refuses11 m ledger i) → WrongTag m (session_of key h e) i o
  refused-is o g =
      record {
        number = ap (λ (o : Outcome DeckState). o.number) g;
        count = ap (λ (o : Outcome DeckState). o.count) g;
        out = ap (λ (o : Outcome DeckState). o.out) g
            ∙ ap (λ (n : ℕ). replicate (length i.text) 0 ++ drop n i.out) (sym (length-replicate (length i.text) 0));
        tag = ap (λ (o : Outcome DeckState). o.tag) g;
        session = ap (λ (o : Outcome DeckState). o.session) g;
      }

  -- an entry of a call that meets a check before 11
  stopped-is : (r : PaperResult) (z : Entry) (o : Outcome DeckState) → o ≡ outcome_of (on_check m (check_before11 m r i) ledger i z)
      → (Within m i r.history → ⊥) → Refused (session_of key h e) i o
  stopped-is r z o g n = go (check_before11 m r i) (ledger-first m (paper-laws f).known r i) g
    where
      refused : (k : ℕ) → o ≡ outcome_of (on_check m (suc k) ledger i z) → (suc k ≡ 1) ⊎ ((6 ≤ suc k) × (suc k ≤ 9)) → Refused (session_of key h e) i o
      refused k g b =
          record {
            number = subst (λ (n : ℕ). (n ≡ 1) ⊎ ((6 ≤ n) × (n ≤ 9))) (sym (ap (λ (o : Outcome DeckState). o.number) g)) b;
            count = ap (λ (o : Outcome DeckState). o.count) g;
            out = ap (λ (o : Outcome DeckState). o.out) g;
            tag = ap (λ (o : Outcome DeckState). o.tag) g;
            session = ap (λ (o : Outcome DeckState). o.session) g;
          }

      go : (k : ℕ) → First m.letter ⊥ m.tag_length (index_of r.history) i k → o ≡ outcome_of (on_check m k ledger i z) → Refused (session_of key h e) i o
      go k (First.is1 w) g = refused 0 g (inl refl)
      go k (First.is5 w z) g = absurd z
      go k (First.is6 w z a) g = refused 5 g (inr (omega arith, omega arith))
      go k (First.is7 w z a b) g = refused 6 g (inr (omega arith, omega arith))
      go k (First.is8 w z a b c) g = refused 7 g (inr (omega arith, omega arith))
      go k (First.is9 w z a b c d) g = refused 8 g (inr (omega arith, omega arith))
      go k (First.is0 c) g = absurd (n (record { header = c.header; metadata = c.metadata; text = c.text; tag = c.tag; out = c.out; index = c.index }))

  wraps : WrapClaim m key h e i (wrap_at p incremental (session_of key h e) i)
  unfolding ledger_wrap
  wraps =
      record {
        accepted = λ w.
            let r : PaperResult = wrap_arrives m key h e i in
            accepted-is r r.tag refl _ (wrap-by-ledger f ledger i ∙ ap outcome_of (wrap-done m ledger i (none r w)));
        refused = stopped-is (wrap_arrives m key h e i) (accepts m ledger i (wrap_arrives m key h e i) (wrap_arrives m key h e i).tag) _ (wrap-by-ledger f ledger i);
      }

  unwraps : UnwrapClaim m key h e i (unwrap_at p incremental (session_of key h e) i)
  unfolding ledger_unwrap
  unwraps =
      let r : PaperResult = unwrap_arrives m key h e i in
      record {
        accepted = λ w t. accepted-is r i.tag t _ (unwrap-by-ledger f ledger i ∙ ap outcome_of (unwrap-same m ledger i (none r w) t));
        wrong-tag = λ w t. refused-is _ (unwrap-by-ledger f ledger i ∙ ap outcome_of (unwrap-differs m ledger i (none r w) t));
        refused = stopped-is r (cond (equal_tags i.tag r.tag) (accepts m ledger i r i.tag) (refuses11 m ledger i)) _ (unwrap-by-ledger f ledger i);
      }

-- the rules' wrap and unwrap meet demands 1 and 2, for any mode that follows its paper
pub one-call-by : {p : Mode} {m : PaperMode} → Follows p m → OneCall m (wrap_at p incremental) (unwrap_at p incremental)
one-call-by f = record { wrap-claim = wraps f; unwrap-claim = unwraps f }

pub one-call : OneCall sanse_paper (wrap_at sanse incremental) (unwrap_at sanse incremental)
one-call = one-call-by sanse-follows
