-- The theorems are not empty: a ledger with room in its index, and so a fresh one, accepts every wrap within the limits; and a list with
-- messages both ways, and one in which a message on its way is disturbed, are among those in which each message is delivered. Assumes
-- nothing.
use mathlib.Core.Bool.{Bool, true, false, cond}
use mathlib.Core.List.{List, [], ◌∷◌}
use mathlib.Core.Logic.{◌≢◌, ◌⊎◌, inl, inr}
use mathlib.Core.Path.{◌≡◌, refl, sym, ap, ◌∙◌, subst}
use Prim.Native.Nat.{ℕ, zero, suc, ◌+◌, ◌≤◌}
use native.Mathlib.Omega.{arith}
use lib.ListN.{length}
use Rattle.deck.specs.declared.DeckState.{DeckState}
use Rattle.deck.specs.Strings.{Str}
use Rattle.deck.specs.Deck.{index_of}
use Rattle.modes.specs.Call.{CallInput, Side, office, group, Call, wrap, unwrap}
use Rattle.modes.specs.Paper.{PaperResult, sanse_opens, sanse_unwrap}
use Rattle.modes.specs.Mode.{Mode, incremental, sanse}
use Rattle.modes.specs.Rules.{SessionState, Outcome, growth, new_session, wrap_at}
use Rattle.modes.specs.Ledger.{PaperMode, sanse_paper, Ledger, equal_tags, string_a, wrap_finds, unwrap_finds, check_before11, on_check, accepts, refuses11, ledger_wrap, ledger_unwrap, fresh_ledger}
use Rattle.modes.specs.Exactly.{NoneBefore11}
use Rattle.modes.specs.OneCall.{session_of}
use Rattle.modes.specs.TwoEnds.{Ledgers, ledger_at, finish_ledgers, fresh_ledgers}
use Rattle.modes.specs.Delivery.{delivery, sent_by, InFlight, Delivers}
use Rattle.modes.specs.Fresh.{InLimits, FreshAccepts, no_tag, after_there, BothWays, Disturbed, other_tag, repeated, reflected, Replays}
use Rattle.modes.proofs.Sessions.{growth-most}
use Rattle.modes.proofs.Modes.{Follows, sanse-follows}
use Rattle.modes.proofs.Header.{string-most}
use Rattle.modes.proofs.Ledgers.{wrap-by-ledger}
use Rattle.modes.proofs.Entries.{PaperLaws, paper-laws, wrap-stays, unwrap-stopped}
use Rattle.modes.proofs.Delivery.{set_same}
use Rattle.modes.proofs.Exactly.{check-none, wrap-exactly}
use Rattle.modes.proofs.Start.{new-session}

-- a call within the limits moves the index by at most 686, with a header too
growth-within : (a n : ℕ) → a ≤ 16401 → n ≤ 16384 → growth a n ≤ 686
growth-within a n h g = omega (arith, growth-most a n)

module _ {m : PaperMode} (laws : PaperLaws m) (l : Ledger) (i : CallInput) where
  -- a ledger with room accepts it
  pub accepts-within : InLimits m i → index_of l.history + 686 ≤ 1048576 → (ledger_wrap m l i).answer.number ≡ 0
  accepts-within w room =
      let g : growth (length (string_a i)) (length i.text) ≤ 686 = growth-within (length (string_a i)) (length i.text) (string-most m.letter i w.header w.metadata) w.text in
      let e = laws.wraps_index l.key l.history l.toggle (string_a i) i.text in
      (wrap-exactly m laws.known l i).accepted.1 (record { header = w.header; is_open = λ z. z; metadata = omega arith; text = omega arith; tag = omega arith; out = omega arith; index = omega arith })

  -- any call moves a ledger's index by at most 686
  moves : (r : PaperResult) → index_of r.history ≡ index_of l.history + growth (length (string_a i)) (length i.text) → NoneBefore11 m.letter ⊥ m.tag_length (index_of r.history) i
      → index_of r.history ≤ index_of l.history + 686
  moves r e c =
      let g : growth (length (string_a i)) (length i.text) ≤ 686 = growth-within (length (string_a i)) (length i.text) (string-most m.letter i c.header c.metadata) c.text in
      omega arith

  wrap-moves : index_of (ledger_wrap m l i).ledger.history ≤ index_of l.history + 686
  unfolding ledger_wrap
  wrap-moves = go (check_before11 m (wrap_finds m l i) i) (check-none m laws.known (wrap_finds m l i) i)
    where
      go : (k : ℕ) → (k ≡ 0 → NoneBefore11 m.letter ⊥ m.tag_length (index_of (wrap_finds m l i).history) i)
          → index_of (on_check m k l i (accepts m l i (wrap_finds m l i) (wrap_finds m l i).tag)).ledger.history ≤ index_of l.history + 686
      go zero c = moves (wrap_finds m l i) (laws.wraps_index l.key l.history l.toggle (string_a i) i.text) (c refl)
      go (suc k) c = omega arith

  unwrap-moves : index_of (ledger_unwrap m l i).ledger.history ≤ index_of l.history + 686
  unfolding ledger_unwrap
  unwrap-moves = go (check_before11 m r i) (equal_tags i.tag r.tag) (check-none m laws.known r i)
    where
      r : PaperResult
      r = unwrap_finds m l i

      go : (k : ℕ) (q : Bool) → (k ≡ 0 → NoneBefore11 m.letter ⊥ m.tag_length (index_of r.history) i)
          → index_of (on_check m k l i (cond q (accepts m l i r i.tag) (refuses11 m l i))).ledger.history ≤ index_of l.history + 686
      go zero true c = moves r (laws.unwraps_index l.key l.history l.toggle (string_a i) i.text i.tag) (c refl)
      go zero false c = omega arith
      go (suc k) q c = omega arith

-- ---- refused calls leave the ledgers, and what is on its way

module _ {m : PaperMode} {t : InFlight} {cs : List Call} {p : Ledgers} (x : Side) (i : CallInput) where
  pub past-wrap : (ledger_wrap m (ledger_at x p) i).answer.number ≢ 0 → Delivers m t cs p → Delivers m t (wrap x i ∷ cs) p
  past-wrap h d =
      Delivers.wrap-refused h (subst (λ (p : Ledgers). Delivers m t cs p) (sym (set_same x _ p (wrap-stays m (ledger_at x p) i h))) d)

  pub past-arrival : (check_before11 m (unwrap_finds m (ledger_at x p) i) i ≢ 0) ⊎ (i.tag ≢ (unwrap_finds m (ledger_at x p) i).tag)
      → Delivers m t cs p → Delivers m t (unwrap x i ∷ cs) p
  past-arrival h d =
      Delivers.other-arrival h (subst (λ (p : Ledgers). Delivers m t cs p) (sym (set_same x _ p (unwrap-stopped m (ledger_at x p) i h).1)) d)

-- ---- any mode, from a history that leaves room

module _ {r : Mode} {m : PaperMode} (f : Follows r m) (key : List ℕ) (opening : List Str) (room : index_of opening + 2058 ≤ 1048576) where
  fresh-ledger : (i : CallInput) → InLimits m i → (ledger_wrap m (fresh_ledger key opening) i).answer.number ≡ 0
  fresh-ledger i w = accepts-within (paper-laws f) (fresh_ledger key opening) i w (omega arith)

  -- a fresh ledger, and the session of the history that it opens with, accept just the wraps within the limits
  pub fresh-by : (s : SessionState DeckState) → s ≡ session_of key opening false → (i : CallInput) → FreshAccepts m r key opening s i
  fresh-by s e i = record { ledger = (fresh-ledger i, back); session = (λ w. same ∙ fresh-ledger i w, λ h. back (sym same ∙ h)) }
    where
      back : (ledger_wrap m (fresh_ledger key opening) i).answer.number ≡ 0 → InLimits m i
      back h =
          let n = (wrap-exactly m (paper-laws f).known (fresh_ledger key opening) i).accepted.0 h in
          record { header = n.header; metadata = n.metadata; text = n.text; tag = n.tag; out = n.out }

      same : (wrap_at r incremental s i).number ≡ (ledger_wrap m (fresh_ledger key opening) i).answer.number
      same =
          ap (λ (s : SessionState DeckState). (wrap_at r incremental s i).number) e
          ∙ ap (λ (o : Outcome DeckState). o.number) (wrap-by-ledger f (fresh_ledger key opening) i)

  -- where a tag of no bytes is refused
  module _ (t : 1 ≤ m.tag_length) where
    no-tag-arrival : (l : Ledger) → check_before11 m (unwrap_finds m l no_tag) no_tag ≢ 0
    no-tag-arrival l h =
        let n : 0 ≡ m.tag_length = (check-none m (paper-laws f).known (unwrap_finds m l no_tag) no_tag h).tag in
        omega arith

    no-tag-wrap : (l : Ledger) → (ledger_wrap m l no_tag).answer.number ≢ 0
    no-tag-wrap l h =
        let n : 0 ≡ m.tag_length = ((wrap-exactly m (paper-laws f).known l no_tag).accepted.0 h).tag in
        omega arith

    -- messages both ways
    pub both_by : (i j : CallInput) (out out' : List ℕ) → BothWays m key opening i j out out'
    unfolding finish_ledgers
    both_by i j out out' w v a b =
        Delivers.wrap-accepted (fresh-ledger i w)
        (Delivers.other-arrival (inl (no-tag-arrival fresh))
        (Delivers.delivered a
        (Delivers.wrap-accepted (accepts-within (paper-laws f) (ledger_at group (after_there m key opening i out)) j v free)
        (Delivers.delivered b Delivers.finished))))
      where
        fresh : Ledger
        fresh = fresh_ledger key opening

        free : index_of (ledger_at group (after_there m key opening i out)).history + 686 ≤ 1048576
        free =
            omega (
              arith,
              unwrap-moves (paper-laws f) (ledger_unwrap m fresh no_tag).ledger (delivery (sent_by m office i (fresh_ledgers key opening)) out),
              unwrap-moves (paper-laws f) fresh no_tag,
            )

    -- a message on its way, disturbed
    pub disturbed-by : (i j : CallInput) (out out' : List ℕ) (x y z : CallInput) → Disturbed m key opening i j out out' x y z
    unfolding finish_ledgers
    disturbed-by i j out out' x y z w v a b wrong repeat reflection =
        Delivers.wrap-accepted (fresh-ledger i w)
        (Delivers.other-arrival (inl (no-tag-arrival fresh))
        (Delivers.delivered a
        (Delivers.wrap-accepted (accepts-within (paper-laws f) (ledger_at office (after_there m key opening i out)) j v free)
        (past-wrap group no_tag (no-tag-wrap _)
        (past-wrap office no_tag (no-tag-wrap _)
        (past-arrival group _ (inr wrong)
        (past-arrival group _ (inr repeat)
        (past-arrival office _ (inr reflection)
        (Delivers.delivered b
        (past-wrap group no_tag (no-tag-wrap _)
        (past-wrap office no_tag (no-tag-wrap _)
        (past-arrival group no_tag (inl (no-tag-arrival _))
        (past-arrival office no_tag (inl (no-tag-arrival _)) Delivers.finished)))))))))))))
      where
        fresh : Ledger
        fresh = fresh_ledger key opening

        free : index_of (ledger_at office (after_there m key opening i out)).history + 686 ≤ 1048576
        free = omega (arith, wrap-moves (paper-laws f) fresh i)

-- ---- SANSE

sanse-room : index_of sanse_opens + 2058 ≤ 1048576
unfolding index_of
sanse-room = omega arith

pub fresh-accepts : (key : List ℕ) (i : CallInput) → FreshAccepts sanse_paper sanse key sanse_opens (new_session key) i
fresh-accepts key = fresh-by sanse-follows key sanse_opens sanse-room (new_session key) (new-session key)

pub both_ways_lem : (key : List ℕ) (i j : CallInput) (out out' : List ℕ) → BothWays sanse_paper key sanse_opens i j out out'
both_ways_lem key = both_by sanse-follows key sanse_opens sanse-room (omega arith)

pub disturbed-delivers : (key : List ℕ) (i j : CallInput) (out out' : List ℕ) (a b c : CallInput) → Disturbed sanse_paper key sanse_opens i j out out' a b c
disturbed-delivers key = disturbed-by sanse-follows key sanse_opens sanse-room (omega arith)

-- as by another tag, a repeat and a reflection
pub replays-deliver : (key : List ℕ) (i j : CallInput) (out out' t : List ℕ) → Replays sanse_paper key sanse_opens i j out out' t
replays-deliver key i j out out' t =
    disturbed-delivers key i j out out'
    (other_tag sanse_paper key sanse_opens i j out out' t) (repeated sanse_paper key sanse_opens i j out out' t) (reflected sanse_paper key sanse_opens i j out out' t)

-- arrivals whose tags differ there are: without a text, the tag that is found goes by the ledger, the header and the metadata alone, so every other tag
-- differs
pub some-differ : (l : Ledger) (z : CallInput) → z.text ≡ []
    → z.tag ≢ (unwrap_finds sanse_paper l (record { header = z.header; metadata = z.metadata; text = []; out = []; tag = [] })).tag
    → z.tag ≢ (unwrap_finds sanse_paper l z).tag
unfolding sanse_unwrap
some-differ l z e d h = d (h ∙ ap (λ (x : List ℕ). (sanse_paper.unwraps l.key l.history l.toggle (string_a z) x z.tag).tag) e)
