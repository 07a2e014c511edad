-- The accumulator, the mask and the index stand for the whole history: for any lawful mode, wrap and unwrap of the session that holds them
-- give what wrap and unwrap over all the strings give. Assumes nothing.
use mathlib.Core.Bool.{Bool, true, false, cond}
use mathlib.Core.List.{List}
use mathlib.Core.Path.{◌≡◌, refl, ap, ap₂, ◌∙◌}
use Prim.Native.Nat.{ℕ, zero, suc, ◌+◌, ◌/◌, ◌≤◌}
use native.Mathlib.Omega.{arith}
use lib.ListN.{length}
use Rattle.deck.specs.Deck.{index_of, index_growth}
use Rattle.deck.specs.Incremental.{append, from_scratch}
use Rattle.deck.proofs.Strings.{blocks_is}
use Rattle.deck.proofs.Incremental.{index_of-more, from_scratch-more, output-from_scratch}
use Rattle.modes.specs.Call.{CallInput}
use Rattle.modes.specs.Mode.{HistoryRep, StepResult, Mode, whole_history, incremental}
use Rattle.modes.specs.Rules.{SessionState, Outcome, growth, metadata_string, same_bytes, if_no_check, check_from5, check_number, unwrap_steps, accepted, wrong_tag, compare_tag, wrap_at, unwrap_at}
use Rattle.modes.proofs.Steps.{Simulates, map_result, Grows, ModeLaws}

-- ---- growth

-- a call moves the index by at most its blocks and four
pub growth-most : (a n : ℕ) → growth a n ≤ a / 48 + n / 48 + 4
unfolding growth
growth-most a zero = omega arith
growth-most zero (suc n) = omega arith
growth-most (suc a) (suc n) = omega arith

-- ---- the two ways to hold a history

-- the incremental one stands for the whole history
pub incremental-simulates : (key : List ℕ) → Simulates (whole_history key) incremental (from_scratch key)
unfolding from_scratch
incremental-simulates key = record { appends = from_scratch-more key; keystreams = output-from_scratch key; indices = λ h. refl }

pub whole_history-grows : (key : List ℕ) → Grows (whole_history key)
unfolding index_growth
whole_history-grows key h x f = index_of-more h x ∙ ap (λ (n : ℕ). index_of h + (n + 1)) (blocks_is x f)

pub incremental-grows : Grows incremental
unfolding append index_growth
incremental-grows d x f = ap (λ (n : ℕ). d.index + (n + 1)) (blocks_is x f)

-- ---- sessions and outcomes, with the history taken by φ

module _ {S S' : Type 0} (φ : S → S') where
  abbrev pub map_session : SessionState S → SessionState S'
  map_session s = record { history = φ s.history; toggle = s.toggle; opened = s.opened }

  abbrev pub map_outcome : Outcome S → Outcome S'
  map_outcome o = record { number = o.number; count = o.count; session = map_session o.session; out = o.out; tag = o.tag }

  if_no_check-map : (n : ℕ) (s : SessionState S) (i : CallInput) {o : Outcome S} {o' : Outcome S'} → o' ≡ map_outcome o
      → if_no_check n (map_session s) i o' ≡ map_outcome (if_no_check n s i o)
  if_no_check-map zero s i g = g
  if_no_check-map (suc n) s i g = refl

  compare_tag-map : (m : Mode) (d : HistoryRep S) (d' : HistoryRep S') (s : SessionState S) (i : CallInput) (r : StepResult S)
      → compare_tag m d' (map_session s) i (map_result φ r) ≡ map_outcome (compare_tag m d s i r)
  compare_tag-map m d d' s i r = go (same_bytes i.tag r.tag)
    where
      go : (t : Bool) → cond t (accepted m d' (map_session s) i (map_result φ r) i.tag) (wrong_tag m d' (map_session s) i)
          ≡ map_outcome (cond t (accepted m d s i r i.tag) (wrong_tag m d s i))
      go true = refl
      go false = refl

-- ---- wrap and unwrap

module _ {m : Mode} (laws : ModeLaws m) {S S' : Type 0} {d : HistoryRep S} {d' : HistoryRep S'} {φ : S → S'} (l : Simulates d d' φ) where
  check_number-simulates : (s : SessionState S) (i : CallInput) → check_number m d' (map_session φ s) i ≡ check_number m d s i
  unfolding check_number check_from5
  check_number-simulates s i = rw (l.indices s.history) refl

  pub wrap_at-simulates : (s : SessionState S) (i : CallInput) → wrap_at m d' (map_session φ s) i ≡ map_outcome φ (wrap_at m d s i)
  unfolding wrap_at
  wrap_at-simulates s i =
      ap₂ (λ (n : ℕ) (r : StepResult S'). if_no_check n (map_session φ s) i (accepted m d' (map_session φ s) i r r.tag))
      (check_number-simulates s i) (laws.wraps_simulate l s.history s.toggle (metadata_string i) i.text)
      ∙ if_no_check-map φ (check_number m d s i) s i refl

  pub unwrap_at-simulates : (s : SessionState S) (i : CallInput) → unwrap_at m d' (map_session φ s) i ≡ map_outcome φ (unwrap_at m d s i)
  unfolding unwrap_at
  unwrap_at-simulates s i =
      ap₂ (λ (n : ℕ) (r : StepResult S'). if_no_check n (map_session φ s) i (compare_tag m d' (map_session φ s) i r))
      (check_number-simulates s i) (laws.unwraps_simulate l s.history s.toggle (metadata_string i) i.text i.tag)
      ∙ if_no_check-map φ (check_number m d s i) s i (compare_tag-map φ m d d' s i (unwrap_steps m d s i))
