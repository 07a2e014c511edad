-- The counts of the lone calls that meet none of 4 to 9, nor 1. Assumes nothing.
use mathlib.Core.Path.{◌≡◌, refl, ◌∙◌}
use mathlib.Core.Bool.{Bool, true, false, cond}
use mathlib.Core.List.{List}
use Prim.Native.Nat.{ℕ, zero, suc, ◌≤◌}
use native.Mathlib.Omega.{arith}
use Rattle.deck.specs.declared.DeckState.{DeckState}
use Rattle.modes.specs.Call.{CallInput}
use Rattle.modes.specs.Mode.{sanse, incremental}
use Rattle.modes.specs.Rules.{SessionState, Outcome, Opening, check_from5, count_of, if_no_check, same_bytes, accepted, wrong_tag, unwrap_steps, wrap_from5, unwrap_from5, key_fits, start_at, new_session, closed}

-- a lone call that meets none of 5 to 9 counts what its work `o` counts
count-of : (n : ℕ) (s : SessionState DeckState) (i : CallInput) (o : Outcome DeckState) → n ≡ 0 → (if_no_check n s i o).count ≡ o.count
count-of zero s i o z = refl
count-of (suc n) s i o z = absurd (omega arith)

-- the count before the work is the count after it
pub wrap-count : (s : SessionState DeckState) (i : CallInput) → check_from5 sanse incremental s i ≡ 0
    → (wrap_from5 sanse incremental s i).count ≡ count_of sanse incremental i
unfolding wrap_from5
wrap-count s i = count-of (check_from5 sanse incremental s i) s i _

-- a wrong tag costs the same
pub unwrap-count : (s : SessionState DeckState) (i : CallInput) → check_from5 sanse incremental s i ≡ 0
    → (unwrap_from5 sanse incremental s i).count ≡ count_of sanse incremental i
unfolding unwrap_from5
unwrap-count s i z = count-of (check_from5 sanse incremental s i) s i _ z ∙ compared (same_bytes i.tag (unwrap_steps sanse incremental s i).tag)
  where
    compared : (t : Bool) → (cond {A = Outcome DeckState} t (accepted sanse incremental s i (unwrap_steps sanse incremental s i) i.tag)
        (wrong_tag sanse incremental s i)).count ≡ count_of sanse incremental i
    compared true = refl
    compared false = refl

pub start-count : (key : List ℕ) → (start_at key).count ≤ 1
unfolding start_at
start-count key = go (key_fits key)
  where
    go : (t : Bool) → (cond {A = Opening} t (record { number = 0; count = 1; session = new_session key }) (record { number = 4; count = 0; session = closed })).count ≤ 1
    go true = omega arith
    go false = omega arith
