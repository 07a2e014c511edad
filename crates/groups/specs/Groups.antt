-- A call for one group of the office's table: for the group's own record, which is its session and, beside it, its own day's count (document 02,
-- requests 4 and 7; document 01, "The row", and numbers 4 and 10 of "What stops a call"; its row is the table here). The allowance of the day is
-- handed to each call. Number 1, which looks at the group that a header names, and 3, which looks at the whole table, are the office's. Assumes
-- nothing.
use Rattle.std.specs.Prelude.{Bool, not, cond, List, ℕ, zero, suc, ◌+◌, ltb}
use Rattle.deck.specs.declared.DeckState.{DeckState}
use Rattle.modes.specs.Call.{CallInput}
use Rattle.modes.specs.Mode.{sanse, incremental}
use Rattle.modes.specs.Rules.{SessionState, Outcome, Opening, if_no_check, check_from5, count_of, wrap_from5, unwrap_from5, key_fits, start_at}
use Rattle.steps.specs.declared.CallResult.{CallResult}
use Rattle.sanse.specs.Session.{state_of}
use Rattle.groups.specs.declared.Record.{Record}

-- ---- a group's record

-- a session, and beside it the permutations counted for the group since the day began
pub record GroupState : Type 0 where
  pub session : SessionState DeckState
  pub count : ℕ

-- the record when a day begins: the count is 0, and the session stays
abbrev pub new_day : GroupState → GroupState
new_day g = record { session = g.session; count = 0 }

-- check 10: the allowance is smaller than the group's count of the day plus this call's count
abbrev pub above_allowance : (allowance spent count : ℕ) → Bool
above_allowance allowance spent count = ltb allowance (spent + count)

-- ---- wrap and unwrap for a group, where check 1 is not met

-- what such a call gives: its number (0: accepted), its count, the group's record, and the output buffer and the tag after it
pub record GroupOutcome : Type 0 where
  pub number : ℕ
  pub count : ℕ
  pub left : GroupState
  pub out : List ℕ
  pub tag : List ℕ

-- the first of the checks 5 to 10, by the first of 5 to 9, or 0, and by whether the allowance is too small: 10 is looked at where none of 5 to 9
-- is met
abbrev pub then10 : ℕ → (above : Bool) → ℕ
then10 zero above = cond above 10 0
then10 (suc n) above = suc n

-- the first of the checks 5 to 10 that a call meets, or 0
unfoldable pub group_check : (allowance : ℕ) → GroupState → CallInput → ℕ
group_check allowance g i =
    then10 (check_from5 sanse incremental g.session i) (above_allowance allowance g.count (count_of sanse incremental i))

-- a lone call's outcome, with its session in the group's record and its count added to the group's. A call that is refused by another number
-- than 11 has count 0
abbrev pub charged : (spent : ℕ) → Outcome DeckState → GroupOutcome
charged spent o =
    record {
      number = o.number;
      count = o.count;
      left = record { session = o.session; count = spent + o.count };
      out = o.out;
      tag = o.tag;
    }

-- a call for a group, where `lone` is what the lone call gives: refused by a check of 5 to 10 with nothing altered, or that
unfoldable pub on_day : (allowance : ℕ) → GroupState → CallInput → (lone : Outcome DeckState) → GroupOutcome
on_day allowance g i lone = charged g.count (if_no_check (group_check allowance g i) g.session i lone)

abbrev pub wrap_on_day : (allowance : ℕ) → GroupState → CallInput → GroupOutcome
wrap_on_day allowance g i = on_day allowance g i (wrap_from5 sanse incremental g.session i)

abbrev pub unwrap_on_day : (allowance : ℕ) → GroupState → CallInput → GroupOutcome
unwrap_on_day allowance g i = on_day allowance g i (unwrap_from5 sanse incremental g.session i)

-- ---- opening a group

-- what opening gives: its number (0: accepted), its count and the group's record after it
pub record GroupOpening : Type 0 where
  pub number : ℕ
  pub count : ℕ
  pub left : GroupState

-- the first of the checks 4 and 10 that opening meets, or 0. A start counts 1
abbrev pub open_check : (allowance spent : ℕ) → (key : List ℕ) → ℕ
open_check allowance spent key = cond (not (key_fits key)) 4 (cond (above_allowance allowance spent 1) 10 0)

-- by that check: refused with the old session kept, or what a lone start gives
abbrev pub opened_unless : ℕ → SessionState DeckState → Opening → Opening
opened_unless zero s o = o
opened_unless (suc n) s o = record { number = suc n; count = 0; session = s }

-- an opening, with its session in the group's record and its count added to the group's, which is not reset
abbrev pub charged_opening : (spent : ℕ) → Opening → GroupOpening
charged_opening spent o = record { number = o.number; count = o.count; left = record { session = o.session; count = spent + o.count } }

unfoldable pub open_on_day : (allowance : ℕ) → GroupState → (key : List ℕ) → GroupOpening
open_on_day allowance g key = charged_opening g.count (opened_unless (open_check allowance g.count key) g.session (start_at key))

-- ---- the program's records, and what its calls gave, in these words

abbrev pub record_of : Record → GroupState
record_of r = record { session = state_of r.session; count = r.count }

abbrev pub group_opening_result : CallResult Record → GroupOpening
group_opening_result r = record { number = r.number; count = r.count; left = record_of r.left }

abbrev pub group_result : CallResult Record → (out tag : List ℕ) → GroupOutcome
group_result r out tag = record { number = r.number; count = r.count; left = record_of r.left; out = out; tag = tag }
