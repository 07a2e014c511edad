-- The numbers 1, 3, 4 and 10 at the table, each given if and only if its condition holds and no earlier one does, with the conditions as plain
-- statements; what a call gives that meets none of them, and what it leaves of the table; starting a day, record by record; the nearly-full
-- question's answer; and the table at first (document 01, "What stops a call" and "The row"; document 02, requests 4, 5 and 7). Assumes nothing.
use Rattle.std.specs.Prelude.{Result, Option, true, false, List, ◌↔◌, ◌≢◌, ◌⊎◌, ◌≡◌, ℕ, ◌+◌, ◌<◌, ◌≤◌, length, set, replicate}
use Rattle.deck.specs.declared.DeckState.{DeckState}
use Rattle.envelope.specs.Layout.{letter_s}
use Rattle.modes.specs.Call.{CallInput}
use Rattle.modes.specs.Header.{HeaderOf, ForGroup}
use Rattle.modes.specs.Mode.{sanse, incremental}
use Rattle.modes.specs.Rules.{Outcome, check_number, count_of, new_session, wrap_at, unwrap_at}
use Rattle.groups.specs.Groups.{charged, record_of}
use Rattle.refusals.specs.declared.Refusal.{Refusal}
use Rattle.office.specs.Table.{Table, unopened, new_table, group_at, session_at, DayStart, start_day_at, TableOutcome, TableOpening, refused_by, written_back, wrap_group_at, unwrap_group_at, open_group_at, TableFinding, none_named, nearly_full_at, table_of, zero_record, nearly_full_result}

-- 1: the call is handed a header that is not the layout's with letter S, the call's group and its own lengths
abbrev pub Check1 : (group : ℕ) → CallInput → Type 0
Check1 group i = ForGroup letter_s group i → ⊥

-- 3: the table does not hold 32 records, or the group is above 31
abbrev pub Check3 : Table → (group : ℕ) → Type 0
Check3 t group = (length t ≢ 32) ⊎ (31 < group)

-- 10: the allowance is smaller than the group's count of the day plus this call's count
abbrev pub Check10 : (allowance : ℕ) → Table → (group count : ℕ) → Type 0
Check10 allowance t group count = allowance < (group_at t group).count + count

-- ---- starting a day

-- the records o that are left of t, of any number
pub record DayExactly (allowance : ℕ) (t : Table) (o : DayStart) : Type 0 where
  pub given : o.allowance ≡ allowance
  pub size : length o.table ≡ length t
  -- every record's count is 0, and every session stays
  pub counts : (k : ℕ) → (group_at o.table k).count ≡ 0
  pub sessions : (k : ℕ) → session_at o.table k ≡ session_at t k

-- ---- wrap and unwrap for a group

-- a call meets none of 1, 3 and 5 to 10 (`check_number` of the modes' rules gives the first check that the lone call of the group's own session meets,
-- or 0; where the header is the call's own, or none, it is one of 5 to 9)
pub record NoCheckMet (allowance : ℕ) (t : Table) (group : ℕ) (i : CallInput) : Type 0 where
  pub one : ForGroup letter_s group i
  pub three : Check3 t group → ⊥
  pub five_to_nine : check_number sanse incremental (session_at t group) i ≡ 0
  pub ten : Check10 allowance t group (count_of sanse incremental i) → ⊥

-- the outcome o of a wrap or an unwrap for a group, where `lone` is what the lone call gives
pub record CallExactly (allowance : ℕ) (t : Table) (group : ℕ) (i : CallInput) (lone : Outcome DeckState) (o : TableOutcome) : Type 0 where
  pub one : (o.number ≡ 1) ↔ Check1 group i
  pub three : (o.number ≡ 3) ↔ (ForGroup letter_s group i × Check3 t group)
  pub five_to_nine : ForGroup letter_s group i → (Check3 t group → ⊥) → check_number sanse incremental (session_at t group) i ≢ 0
      → o.number ≡ check_number sanse incremental (session_at t group) i
  pub only_five_to_nine : 5 ≤ o.number → o.number ≤ 9
      → ForGroup letter_s group i × (Check3 t group → ⊥) × (check_number sanse incremental (session_at t group) i ≡ o.number)
  pub ten : (o.number ≡ 10)
      ↔ (ForGroup letter_s group i × (Check3 t group → ⊥) × (check_number sanse incremental (session_at t group) i ≡ 0)
      × Check10 allowance t group (count_of sanse incremental i))
  -- a refusal by another number than 11 has count 0 and alters nothing
  pub unaltered : o.number ≢ 0 → o.number ≢ 11 → o ≡ refused_by o.number t i
  -- 0 or 11 is given if and only if none of the others is met, and then
  pub none : ((o.number ≡ 0) ⊎ (o.number ≡ 11)) ↔ NoCheckMet allowance t group i
  -- the call gives what the lone call gives, its session in the group's record, its count added to the group's
  pub worked : NoCheckMet allowance t group i → o ≡ written_back t group (charged (group_at t group).count lone)
  -- and the count is the real one
  pub counted : NoCheckMet allowance t group i → o.count ≡ count_of sanse incremental i
  -- number 11 has the real count too, and leaves the session
  pub eleven : o.number ≡ 11 → (o.count ≡ count_of sanse incremental i) × (session_at o.table group ≡ session_at t group)
  -- the call's count is added to the group's
  pub added : (group_at o.table group).count ≡ (group_at t group).count + o.count
  -- the other groups' records do not alter, neither session nor count
  pub others : (k : ℕ) → k ≢ group → group_at o.table k ≡ group_at t k
  pub size : length o.table ≡ length t

-- a wrap, which never gets 11
pub record WrapGroupExactly (allowance : ℕ) (t : Table) (group : ℕ) (i : CallInput) : Type 0 where
  pub call : CallExactly allowance t group i (wrap_at sanse incremental (session_at t group) i) (wrap_group_at allowance t group i)
  pub never_11 : (wrap_group_at allowance t group i).number ≢ 11

-- an unwrap, which gets 11 where the lone one does
abbrev pub UnwrapGroupExactly : (allowance : ℕ) → Table → (group : ℕ) → CallInput → Type 0
UnwrapGroupExactly allowance t group i =
    CallExactly allowance t group i (unwrap_at sanse incremental (session_at t group) i) (unwrap_group_at allowance t group i)

-- a call with the header of another group, right in all else, as that of an envelope whose group was changed on its way: 1, and nothing is altered
abbrev pub WrongGroup : Type 0
WrongGroup =
    (allowance : ℕ) (t : Table) (group other : ℕ) (i : CallInput) → HeaderOf letter_s other i → other ≢ group
    → (wrap_group_at allowance t group i ≡ refused_by 1 t i) × (unwrap_group_at allowance t group i ≡ refused_by 1 t i)

-- ---- opening a group

-- the outcome o of opening a group
pub record OpenExactly (allowance : ℕ) (t : Table) (group : ℕ) (key : List ℕ) (o : TableOpening) : Type 0 where
  pub three : (o.number ≡ 3) ↔ Check3 t group
  pub four : (o.number ≡ 4) ↔ ((Check3 t group → ⊥) × ((length key < 16) ⊎ (47 < length key)))
  pub ten : (o.number ≡ 10) ↔ ((Check3 t group → ⊥) × ((16 ≤ length key) × (length key ≤ 47)) × Check10 allowance t group 1)
  -- accepted: it counts 1, and a fresh session stands in the group's record, whose count is not reset
  pub accepted : (Check3 t group → ⊥) → 16 ≤ length key → length key ≤ 47 → (Check10 allowance t group 1 → ⊥)
      → o ≡ record { number = 0; count = 1; table = set t group (record { session = new_session key; count = (group_at t group).count + 1 }) }
  -- a refusal has count 0 and alters nothing
  pub unaltered : o.number ≢ 0 → o ≡ record { number = o.number; count = 0; table = t }
  -- the other groups' records do not alter, neither session nor count
  pub others : (k : ℕ) → k ≢ group → group_at o.table k ≡ group_at t k
  pub size : length o.table ≡ length t

-- ---- the nearly-full question

-- one of the 32 groups, open with an index above the mark
pub record OpenAbove (t : Table) (mark group : ℕ) : Type 0 where
  pub in_table : group < 32
  pub opened : (session_at t group).opened ≡ true
  pub above : mark < (session_at t group).history.index

-- the lowest of them
pub record LowestAbove (t : Table) (mark group : ℕ) : Type 0 where
  pub above : OpenAbove t mark group
  pub no_lower : (k : ℕ) → k < group → OpenAbove t mark k → ⊥

-- what is claimed of its finding r
pub record FoundExactly (t : Table) (mark : ℕ) (r : TableFinding) : Type 0 where
  pub three : (r.number ≡ 3) ↔ (length t ≢ 32)
  pub answered : (r.number ≡ 0) ↔ (length t ≡ 32)
  -- 3 names no group
  pub three_names_none : r.number ≡ 3 → r.found ≡ false
  -- a group is named if and only if it is the lowest
  pub named : (group : ℕ) → ((r.found ≡ true) × (r.group ≡ group)) ↔ ((length t ≡ 32) × LowestAbove t mark group)
  -- "none" is said if and only if there is none
  pub none : ((r.number ≡ 0) × (r.found ≡ false)) ↔ ((length t ≡ 32) × ((group : ℕ) → OpenAbove t mark group → ⊥))
  -- where none is named, by 3 or by "none", the group is 0
  pub unnamed : r.found ≡ false → r.group ≡ 0

-- the claim holds of the search from group 0, and of nothing else; so the answer is a function of table and mark
pub record FoundDecided (t : Table) (mark : ℕ) : Type 0 where
  pub search : (r : TableFinding) → FoundExactly t mark r ↔ (r ≡ nearly_full_at t mark)
  pub two : (r s : TableFinding) → FoundExactly t mark r → FoundExactly t mark s → r ≡ s
  -- and so it is as the program gives it, by cases
  pub answers : (r s : Result (Option ℕ) Refusal) → FoundExactly t mark (nearly_full_result r) → FoundExactly t mark (nearly_full_result s) → r ≡ s

-- ---- the table at first

pub record NewTable : Type 0 where
  -- wrap and unwrap for a group, with a header that is their own or with none, get 5, and nothing is altered
  pub wraps : (allowance group : ℕ) (i : CallInput) → ForGroup letter_s group i → group ≤ 31
      → wrap_group_at allowance new_table group i ≡ refused_by 5 new_table i
  pub unwraps : (allowance group : ℕ) (i : CallInput) → ForGroup letter_s group i → group ≤ 31
      → unwrap_group_at allowance new_table group i ≡ refused_by 5 new_table i
  -- the nearly-full question says none
  pub none : (mark : ℕ) → nearly_full_at new_table mark ≡ none_named
  -- where anything is allowed a group can be opened, and before the first day, where the allowance is 0, none can
  pub opens : (allowance group : ℕ) (key : List ℕ) → group ≤ 31 → 16 ≤ length key → length key ≤ 47 → 1 ≤ allowance
      → open_group_at allowance new_table group key
      ≡ record { number = 0; count = 1; table = set new_table group (record { session = new_session key; count = 1 }) }
  pub before : (group : ℕ) (key : List ℕ) → group ≤ 31 → 16 ≤ length key → length key ≤ 47
      → open_group_at 0 new_table group key ≡ record { number = 10; count = 0; table = new_table }
  -- starting a day leaves it
  pub day : (allowance : ℕ) → start_day_at allowance new_table ≡ record { allowance = allowance; table = new_table }
  -- zeroed memory holds such a record, and 32 of them are such a table
  pub record_of-zero_record : record_of zero_record ≡ unopened
  pub zeroed : table_of (replicate 32 zero_record) ≡ new_table
