-- The office's table of 32 records, which document 01 calls the row ("The row"; document 02, requests 4, 5 and 7), and the checks 1 and 3 of "What
-- stops a call": what each call of the table gives and leaves, refused ones included, and what starting a day leaves. A group's own call is that
-- of `groups`' `Groups`, with the checks 4 to 11. Assumes nothing.
use Rattle.std.specs.Prelude.{Result, Ok, Err, Option, None, Some, Bool, true, false, not, ◌||◌, ◌&&◌, cond, List, [], ◌∷◌, map, ℕ, zero, suc, ◌+◌, ltb, eqb, length, get_or, set, replicate}
use Rattle.deck.specs.declared.DeckState.{DeckState}
use Rattle.envelope.specs.Layout.{letter_s}
use Rattle.modes.specs.Call.{CallInput}
use Rattle.modes.specs.Header.{group_fits}
use Rattle.modes.specs.Mode.{sanse, incremental}
use Rattle.modes.specs.Rules.{SessionState, Outcome, closed, wrap_from5, unwrap_from5}
use Rattle.refusals.specs.declared.Refusal.{Refusal}
use Rattle.refusals.specs.Numbers.{number_of}
use Rattle.steps.specs.declared.Answer.{Answer}
use Rattle.groups.specs.declared.Record.{Record}
use Rattle.groups.specs.Groups.{GroupState, new_day, GroupOutcome, GroupOpening, on_day, open_on_day, record_of}

-- ---- the table

-- the records of the table's groups, in order
abbrev pub Table : Type 0
Table = List GroupState

-- a group's record before the first day: a closed session and a count of 0
abbrev pub unopened : GroupState
unopened = record { session = closed; count = 0 }

-- a table begins with 32 of them
abbrev pub new_table : Table
new_table = replicate 32 unopened

-- check 3, by the number of records: the table does not hold 32, or the group is above 31
abbrev pub no_group_outcome : (records group : ℕ) → Bool
no_group_outcome records group = not (eqb records 32) || ltb 31 group

-- its number, or 0 where it is not met
abbrev pub check_group : (records group : ℕ) → ℕ
check_group records group = cond (no_group_outcome records group) 3 0

-- the record of a group, and its session
abbrev pub group_at : Table → (group : ℕ) → GroupState
group_at t group = get_or t group unopened

abbrev pub session_at : Table → (group : ℕ) → SessionState DeckState
session_at t group = (group_at t group).session

-- ---- starting a day

-- what starting a day gives: the allowance of every group, and the records, of any number
pub record DayStart : Type 0 where
  pub allowance : ℕ
  pub table : Table

-- the allowance is the one given, every record's count is 0, and every session stays
abbrev pub start_day_at : (allowance : ℕ) → Table → DayStart
start_day_at allowance t = record { allowance = allowance; table = map new_day t }

-- ---- wrap and unwrap for a group

-- what such a call gives: its number (0: accepted), its count, the whole table, and the output buffer and the tag after it
pub record TableOutcome : Type 0 where
  pub number : ℕ
  pub count : ℕ
  pub table : Table
  pub out : List ℕ
  pub tag : List ℕ

-- refused with nothing altered
abbrev pub refused_by : (number : ℕ) → Table → CallInput → TableOutcome
refused_by number t i = record { number = number; count = 0; table = t; out = i.out; tag = i.tag }

-- whether the call is handed no header, or the layout's with letter S, the call's group and its own lengths: check 1 is not met
abbrev pub header_passes : (group : ℕ) → CallInput → Bool
header_passes group i = group_fits letter_s group i.header (length i.metadata) (length i.text)

-- the first of the checks 1 and 3 that is met, or 0: by whether the header passes, and whether there is no such group
abbrev pub table_check : (passes none : Bool) → ℕ
table_check passes none = cond (not passes) 1 (cond none 3 0)

-- by that check: refused, or what a call gives that meets neither
abbrev pub if_group : ℕ → Table → CallInput → TableOutcome → TableOutcome
if_group zero t i o = o
if_group (suc n) t i o = refused_by (suc n) t i

-- a group's call: its record is written back, and the others stay as they were
abbrev pub written_back : Table → (group : ℕ) → GroupOutcome → TableOutcome
written_back t group o = record { number = o.number; count = o.count; table = set t group o.left; out = o.out; tag = o.tag }

-- a call for a group, where `lone` is what the lone call of the group's session gives that does not meet check 1
unfoldable pub call_group_at : (allowance : ℕ) → Table → (group : ℕ) → CallInput → (lone : Outcome DeckState) → TableOutcome
call_group_at allowance t group i lone =
    if_group (table_check (header_passes group i) (no_group_outcome (length t) group)) t i (written_back t group (on_day allowance (group_at t group) i lone))

abbrev pub wrap_group_at : (allowance : ℕ) → Table → (group : ℕ) → CallInput → TableOutcome
wrap_group_at allowance t group i = call_group_at allowance t group i (wrap_from5 sanse incremental (session_at t group) i)

abbrev pub unwrap_group_at : (allowance : ℕ) → Table → (group : ℕ) → CallInput → TableOutcome
unwrap_group_at allowance t group i = call_group_at allowance t group i (unwrap_from5 sanse incremental (session_at t group) i)

-- ---- opening a group

-- what opening gives: its number, its count and the whole table
pub record TableOpening : Type 0 where
  pub number : ℕ
  pub count : ℕ
  pub table : Table

-- a group's opening: its record is written back
abbrev pub opened_back : Table → (group : ℕ) → GroupOpening → TableOpening
opened_back t group o = record { number = o.number; count = o.count; table = set t group o.left }

unfoldable pub open_group_at : (allowance : ℕ) → Table → (group : ℕ) → (key : List ℕ) → TableOpening
open_group_at allowance t group key =
    cond (no_group_outcome (length t) group) (record { number = 3; count = 0; table = t }) (opened_back t group (open_on_day allowance (group_at t group) key))

-- ---- the nearly-full question (document 02, request 5)

-- a session that is open, with an index above the mark
abbrev pub above_mark : SessionState DeckState → (mark : ℕ) → Bool
above_mark s mark = s.opened && ltb mark s.history.index

-- what the question gives: its number (0: answered), whether it names a group, and the group, 0 where it names none
pub record TableFinding : Type 0 where
  pub number : ℕ
  pub found : Bool
  pub group : ℕ

-- the three findings: a group, none, and refused by 3
abbrev pub group_named : (group : ℕ) → TableFinding
group_named group = record { number = 0; found = true; group = group }

abbrev pub none_named : TableFinding
none_named = record { number = 0; found = false; group = 0 }

abbrev pub refused_finding : TableFinding
refused_finding = record { number = 3; found = false; group = 0 }

-- the search from a group on, over the records of that group and of those after it: it ends with the first whose session is open with an index
-- above the mark, or with none
abbrev pub search_from : (group : ℕ) → (records : Table) → (mark : ℕ) → TableFinding
search_from group [] mark = none_named
search_from group (r ∷ rest) mark = cond (above_mark r.session mark) (group_named group) (search_from (group + 1) rest mark)

-- the question: check 3, or else the search from group 0
unfoldable pub nearly_full_at : Table → (mark : ℕ) → TableFinding
nearly_full_at t mark = cond (not (eqb (length t) 32)) refused_finding (search_from 0 t mark)

-- ---- the program's records, and what its calls gave, in these words

-- the record that zeroed memory holds
abbrev pub zero_record : Record
zero_record =
    record {
      session = record { history = record { acc = replicate 12 0; mask = replicate 12 0; index = 0 }; toggle = false; opened = false };
      count = 0;
    }

-- what a call answers that one of the checks 1 and 3 refuses
abbrev pub refused_answer : Refusal → Answer
refused_answer e = record { number = number_of e; count = 0 }

-- the table that some records are
abbrev pub table_of : List Record → Table
table_of = map record_of

abbrev pub day_result : (allowance : ℕ) → (table : List Record) → DayStart
day_result allowance table = record { allowance = allowance; table = table_of table }

abbrev pub table_result : Answer → (table : List Record) → (out tag : List ℕ) → TableOutcome
table_result r table out tag = record { number = r.number; count = r.count; table = table_of table; out = out; tag = tag }

abbrev pub opening_result : Answer → (table : List Record) → TableOpening
opening_result r table = record { number = r.number; count = r.count; table = table_of table }

-- the number and the values of each case of the program's answer
abbrev pub nearly_full_result : Result (Option ℕ) Refusal → TableFinding
nearly_full_result (Err e) = record { number = number_of e; found = false; group = 0 }
nearly_full_result (Ok None) = none_named
nearly_full_result (Ok (Some group)) = group_named group
