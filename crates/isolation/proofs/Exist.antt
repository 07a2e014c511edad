-- Every list of calls has a run, and a day can be started (`RunsExist` of `specs/Isolation.antt`). Assumes nothing.
use mathlib.Core.Path.{◌≡◌, refl, ap}
use mathlib.Core.List.{List, [], ◌∷◌, map}
use Prim.Native.Nat.{ℕ}
use Rattle.groups.specs.declared.Record.{Record}
use Rattle.groups.specs.Groups.{GroupState, record_of}
use Rattle.office.specs.Table.{Table, DayStart, start_day_at, TableOutcome, wrap_group_at, unwrap_group_at, TableOpening, open_group_at, table_of, day_result, table_result, opening_result}
use Rattle.isolation.specs.Calls.{Request, opening, wrap, unwrap, GroupCall, Given, Run, none, opened, wrapped, unwrapped}
use Rattle.isolation.specs.Isolation.{RunsExist}

-- ---- the records that a table is

abbrev pub holding : GroupState → Record
holding s =
    record {
      session = record { history = s.session.history; toggle = s.session.toggle; opened = s.session.opened };
      count = s.count;
    }

abbrev pub records : Table → List Record
records = map holding

-- they are that table
pub records-of : (t : Table) → table_of (records t) ≡ t
records-of [] = refl
records-of (s ∷ t) = ap (λ (u : Table). s ∷ u) (records-of t)

-- a record is told by its session and count
pub one-record : (r s : Record) → record_of r ≡ record_of s → r ≡ s
one-record r s e = ap holding e

-- ---- what each call may give

made : (o : TableOutcome) → table_result (record { number = o.number; count = o.count }) (records o.table) o.out o.tag ≡ o
made o = ap (λ (t : Table). record { number = o.number; count = o.count; table = t; out = o.out; tag = o.tag }) (records-of o.table)

made-opening : (o : TableOpening) → opening_result (record { number = o.number; count = o.count }) (records o.table) ≡ o
made-opening o = ap (λ (t : Table). record { number = o.number; count = o.count; table = t }) (records-of o.table)

made-day : (o : DayStart) → day_result o.allowance (records o.table) ≡ o
made-day o = ap (λ (t : Table). record { allowance = o.allowance; table = t }) (records-of o.table)

-- ---- runs

module _ (allowance : ℕ) where
  -- from any records there is a run of the calls
  abbrev Runs : List GroupCall → Type 0
  Runs cs = (from : List Record) → (gs : List Given) × (to : List Record) × Run allowance cs from gs to

  goes_on : (q : Request) (k : ℕ) (cs : List GroupCall) → Runs cs → Runs (record { group = k; request = q } ∷ cs)
  goes_on (opening key) k cs rest from =
      let o = open_group_at allowance (table_of from) k key in
      let w = rest (records o.table) in
      (_, w.1, opened (made-opening o) w.2)
  goes_on (wrap i) k cs rest from =
      let o = wrap_group_at allowance (table_of from) k i in
      let w = rest (records o.table) in
      (_, w.1, wrapped (made o) w.2)
  goes_on (unwrap i) k cs rest from =
      let o = unwrap_group_at allowance (table_of from) k i in
      let w = rest (records o.table) in
      (_, w.1, unwrapped (made o) w.2)

  every : (cs : List GroupCall) → Runs cs
  every [] from = ([], from, none)
  every (c ∷ cs) from = goes_on c.request c.group cs (every cs) from

pub runs-exist : RunsExist
runs-exist =
    record {
      runs = every;
      starts = λ allowance from.
          let o = start_day_at allowance (table_of from) in
          (o.allowance, records o.table, made-day o);
    }
