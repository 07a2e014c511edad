-- What a group's calls give and leave, worked out from its own record and nothing else; and that a call of the table gives and leaves that for
-- its own group, and leaves the others. Assumes nothing.
use mathlib.Core.Path.{◌≡◌, refl, sym, ap, ◌∙◌}
use mathlib.Core.Logic.{◌≢◌}
use mathlib.Core.Bool.{Bool, true, false, cond, true≢false}
use mathlib.Core.List.{List, [], ◌∷◌}
use Prim.Native.Nat.{ℕ, ◌<◌}
use native.Mathlib.Omega.{arith}
use lib.ListN.{length, length-map}
use lib.Seq.{get_or-set_same, set-get_or}
use borrow.Author.Tests.{eq-eqb, le-ltb}
use Rattle.deck.specs.declared.DeckState.{DeckState}
use Rattle.modes.specs.Call.{CallInput}
use Rattle.modes.specs.Mode.{sanse, incremental}
use Rattle.modes.specs.Rules.{Outcome, wrap_from5, unwrap_from5}
use Rattle.steps.specs.declared.Answer.{Answer}
use Rattle.groups.specs.declared.Record.{Record}
use Rattle.groups.specs.Groups.{GroupState, GroupOutcome, GroupOpening, on_day, wrap_on_day, unwrap_on_day, open_on_day, record_of}
use Rattle.office.specs.Table.{Table, unopened, no_group_outcome, group_at, session_at, TableOutcome, TableOpening, header_passes, table_check, if_group, written_back, opened_back, call_group_at, open_group_at, table_of, table_result, opening_result}
use Rattle.office.specs.Exactly.{CallExactly}
use Rattle.office.proofs.Exactly.{wrap-exactly, unwrap-exactly, open-exactly}
use Rattle.isolation.specs.Calls.{Opened, Wrapped, Unwrapped, Request, opening, wrap, unwrap, GroupCall, Given}

-- ---- from a group's own record

-- what a wrap or an unwrap gives a group, by whether its header passes: the group's own call `o`, or refused by 1 with nothing altered
abbrev pub by_header : (passes : Bool) → CallInput → GroupState → (o : GroupOutcome) → GroupOutcome
by_header true i s o = o
by_header false i s o = record { number = 1; count = 0; left = s; out = i.out; tag = i.tag }

-- what such a call gave
abbrev pub call_given : GroupOutcome → Given
call_given o = record { answer = record { number = o.number; count = o.count }; out = o.out; tag = o.tag }

module _ (allowance : ℕ) where
  -- a wrap and an unwrap for a group
  abbrev pub own_wrap : (group : ℕ) → CallInput → GroupState → GroupOutcome
  own_wrap group i s = by_header (header_passes group i) i s (wrap_on_day allowance s i)

  abbrev pub own_unwrap : (group : ℕ) → CallInput → GroupState → GroupOutcome
  own_unwrap group i s = by_header (header_passes group i) i s (unwrap_on_day allowance s i)

  -- what a request to a group gives
  abbrev pub request_given : (group : ℕ) → Request → GroupState → Given
  request_given group (opening key) s =
      record {
        answer = record { number = (open_on_day allowance s key).number; count = (open_on_day allowance s key).count };
        out = [];
        tag = [];
      }
  request_given group (wrap i) s = call_given (own_wrap group i s)
  request_given group (unwrap i) s = call_given (own_unwrap group i s)

  -- the record that it leaves
  abbrev pub request_left : (group : ℕ) → Request → GroupState → GroupState
  request_left group (opening key) s = (open_on_day allowance s key).left
  request_left group (wrap i) s = (own_wrap group i s).left
  request_left group (unwrap i) s = (own_unwrap group i s).left

  -- what the requests of calls give, one after the other, and the record that they leave
  abbrev pub given_by : GroupCall → GroupState → Given
  given_by c = request_given c.group c.request

  abbrev pub left_by : GroupCall → GroupState → GroupState
  left_by c = request_left c.group c.request

  unfoldable pub all_given : List GroupCall → GroupState → List Given
  all_given [] s = []
  all_given (c ∷ cs) s = given_by c s ∷ all_given cs (left_by c s)

  unfoldable pub all_left : List GroupCall → GroupState → GroupState
  all_left [] s = s
  all_left (c ∷ cs) s = all_left cs (left_by c s)

-- ---- one call of the table

-- the record of a group in the table that some records are
abbrev pub held : List Record → (g : ℕ) → GroupState
held l g = group_at (table_of l) g

-- the call c gave x, from the records `from`, and left `next`: by its own group's record, and of the others' nothing is altered
pub record Step (allowance : ℕ) (c : GroupCall) (x : Given) (from next : List Record) : Type 0 where
  pub size : length next ≡ length from
  pub given : length from ≡ 32 → c.group < 32 → x ≡ given_by allowance c (held from c.group)
  pub left : length from ≡ 32 → c.group < 32 → held next c.group ≡ left_by allowance c (held from c.group)
  pub others : (g : ℕ) → g ≢ c.group → held next g ≡ held from g

-- check 3 is not met
present : (l : List Record) (k : ℕ) → length l ≡ 32 → k < 32 → no_group_outcome (length (table_of l)) k ≡ false
present l k n less = rw (eq-eqb (length (table_of l)) 32 (length-map l record_of ∙ n), le-ltb 31 k (omega arith))

in_table : (l : List Record) (k : ℕ) → length l ≡ 32 → k < 32 → k < length (table_of l)
in_table l k n less = omega (arith, length-map l record_of)

-- a wrap or an unwrap, where `lone` is what the lone call gives that does not meet check 1, and `claimed` what the lone call gives
module _ (allowance : ℕ) (from next : List Record) (k : ℕ) (i : CallInput) (lone : Outcome DeckState) {claimed : Outcome DeckState} (r : Answer)
    (out tag : List ℕ) (promised : table_result r next out tag ≡ call_group_at allowance (table_of from) k i lone)
    (exactly : CallExactly allowance (table_of from) k i claimed (call_group_at allowance (table_of from) k i lone)) where
  call-size : length next ≡ length from
  call-size =
      sym (length-map next record_of) ∙ ap (λ (o : TableOutcome). length o.table) promised ∙ exactly.size ∙ length-map from record_of

  call-others : (g : ℕ) → g ≢ k → held next g ≡ held from g
  call-others g n = ap (λ (o : TableOutcome). group_at o.table g) promised ∙ exactly.others g n

  module _ (n : length from ≡ 32) (less : k < 32) where
    abbrev own : GroupOutcome
    own = by_header (header_passes k i) i (held from k) (on_day allowance (held from k) i lone)

    -- by how the checks 1 and 3 come out
    by-checks : (p q : Bool) → q ≡ false
        → if_group (table_check p q) (table_of from) i (written_back (table_of from) k (on_day allowance (held from k) i lone))
        ≡ written_back (table_of from) k (by_header p i (held from k) (on_day allowance (held from k) i lone))
    by-checks true true e = absurd (true≢false e)
    by-checks true false e = refl
    by-checks false q e =
        ap (λ (u : Table). record { number = 1; count = 0; table = u; out = i.out; tag = i.tag }) (sym (set-get_or (table_of from) k unopened))

    is-own : table_result r next out tag ≡ written_back (table_of from) k own
    unfolding call_group_at
    is-own = promised ∙ by-checks (header_passes k i) (no_group_outcome (length (table_of from)) k) (present from k n less)

    call-given : ◌≡◌ {A = Given} (record { answer = r; out = out; tag = tag }) (call_given own)
    call-given =
        ap (λ (o : TableOutcome). record { answer = record { number = o.number; count = o.count }; out = o.out; tag = o.tag }) is-own

    call-left : held next k ≡ own.left
    call-left =
        ap (λ (o : TableOutcome). group_at o.table k) is-own ∙ get_or-set_same (table_of from) k own.left unopened (in_table from k n less)

pub wrap-step : (allowance : ℕ) (from next : List Record) (k : ℕ) (i : CallInput) (r : Answer) (out tag : List ℕ)
    → Wrapped allowance from k i r next out tag
    → Step allowance (record { group = k; request = wrap i }) (record { answer = r; out = out; tag = tag }) from next
wrap-step allowance from next k i r out tag e =
    let lone = wrap_from5 sanse incremental (session_at (table_of from) k) i in
    let x = (wrap-exactly allowance (table_of from) k i).call in
    record {
      size = call-size allowance from next k i lone r out tag e x;
      given = call-given allowance from next k i lone r out tag e x;
      left = call-left allowance from next k i lone r out tag e x;
      others = call-others allowance from next k i lone r out tag e x;
    }

pub unwrap-step : (allowance : ℕ) (from next : List Record) (k : ℕ) (i : CallInput) (r : Answer) (out tag : List ℕ)
    → Unwrapped allowance from k i r next out tag
    → Step allowance (record { group = k; request = unwrap i }) (record { answer = r; out = out; tag = tag }) from next
unwrap-step allowance from next k i r out tag e =
    let lone = unwrap_from5 sanse incremental (session_at (table_of from) k) i in
    let x = unwrap-exactly allowance (table_of from) k i in
    record {
      size = call-size allowance from next k i lone r out tag e x;
      given = call-given allowance from next k i lone r out tag e x;
      left = call-left allowance from next k i lone r out tag e x;
      others = call-others allowance from next k i lone r out tag e x;
    }

-- an opening
module _ (allowance : ℕ) (from next : List Record) (k : ℕ) (key : List ℕ) (r : Answer) (promised : Opened allowance from k key r next) where
  abbrev fresh : GroupOpening
  fresh = open_on_day allowance (held from k) key

  -- what it gives, by how check 3 comes out
  abbrev by3 : Bool → TableOpening
  by3 b = cond b (record { number = 3; count = 0; table = table_of from }) (opened_back (table_of from) k fresh)

  is-by3 : opening_result r next ≡ by3 (no_group_outcome (length (table_of from)) k)
  unfolding open_group_at
  is-by3 = promised

  open-size : length next ≡ length from
  open-size =
      sym (length-map next record_of) ∙ ap (λ (o : TableOpening). length o.table) promised ∙ (open-exactly allowance (table_of from) k key).size
      ∙ length-map from record_of

  open-others : (g : ℕ) → g ≢ k → held next g ≡ held from g
  open-others g n = ap (λ (o : TableOpening). group_at o.table g) promised ∙ (open-exactly allowance (table_of from) k key).others g n

  module _ (n : length from ≡ 32) (less : k < 32) where
    is_open : opening_result r next ≡ opened_back (table_of from) k fresh
    is_open = is-by3 ∙ ap by3 (present from k n less)

    open-given : ◌≡◌ {A = Given} (record { answer = r; out = []; tag = [] })
        (record { answer = record { number = fresh.number; count = fresh.count }; out = []; tag = [] })
    open-given = ap (λ (o : TableOpening). record { answer = record { number = o.number; count = o.count }; out = []; tag = [] }) is_open

    open-left : held next k ≡ fresh.left
    open-left =
        ap (λ (o : TableOpening). group_at o.table k) is_open ∙ get_or-set_same (table_of from) k fresh.left unopened (in_table from k n less)

  pub open_step : Step allowance (record { group = k; request = opening key }) (record { answer = r; out = []; tag = [] }) from next
  open_step = record { size = open-size; given = open-given; left = open-left; others = open-others }
