-- The table at first: its calls get 5, the nearly-full question says none, a group can be opened, and zeroed memory holds it
-- (`NewTable` of `specs/Exactly.antt`). Assumes nothing.
use mathlib.Core.Path.{◌≡◌, refl, sym, ap, ◌∙◌}
use mathlib.Core.Logic.{inl, inr}
use mathlib.Core.List.{List}
use Prim.Native.Nat.{ℕ, zero, suc, ◌+◌, ◌<◌, ◌≤◌}
use native.Mathlib.Omega.{arith}
use lib.ListN.{length, get_or, set, replicate, length-replicate}
use Rattle.deck.specs.declared.DeckState.{DeckState}
use Rattle.envelope.specs.Layout.{letter_s}
use Rattle.modes.specs.Call.{CallInput}
use Rattle.modes.specs.Header.{ForGroup}
use Rattle.modes.specs.Mode.{sanse, incremental}
use Rattle.modes.specs.Rules.{SessionState, Outcome, check_from5, check_number, closed, new_session}
use Rattle.groups.specs.Groups.{GroupState, record_of}
use Rattle.office.specs.Table.{unopened, new_table, group_at, session_at, TableOutcome, open_group_at, refused_by, none_named, nearly_full_at, zero_record, table_of}
use Rattle.office.specs.Exactly.{Check3, CallExactly, NewTable}
use Rattle.office.proofs.Exactly.{own-check, wrap-exactly, unwrap-exactly, open-exactly}

-- every group is unopened, those past the end too
unopened-at : (n g : ℕ) → get_or (replicate n unopened) g unopened ≡ unopened
unopened-at zero g = refl
unopened-at (suc n) zero = refl
unopened-at (suc n) (suc g) = unopened-at n g

closed_at : (g : ℕ) → session_at new_table g ≡ closed
closed_at g = ap (λ (r : GroupState). r.session) (unopened-at 32 g)

none-counted : (g : ℕ) → (group_at new_table g).count ≡ 0
none-counted g = ap (λ (r : GroupState). r.count) (unopened-at 32 g)

holds-32 : length new_table ≡ 32
holds-32 = length-replicate 32 unopened

has-group : (g : ℕ) → g ≤ 31 → Check3 new_table g → ⊥
has-group g in_table (inl n) = n holds-32
has-group g in_table (inr above) = omega arith

-- a call of a closed session, with a header that is its own or with none, meets 5
meets-5 : (g : ℕ) (s : SessionState DeckState) (i : CallInput) → ForGroup letter_s g i → s ≡ closed → check_number sanse incremental s i ≡ 5
unfolding check_from5
meets-5 g s i own e = sym (own-check g s i own) ∙ ap (λ (s : SessionState DeckState). check_from5 sanse incremental s i) e

gets-5 : (allowance g : ℕ) (i : CallInput) {lone : Outcome DeckState} {o : TableOutcome} → CallExactly allowance new_table g i lone o
    → ForGroup letter_s g i → g ≤ 31 → o ≡ refused_by 5 new_table i
gets-5 allowance g i {lone} {o} x own in_table =
    let five : check_number sanse incremental (session_at new_table g) i ≡ 5 = meets-5 g (session_at new_table g) i own (closed_at g) in
    let is5 : o.number ≡ 5 = x.five_to_nine own (has-group g in_table) (λ z. omega (arith, z, five)) ∙ five in
    x.unaltered (λ z. omega (arith, z, is5)) (λ z. omega (arith, z, is5)) ∙ ap (λ (n : ℕ). refused_by n new_table i) is5

-- no group is found: none is open
says_none : (mark : ℕ) → nearly_full_at new_table mark ≡ none_named
unfolding nearly_full_at
says_none mark = refl

-- before the first day nothing is allowed
none_allowed : (g : ℕ) (key : List ℕ) → g ≤ 31 → 16 ≤ length key → length key ≤ 47
    → open_group_at 0 new_table g key ≡ record { number = 10; count = 0; table = new_table }
none_allowed g key in_table low high =
    let x = open-exactly 0 new_table g key in
    let above : 0 < (group_at new_table g).count + 1 = omega arith in
    let is10 : (open_group_at 0 new_table g key).number ≡ 10 = x.ten.1 (has-group g in_table, (low, high), above) in
    x.unaltered (λ z. omega (arith, z, is10)) ∙ ap (λ (n : ℕ). record { number = n; count = 0; table = new_table }) is10

-- zeroed memory holds an unopened record, and 32 of them are the new table
pub record_of-zero_record : record_of zero_record ≡ unopened
record_of-zero_record = refl

pub zeroed : table_of (replicate 32 zero_record) ≡ new_table
zeroed = refl

pub new-table : NewTable
new-table =
    record {
      wraps = λ allowance g i. gets-5 allowance g i (wrap-exactly allowance new_table g i).call;
      unwraps = λ allowance g i. gets-5 allowance g i (unwrap-exactly allowance new_table g i);
      none = says_none;
      opens = λ allowance g key in_table low high some.
          (open-exactly allowance new_table g key).accepted (has-group g in_table) low high (λ above. omega (arith, above, some, none-counted g))
          ∙ ap (λ (n : ℕ). record { number = 0; count = 1; table = set new_table g (record { session = new_session key; count = n + 1 }) }) (none-counted g);
      before = none_allowed;
      day = λ allowance. refl;
      record_of-zero_record = record_of-zero_record;
      zeroed = zeroed;
    }
