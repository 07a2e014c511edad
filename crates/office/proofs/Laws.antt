-- How the checks 1 and 3 come out, and what a group's call leaves of the whole table, over plain values. Assumes nothing.
use mathlib.Core.Path.{◌≡◌, refl, sym, ap, ◌∙◌, subst}
use mathlib.Core.Bool.{Bool, true, false, not, ◌||◌, cond}
use mathlib.Core.List.{List, [], ◌∷◌}
use Prim.Native.Nat.{ℕ, zero, suc, ◌<◌, ◌≤◌}
use native.Mathlib.Omega.{arith}
use lib.Dec.{T as Holds, ltb, eqb}
use lib.ListN.{length, get_or, set, length-map, get_or-map}
use Rattle.std.proofs.lemmas.List.{get_or_default}
use borrow.Author.Tests.{ltb-false, eqb-true}
use Rattle.deck.specs.declared.DeckState.{DeckState}
use Rattle.envelope.specs.Layout.{letter_s}
use Rattle.modes.specs.Call.{CallHeader, bare, CallInput}
use Rattle.modes.specs.Header.{group_fits}
use Rattle.modes.specs.Rules.{SessionState, Outcome}
use Rattle.refusals.specs.declared.Refusal.{Refusal}
use Rattle.refusals.specs.Numbers.{number_of}
use Rattle.refusals.proofs.Numbers.{number-positive}
use Rattle.steps.specs.declared.Answer.{Answer}
use Rattle.steps.specs.declared.CallResult.{CallResult}
use Rattle.groups.specs.declared.Record.{Record}
use Rattle.groups.specs.Groups.{GroupState, GroupOutcome, on_day, open_on_day, record_of, group_result, group_opening_result}
use Rattle.office.specs.Table.{Table, no_group_outcome, check_group, group_at, session_at, TableOutcome, refused_by, header_passes, table_check, if_group, written_back, call_group_at, opened_back, open_group_at, zero_record, refused_answer, table_of, table_result, opening_result}

-- ---- check 3

-- it is met, by a refusal's number
met : (e : Refusal) (none : Bool) → number_of e ≡ cond none 3 0 → (none ≡ true) × (number_of e ≡ 3)
met e true h = (refl, h)
met e false h = let positive = number-positive e in absurd (omega arith)

-- it is not
pub passed : (none : Bool) → ◌≡◌ {A = ℕ} 0 (cond none 3 0) → none ≡ false
passed true h = absurd (omega arith)
passed false h = refl

pub in_table : (n g : ℕ) → no_group_outcome n g ≡ false → (n ≡ 32) × (g ≤ 31)
in_table n g = go (eqb n 32) (ltb 31 g) refl refl
  where
    go : (u v : Bool) → eqb n 32 ≡ u → ltb 31 g ≡ v → (not u || v) ≡ false → (n ≡ 32) × (g ≤ 31)
    go true false e f _ = (eqb-true n 32 e, ltb-false 31 g f)
    go true true e f z = absurd (subst Holds z tt)
    go false v e f z = absurd (subst Holds z tt)

pub inside : (n g : ℕ) → no_group_outcome n g ≡ false → g < n
inside n g z = let w = in_table n g z in omega (arith, w.0, w.1)

-- ---- the program's records and the table's

pub group_at_lem : (l : List Record) (g : ℕ) → record_of (get_or l g zero_record) ≡ group_at (table_of l) g
group_at_lem l g = sym (get_or-map record_of l g zero_record)

-- a group within the table, by whatever is read past its end
pub group_read : (l : List Record) (g : ℕ) (d : Record) → g < length l → record_of (get_or l g d) ≡ group_at (table_of l) g
group_read l g d less = ap record_of (get_or_default l g d zero_record less) ∙ group_at_lem l g

set-table : (l : List Record) (g : ℕ) (r : Record) → table_of (set l g r) ≡ set (table_of l) g (record_of r)
set-table [] g r = refl
set-table (x ∷ l) zero r = refl
set-table (x ∷ l) (suc g) r = ap (λ (t : Table). record_of x ∷ t) (set-table l g r)

test-is : (l : List Record) (g : ℕ) (t : Bool) → no_group_outcome (length l) g ≡ t → t ≡ no_group_outcome (length (table_of l)) g
test-is l g t e = sym (ap (λ (n : ℕ). no_group_outcome n g) (length-map l record_of) ∙ e)

-- a refused call answers with its check's number, and counts nothing
refused-with : (e : Refusal) → refused_answer e ≡ record { number = number_of e; count = 0 }
refused-with e = grind arith

-- ---- wrap and unwrap for a group: `lone` is the lone call

module _ (lone : SessionState DeckState → CallInput → Outcome DeckState) (allowance : ℕ) (i : CallInput) (l : List Record) (g : ℕ) where
  -- what a group's own call gives, and what it gives of the table
  abbrev own : GroupState → GroupOutcome
  own r = on_day allowance r i (lone r.session i)

  abbrev whole : TableOutcome
  whole = call_group_at allowance (table_of l) g i (lone (session_at (table_of l) g) i)

  -- the first of the checks 1 and 3
  abbrev stop : ℕ
  stop = table_check (header_passes g i) (no_group_outcome (length l) g)

  -- it decides what the call gives
  call_by : (n : ℕ) → stop ≡ n → if_group n (table_of l) i (written_back (table_of l) g (own (group_at (table_of l) g))) ≡ whole
  unfolding call_group_at
  call_by n e =
      ap (λ (k : ℕ). if_group k (table_of l) i (written_back (table_of l) g (own (group_at (table_of l) g))))
      (sym e ∙ ap (λ (k : ℕ). table_check (header_passes g i) (no_group_outcome k g)) (sym (length-map l record_of)))

  -- with a number above 0 it refuses
  refuses : (n : ℕ) → 0 < n → (t : Table) (o : TableOutcome) → refused_by n t i ≡ if_group n t i o
  refuses zero p t o = absurd (omega arith)
  refuses (suc n) p t o = refl

  pub call-refused : (e : Refusal) → number_of e ≡ stop → (r : Answer) → r ≡ refused_answer e → table_result r l i.out i.tag ≡ whole
  call-refused e h r is =
      ap (λ (r : Answer). table_result r l i.out i.tag) (is ∙ refused-with e)
      ∙ refuses (number_of e) (number-positive e) (table_of l) (written_back (table_of l) g (own (group_at (table_of l) g)))
      ∙ call_by (number_of e) (sym h)

  -- what a group's call gave, with its record written back, is what the rules say of the whole table
  pub call-stored : 0 ≡ stop → g < length l → (r : CallResult Record) (d : Record) {out tag : List ℕ}
      → group_result r out tag ≡ own (record_of (get_or l g d))
      → (a : Answer) → a ≡ record { number = r.number; count = r.count } → table_result a (set l g r.left) out tag ≡ whole
  call-stored e less r d {out} {tag} met a is =
      ap (λ (a : Answer). table_result a (set l g r.left) out tag) is
      ∙ ap (λ (t : Table). record { number = r.number; count = r.count; table = t; out = out; tag = tag }) (set-table l g r.left)
      ∙ ap (written_back (table_of l) g) (met ∙ ap own (group_read l g d less))
      ∙ call_by 0 (sym e)

-- a call that is handed no header, by check 3 alone
module _ (lone : SessionState DeckState → CallInput → Outcome DeckState) (allowance : ℕ) (i : CallInput) (without : i.header ≡ bare) (l : List Record) (g : ℕ) where
  bare-stop : check_group (length l) g ≡ stop lone allowance i l g
  bare-stop =
      sym (ap (λ (h : CallHeader). table_check (group_fits letter_s g h (length i.metadata) (length i.text)) (no_group_outcome (length l) g)) without)

  pub bare-refused : (e : Refusal) → number_of e ≡ check_group (length l) g → (r : Answer) → r ≡ refused_answer e
      → table_result r l i.out i.tag ≡ whole lone allowance i l g
  bare-refused e h r is = call-refused lone allowance i l g e (h ∙ bare-stop) r is

  pub bare-stored : 0 ≡ check_group (length l) g → (r : CallResult Record) (d : Record) {out tag : List ℕ}
      → group_result r out tag ≡ own lone allowance i l g (record_of (get_or l g d))
      → (a : Answer) → a ≡ record { number = r.number; count = r.count } → table_result a (set l g r.left) out tag ≡ whole lone allowance i l g
  bare-stored e r d given a is =
      call-stored lone allowance i l g (e ∙ bare-stop) (inside (length l) g (passed (no_group_outcome (length l) g) e)) r d given a is

-- ---- opening a group

module _ (allowance : ℕ) (key : List ℕ) (l : List Record) (g : ℕ) where
  open_by : (t : Bool) → no_group_outcome (length l) g ≡ t
      → cond t (record { number = 3; count = 0; table = table_of l }) (opened_back (table_of l) g (open_on_day allowance (group_at (table_of l) g) key))
      ≡ open_group_at allowance (table_of l) g key
  unfolding open_group_at
  open_by t e =
      ap (λ (u : Bool). cond u (record { number = 3; count = 0; table = table_of l }) (opened_back (table_of l) g (open_on_day allowance (group_at (table_of l) g) key)))
      (test-is l g t e)

  pub open-refused : (e : Refusal) → number_of e ≡ check_group (length l) g → (r : Answer) → r ≡ refused_answer e
      → opening_result r l ≡ open_group_at allowance (table_of l) g key
  open-refused e h r is =
      let w = met e (no_group_outcome (length l) g) h in
      ap (λ (r : Answer). opening_result r l) (is ∙ refused-with e)
      ∙ ap (λ (n : ℕ). record { number = n; count = 0; table = table_of l }) w.1
      ∙ open_by true w.0

  pub open-stored : 0 ≡ check_group (length l) g → (r : CallResult Record) (d : Record)
      → group_opening_result r ≡ open_on_day allowance (record_of (get_or l g d)) key
      → (a : Answer) → a ≡ record { number = r.number; count = r.count }
      → opening_result a (set l g r.left) ≡ open_group_at allowance (table_of l) g key
  open-stored e r d given a is =
      let has = passed (no_group_outcome (length l) g) e in
      ap (λ (a : Answer). opening_result a (set l g r.left)) is
      ∙ ap (λ (t : Table). record { number = r.number; count = r.count; table = t }) (set-table l g r.left)
      ∙ ap (opened_back (table_of l) g) (given ∙ ap (λ (r : GroupState). open_on_day allowance r key) (group_read l g d (inside (length l) g has)))
      ∙ open_by false has
