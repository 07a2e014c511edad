-- The loop that begins a day: what is known in a turn, and what it leaves. Assumes nothing.
use mathlib.Core.Path.{◌≡◌, sym, ap, ◌∙◌}
use mathlib.Core.List.{List, map}
use mathlib.Core.Logic.{◌≢◌}
use Prim.Native.Nat.{ℕ, ◌+◌, ◌<◌, ◌≤◌}
use native.Mathlib.Omega.{arith}
use lib.ListN.{length, get_or, set, length-set, length-map, get_or-map}
use lib.Seq.{get_or-set_same, get_or-set_other, ext_get_or}
use borrow.Author.Count.{below_more}
use Rattle.std.proofs.lemmas.List.{get_or_default}
use Rattle.groups.specs.declared.Record.{Record}
use Rattle.groups.specs.Groups.{new_day, record_of}
use Rattle.office.specs.Table.{Table, unopened, zero_record, start_day_at, table_of, day_result}

-- of the records ys at entry and l now, the day has begun for those below g, and the others are as they were
pub record Turn (ys l : List Record) (g : ℕ) : Type 0 where
  pub size : length l ≡ length ys
  pub before : (k : ℕ) → k < g → record_of (get_or l k zero_record) ≡ new_day (record_of (get_or ys k zero_record))
  pub others : (k : ℕ) → g ≤ k → get_or l k zero_record ≡ get_or ys k zero_record

-- one record more, by whatever is read past the end
pub one-more : (ys l : List Record) (g : ℕ) → Turn ys l g → g < length l → (r d : Record) → record_of r ≡ new_day (record_of (get_or l g d))
    → Turn ys (set l g r) (g + 1)
one-more ys l g inv less r d e =
    record {
      size = length-set l g r ∙ inv.size;
      before =
          below_more _ g
          (λ k below. let other : k ≢ g = omega arith in ap record_of (get_or-set_other l g k r zero_record other) ∙ inv.before k below)
          (ap record_of (get_or-set_same l g r zero_record less)
          ∙ e
          ∙ ap (λ (r : Record). new_day (record_of r)) (get_or_default l g d zero_record less ∙ inv.others g (omega arith)));
      others = λ k past. let other : k ≢ g = omega arith in get_or-set_other l g k r zero_record other ∙ inv.others k (omega arith);
    }

-- the same, where what is stored is known by an equation
pub one-more-as : (ys l : List Record) (g : ℕ) → Turn ys l g → g < length l → (r d : Record) → record_of r ≡ new_day (record_of (get_or l g d))
    → (stored : Record) → stored ≡ r → Turn ys (set l g stored) (g + 1)
one-more-as ys l g inv less r d e stored is = one-more ys l g inv less stored d (ap record_of is ∙ e)

-- at the end the day has begun for every record
every-record : (ys l : List Record) (g : ℕ) → Turn ys l g → length ys ≤ g → table_of l ≡ map new_day (table_of ys)
every-record ys l g inv past =
    ext_get_or unopened (table_of l) (map new_day (table_of ys))
    (length-map l record_of ∙ inv.size ∙ sym (length-map ys record_of) ∙ sym (length-map (table_of ys) new_day))
    (λ k b.
    let n : length (table_of l) ≡ length l = length-map l record_of in
    let z : length l ≡ length ys = inv.size in
    get_or-map record_of l k zero_record ∙ inv.before k (omega arith)
    ∙ ap new_day (sym (get_or-map record_of ys k zero_record)) ∙ sym (get_or-map new_day (table_of ys) k unopened))

pub day-started : (ys l : List Record) (g n : ℕ) → Turn ys l g → length ys ≤ g → day_result n l ≡ start_day_at n (table_of ys)
day-started ys l g n inv past = ap (λ (u : Table). record { allowance = n; table = u }) (every-record ys l g inv past)
