-- The search of the nearly-full question: where it ends, and that the program's answer says where. Assumes nothing.
use mathlib.Core.Path.{◌≡◌, refl, sym, ap, ◌∙◌, subst}
use mathlib.Core.Bool.{Bool, true, false, not, cond}
use mathlib.Core.List.{List, [], ◌∷◌}
use Prim.Native.Nat.{ℕ, zero, suc, ◌+◌, ◌<◌}
use native.Mathlib.Omega.{arith}
use lib.Dec.{T as Holds}
use lib.ListN.{length, length-map}
use Rattle.std.specs.Prelude.{Ok, Option, Some, position}
use Rattle.std.specs.List.{position_from}
use Rattle.std.proofs.lemmas.Iterator.Adapters.{position_from-zero}
use borrow.Author.Tests.{eq-eqb, ne_eqb}
use Rattle.groups.specs.declared.Record.{Record}
use Rattle.groups.specs.Groups.{record_of}
use Rattle.office.specs.Table.{Table, session_at, above_mark, TableFinding, group_named, none_named, refused_finding, search_from, nearly_full_at, table_of, nearly_full_result}

pub never : {A : Type 0} → true ≡ false → A
never e = absurd (subst Holds e tt)

-- ---- the search

-- no group below this one is open above the mark
abbrev pub NoneBelow : Table → (mark group : ℕ) → Type 0
NoneBelow t mark group = (k : ℕ) → k < group → above_mark (session_at t k) mark ≡ false

abbrev first-or : (group : ℕ) → TableFinding → Bool → TableFinding
first-or group later b = cond b (group_named group) later

-- it ends with group from + g where record g of the run is the first that is open above the mark
pub names : (from : ℕ) (t : Table) (mark g : ℕ) → g < length t → NoneBelow t mark g → above_mark (session_at t g) mark ≡ true
    → search_from from t mark ≡ group_named (from + g)
names from [] mark g less none e = absurd (omega arith)
names from (r ∷ t) mark zero less none e =
    let same : from ≡ from + 0 = omega arith in ap (first-or from (search_from (from + 1) t mark)) e ∙ ap group_named same
names from (r ∷ t) mark (suc g) less none e =
    let same : from + 1 + g ≡ from + suc g = omega arith in
    ap (first-or from (search_from (from + 1) t mark)) (none 0 (omega arith))
    ∙ names (from + 1) t mark g (omega arith) (λ k below. none (suc k) (omega arith)) e
    ∙ ap group_named same

-- and with none where no record of the run is
pub names-none : (from : ℕ) (t : Table) (mark : ℕ) → NoneBelow t mark (length t) → search_from from t mark ≡ none_named
names-none from [] mark none = refl
names-none from (r ∷ t) mark none =
    ap (first-or from (search_from (from + 1) t mark)) (none 0 (omega arith)) ∙ names-none (from + 1) t mark (λ k below. none (suc k) (omega arith))

module _ (t : Table) (mark : ℕ) where
  pub asked : length t ≡ 32 → nearly_full_at t mark ≡ search_from 0 t mark
  unfolding nearly_full_at
  asked is32 = ap (λ (b : Bool). cond (not b) refused_finding (search_from 0 t mark)) (eq-eqb (length t) 32 is32)

  pub refused : (length t ≡ 32 → ⊥) → nearly_full_at t mark ≡ refused_finding
  unfolding nearly_full_at
  refused other = ap (λ (b : Bool). cond (not b) refused_finding (search_from 0 t mark)) (ne_eqb (length t) 32 other)

-- ---- the program's answer

-- the search gives what the first place gives at which a record is open above the mark
pub same-search : (l : List Record) (mark from : ℕ) (found : Option ℕ) → found ≡ position_from (λ r. above_mark (record_of r).session mark) from l
    → nearly_full_result (Ok found) ≡ search_from from (table_of l) mark
same-search l mark from found e = ap (λ (o : Option ℕ). nearly_full_result (Ok o)) e ∙ go from l
  where
    pick : (b : Bool) (from : ℕ) (o : Option ℕ)
        → nearly_full_result (Ok (cond b (Some from) o)) ≡ cond b (group_named from) (nearly_full_result (Ok o))
    pick true from o = refl
    pick false from o = refl

    go : (from : ℕ) (l : List Record)
        → nearly_full_result (Ok (position_from (λ r. above_mark (record_of r).session mark) from l)) ≡ search_from from (table_of l) mark
    go from [] = refl
    go from (r ∷ l) =
        pick (above_mark (record_of r).session mark) from (position_from (λ r. above_mark (record_of r).session mark) (from + 1) l)
        ∙ ap (λ (later : TableFinding). cond (above_mark (record_of r).session mark) (group_named from) later) (go (from + 1) l)

module _ (l : List Record) (mark : ℕ) where
  pub says-refused : (length l ≡ 32 → ⊥) → refused_finding ≡ nearly_full_at (table_of l) mark
  says-refused other = sym (refused (table_of l) mark (λ e. other (sym (length-map l record_of) ∙ e)))

  pub says-found : length l ≡ 32 → (found : Option ℕ) → found ≡ position (λ r. above_mark (record_of r).session mark) l
      → nearly_full_result (Ok found) ≡ nearly_full_at (table_of l) mark
  says-found is32 found e =
      same-search l mark 0 found (e ∙ position_from-zero (λ r. above_mark (record_of r).session mark) l)
      ∙ sym (asked (table_of l) mark (length-map l record_of ∙ is32))
