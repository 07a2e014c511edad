-- What a group gets depends on its own record and its own calls (`Isolated`, `IsolatedAllDay` of `specs/Isolation.antt`). Assumes nothing.
use mathlib.Core.Path.{◌≡◌, refl, sym, ap, ap₂, ◌∙◌, subst}
use mathlib.Core.Bool.{Bool, true, false, cond}
use mathlib.Core.List.{List, [], ◌∷◌}
use Prim.Native.Nat.{ℕ, ◌<◌}
use native.Mathlib.Omega.{arith}
use lib.Dec.{eqb}
use lib.ListN.{length, length-map, get_or-map}
use borrow.Author.Tests.{eqb-true, eqb-false}
use Rattle.sanse.specs.declared.Session.{Session}
use Rattle.sanse.specs.Session.{state_of}
use Rattle.groups.specs.declared.Record.{Record}
use Rattle.groups.specs.Groups.{new_day, record_of}
use Rattle.office.specs.Table.{unopened, group_at, DayStart, table_of}
use Rattle.office.proofs.Laws.{group_at_lem}
use Rattle.isolation.specs.Calls.{DayStarted, GroupCall, Given, Run, none, opened, wrapped, unwrapped, calls_for, given_to}
use Rattle.isolation.specs.Isolation.{record_at, AlikeFor, Isolated, IsolatedAllDay, AsAlone}
use Rattle.isolation.proofs.Alone.{given_by, left_by, all_given, all_left, held, Step, wrap-step, unwrap-step, open_step}
use Rattle.isolation.proofs.Exist.{one-record}
use Rattle.isolation.proofs.Own.{own-calls}

-- ---- a list of calls, for group g: what its calls gave and its record at the end are worked out from its record at first

module _ (allowance g : ℕ) (less : g < 32) where
  pub record ByItself (cs : List GroupCall) (gs : List Given) (from to : List Record) : Type 0 where
    pub given : given_to g cs gs ≡ all_given allowance (calls_for g cs) (held from g)
    pub left : held to g ≡ all_left allowance (calls_for g cs) (held from g)

  -- one call more in front, by whether it is for g
  module _ (c : GroupCall) (x : Given) (from next : List Record) (s : Step allowance c x from next) (n : length from ≡ 32)
      (cs : List GroupCall) (gs : List Given) (to : List Record) (rest : ByItself cs gs next to) where
    abbrev asked : Bool → List GroupCall
    asked b = cond b (c ∷ calls_for g cs) (calls_for g cs)

    abbrev After : Bool → Type 0
    After b =
        (cond b (x ∷ given_to g cs gs) (given_to g cs gs) ≡ all_given allowance (asked b) (held from g)) × (held to g ≡ all_left allowance (asked b) (held from g))

    -- it is: the record is the one that the call left
    for-g : c.group ≡ g → After true
    unfolding all_given all_left
    for-g e =
        let small : c.group < 32 = subst (λ (k : ℕ). k < 32) (sym e) less in
        let gave : x ≡ given_by allowance c (held from g) = s.given n small ∙ ap (λ (k : ℕ). given_by allowance c (held from k)) e in
        let is : held next g ≡ left_by allowance c (held from g)
        = ap (held next) (sym e) ∙ s.left n small ∙ ap (λ (k : ℕ). left_by allowance c (held from k)) e in (
          ap₂ {C = List Given} (λ y ys. y ∷ ys) gave (rest.given ∙ ap (all_given allowance (calls_for g cs)) is),
          rest.left ∙ ap (all_left allowance (calls_for g cs)) is,
        )

    -- it is not: the record stays
    for-another : (c.group ≡ g → ⊥) → After false
    for-another other =
        let is : held next g ≡ held from g = s.others g (λ e. other (sym e)) in
        (rest.given ∙ ap (all_given allowance (calls_for g cs)) is, rest.left ∙ ap (all_left allowance (calls_for g cs)) is)

    by-group : (b : Bool) → eqb c.group g ≡ b → After b
    by-group true e = for-g (eqb-true c.group g e)
    by-group false e = for-another (eqb-false c.group g e)

    one_more : ByItself (c ∷ cs) (x ∷ gs) from to
    unfolding given_to calls_for
    one_more = let w = by-group (eqb c.group g) refl in record { given = w.0; left = w.1 }

  by_itself : {cs : List GroupCall} {gs : List Given} {from to : List Record} → Run allowance cs from gs to → length from ≡ 32 → ByItself cs gs from to
  unfolding given_to calls_for all_given all_left
  by_itself none n = record { given = refl; left = refl }
  by_itself (opened {cs} {gs} {from} {next} {to} {group} {key} {r} e run) n =
      let s = open_step allowance from next group key r e in
      one_more _ _ from next s n cs gs to (by_itself run (s.size ∙ n))
  by_itself (wrapped {cs} {gs} {from} {next} {to} {group} {i} {r} {out} {tag} e run) n =
      let s = wrap-step allowance from next group i r out tag e in
      one_more _ _ from next s n cs gs to (by_itself run (s.size ∙ n))
  by_itself (unwrapped {cs} {gs} {from} {next} {to} {group} {i} {r} {out} {tag} e run) n =
      let s = unwrap-step allowance from next group i r out tag e in
      one_more _ _ from next s n cs gs to (by_itself run (s.size ∙ n))

-- ---- two lists

-- the table's own record is the one that the program's record is
record_same : (l m : List Record) (g : ℕ) → held l g ≡ held m g → record_at l g ≡ record_at m g
record_same l m g e = one-record (record_at l g) (record_at m g) (group_at_lem l g ∙ e ∙ sym (group_at_lem m g))

-- where the tables agree in the record of g
alike : (allowance g : ℕ) → g < 32 → (l m : List Record) → length l ≡ 32 → length m ≡ 32 → held l g ≡ held m g
    → (cs ds : List GroupCall) → calls_for g cs ≡ calls_for g ds
    → (gs hs : List Given) (l' m' : List Record) → Run allowance cs l gs l' → Run allowance ds m hs m'
    → AlikeFor g cs ds gs hs l' m'
alike allowance g less l m ln mn same cs ds asked gs hs l' m' run other =
    let p = by_itself allowance g less run ln in
    let q = by_itself allowance g less other mn in
    record {
      given = p.given ∙ ap₂ (all_given allowance) asked same ∙ sym q.given;
      left = record_same l' m' g (p.left ∙ ap₂ (all_left allowance) asked same ∙ sym q.left);
    }

pub isolated : Isolated
isolated allowance g less l m ln mn same = alike allowance g less l m ln mn (sym (group_at_lem l g) ∙ ap record_of same ∙ group_at_lem m g)

-- ---- by itself

module _ (g : ℕ) where
  -- one call more in front, by whether it is for g: of the calls for g all are for g
  once_more : (c : GroupCall) (cs : List GroupCall) → calls_for g (calls_for g cs) ≡ calls_for g cs → (b : Bool) → eqb c.group g ≡ b
      → calls_for g (cond b (c ∷ calls_for g cs) (calls_for g cs)) ≡ cond b (c ∷ calls_for g cs) (calls_for g cs)
  unfolding calls_for
  once_more c cs rest true e =
      ap (λ (b : Bool). cond b (c ∷ calls_for g (calls_for g cs)) (calls_for g (calls_for g cs))) e ∙ ap (λ (ds : List GroupCall). c ∷ ds) rest
  once_more c cs rest false e = rest

  once : (cs : List GroupCall) → calls_for g (calls_for g cs) ≡ calls_for g cs
  unfolding calls_for
  once [] = refl
  once (c ∷ cs) = once_more c cs (once cs) (eqb c.group g) refl

  -- and of what they gave it is given all
  all_more : (c : GroupCall) (ds : List GroupCall) → ((hs : List Given) → length ds ≡ length hs → given_to g ds hs ≡ hs) → (b : Bool) → eqb c.group g ≡ b
      → (hs : List Given) → length (cond b (c ∷ ds) ds) ≡ length hs → given_to g (cond b (c ∷ ds) ds) hs ≡ hs
  unfolding given_to
  all_more c ds rest true e [] n = absurd (omega arith)
  all_more c ds rest true e (x ∷ hs) n =
      ap (λ (b : Bool). cond b (x ∷ given_to g ds hs) (given_to g ds hs)) e ∙ ap (λ (ys : List Given). x ∷ ys) (rest hs (omega arith))
  all_more c ds rest false e hs n = rest hs n

  all-given : (cs : List GroupCall) (hs : List Given) → length (calls_for g cs) ≡ length hs → given_to g (calls_for g cs) hs ≡ hs
  unfolding given_to calls_for
  all-given [] [] n = refl
  all-given [] (x ∷ hs) n = absurd (omega arith)
  all-given (c ∷ cs) hs n = all_more c (calls_for g cs) (all-given cs) (eqb c.group g) refl hs n

pub as-alone : AsAlone
as-alone allowance g less l ln cs gs hs l' m' run other =
    let w = isolated allowance g less l l ln ln refl cs (calls_for g cs) (sym (once g cs)) gs hs l' m' run other in
    (w.given ∙ all-given g cs hs ((own-calls g).each_given allowance (calls_for g cs) hs l m' other), w.left)

-- ---- after the start of a day

module _ (allowance a g : ℕ) (l l₀ : List Record) (started : DayStarted allowance l a l₀) where
  day-size : length l₀ ≡ length l
  day-size =
      sym (length-map l₀ record_of) ∙ ap (λ (d : DayStart). length d.table) started ∙ length-map (table_of l) new_day ∙ length-map l record_of

  day-allowance : a ≡ allowance
  day-allowance = ap (λ (d : DayStart). d.allowance) started

  -- the record of g is its session with a count of 0
  day-record : held l₀ g ≡ new_day (record_of (record_at l g))
  day-record =
      ap (λ (d : DayStart). group_at d.table g) started ∙ get_or-map new_day (table_of l) g unopened ∙ ap new_day (sym (group_at_lem l g))

pub isolated-all-day : IsolatedAllDay
isolated-all-day allowance g less l m ln mn same a b l₀ m₀ started starting cs ds asked gs hs l' m' run other =
    let one : b ≡ a = day-allowance allowance b g m m₀ starting ∙ sym (day-allowance allowance a g l l₀ started) in
    isolated a g less l₀ m₀ (day-size allowance a g l l₀ started ∙ ln) (day-size allowance b g m m₀ starting ∙ mn)
    (record_same l₀ m₀ g
    (day-record allowance a g l l₀ started ∙ ap (λ (s : Session). record { session = state_of s; count = 0 }) same ∙ sym (day-record allowance b g m m₀ starting)))
    cs ds asked gs hs l' m' run (subst (λ (k : ℕ). Run k ds m₀ hs m') one other)
