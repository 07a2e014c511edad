-- Isolation (document 02, request 4): what a group of a table gets depends on its own record and its own calls, however the other groups' calls
-- differ or fall between, until the next day is started. One claim about whole lists of calls (`Calls`), and what pins it from the other side.
-- Assumes nothing.
use Rattle.std.specs.Prelude.{List, [], ◌∷◌, ◌++◌, ◌≢◌, ◌⊎◌, ◌≡◌, ℕ, ◌<◌, length, get_or}
use Rattle.modes.specs.Call.{CallInput}
use Rattle.sanse.specs.Session.{handed, handed_for}
use Rattle.groups.specs.declared.Record.{Record}
use Rattle.office.specs.Table.{zero_record}
use Rattle.isolation.specs.Calls.{Opened, Wrapped, Unwrapped, DayStarted, opening, wrap, unwrap, GroupCall, Given, Run, calls_for, given_to}

-- the record of a group: its session and its count
abbrev pub record_at : List Record → (group : ℕ) → Record
record_at l group = get_or l group zero_record

-- two runs of calls cs and ds, which gave gs and hs and left the records l' and m', are alike for g: its calls gave the same answers, buffers and
-- tags in the same order, and it has the same record at the end
pub record AlikeFor (g : ℕ) (cs ds : List GroupCall) (gs hs : List Given) (l' m' : List Record) : Type 0 where
  pub given : given_to g cs gs ≡ given_to g ds hs
  pub left : record_at l' g ≡ record_at m' g

-- two tables of 32 records that agree in the record of g, two lists of calls for any groups under one allowance: where the calls for g are the
-- same in the same order, with the same bytes and buffers, they are alike for g
abbrev pub Isolated : Type 0
Isolated =
    (allowance g : ℕ) → g < 32 → (l m : List Record) → length l ≡ 32 → length m ≡ 32 → record_at l g ≡ record_at m g
    → (cs ds : List GroupCall) → calls_for g cs ≡ calls_for g ds
    → (gs hs : List Given) (l' m' : List Record) → Run allowance cs l gs l' → Run allowance ds m hs m'
    → AlikeFor g cs ds gs hs l' m'

-- the same where a day is started first: then it is enough that the tables agree in the session of g
abbrev pub IsolatedAllDay : Type 0
IsolatedAllDay =
    (allowance g : ℕ) → g < 32 → (l m : List Record) → length l ≡ 32 → length m ≡ 32 → (record_at l g).session ≡ (record_at m g).session
    → (a b : ℕ) (l₀ m₀ : List Record) → DayStarted allowance l a l₀ → DayStarted allowance m b m₀
    → (cs ds : List GroupCall) → calls_for g cs ≡ calls_for g ds
    → (gs hs : List Given) (l' m' : List Record) → Run a cs l₀ gs l' → Run b ds m₀ hs m'
    → AlikeFor g cs ds gs hs l' m'

-- so among the others' calls a group gets what it gets where nobody else calls, all of it, and is left the same record
abbrev pub AsAlone : Type 0
AsAlone =
    (allowance g : ℕ) → g < 32 → (l : List Record) → length l ≡ 32 → (cs : List GroupCall) (gs hs : List Given) (l' m' : List Record)
    → Run allowance cs l gs l' → Run allowance (calls_for g cs) l hs m'
    → (given_to g cs gs ≡ hs) × (record_at l' g ≡ record_at m' g)

-- the same calls from the same table give the same, and leave the same records. A call of a list is known by the promise of its function alone, which
-- does not speak of whether full blocks are taken four side by side (`proofs/Contracts.antt`): so nobody can tell which way each call of the one list
-- or of the other was made (document 02, request 10)
abbrev pub NobodyCanTell : Type 0
NobodyCanTell =
    (allowance : ℕ) (cs : List GroupCall) (from to to' : List Record) (gs gs' : List Given) → Run allowance cs from gs to → Run allowance cs from gs' to'
    → (gs ≡ gs') × (to ≡ to')

-- ---- the other side: what the claims speak of is there, and is what it is called

-- a wrap or an unwrap is handed what the function without an envelope is handed, or what the one for an envelope is; so each of a list is known by
-- the promise of one of them (`proofs/Contracts.antt`)
abbrev pub EitherSort : Type 0
EitherSort =
    (i : CallInput) → (i ≡ handed i.metadata i.text i.out i.tag) ⊎ ((x : List ℕ) × (i ≡ handed_for x i.metadata i.text i.out i.tag))

-- every list of calls has a run, from any records and under any allowance, and a day can be started over any records
pub record RunsExist : Type 0 where
  pub runs : (allowance : ℕ) (cs : List GroupCall) (from : List Record) → (gs : List Given) × (to : List Record) × Run allowance cs from gs to
  pub starts : (allowance : ℕ) (from : List Record) → (r : ℕ) × (to : List Record) × DayStarted allowance from r to

-- a run of one call is the call's promise, of all that the call gave; and a run leaves as many records as it found
pub record RunIs (allowance : ℕ) : Type 0 where
  pub no_call : (from to : List Record) (gs : List Given) → Run allowance [] from gs to → (gs ≡ []) × (to ≡ from)
  pub one_opening : (from to : List Record) (group : ℕ) (key : List ℕ) (x : Given)
      → Run allowance (record { group = group; request = opening key } ∷ []) from (x ∷ []) to → Opened allowance from group key x.answer to
  pub one_wrap : (from to : List Record) (group : ℕ) (i : CallInput) (x : Given)
      → Run allowance (record { group = group; request = wrap i } ∷ []) from (x ∷ []) to → Wrapped allowance from group i x.answer to x.out x.tag
  pub one_unwrap : (from to : List Record) (group : ℕ) (i : CallInput) (x : Given)
      → Run allowance (record { group = group; request = unwrap i } ∷ []) from (x ∷ []) to → Unwrapped allowance from group i x.answer to x.out x.tag
  pub size : (cs : List GroupCall) (gs : List Given) (from to : List Record) → Run allowance cs from gs to → length to ≡ length from

-- the calls for g are those that name g and no others, in their order: a call that names g is one of them, a call that does not is none, and
-- those of a longer list are those of its parts. And so of what they gave
pub record OwnCalls (g : ℕ) : Type 0 where
  pub own : (c : GroupCall) → c.group ≡ g → calls_for g (c ∷ []) ≡ c ∷ []
  pub other : (c : GroupCall) → c.group ≢ g → calls_for g (c ∷ []) ≡ []
  pub parts : (cs ds : List GroupCall) → calls_for g (cs ++ ds) ≡ calls_for g cs ++ calls_for g ds
  pub own_given : (c : GroupCall) (x : Given) → c.group ≡ g → given_to g (c ∷ []) (x ∷ []) ≡ x ∷ []
  pub other_given : (c : GroupCall) (x : Given) → c.group ≢ g → given_to g (c ∷ []) (x ∷ []) ≡ []
  pub parts_given : (cs ds : List GroupCall) (gs hs : List Given) → length cs ≡ length gs
      → given_to g (cs ++ ds) (gs ++ hs) ≡ given_to g cs gs ++ given_to g ds hs
  -- in a run there is something given for each call
  pub each_given : (allowance : ℕ) (cs : List GroupCall) (gs : List Given) (from to : List Record) → Run allowance cs from gs to → length cs ≡ length gs
