-- Lists of calls for the groups of a table, each known only by its function's promise (document 02, request 4: "the same calls for that group in
-- the same order, with the same bytes and buffers and nothing else writing the rows"; its row is the table here), and which of them are the
-- calls for one group. Openings, and wraps and unwraps of both sorts, without an envelope and for one (request 7), in any mixture; no start of a
-- day and no nearly-full question is among them. Assumes nothing.
use Rattle.std.specs.Prelude.{cond, List, [], ◌∷◌, ◌≡◌, ℕ, eqb}
use Rattle.modes.specs.Call.{CallInput}
use Rattle.steps.specs.declared.Answer.{Answer}
use Rattle.groups.specs.declared.Record.{Record}
use Rattle.office.specs.Table.{table_of, day_result, table_result, opening_result, start_day_at, open_group_at, wrap_group_at, unwrap_group_at}

-- ---- what the table's functions promise: their `ensures`, which are these equations with the rules and nothing else (`proofs/Contracts.antt`),
-- whether full blocks are taken four side by side or not, so that each call of a list may be either

-- opening a group, of the records `from`, answered r and left the records `to`
abbrev pub Opened : (allowance : ℕ) (from : List Record) (group : ℕ) (key : List ℕ) → Answer → (to : List Record) → Type 0
Opened allowance from group key r to = opening_result r to ≡ open_group_at allowance (table_of from) group key

-- a wrap for a group, handed i, answered r and left the records `to`, the output buffer out and the tag buffer tag: where i has no header, that is
-- the promise of the office's wrap for a group, and where it has one, that of its wrap for a group and an envelope
abbrev pub Wrapped : (allowance : ℕ) (from : List Record) (group : ℕ) → CallInput → Answer → (to : List Record) → (out tag : List ℕ) → Type 0
Wrapped allowance from group i r to out tag = table_result r to out tag ≡ wrap_group_at allowance (table_of from) group i

-- the same of an unwrap, whose tag is read only
abbrev pub Unwrapped : (allowance : ℕ) (from : List Record) (group : ℕ) → CallInput → Answer → (to : List Record) → (out tag : List ℕ) → Type 0
Unwrapped allowance from group i r to out tag = table_result r to out tag ≡ unwrap_group_at allowance (table_of from) group i

-- starting a day with an allowance gave r and left the records `to`
abbrev pub DayStarted : (allowance : ℕ) (from : List Record) → (r : ℕ) (to : List Record) → Type 0
DayStarted allowance from r to = day_result r to ≡ start_day_at allowance (table_of from)

-- ---- calls

-- what is asked of a group, with all that the call is handed beside the table, the group and the allowance: the bytes, those of a header among them
-- where the call is for an envelope, and the buffers as they are
pub data Request : Type 0 where
  opening : (key : List ℕ) → Request
  wrap : CallInput → Request
  unwrap : CallInput → Request

-- a call for a group, of any number
pub record GroupCall : Type 0 where
  pub group : ℕ
  pub request : Request

-- what a call gave: its answer, which is its number and its count, and the output buffer and the tag as it left them. An opening has no buffers
pub record Given : Type 0 where
  pub answer : Answer
  pub out : List ℕ
  pub tag : List ℕ

-- `Run allowance cs from gs to`: the calls cs, made in order from the records `from`, gave gs and left the records `to`. Each call takes the table
-- as the last one left it, and the same allowance; nothing else writes the table; and nothing is known of a call but its promise
pub data Run (allowance : ℕ) : List GroupCall → List Record → List Given → List Record → Type 0 where
  none : {from : List Record} → Run allowance [] from [] from
  opened : {cs : List GroupCall} {gs : List Given} {from next to : List Record} {group : ℕ} {key : List ℕ} {r : Answer}
      → Opened allowance from group key r next
      → Run allowance cs next gs to
      → Run allowance (record { group = group; request = opening key } ∷ cs) from (record { answer = r; out = []; tag = [] } ∷ gs) to
  wrapped : {cs : List GroupCall} {gs : List Given} {from next to : List Record} {group : ℕ} {i : CallInput} {r : Answer} {out tag : List ℕ}
      → Wrapped allowance from group i r next out tag
      → Run allowance cs next gs to
      → Run allowance (record { group = group; request = wrap i } ∷ cs) from (record { answer = r; out = out; tag = tag } ∷ gs) to
  unwrapped : {cs : List GroupCall} {gs : List Given} {from next to : List Record} {group : ℕ} {i : CallInput} {r : Answer} {out tag : List ℕ}
      → Unwrapped allowance from group i r next out tag
      → Run allowance cs next gs to
      → Run allowance (record { group = group; request = unwrap i } ∷ cs) from (record { answer = r; out = out; tag = tag } ∷ gs) to

-- ---- the calls for one group

-- the calls for g: those of a list that name g, in their order, refused ones included
unfoldable pub calls_for : (g : ℕ) → List GroupCall → List GroupCall
calls_for g [] = []
calls_for g (c ∷ cs) = cond (eqb c.group g) (c ∷ calls_for g cs) (calls_for g cs)

-- what the calls for g gave, in their order
unfoldable pub given_to : (g : ℕ) → List GroupCall → List Given → List Given
given_to g [] gs = []
given_to g (c ∷ cs) [] = []
given_to g (c ∷ cs) (x ∷ gs) = cond (eqb c.group g) (x ∷ given_to g cs gs) (given_to g cs gs)
