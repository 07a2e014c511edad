-- Calls for envelopes (document 02, request 7), in any mode of the papers: what is claimed of the string of A, of an envelope whose group was
-- changed on its way, and of lists in which calls for envelopes and calls without one are mixed. Assumes nothing.
use Rattle.std.specs.Prelude.{List, ◌∷◌, ◌↔◌, ◌≢◌, ◌≡◌, ℕ, ◌≤◌, ◌<◌, length}
use Rattle.deck.specs.Strings.{Str}
use Rattle.deck.specs.Deck.{run, deck, index_of}
use Rattle.envelope.specs.Layout.{header}
use Rattle.modes.specs.Call.{bare, under, CallInput, with_header, Side, Call, wrap, unwrap}
use Rattle.modes.specs.Header.{HeaderOf, FollowsLayout}
use Rattle.modes.specs.Mode.{HistoryRep, Mode}
use Rattle.modes.specs.Rules.{SessionState, wrap_at, unwrap_at}
use Rattle.modes.specs.Ledger.{PaperMode, Ledger, string_a, wrap_finds, unwrap_finds, ledger_wrap, ledger_unwrap}
use Rattle.modes.specs.OneCall.{session_of}
use Rattle.modes.specs.Promises.{Kind, Promises}
use Rattle.modes.specs.TwoEnds.{Ledgers, ledger_at, fresh_ledgers}
use Rattle.modes.specs.Delivery.{InFlight, nothing, Delivers}
use Rattle.modes.specs.Fresh.{InLimits, both_ways}

-- what a call is handed, under the header of a group with its own lengths
abbrev pub addressed : (letter group : ℕ) → CallInput → CallInput
addressed letter group i = with_header (under (header letter group (length i.metadata) (length i.text))) i

-- what a call is handed, with the string of A as the metadata of a call without an envelope
abbrev pub with_string : CallInput → CallInput
with_string i = record { header = bare; metadata = string_a i; text = i.text; out = i.out; tag = i.tag }

-- ---- the string of A

pub record Strings (letter : ℕ) : Type 0 where
  -- without an envelope it is the metadata
  pub without : (i : CallInput) → string_a (with_header bare i) ≡ i.metadata
  -- for an envelope it has 8 to 16,401 bytes, so it is never empty
  pub bounds : (group : ℕ) (i : CallInput) → HeaderOf letter group i → (8 ≤ length (string_a i)) × (length (string_a i) ≤ 16401)
  -- and both are reached
  pub shortest : (group : ℕ) × (i : CallInput) × HeaderOf letter group i × (length (string_a i) ≡ 8)
  pub longest : (group : ℕ) × (i : CallInput) × HeaderOf letter group i × (length (string_a i) ≡ 16401)
  -- no two envelopes of different groups, metadata or lengths of text have the same
  pub decides : (g h : ℕ) (i j : CallInput) → HeaderOf letter g i → HeaderOf letter h j → string_a i ≡ string_a j
      → (g ≡ h) × (i.metadata ≡ j.metadata) × (length i.text ≡ length j.text)

-- where check 1 is not met, and the string is no longer than metadata may be, a call for an envelope gives and leaves, in any session, what the call
-- without one gives and leaves that is handed the string as its metadata
pub record AsWithout (m : Mode) : Type 1 where
  pub wraps : {S : Type 0} (d : HistoryRep S) (s : SessionState S) (i : CallInput) → FollowsLayout m.parameters.letter i
      → length (string_a i) ≤ 16384 → wrap_at m d s i ≡ wrap_at m d s (with_string i)
  pub unwraps : {S : Type 0} (d : HistoryRep S) (s : SessionState S) (i : CallInput) → FollowsLayout m.parameters.letter i
      → length (string_a i) ≤ 16384 → unwrap_at m d s i ≡ unwrap_at m d s (with_string i)

-- ---- an envelope whose group was changed on its way

-- what the wrap i at the ledger l gave, as it arrives under the header of this group
abbrev pub readdressed : PaperMode → Ledger → CallInput → (group : ℕ) (out : List ℕ) → CallInput
readdressed m l i group out =
    addressed m.letter group
    (record { header = bare; metadata = i.metadata; text = (wrap_finds m l i).text; out = out; tag = (wrap_finds m l i).tag })

-- the tag of a history: the first bytes of the deck function
abbrev pub history_tag : PaperMode → (key : List ℕ) → List Str → List ℕ
history_tag m key h = run (deck key h) 0 m.tag_length

-- of its unwrap, judged by a ledger like the one that gave it. That the two tags differ is not claimed: it is what the deck function is trusted for
pub record Readdressed (m : PaperMode) (l : Ledger) (i : CallInput) (group : ℕ) (out : List ℕ) : Type 0 where
  -- A is another string, and so the history is another
  pub strings : string_a (readdressed m l i group out) ≢ string_a i
  pub histories : (unwrap_finds m l (readdressed m l i group out)).history ≢ (wrap_finds m l i).history
  -- the tag that arrives is that of the one history, and it is compared with that of the other
  pub arrives : (readdressed m l i group out).tag ≡ history_tag m l.key (wrap_finds m l i).history
  pub compared : (unwrap_finds m l (readdressed m l i group out)).tag ≡ history_tag m l.key (unwrap_finds m l (readdressed m l i group out)).history
  -- it is refused by 9 exactly where a longer header moves the index past its limit
  pub nine : ((ledger_unwrap m l (readdressed m l i group out)).answer.number ≡ 9)
      ↔ (1048576 < index_of (unwrap_finds m l (readdressed m l i group out)).history)
  -- and otherwise by 11 exactly where the tags of the two histories differ
  pub eleven : ((ledger_unwrap m l (readdressed m l i group out)).answer.number ≡ 11)
      ↔ ((index_of (unwrap_finds m l (readdressed m l i group out)).history ≤ 1048576)
      × (history_tag m l.key (wrap_finds m l i).history ≢ history_tag m l.key (unwrap_finds m l (readdressed m l i group out)).history))

-- for every ledger, every wrap for an envelope that it accepts, and every other group
abbrev pub EveryReaddressed : PaperMode → Type 0
EveryReaddressed m =
    (l : Ledger) (group other : ℕ) (i : CallInput) (out : List ℕ)
    → HeaderOf m.letter group i → other ≤ 31 → other ≢ group → (ledger_wrap m l i).answer.number ≡ 0 → length i.text ≤ length out
    → Readdressed m l i other out

-- and of functions over the records of a program, of which only promises are known: an unwrap that is handed the record of that ledger's history gets the
-- number that the ledger gives
abbrev pub ReaddressedOf : (k : Kind) → PaperMode → Promises k → Type 0
ReaddressedOf k m p =
    (l : Ledger) (group other : ℕ) (i : CallInput) (out : List ℕ)
    → HeaderOf m.letter group i → other ≤ 31 → other ≢ group → (ledger_wrap m l i).answer.number ≡ 0 → length i.text ≤ length out
    → (s : k.Record) (r : k.Result) (out' tag : List ℕ) → k.state_of s ≡ session_of l.key l.history l.toggle
    → p.unwraps s (readdressed m l i other out) r out' tag
    → Readdressed m l i other out × (k.number r ≡ (ledger_unwrap m l (readdressed m l i other out)).answer.number)

-- ---- lists with calls of both sorts

-- a message for an envelope one way and one without the other way, and the other way round: each is delivered, from ledgers that are fresh under
-- the key with the history that both sessions open with
abbrev pub BothSorts : PaperMode → (key : List ℕ) (opening : List Str) → Type 0
BothSorts m key opening =
    (group : ℕ) (i j : CallInput) (out out' : List ℕ) → group ≤ 31 → InLimits m (with_header bare i) → InLimits m (with_header bare j)
    → length i.text ≤ length out → length j.text ≤ length out'
    → Delivers m nothing (both_ways m key opening (addressed m.letter group i) (with_header bare j) out out') (fresh_ledgers key opening)
    × Delivers m nothing (both_ways m key opening (with_header bare i) (addressed m.letter group j) out out') (fresh_ledgers key opening)

-- before every list in which each message is delivered may stand any call that is refused, of either sort and by any number
pub record RefusedAnywhere (m : PaperMode) : Type 0 where
  pub wraps : (t : InFlight) (cs : List Call) (p : Ledgers) (x : Side) (i : CallInput)
      → (ledger_wrap m (ledger_at x p) i).answer.number ≢ 0 → Delivers m t cs p → Delivers m t (wrap x i ∷ cs) p
  pub unwraps : (t : InFlight) (cs : List Call) (p : Ledgers) (x : Side) (i : CallInput)
      → (ledger_unwrap m (ledger_at x p) i).answer.number ≢ 0 → Delivers m t cs p → Delivers m t (unwrap x i ∷ cs) p
