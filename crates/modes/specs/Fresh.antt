-- What demand 3 speaks of is there (document 01, "What must fall through it?"): before the first call just the wraps within the limits are
-- accepted; there are lists with messages both ways in which each is delivered; and lists in which a message is delivered though, while it is
-- on its way, wraps are refused and a wrong tag, a repeat and a reflection arrive. For any mode with tags, from any history that leaves room for
-- these calls. Assumes nothing.
use Rattle.std.specs.Prelude.{List, [], ◌∷◌, ◌++◌, ◌↔◌, ◌≢◌, ◌≡◌, ℕ, ◌≤◌, length}
use Rattle.deck.specs.declared.DeckState.{DeckState}
use Rattle.deck.specs.Strings.{Str}
use Rattle.modes.specs.Call.{bare, CallInput, Side, office, group, Call, wrap, unwrap}
use Rattle.modes.specs.Header.{FollowsLayout}
use Rattle.modes.specs.Mode.{Mode, incremental}
use Rattle.modes.specs.Rules.{SessionState, wrap_at}
use Rattle.modes.specs.Ledger.{PaperMode, unwrap_finds, ledger_wrap, fresh_ledger}
use Rattle.modes.specs.TwoEnds.{Ledgers, ledger_at, next_ledgers, finish_ledgers, fresh_ledgers}
use Rattle.modes.specs.Delivery.{Sent, delivery, sent_by, nothing, Delivers}

-- what a wrap is handed is within the limits
pub record InLimits (m : PaperMode) (i : CallInput) : Type 0 where
  pub header : FollowsLayout m.letter i
  pub metadata : length i.metadata ≤ 16384
  pub text : length i.text ≤ 16384
  pub tag : length i.tag ≡ m.tag_length
  pub out : length i.text ≤ length i.out

-- a fresh ledger of the papers' mode m accepts just these, and so does the session s that a start gives, in the program's mode r
pub record FreshAccepts (m : PaperMode) (r : Mode) (key : List ℕ) (opening : List Str) (s : SessionState DeckState) (i : CallInput) : Type 0 where
  pub ledger : InLimits m i ↔ ((ledger_wrap m (fresh_ledger key opening) i).answer.number ≡ 0)
  pub session : InLimits m i ↔ ((wrap_at r incremental s i).number ≡ 0)

-- ---- messages both ways

-- a call that is refused at every ledger: its tag has no bytes
abbrev pub no_tag : CallInput
no_tag = record { header = bare; metadata = []; text = []; out = []; tag = [] }

module _ (m : PaperMode) (key : List ℕ) (opening : List Str) where
  -- the office wraps i, an arrival without a tag reaches the group, and then what that wrap gave
  abbrev pub there : (i : CallInput) (out : List ℕ) → List Call
  there i out = wrap office i ∷ unwrap group no_tag ∷ unwrap group (delivery (sent_by m office i (fresh_ledgers key opening)) out) ∷ []

  -- the ledgers after that
  abbrev pub after_there : (i : CallInput) (out : List ℕ) → Ledgers
  after_there i out = finish_ledgers m (there i out) (fresh_ledgers key opening)

  -- then the group wraps j, and what it gave reaches the office
  abbrev pub both_ways : (i j : CallInput) (out out' : List ℕ) → List Call
  both_ways i j out out' = there i out ++ wrap group j ∷ unwrap office (delivery (sent_by m group j (after_there i out)) out') ∷ []

  -- in this list each message is delivered
  abbrev pub BothWays : (i j : CallInput) (out out' : List ℕ) → Type 0
  BothWays i j out out' =
      InLimits m i → InLimits m j → length i.text ≤ length out → length j.text ≤ length out'
      → Delivers m nothing (both_ways i j out out') (fresh_ledgers key opening)

-- ---- a message on its way, disturbed

module _ (m : PaperMode) (key : List ℕ) (opening : List Str) (i j : CallInput) (out out' : List ℕ) (a b c : CallInput) where
  -- what the office's second wrap gave
  abbrev pub second_sent : Sent
  second_sent = sent_by m office j (after_there m key opening i out)

  -- the ledgers while it is on its way
  abbrev pub on_the_way : Ledgers
  on_the_way = next_ledgers m (wrap office j) (after_there m key opening i out)

  -- the tag of what arrives at an end then differs from the one that the algorithm finds for it there
  abbrev pub Differs : Side → CallInput → Type 0
  Differs x z = z.tag ≢ (unwrap_finds m (ledger_at x on_the_way) z).tag

  -- after the first message the office wraps j; a wrap is refused at each end; a and b reach the group, and c the office; then the group gets
  -- what j gave; and when nothing is on its way a wrap and an arrival are refused at each end
  abbrev pub disturbed : List Call
  disturbed =
      there m key opening i out
      ++ wrap office j
      ∷ wrap group no_tag
      ∷ wrap office no_tag
      ∷ unwrap group a
      ∷ unwrap group b
      ∷ unwrap office c
      ∷ unwrap group (delivery second_sent out')
      ∷ wrap group no_tag
      ∷ wrap office no_tag
      ∷ unwrap group no_tag
      ∷ unwrap office no_tag
      ∷ []

  -- in this list each message is delivered, for all arrivals whose tags differ from those that are found: another tag, a repeat, a reflection
  abbrev pub Disturbed : Type 0
  Disturbed =
      InLimits m i → InLimits m j → length i.text ≤ length out → length j.text ≤ length out'
      → Differs group a → Differs group b → Differs office c
      → Delivers m nothing disturbed (fresh_ledgers key opening)

-- ---- as by another tag, a repeat and a reflection

module _ (m : PaperMode) (key : List ℕ) (opening : List Str) (i j : CallInput) (out out' t : List ℕ) where
  -- what j gave, under the tag t
  abbrev pub other_tag : CallInput
  other_tag =
      let w : Sent = sent_by m office j (after_there m key opening i out) in
      record { header = w.input.header; metadata = w.input.metadata; text = w.cryptogram; out = out'; tag = t }

  -- the first message again
  abbrev pub repeated : CallInput
  repeated = delivery (sent_by m office i (fresh_ledgers key opening)) out

  -- what j gave, handed back to the office
  abbrev pub reflected : CallInput
  reflected = delivery (sent_by m office j (after_there m key opening i out)) out'

  -- in the list with these each message is delivered, where their tags differ from those that are found
  abbrev pub Replays : Type 0
  Replays = Disturbed m key opening i j out out' other_tag repeated reflected
