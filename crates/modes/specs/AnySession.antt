-- Demand 1, one call of any session: open or not, and also one that no history gives. Which number the call gets, exactly; what a refusal
-- leaves, which is all as it was; and what a wrong tag gives. For any mode and any way to hold a history. Assumes nothing.
use Rattle.std.specs.Prelude.{false, List, ◌++◌, ◌↔◌, ◌≢◌, ◌≡◌, ℕ, ◌+◌, length, drop, replicate}
use Rattle.modes.specs.Call.{CallInput}
use Rattle.modes.specs.Header.{FollowsLayout}
use Rattle.modes.specs.Mode.{HistoryRep, Mode}
use Rattle.modes.specs.Rules.{SessionState, Outcome, growth, metadata_string, unwrap_steps}
use Rattle.modes.specs.Exactly.{NoneBefore11, Exactly1to9, Check11}

module _ (m : Mode) {S : Type 0} (d : HistoryRep S) (s : SessionState S) (i : CallInput) where
  -- the session is not open
  abbrev pub NotOpen : Type 0
  NotOpen = s.opened ≡ false

  -- the index after the call: the session's, and b + 1 for each string that the history gains
  abbrev pub index_after : ℕ
  index_after = d.index s.history + growth (length (metadata_string i)) (length i.text)

  -- the call meets none of the checks 1 and 5 to 9
  abbrev pub Unchecked : Type 0
  Unchecked = NoneBefore11 m.parameters.letter NotOpen m.parameters.tag_length index_after i

  -- the tag that the steps of unwrap find over what the session holds
  abbrev pub tag_found : List ℕ
  tag_found = (unwrap_steps m d s i).tag

  -- the call's count
  abbrev pub count_due : ℕ
  count_due = m.parameters.count (length (metadata_string i)) (length i.text)

  -- number n, count 0, and nothing is altered
  abbrev pub unaltered : (n : ℕ) → Outcome S
  unaltered n = record { number = n; count = 0; session = s; out = i.out; tag = i.tag }

  -- what is claimed of the outcome o of a wrap
  pub record AnyWrap (o : Outcome S) : Type 0 where
    pub numbers : Exactly1to9 m.parameters.letter NotOpen m.parameters.tag_length index_after i o.number
    pub accepted : (o.number ≡ 0) ↔ Unchecked
    pub count : o.number ≡ 0 → o.count ≡ count_due
    pub refused : o.number ≢ 0 → o ≡ unaltered o.number
    -- a header that does not fit, open or not: 1
    pub bad-header : (FollowsLayout m.parameters.letter i → ⊥) → o ≡ unaltered 1
    -- a session that is not open, with a header that fits or none: 5
    pub not-open : NotOpen → FollowsLayout m.parameters.letter i → o ≡ unaltered 5

  -- and of an unwrap
  pub record AnyUnwrap (o : Outcome S) : Type 0 where
    pub numbers : Exactly1to9 m.parameters.letter NotOpen m.parameters.tag_length index_after i o.number
    pub eleven : (o.number ≡ 11) ↔ (Unchecked × Check11 tag_found i)
    pub accepted : (o.number ≡ 0) ↔ (Unchecked × (i.tag ≡ tag_found))
    pub count : o.number ≡ 0 → o.count ≡ count_due
    pub refused : o.number ≢ 0 → o.number ≢ 11 → o ≡ unaltered o.number
    -- a wrong tag: the real count, the session as it was, zeros for the message's bytes, and the bytes beyond them kept
    pub wrong-tag : o.number ≡ 11
        → o
        ≡ record {
          number = 11;
          count = count_due;
          session = s;
          out = replicate (length i.text) 0 ++ drop (length i.text) i.out;
          tag = i.tag;
        }
    pub bad-header : (FollowsLayout m.parameters.letter i → ⊥) → o ≡ unaltered 1
    pub not-open : NotOpen → FollowsLayout m.parameters.letter i → o ≡ unaltered 5
    -- the tag handed in is read only
    pub tag : o.tag ≡ i.tag
