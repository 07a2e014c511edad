-- Each number exactly: given if and only if its condition holds and no earlier one does (document 01, "What stops a call": each is returned
-- under its condition and otherwise not). First the conditions as plain statements; then, of the number n that a call gets where a ledger
-- judges it, "accepted exactly when it meets no check" (demand 3). Assumes nothing.
use Rattle.std.specs.Prelude.{List, ◌↔◌, ◌≢◌, ◌⊎◌, ◌≡◌, ℕ, ◌<◌, ◌≤◌, length}
use Rattle.deck.specs.Deck.{index_of}
use Rattle.modes.specs.Call.{CallInput}
use Rattle.modes.specs.Header.{FollowsLayout}
use Rattle.modes.specs.Ledger.{PaperMode, Ledger, wrap_finds, unwrap_finds}

-- ---- the conditions: by the mode's letter, check 5 (the session is not open), the mode's tag length, the index after the call, and what the
-- call is handed

module _ (letter : ℕ) (Check5 : Type 0) (tag_length after : ℕ) (i : CallInput) where
  -- 1: a header is handed in that is not the layout's with the mode's letter and the call's own lengths
  abbrev pub Check1 : Type 0
  Check1 = FollowsLayout letter i → ⊥

  -- 6: metadata or message is too long
  abbrev pub Check6 : Type 0
  Check6 = (16384 < length i.metadata) ⊎ (16384 < length i.text)

  -- 7: the tag buffer, or the tag handed in, does not have the mode's length
  abbrev pub Check7 : Type 0
  Check7 = length i.tag ≢ tag_length

  -- 8: the output buffer is shorter than the message
  abbrev pub Check8 : Type 0
  Check8 = length i.out < length i.text

  -- 9: the index after the call would exceed its limit
  abbrev pub Check9 : Type 0
  Check9 = 1048576 < after

  -- the call meets none of the checks 1 and 5 to 9
  pub record NoneBefore11 : Type 0 where
    pub header : FollowsLayout letter i
    pub is_open : Check5 → ⊥
    pub metadata : length i.metadata ≤ 16384
    pub text : length i.text ≤ 16384
    pub tag : length i.tag ≡ tag_length
    pub out : length i.text ≤ length i.out
    pub index : after ≤ 1048576

  -- the number n of a call is each of 1 and 5 to 9 if and only if that check is met and no earlier one is
  pub record Exactly1to9 (n : ℕ) : Type 0 where
    pub one : (n ≡ 1) ↔ Check1
    pub five : (n ≡ 5) ↔ ((Check1 → ⊥) × Check5)
    pub six : (n ≡ 6) ↔ ((Check1 → ⊥) × (Check5 → ⊥) × Check6)
    pub seven : (n ≡ 7) ↔ ((Check1 → ⊥) × (Check5 → ⊥) × (Check6 → ⊥) × Check7)
    pub eight : (n ≡ 8) ↔ ((Check1 → ⊥) × (Check5 → ⊥) × (Check6 → ⊥) × (Check7 → ⊥) × Check8)
    pub nine : (n ≡ 9) ↔ ((Check1 → ⊥) × (Check5 → ⊥) × (Check6 → ⊥) × (Check7 → ⊥) × (Check8 → ⊥) × Check9)

-- 11: the tag handed in differs from the one that is found
abbrev pub Check11 : (found : List ℕ) → CallInput → Type 0
Check11 found i = i.tag ≢ found

-- ---- the number n of a call that a ledger judges: no call meets 5, and 9 goes by the index of the history that the algorithm arrives at

module _ (m : PaperMode) (l : Ledger) (i : CallInput) (n : ℕ) where
  -- a wrap is accepted exactly when it meets none of the checks
  pub record WrapExactly : Type 0 where
    pub refused : Exactly1to9 m.letter ⊥ m.tag_length (index_of (wrap_finds m l i).history) i n
    pub accepted : (n ≡ 0) ↔ NoneBefore11 m.letter ⊥ m.tag_length (index_of (wrap_finds m l i).history) i

  -- an unwrap is accepted exactly when it meets none of the checks, 11 among them
  pub record UnwrapExactly : Type 0 where
    pub refused : Exactly1to9 m.letter ⊥ m.tag_length (index_of (unwrap_finds m l i).history) i n
    pub eleven : (n ≡ 11) ↔ (NoneBefore11 m.letter ⊥ m.tag_length (index_of (unwrap_finds m l i).history) i × Check11 (unwrap_finds m l i).tag i)
    pub accepted : (n ≡ 0) ↔ (NoneBefore11 m.letter ⊥ m.tag_length (index_of (unwrap_finds m l i).history) i × (i.tag ≡ (unwrap_finds m l i).tag))
