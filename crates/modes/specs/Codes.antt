-- Codes of packets (document 02, request 1): 8 bytes of the deck function of a session's history, from byte 32 + 8 p on for packet p. What
-- asking for one gives, of any session, refusals included; each number exactly; and what it gives of the session that a history gives, worked
-- out from the first string on. A code is no call of a mode's: it has no session in what it gives. Assumes nothing.
use Rattle.std.specs.Prelude.{Bool, true, false, not, ◌||◌, cond, List, [], ◌++◌, ◌↔◌, ◌≢◌, ◌⊎◌, ◌≡◌, ℕ, zero, suc, ◌+◌, ◌*◌, ◌<◌, ◌≤◌, ltb, eqb, length, drop}
use Rattle.deck.specs.Strings.{Str}
use Rattle.deck.specs.Deck.{run, deck}
use Rattle.modes.specs.Mode.{HistoryRep}
use Rattle.modes.specs.Rules.{SessionState}

-- what asking for a code gives: its number (0: given), its count, and the output buffer after it
pub record CodeOutcome : Type 0 where
  pub number : ℕ
  pub count : ℕ
  pub out : List ℕ

-- ---- what asking gives

-- the first of the checks 5, 12 and 8 that is met, in this order, or 0: by whether the session is open, its index, the packet, and the length
-- of the output buffer
abbrev pub code_check : (is_open : Bool) (index packet o : ℕ) → ℕ
code_check is_open index packet o =
    cond (not is_open) 5
    (cond (eqb index 0 || ltb 2047 packet) 12
    (cond (ltb o 8) 8 0))

-- number n, count 0, and the buffer as it was
abbrev pub no_code : (n : ℕ) (out : List ℕ) → CodeOutcome
no_code n out = record { number = n; count = 0; out = out }

-- the code of a packet, of the output f of a history: 8 bytes from byte 32 + 8 p on at the buffer's start, the rest kept, and 2 permutations
abbrev pub code_given : (f : ℕ → ℕ) (packet : ℕ) (out : List ℕ) → CodeOutcome
code_given f packet out = record { number = 0; count = 2; out = run f (32 + 8 * packet) 8 ++ drop 8 out }

-- by the first check that is met: refused, or the code
abbrev pub unless_check : ℕ → (out : List ℕ) → CodeOutcome → CodeOutcome
unless_check zero out o = o
unless_check (suc n) out o = no_code (suc n) out

-- the code of a packet, asked of any session
unfoldable pub code_at : {S : Type 0} → HistoryRep S → SessionState S → (packet : ℕ) (out : List ℕ) → CodeOutcome
code_at d s packet out =
    unless_check (code_check s.opened (d.index s.history) packet (length out)) out (code_given (d.keystream s.history) packet out)

-- ---- each number exactly, of any session, also one that no history gives

module _ {S : Type 0} (d : HistoryRep S) (s : SessionState S) (packet : ℕ) (out : List ℕ) where
  -- 5: the session is not open
  abbrev pub Code5 : Type 0
  Code5 = s.opened ≡ false

  -- 12: no message was accepted yet, which is index 0, or the packet is above 2,047
  abbrev pub Code12 : Type 0
  Code12 = (d.index s.history ≡ 0) ⊎ (2047 < packet)

  -- 8: the buffer has fewer than 8 bytes
  abbrev pub Code8 : Type 0
  Code8 = length out < 8

  -- what is claimed of the outcome o: each number if and only if its condition holds and no earlier one does; and all that each gives
  pub record AnyCode (o : CodeOutcome) : Type 0 where
    pub five : (o.number ≡ 5) ↔ Code5
    pub twelve : (o.number ≡ 12) ↔ ((Code5 → ⊥) × Code12)
    pub eight : (o.number ≡ 8) ↔ ((Code5 → ⊥) × (Code12 → ⊥) × Code8)
    pub given : (o.number ≡ 0) ↔ ((s.opened ≡ true) × (0 < d.index s.history) × (packet ≤ 2047) × (8 ≤ length out))
    pub code : o.number ≡ 0 → o ≡ code_given (d.keystream s.history) packet out
    pub refused : o.number ≢ 0 → o ≡ no_code o.number out

-- ---- of the session that a history gives

-- what is claimed of the outcome o, asked of the session that the key and the history h give, whatever e is: the 8 bytes are those of the deck
-- function, worked out from the first string on; 12 where the history has no string
pub record CodeClaim (key : List ℕ) (h : List Str) (packet : ℕ) (out : List ℕ) (o : CodeOutcome) : Type 0 where
  pub twelve : (h ≡ []) ⊎ (2047 < packet) → o ≡ no_code 12 out
  pub eight : h ≢ [] → packet ≤ 2047 → length out < 8 → o ≡ no_code 8 out
  pub code : h ≢ [] → packet ≤ 2047 → 8 ≤ length out → o ≡ code_given (deck key h) packet out
