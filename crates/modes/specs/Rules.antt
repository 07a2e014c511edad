-- What stops a call, and what each call gives and leaves, refused ones included (document 01, "Counts and limits" and "What stops a call";
-- document 02, requests 2 and 7): for any mode, any way to hold a history and any session. The contracts cite these. Assumes nothing.
use Rattle.std.specs.Prelude.{Bool, true, false, not, ◌||◌, ◌&&◌, cond, List, [], ◌∷◌, ◌++◌, ℕ, zero, suc, ◌+◌, ltb, leb, eqb, length, drop, replicate}
use Rattle.deck.specs.declared.DeckState.{DeckState}
use Rattle.deck.specs.Strings.{b, framed}
use Rattle.state.specs.State.{zeros}
use Rattle.deck.specs.Deck.{key_mask}
use Rattle.modes.specs.Call.{header_bytes, CallInput}
use Rattle.modes.specs.Header.{header_fits}
use Rattle.modes.specs.Mode.{HistoryRep, incremental, Parameters, StepResult, Mode, tag_of}

-- ---- limits

-- the most bytes of metadata, and of a message
abbrev pub longest : ℕ
longest = 16384

-- the highest index
abbrev pub highest_index : ℕ
highest_index = 1048576

-- how far a call moves the index, by the lengths of A and M: b + 1 for each string that the history gains
unfoldable pub growth : (a m : ℕ) → ℕ
growth a zero = b a + 1
growth zero (suc m) = b (suc m) + 1
growth (suc a) (suc m) = b (suc a) + 1 + (b (suc m) + 1)

-- ---- sessions and outcomes

-- a session: its history as it is held, e, and whether it is open
pub record SessionState (S : Type 0) : Type 0 where
  pub history : S
  pub toggle : Bool
  pub opened : Bool

-- what a call gives: its number (0: accepted), its count, the session after it, and the output buffer and the tag buffer after it
pub record Outcome (S : Type 0) : Type 0 where
  pub number : ℕ
  pub count : ℕ
  pub session : SessionState S
  pub out : List ℕ
  pub tag : List ℕ

-- the string of A that enters the history, from what a call is handed: the header's bytes, if there is one, and then the metadata
unfoldable pub metadata_string : CallInput → List ℕ
metadata_string i = header_bytes i.header ++ i.metadata

-- bytes at the start of a buffer, the rest kept
abbrev pub written : List ℕ → List ℕ → List ℕ
written x out = x ++ drop (length x) out

-- whether two runs of bytes are equal
abbrev pub same_bytes : List ℕ → List ℕ → Bool
same_bytes [] [] = true
same_bytes [] (y ∷ t) = false
same_bytes (x ∷ s) [] = false
same_bytes (x ∷ s) (y ∷ t) = eqb x y && same_bytes s t

-- ---- checks 1 and 5 to 9

-- the first of 5 to 9 that is met, or 0: by whether the session is open, the index after the call, the mode's tag length l, and the lengths of
-- the metadata, of the text, of the tag and of the output buffer
abbrev pub first_check_of : (is_open : Bool) (index l a n t o : ℕ) → ℕ
first_check_of is_open index l a n t o =
    cond (not is_open) 5
    (cond (ltb longest a || ltb longest n) 6
    (cond (not (eqb t l)) 7
    (cond (ltb o n) 8
    (cond (ltb highest_index index) 9 0))))

module _ {S : Type 0} where
  -- refused before any work: nothing altered
  abbrev pub refused : ℕ → SessionState S → CallInput → Outcome S
  refused n s i = record { number = n; count = 0; session = s; out = i.out; tag = i.tag }

  -- by the first check that is met: refused, or what a call gives that meets none of them
  abbrev pub if_no_check : ℕ → SessionState S → CallInput → Outcome S → Outcome S
  if_no_check zero s i o = o
  if_no_check (suc n) s i o = refused (suc n) s i

module _ (m : Mode) {S : Type 0} (d : HistoryRep S) where
  -- the first of the checks 5 to 9 that a call meets, or 0
  unfoldable pub check_from5 : SessionState S → CallInput → ℕ
  check_from5 s i =
      first_check_of s.opened (d.index s.history + growth (length (metadata_string i)) (length i.text)) m.parameters.tag_length
      (length i.metadata) (length i.text) (length i.tag) (length i.out)

  -- the first of the checks 1 and 5 to 9 that a call meets, or 0
  unfoldable pub check_number : SessionState S → CallInput → ℕ
  check_number s i = cond (header_fits m.parameters.letter i.header (length i.metadata) (length i.text)) (check_from5 s i) 1

  -- the call's count, a wrong tag's too
  abbrev pub count_of : CallInput → ℕ
  count_of i = m.parameters.count (length (metadata_string i)) (length i.text)

  -- what the mode's steps of wrap find in a session
  abbrev pub wrap_steps : SessionState S → CallInput → StepResult S
  wrap_steps s i = m.wraps d s.history s.toggle (metadata_string i) i.text

  -- and of unwrap
  abbrev pub unwrap_steps : SessionState S → CallInput → StepResult S
  unwrap_steps s i = m.unwraps d s.history s.toggle (metadata_string i) i.text i.tag

  -- accepted: the history after the steps, e changes, and the body at the output buffer's start
  abbrev pub accepted : SessionState S → CallInput → StepResult S → (tag : List ℕ) → Outcome S
  accepted s i r tag =
      record {
        number = 0;
        count = count_of i;
        session = record { history = r.after; toggle = m.parameters.next_toggle s.toggle; opened = s.opened };
        out = written r.body i.out;
        tag = tag;
      }

  -- a tag that differs: the real count, the session as it was, and zeros for the message's bytes
  abbrev pub wrong_tag : SessionState S → CallInput → Outcome S
  wrong_tag s i =
      record { number = 11; count = count_of i; session = s; out = written (replicate (length i.text) 0) i.out; tag = i.tag }

  -- check 11
  abbrev pub compare_tag : SessionState S → CallInput → StepResult S → Outcome S
  compare_tag s i r = cond (same_bytes i.tag r.tag) (accepted s i r i.tag) (wrong_tag s i)

  -- wrap and unwrap where check 1 is not met, of any session
  unfoldable pub wrap_from5 : SessionState S → CallInput → Outcome S
  wrap_from5 s i = if_no_check (check_from5 s i) s i (accepted s i (wrap_steps s i) (wrap_steps s i).tag)

  unfoldable pub unwrap_from5 : SessionState S → CallInput → Outcome S
  unwrap_from5 s i = if_no_check (check_from5 s i) s i (compare_tag s i (unwrap_steps s i))

  -- wrap, of any session
  unfoldable pub wrap_at : SessionState S → CallInput → Outcome S
  wrap_at s i = if_no_check (check_number s i) s i (accepted s i (wrap_steps s i) (wrap_steps s i).tag)

  -- unwrap, of any session
  unfoldable pub unwrap_at : SessionState S → CallInput → Outcome S
  unwrap_at s i = if_no_check (check_number s i) s i (compare_tag s i (unwrap_steps s i))

-- ---- start of SANSE, and check 4

-- what a start gives: its number (0: accepted), its count and the session
pub record Opening : Type 0 where
  pub number : ℕ
  pub count : ℕ
  pub session : SessionState DeckState

-- keys have 16 to 47 bytes
abbrev pub key_fits : List ℕ → Bool
key_fits key = leb 16 (length key) && leb (length key) 47

-- a closed session: zero in all its numbers
abbrev pub closed : SessionState DeckState
closed = record { history = record { acc = zeros; mask = zeros; index = 0 }; toggle = false; opened = false }

-- an open session with no string: the accumulator 0, the mask k and the index 0
abbrev pub new_session : (key : List ℕ) → SessionState DeckState
new_session key = record { history = record { acc = zeros; mask = key_mask key; index = 0 }; toggle = false; opened = true }

-- start, of any key
unfoldable pub start_at : (key : List ℕ) → Opening
start_at key = cond (key_fits key) (record { number = 0; count = 1; session = new_session key }) (record { number = 4; count = 0; session = closed })

-- ---- start with a nonce, and its checks 4, 6 and 7: SANE

-- what it gives: its number (0: accepted), its count, the session, and the tag buffer after it
pub record NonceOpening : Type 0 where
  pub number : ℕ
  pub count : ℕ
  pub session : SessionState DeckState
  pub tag : List ℕ

-- the first check that is met, or 0: by whether the key's length is within its limits, the mode's tag length l, and the lengths of the nonce and
-- of the tag buffer
abbrev pub nonce_check : (fits : Bool) (l n t : ℕ) → ℕ
nonce_check fits l n t = cond (not fits) 4 (cond (ltb longest n) 6 (cond (not (eqb t l)) 7 0))

-- an open session whose history has the nonce, without frame bits, as its one string
abbrev pub nonce_session : (key nonce : List ℕ) → SessionState DeckState
nonce_session key nonce = record { history = incremental.append (new_session key).history (framed nonce []); toggle = false; opened = true }

module _ (p : Parameters) (key nonce tag : List ℕ) where
  -- by that check: a closed session and the tag buffer as it was; or b(N) + 3 permutations, the session, and the tag of its history
  abbrev pub nonce_opening : ℕ → NonceOpening
  nonce_opening zero =
      record {
        number = 0;
        count = b (length nonce) + 3;
        session = nonce_session key nonce;
        tag = tag_of p incremental (nonce_session key nonce).history;
      }
  nonce_opening (suc n) = record { number = suc n; count = 0; session = closed; tag = tag }

  -- start, of any key, nonce and tag buffer, in a mode of these parameters
  unfoldable pub nonce_start_at : NonceOpening
  nonce_start_at = nonce_opening (nonce_check (key_fits key) p.tag_length (length nonce) (length tag))
