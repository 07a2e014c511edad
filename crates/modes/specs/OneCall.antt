-- Demands 1 and 2, one call, for any mode m of the papers: for every key, history and e, the session that this history gives, wrapped or
-- unwrapped, gives what the mode's algorithm as printed gives over the whole history, with the header's bytes and the metadata as A, and the
-- session of the longer history; every other call is refused and alters nothing. First what the words mean, then the two claims. Assumes nothing.
use Rattle.std.specs.Prelude.{Bool, true, List, ◌++◌, ◌≢◌, ◌⊎◌, ◌≡◌, ℕ, ◌≤◌, length, drop, replicate}
use Rattle.deck.specs.declared.DeckState.{DeckState}
use Rattle.deck.specs.Strings.{Str}
use Rattle.deck.specs.Deck.{key_mask, mask_at, accumulator, index_of}
use Rattle.modes.specs.Call.{CallInput}
use Rattle.modes.specs.Header.{FollowsLayout}
use Rattle.modes.specs.Paper.{PaperResult}
use Rattle.modes.specs.Ledger.{PaperMode, string_a}
use Rattle.modes.specs.Rules.{SessionState, Outcome}

-- ---- the words

-- the session that a history gives: x as accumulator, k rolled I times as mask, I as index, and e; it is open
abbrev pub session_of : (key : List ℕ) → List Str → Bool → SessionState DeckState
session_of key h e =
    record {
      history = record { acc = accumulator key h; mask = mask_at (key_mask key) (index_of h); index = index_of h };
      toggle = e;
      opened = true;
    }

-- bytes at the start of a buffer, and the buffer's own bytes after them
abbrev pub starts_with : List ℕ → (buffer : List ℕ) → List ℕ
starts_with x buffer = x ++ drop (length x) buffer

-- a call outside the limits: refused by 1, or by a number from 6 to 9, with count 0, and nothing is altered
pub record Refused (s : SessionState DeckState) (i : CallInput) (o : Outcome DeckState) : Type 0 where
  pub number : (o.number ≡ 1) ⊎ ((6 ≤ o.number) × (o.number ≤ 9))
  pub count : o.count ≡ 0
  pub out : o.out ≡ i.out
  pub tag : o.tag ≡ i.tag
  pub session : o.session ≡ s

module _ (m : PaperMode) where
  -- a call within the limits: what it is handed, and the index after the history that it would leave
  pub record Within (i : CallInput) (after : List Str) : Type 0 where
    pub header : FollowsLayout m.letter i
    pub metadata : length i.metadata ≤ 16384
    pub text : length i.text ≤ 16384
    pub tag : length i.tag ≡ m.tag_length
    pub out : length i.text ≤ length i.out
    pub index : index_of after ≤ 1048576

  -- where the algorithm arrives for what a wrap is handed
  abbrev pub wrap_arrives : (key : List ℕ) → List Str → Bool → CallInput → PaperResult
  wrap_arrives key h e i = m.wraps key h e (string_a i) i.text

  -- and for what an unwrap is handed
  abbrev pub unwrap_arrives : (key : List ℕ) → List Str → Bool → CallInput → PaperResult
  unwrap_arrives key h e i = m.unwraps key h e (string_a i) i.text i.tag

  -- ---- the claims, of the outcome o of one call

  -- an accepted call for which the algorithm arrives at r
  pub record Accepted (key : List ℕ) (i : CallInput) (r : PaperResult) (o : Outcome DeckState) : Type 0 where
    -- it meets no check
    pub number : o.number ≡ 0
    -- the mode's count
    pub count : o.count ≡ m.count (length (string_a i)) (length i.text)
    -- the cryptogram, or the message, stands at the output buffer's start; the bytes beyond it are kept
    pub out : o.out ≡ starts_with r.text i.out
    -- the tag: what a wrap gives is the algorithm's; the tag handed to an unwrap is not altered, and equals the algorithm's
    pub tag : o.tag ≡ r.tag
    -- the session is that of the longer history, with e changed
    pub session : o.session ≡ session_of key r.history r.toggle

  -- an unwrap whose tag differs from the algorithm's
  pub record WrongTag (s : SessionState DeckState) (i : CallInput) (o : Outcome DeckState) : Type 0 where
    pub number : o.number ≡ 11
    -- a wrong tag costs the same
    pub count : o.count ≡ m.count (length (string_a i)) (length i.text)
    -- no byte of a message is handed out: as many zeros as it has, and the bytes beyond them are kept
    pub out : o.out ≡ starts_with (replicate (length i.text) 0) i.out
    pub tag : o.tag ≡ i.tag
    -- the session is left as it was
    pub session : o.session ≡ s

  -- a wrap of the session that the history h and e give: within the limits it is accepted, with C and T of the algorithm
  pub record WrapClaim (key : List ℕ) (h : List Str) (e : Bool) (i : CallInput) (o : Outcome DeckState) : Type 0 where
    pub accepted : Within i (wrap_arrives key h e i).history → Accepted key i (wrap_arrives key h e i) o
    pub refused : (Within i (wrap_arrives key h e i).history → ⊥) → Refused (session_of key h e) i o

  -- an unwrap of it: within the limits it is accepted, with P of the algorithm, where the tag handed in is the algorithm's, and refused by 11
  -- where it is not
  pub record UnwrapClaim (key : List ℕ) (h : List Str) (e : Bool) (i : CallInput) (o : Outcome DeckState) : Type 0 where
    pub accepted : Within i (unwrap_arrives key h e i).history → i.tag ≡ (unwrap_arrives key h e i).tag → Accepted key i (unwrap_arrives key h e i) o
    pub wrong-tag : Within i (unwrap_arrives key h e i).history → i.tag ≢ (unwrap_arrives key h e i).tag → WrongTag (session_of key h e) i o
    pub refused : (Within i (unwrap_arrives key h e i).history → ⊥) → Refused (session_of key h e) i o

  -- demands 1 and 2 of two functions from a session and what a call is handed to its outcome
  pub record OneCall (wraps unwraps : SessionState DeckState → CallInput → Outcome DeckState) : Type 0 where
    pub wrap-claim : (key : List ℕ) (h : List Str) (e : Bool) (i : CallInput) → WrapClaim key h e i (wraps (session_of key h e) i)
    pub unwrap-claim : (key : List ℕ) (h : List Str) (e : Bool) (i : CallInput) → UnwrapClaim key h e i (unwraps (session_of key h e) i)
