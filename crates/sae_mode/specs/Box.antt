-- Letters that 001's Wrap made, in their order, with anything else between them; and what it is that they come back (document 02, request 9).
-- Last, the claims of lists: `OldLetters` is the one claim about a whole list. Assumes nothing.
use Rattle.std.specs.Prelude.{false, cond, List, [], ◌∷◌, map, ◌↔◌, ◌≢◌, ◌≡◌, ℕ, ◌≤◌, eqb, length}
use Rattle.deck.specs.declared.DeckState.{DeckState}
use Rattle.deck.specs.Strings.{Str}
use Rattle.deck.specs.Deck.{index_of}
use Rattle.modes.specs.Mode.{incremental}
use Rattle.modes.specs.Rules.{SessionState, Outcome}
use Rattle.modes.specs.OneCall.{session_of, starts_with, Within}
use Rattle.sae_mode.specs.Sae.{Handed, input_of, sae_unwrap_at}
use Rattle.sae_mode.specs.PaperSae.{sae_opens, sae_wrap, sae_unwrap}
use Rattle.sae_mode.specs.Letters.{sae_paper, arrives, SaeCall, wrap, unwrap, Each}

-- ---- letters of the first version

-- a message that it wrapped, A and P, and the buffer that its letter is opened into
pub record Message : Type 0 where
  pub metadata : List ℕ
  pub plaintext : List ℕ
  pub out : List ℕ

module _ (key : List ℕ) where
  -- the letter that 001's Wrap makes of it at the history h
  abbrev pub letter_of : List Str → Message → Handed
  letter_of h m =
      record {
        metadata = m.metadata;
        text = (sae_wrap key h m.metadata m.plaintext).text;
        out = m.out;
        tag = (sae_wrap key h m.metadata m.plaintext).tag;
      }

  -- and the history after it
  abbrev pub history_after : List Str → Message → List Str
  history_after h m = (sae_wrap key h m.metadata m.plaintext).history

  -- the letters of a list of messages, in their order, and the history after them
  unfoldable pub letters_of : List Str → List Message → List Handed
  letters_of h [] = []
  letters_of h (m ∷ ms) = letter_of h m ∷ letters_of (history_after h m) ms

  unfoldable pub history_of : List Str → List Message → List Str
  history_of h [] = h
  history_of h (m ∷ ms) = history_of (history_after h m) ms

  -- a message within the limits, with a buffer that holds it
  pub record Fits (h : List Str) (m : Message) : Type 0 where
    pub metadata : length m.metadata ≤ 16384
    pub plaintext : length m.plaintext ≤ 16384
    pub out : length m.plaintext ≤ length m.out
    pub index : index_of (history_after h m) ≤ 1048576

  -- each message of a list, in its order
  pub data AllFit : List Str → List Message → Type 0 where
    none : {h : List Str} → AllFit h []
    more : {h : List Str} {m : Message} {ms : List Message} → Fits h m → AllFit (history_after h m) ms → AllFit h (m ∷ ms)

  -- what is handed in meets a check at the history h, 11 among them
  abbrev pub Stopped : List Str → Handed → Type 0
  Stopped h i = (Within sae_paper (input_of i) (arrives key h i).history × (i.tag ≡ (arrives key h i).tag)) → ⊥

  -- `Box h cs ms`: the calls cs, from the history h, hold the letters of the messages ms in their order, each made at the history of those before it;
  -- every other letter that is handed in meets a check; and wraps may stand anywhere
  pub data Box : List Str → List SaeCall → List Message → Type 0 where
    finished : {h : List Str} → Box h [] []
    letter : {h : List Str} {m : Message} {cs : List SaeCall} {ms : List Message}
        → Fits h m → Box (history_after h m) cs ms → Box h (unwrap (letter_of h m) ∷ cs) (m ∷ ms)
    other : {h : List Str} {i : Handed} {cs : List SaeCall} {ms : List Message} → Stopped h i → Box h cs ms → Box h (unwrap i ∷ cs) ms
    wrap-tried : {h : List Str} {i : Handed} {cs : List SaeCall} {ms : List Message} → Box h cs ms → Box h (wrap i ∷ cs) ms

-- `Back cs ms os`: of the calls cs with the outcomes os, in their order, one for each of the messages ms is accepted and puts exactly the message's bytes at
-- the start of its output buffer, for its metadata; each other call is refused
pub data Back : List SaeCall → List Message → List (Outcome DeckState) → Type 0 where
  finished : Back [] [] []
  comes_back : {m : Message} {c t : List ℕ} {cs : List SaeCall} {ms : List Message} {o : Outcome DeckState} {os : List (Outcome DeckState)}
      → o.number ≡ 0 → o.out ≡ starts_with m.plaintext m.out → Back cs ms os
      → Back (unwrap (record { metadata = m.metadata; text = c; out = m.out; tag = t }) ∷ cs) (m ∷ ms) (o ∷ os)
  refused : {c : SaeCall} {cs : List SaeCall} {ms : List Message} {o : Outcome DeckState} {os : List (Outcome DeckState)}
      → o.number ≢ 0 → Back cs ms os → Back (c ∷ cs) ms (o ∷ os)

-- `AllBack ms os`: the outcomes os are one for each of the messages ms, in their order, accepted, and with exactly the message's bytes at the start of its
-- output buffer
pub data AllBack : List Message → List (Outcome DeckState) → Type 0 where
  none : AllBack [] []
  more : {m : Message} {ms : List Message} {o : Outcome DeckState} {os : List (Outcome DeckState)}
      → o.number ≡ 0 → o.out ≡ starts_with m.plaintext m.out → AllBack ms os → AllBack (m ∷ ms) (o ∷ os)

-- the outcomes of the calls that were accepted
abbrev pub accepted_of : List (Outcome DeckState) → List (Outcome DeckState)
accepted_of [] = []
accepted_of (o ∷ os) = cond (eqb o.number 0) (o ∷ accepted_of os) (accepted_of os)

-- ---- the claims

-- the outcomes os of a list of calls, from the session that a start with this key and nonce gives, and the session q that they leave
pub record OldLetters (key nonce : List ℕ) (cs : List SaeCall) (os : List (Outcome DeckState)) (q : SessionState DeckState) : Type 0 where
  -- the history of the letters that were accepted
  pub history : List Str
  -- each call gives what 001 says over the history of those accepted before it, and a refused one leaves the session
  pub each : Each key (sae_opens nonce) cs os history
  -- the session after them is that of this history, and e is 0
  pub finish : q ≡ session_of key history false
  -- letters that 001's Wrap made come back in their order, each other is refused, and the history is 001's
  pub back : (ms : List Message) → Box key (sae_opens nonce) cs ms → Back cs ms os × (history ≡ history_of key (sae_opens nonce) ms)

-- every list of calls is a box of some messages: what is accepted in it are letters that 001's Wrap makes there, and nothing else
abbrev pub EveryBox : Type 0
EveryBox = (key : List ℕ) (h : List Str) (cs : List SaeCall) → (ms : List Message) × Box key h cs ms

-- the letters of messages that fit, in their order, are a box of these messages
abbrev pub LettersBox : Type 0
LettersBox = (key : List ℕ) (h : List Str) (ms : List Message) → AllFit key h ms → Box key h (map unwrap (letters_of key h ms)) ms

-- the messages of a box all fit, and what is accepted of it are these messages, one for one
abbrev pub BoxFits : Type 0
BoxFits = (key : List ℕ) (h : List Str) (cs : List SaeCall) (ms : List Message) → Box key h cs ms → AllFit key h ms

abbrev pub BackInOrder : Type 0
BackInOrder = (cs : List SaeCall) (ms : List Message) (os : List (Outcome DeckState)) → Back cs ms os → AllBack ms (accepted_of os)

-- a letter that 001's Wrap made opens at its history exactly where its message fits
abbrev pub OpensExactly : Type 0
OpensExactly =
    (key : List ℕ) (h : List Str) (m : Message) → ((sae_unwrap_at incremental (session_of key h false) (letter_of key h m)).number ≡ 0) ↔ Fits key h m

-- the letters of a list of messages open in their order, each at the history of those before it
pub data AllOpen (key : List ℕ) : List Str → List Message → Type 0 where
  none : {h : List Str} → AllOpen key h []
  more : {h : List Str} {m : Message} {ms : List Message} → (sae_unwrap_at incremental (session_of key h false) (letter_of key h m)).number ≡ 0
      → AllOpen key (history_after key h m) ms → AllOpen key h (m ∷ ms)

-- they do exactly where all the messages fit
abbrev pub AllOpenExactly : Type 0
AllOpenExactly = (key : List ℕ) (h : List Str) (ms : List Message) → AllOpen key h ms ↔ AllFit key h ms

-- what is not true of SAE is that the history tells the letters apart: a letter with metadata A and cryptogram C, and two letters with A alone and with C
-- alone, leave one history, where neither is empty; so the second one's tag is also that of the one letter
abbrev pub OneHistory : Type 0
OneHistory =
    (key : List ℕ) (h : List Str) (x y : ℕ) (A C : List ℕ)
    → ((sae_unwrap key h (x ∷ A) (y ∷ C)).history ≡ (sae_unwrap key (sae_unwrap key h (x ∷ A) []).history [] (y ∷ C)).history)
    × ((sae_unwrap key h (x ∷ A) (y ∷ C)).tag ≡ (sae_unwrap key (sae_unwrap key h (x ∷ A) []).history [] (y ∷ C)).tag)
