-- Session modes, each written once over any way to hold a history (document 01, "SANSE" and "Counts and limits"; document 02, request 2;
-- 003, sections 4 and 5), and SANSE and SANE as two of them. Assumes nothing.
use Rattle.std.specs.Prelude.{Bool, true, false, not, ◌||◌, cond, List, [], ◌∷◌, ◌++◌, ℕ, zero, suc, ◌+◌, ◌/◌, length}
use Rattle.word.specs.Lists.{sum}
use Rattle.deck.specs.declared.DeckState.{DeckState}
use Rattle.deck.specs.Strings.{Str, b, framed}
use Rattle.deck.specs.Deck.{run, deck, index_of}
use Rattle.deck.specs.Incremental.{append, output}
use Rattle.envelope.specs.Layout.{letter_s, letter_n}

-- ---- histories

-- a way to hold a history: one more string, the deck function's output as a stream of bytes, and the index I after the last string
pub record HistoryRep (S : Type 0) : Type 0 where
  pub append : S → Str → S
  pub keystream : S → ℕ → ℕ
  pub index : S → ℕ

-- all its strings, the oldest first, with the deck function from scratch
abbrev pub whole_history : (key : List ℕ) → HistoryRep (List Str)
whole_history key = record { append = λ h s. h ++ s ∷ []; keystream = deck key; index = index_of }

-- the accumulator, the mask and the index
abbrev pub incremental : HistoryRep DeckState
incremental = record { append = append; keystream = output; index = λ d. d.index }

-- ---- modes

-- what modes of the same steps differ in: the letter of their envelopes; the frame bits after A, after the text that enters the history, and
-- after a tag that does, each at e; the tag's length in bytes; the output byte from which keystream is taken; the counts, by the lengths of A and
-- M; and how e changes
pub record Parameters : Type 0 where
  pub letter : ℕ
  pub frame_a : Bool → List Bool
  pub frame_m : Bool → List Bool
  pub frame_t : Bool → List Bool
  pub tag_length : ℕ
  pub offset : ℕ
  pub count : (a m : ℕ) → ℕ
  pub next_toggle : Bool → Bool

-- what the steps of wrap or unwrap find: the history after them; the body, which is the cryptogram for wrap and the message for unwrap; and
-- the tag
pub record StepResult (S : Type 0) : Type 0 where
  pub after : S
  pub body : List ℕ
  pub tag : List ℕ

-- a mode: its parameters, and its steps of wrap (A and M) and of unwrap (A, cryptogram and the tag that arrived) at a history and e
pub record Mode : Type 1 where
  pub parameters : Parameters
  pub wraps : {S : Type 0} → HistoryRep S → S → Bool → (a m : List ℕ) → StepResult S
  pub unwraps : {S : Type 0} → HistoryRep S → S → Bool → (a c t : List ℕ) → StepResult S

-- whether a run of bytes is empty
abbrev pub is_empty : List ℕ → Bool
is_empty [] = true
is_empty (a ∷ s) = false

-- ---- steps that modes share; x is the message or the cryptogram
module _ (p : Parameters) {S : Type 0} (d : HistoryRep S) where
  -- the history gains A if A is not empty, or x is
  abbrev pub with_a : S → Bool → (a x : List ℕ) → S
  with_a h e a x = cond (not (is_empty a) || is_empty x) (d.append h (framed a (p.frame_a e))) h

  -- and a text if it is not empty
  abbrev pub with_text : S → Bool → List ℕ → S
  with_text h e x = cond (is_empty x) h (d.append h (framed x (p.frame_m e)))

  -- the tag of a history
  abbrev pub tag_of : S → List ℕ
  tag_of h = run (d.keystream h) 0 p.tag_length

  -- a text plus the keystream of a history
  abbrev pub add_keystream : S → List ℕ → List ℕ
  add_keystream h x = sum x (run (d.keystream h) p.offset (length x))

  -- what is found where h is the history after the steps, and x the body
  abbrev pub step_result : S → List ℕ → StepResult S
  step_result h x = record { after = h; body = x; tag = tag_of h }

  -- ---- modes whose keystream is that of the history with the tag: SANSE

  -- x plus the keystream of the history h, which A has entered, with the tag t as its newest string
  abbrev pub siv_body : S → Bool → (x t : List ℕ) → List ℕ
  siv_body h e x t = add_keystream (d.append h (framed t (p.frame_t e))) x

  -- steps 1 to 3 of wrap
  unfoldable pub siv_wrap : S → Bool → (a m : List ℕ) → StepResult S
  siv_wrap h e a m =
      let h₁ : S = with_a h e a m in
      let h₂ : S = with_text h₁ e m in
      step_result h₂ (siv_body h₁ e m (tag_of h₂))

  -- the same steps of unwrap, with the message from the cryptogram c and the tag t that arrived
  unfoldable pub siv_unwrap : S → Bool → (a c t : List ℕ) → StepResult S
  siv_unwrap h e a c t =
      let h₁ : S = with_a h e a c in
      let m : List ℕ = siv_body h₁ e c t in
      step_result (with_text h₁ e m) m

  -- ---- modes whose keystream is that of the history before A, and whose history gains the cryptogram: SANE

  -- the steps of wrap: the cryptogram, then the strings of A and of the cryptogram, then the tag
  unfoldable pub stream_wrap : S → Bool → (a m : List ℕ) → StepResult S
  stream_wrap h e a m =
      let c : List ℕ = add_keystream h m in
      step_result (with_text (with_a h e a m) e c) c

  -- the same steps of unwrap, which do not go by the tag that arrived
  unfoldable pub stream_unwrap : S → Bool → (a c t : List ℕ) → StepResult S
  stream_unwrap h e a c t = step_result (with_text (with_a h e a c) e c) (add_keystream h c)

-- the modes of these steps with any parameters
abbrev pub siv : Parameters → Mode
siv p = record { parameters = p; wraps = λ {S} d. siv_wrap p d; unwraps = λ {S} d. siv_unwrap p d }

abbrev pub stream : Parameters → Mode
stream p = record { parameters = p; wraps = λ {S} d. stream_wrap p d; unwraps = λ {S} d. stream_unwrap p d }

-- ---- SANSE

-- the blocks of n output bytes
abbrev pub ceiling48 : ℕ → ℕ
ceiling48 n = (n + 47) / 48

-- the blocks of A by its length: none for empty A
abbrev pub blocks_of_a : ℕ → ℕ
blocks_of_a zero = 0
blocks_of_a (suc a) = b (suc a)

-- the permutations of a call by the lengths of A and M
unfoldable pub sanse_count : (a m : ℕ) → ℕ
sanse_count a zero = b a + 2
sanse_count a (suc m) = blocks_of_a a + b (suc m) + 4 + ceiling48 (suc m)

-- its frame bits: A, 0, e; M, 0, 1, e; T, 1, 1, e. Its tags have 32 bytes, and e toggles
abbrev pub sanse_parameters : Parameters
sanse_parameters =
    record {
      letter = letter_s;
      frame_a = λ e. false ∷ e ∷ [];
      frame_m = λ e. false ∷ true ∷ e ∷ [];
      frame_t = λ e. true ∷ true ∷ e ∷ [];
      tag_length = 32;
      offset = 0;
      count = sanse_count;
      next_toggle = not;
    }

-- Xoofff-SANSE
abbrev pub sanse : Mode
sanse = siv sanse_parameters

-- ---- SANE

-- the permutations of a call by the lengths of A and M; the one between accumulator and output is done once for the keystream and once for
-- the tag
unfoldable pub sane_count : (a m : ℕ) → ℕ
sane_count a zero = b a + 2
sane_count a (suc m) = blocks_of_a a + b (suc m) + 3 + ceiling48 (suc m + 16)

-- its frame bits: A, 0, e; cryptogram, 1, e; no tag enters its history. Its tags have 16 bytes, keystream is taken from byte 16 on, and e
-- toggles
abbrev pub sane_parameters : Parameters
sane_parameters =
    record {
      letter = letter_n;
      frame_a = λ e. false ∷ e ∷ [];
      frame_m = λ e. true ∷ e ∷ [];
      frame_t = λ e. [];
      tag_length = 16;
      offset = 16;
      count = sane_count;
      next_toggle = not;
    }

-- Xoofff-SANE
abbrev pub sane : Mode
sane = stream sane_parameters
