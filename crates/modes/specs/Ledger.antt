-- The ledger of one end (document 01, "The two ends of demand 3"): no part of the program. It holds the key, a history and e, is fed what
-- each call is handed, and works by the papers' algorithm over the whole history. It shares with the contracts' definitions what a call is
-- handed (`CallInput`), and, through the papers' file, strings and the deck function with its index; the checks, the counts, the
-- comparison of tags, the header's text (document 02, request 7) and what becomes of the buffers are written out here. Assumes nothing.
use Rattle.std.specs.Prelude.{Bool, true, false, not, ◌||◌, cond, List, [], ◌∷◌, ◌++◌, ℕ, zero, suc, ◌+◌, ◌/◌, ◌%◌, ltb, eqb, length, drop, replicate}
use Rattle.deck.specs.Strings.{Str}
use Rattle.deck.specs.Deck.{index_of}
use Rattle.modes.specs.Call.{CallHeader, bare, under, header_bytes, CallInput}
use Rattle.modes.specs.Paper.{PaperResult, sanse_wrap, sanse_unwrap}
use Rattle.modes.specs.PaperSane.{sane_wrap, sane_unwrap}

-- a mode as the papers give it: the letter of its envelopes, its tag's length in bytes, its count by the byte lengths of A and M, and its
-- algorithms at key, history and e
pub record PaperMode : Type 0 where
  pub letter : ℕ
  pub tag_length : ℕ
  pub count : (A M : ℕ) → ℕ
  pub wraps : (key : List ℕ) → List Str → Bool → (A P : List ℕ) → PaperResult
  pub unwraps : (key : List ℕ) → List Str → Bool → (A C T : List ℕ) → PaperResult

-- document 01's count for SANSE: b(A) + 2 where M is empty, otherwise a + b(M) + 4 + ceiling (M / 48), where a is b(A), or 0 for empty A
unfoldable pub sanse_permutations : (A M : ℕ) → ℕ
sanse_permutations A M =
    let b_a : ℕ = A / 48 + 1 in
    let b_m : ℕ = M / 48 + 1 in
    let ceiling : ℕ = cond (eqb (M % 48) 0) (M / 48) (M / 48 + 1) in
    cond (eqb M 0) (b_a + 2) (cond (eqb A 0) 0 b_a + b_m + 4 + ceiling)

-- SANSE as 003 and document 01 give it, its letter being `S`
abbrev pub sanse_paper : PaperMode
sanse_paper = record { letter = 83; tag_length = 32; count = sanse_permutations; wraps = sanse_wrap; unwraps = sanse_unwrap }

-- request 2's count for SANE: b(A) + 2 where M is empty, otherwise a + b(M) + 3 + ceiling ((M + 16) / 48), where a is b(A), or 0 for empty A
unfoldable pub sane_permutations : (A M : ℕ) → ℕ
sane_permutations A M =
    let b_a : ℕ = A / 48 + 1 in
    let b_m : ℕ = M / 48 + 1 in
    let ceiling : ℕ = cond (eqb ((M + 16) % 48) 0) ((M + 16) / 48) ((M + 16) / 48 + 1) in
    cond (eqb M 0) (b_a + 2) (cond (eqb A 0) 0 b_a + b_m + 3 + ceiling)

-- SANE as 003 and request 2 give it, its letter being `N`
abbrev pub sane_paper : PaperMode
sane_paper = record { letter = 78; tag_length = 16; count = sane_permutations; wraps = sane_wrap; unwraps = sane_unwrap }

-- what a ledger holds
pub record Ledger : Type 0 where
  pub key : List ℕ
  pub history : List Str
  pub toggle : Bool

-- a ledger under a key before its first call, with the history that its session opens with
abbrev pub fresh_ledger : (key : List ℕ) (opening : List Str) → Ledger
fresh_ledger key opening = record { key = key; history = opening; toggle = false }

-- what a call gives beside the session: its number (0: accepted), its count, and the output buffer and the tag buffer after it
pub record LedgerAnswer : Type 0 where
  pub number : ℕ
  pub count : ℕ
  pub out : List ℕ
  pub tag : List ℕ

-- a call's answer, and the ledger after it
pub record Entry : Type 0 where
  pub answer : LedgerAnswer
  pub ledger : Ledger

-- whether two runs of bytes, as two tags are, are equal
abbrev pub equal_tags : List ℕ → List ℕ → Bool
equal_tags [] [] = true
equal_tags [] (y ∷ t) = false
equal_tags (x ∷ s) [] = false
equal_tags (x ∷ s) (y ∷ t) = cond (eqb x y) (equal_tags s t) false

-- ---- headers

-- a number below 100,000 in decimal, without leading zeros
unfoldable pub numeral : ℕ → List ℕ
numeral n =
    let digit : ℕ → List ℕ = λ unit. (48 + n / unit % 10) ∷ [] in
    cond (ltb n 10) (digit 1)
    (cond (ltb n 100) (digit 10 ++ digit 1)
    (cond (ltb n 1000) (digit 100 ++ digit 10 ++ digit 1)
    (cond (ltb n 10000) (digit 1000 ++ digit 100 ++ digit 10 ++ digit 1)
    (digit 10000 ++ digit 1000 ++ digit 100 ++ digit 10 ++ digit 1))))

-- the header `letter,group,A length,M length,`
unfoldable pub header_text : (letter group A M : ℕ) → List ℕ
header_text letter group A M = letter ∷ 44 ∷ (numeral group ++ (44 ∷ (numeral A ++ (44 ∷ (numeral M ++ (44 ∷ []))))))

-- whether the bytes x are the header of one of the first n groups
unfoldable pub of_group : (n letter A M : ℕ) (x : List ℕ) → Bool
of_group zero letter A M x = false
of_group (suc group) letter A M x = equal_tags x (header_text letter group A M) || of_group group letter A M x

-- whether a call's header is right: there is none, or it is that of one of the 32 groups with these lengths, of at most 16,384 bytes
abbrev pub right_header : (letter : ℕ) → CallHeader → (A M : ℕ) → Bool
right_header letter bare A M = true
right_header letter (under x) A M = cond (ltb 16384 A || ltb 16384 M) false (of_group 32 letter A M x)

-- A, for a call: the header's bytes, if there is one, followed by the metadata
abbrev pub string_a : CallInput → List ℕ
string_a i = header_bytes i.header ++ i.metadata

-- ---- a call

module _ (m : PaperMode) where
  -- what the algorithm finds for a wrap at the ledger's key, history and e
  abbrev pub wrap_finds : Ledger → CallInput → PaperResult
  wrap_finds l i = m.wraps l.key l.history l.toggle (string_a i) i.text

  -- and the same of an unwrap
  abbrev pub unwrap_finds : Ledger → CallInput → PaperResult
  unwrap_finds l i = m.unwraps l.key l.history l.toggle (string_a i) i.text i.tag

  -- the first of the checks 1 and 6 to 9 that a call meets for which the algorithm finds r, or 0. No call meets 5
  abbrev pub check_before11 : PaperResult → CallInput → ℕ
  check_before11 r i =
      cond (not (right_header m.letter i.header (length i.metadata) (length i.text))) 1
      (cond (ltb 16384 (length i.metadata) || ltb 16384 (length i.text)) 6
      (cond (not (eqb (length i.tag) m.tag_length)) 7
      (cond (ltb (length i.out) (length i.text)) 8
      (cond (ltb 1048576 (index_of r.history)) 9 0))))

  -- by that check: its number, count 0, the buffers and the ledger as they were; or the entry of a call that meets none of them
  abbrev pub on_check : ℕ → Ledger → CallInput → Entry → Entry
  on_check zero l i e = e
  on_check (suc n) l i e = record { answer = record { number = suc n; count = 0; out = i.out; tag = i.tag }; ledger = l }

  -- accepted: the text at the output buffer's start, the algorithm's history and e
  abbrev pub accepts : Ledger → CallInput → PaperResult → (tag : List ℕ) → Entry
  accepts l i r tag =
      record {
        answer = record {
          number = 0;
          count = m.count (length (string_a i)) (length i.text);
          out = r.text ++ drop (length r.text) i.out;
          tag = tag;
        };
        ledger = record { key = l.key; history = r.history; toggle = r.toggle };
      }

  -- number 11: the real count, zeros for the first M bytes of the output buffer, and the ledger as it was
  abbrev pub refuses11 : Ledger → CallInput → Entry
  refuses11 l i =
      record {
        answer = record {
          number = 11;
          count = m.count (length (string_a i)) (length i.text);
          out = replicate (length i.text) 0 ++ drop (length i.text) i.out;
          tag = i.tag;
        };
        ledger = l;
      }

  -- the entry of a wrap
  unfoldable pub ledger_wrap : Ledger → CallInput → Entry
  ledger_wrap l i =
      let r : PaperResult = wrap_finds l i in
      on_check (check_before11 r i) l i (accepts l i r r.tag)

  -- the entry of an unwrap
  unfoldable pub ledger_unwrap : Ledger → CallInput → Entry
  ledger_unwrap l i =
      let r : PaperResult = unwrap_finds l i in
      on_check (check_before11 r i) l i (cond (equal_tags i.tag r.tag) (accepts l i r i.tag) (refuses11 l i))
