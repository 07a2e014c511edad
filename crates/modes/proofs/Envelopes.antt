-- What is claimed of calls for envelopes holds in SANSE and in SANE. Assumes nothing.
use Rattle.std.specs.Prelude.{Some}
use mathlib.Core.Bool.{Bool}
use mathlib.Core.List.{List, [], ◌∷◌, ◌++◌, append_assoc}
use mathlib.Core.Logic.{◌↔◌, ◌≢◌, ◌⊎◌, inl, inr, ⊎_elim}
use mathlib.Core.Path.{◌≡◌, refl, sym, ap, ◌∙◌, subst}
use Prim.Native.Nat.{ℕ, zero, suc, ◌+◌, ◌≤◌, ◌<◌}
use native.Mathlib.Omega.{arith}
use borrow.Author.Tests.{le-ltb}
use lib.ListN.{length, drop, replicate, length-append, length-replicate}
use lib.Seq.{drop_at}
use Rattle.deck.specs.declared.DeckState.{DeckState}
use Rattle.deck.specs.Strings.{Str, framed}
use Rattle.deck.specs.Deck.{index_of}
use Rattle.decimal.specs.Decimal.{decimal, decimal_within}
use Rattle.decimal.proofs.Laws.{decimal-some}
use Rattle.envelope.specs.Layout.{Known, InRange, header}
use Rattle.envelope.specs.Read.{a_header, read_header}
use Rattle.envelope.specs.declared.Header.{Header}
use Rattle.envelope.proofs.Headers.{header-complete}
use Rattle.envelope.proofs.Layouts.{header-length, header-longest, header-of-17}
use Rattle.modes.specs.Call.{CallHeader, bare, under, header_bytes, CallInput, with_header}
use Rattle.modes.specs.Header.{HeaderOf, FollowsLayout}
use Rattle.modes.specs.Rules.{SessionState, Outcome, metadata_string, check_from5, check_number, if_no_check, accepted, compare_tag, wrap_steps, unwrap_steps, wrap_at, unwrap_at}
use Rattle.modes.specs.Mode.{HistoryRep, incremental, Parameters, Mode, whole_history, with_text, add_keystream, siv_body, siv, siv_wrap, siv_unwrap, stream, stream_wrap, stream_unwrap, sanse_parameters, sane_parameters}
use Rattle.modes.specs.Paper.{PaperResult, sanse_opens}
use Rattle.modes.specs.PaperSane.{sane_opens}
use Rattle.modes.specs.Ledger.{PaperMode, sanse_paper, sane_paper, Ledger, string_a, wrap_finds, unwrap_finds, ledger_wrap, ledger_unwrap}
use Rattle.modes.specs.Exactly.{NoneBefore11, UnwrapExactly}
use Rattle.modes.specs.TwoEnds.{ledger_at}
use Rattle.modes.specs.Fresh.{InLimits, BothWays}
use Rattle.modes.specs.Promises.{Kind, Promises}
use Rattle.modes.specs.Envelopes.{addressed, with_string, Strings, AsWithout, readdressed, history_tag, Readdressed, EveryReaddressed, ReaddressedOf, BothSorts, RefusedAnywhere}
use Rattle.modes.proofs.Papers.{paper_of, sanse-paper}
use Rattle.modes.proofs.PapersSane.{sane-paper}
use Rattle.modes.proofs.Modes.{Follows, sanse-follows, sane-follows}
use Rattle.modes.proofs.Ledgers.{unwrap-by-ledger}
use Rattle.modes.proofs.Demands.{ByRules}
use Rattle.modes.proofs.Entries.{PaperLaws, paper-laws}
use Rattle.modes.proofs.Header.{fits-follows}
use Rattle.modes.proofs.Exactly.{wrap-exactly, unwrap-exactly}
use Rattle.modes.proofs.Converse.{stopped}
use Rattle.modes.proofs.Fresh.{past-wrap, past-arrival, both_ways_lem}
use Rattle.modes.proofs.SaneDemands.{sane-both-ways}

-- ---- the string of A

-- without an envelope
bare-string : (i : CallInput) → string_a (with_header bare i) ≡ i.metadata
bare-string i = refl

module _ {letter group : ℕ} {i : CallInput} (h : HeaderOf letter group i) where
  -- it begins with the header
  string-is : string_a i ≡ header letter group (length i.metadata) (length i.text) ++ i.metadata
  string-is = ap (λ (x : CallHeader). header_bytes x ++ i.metadata) h.bytes

  -- so reading gives the header back
  string-read : read_header (string_a i)
      ≡ Some (a_header letter group (length i.metadata) (length i.text) (length (header letter group (length i.metadata) (length i.text))))
  string-read = header-complete (string_a i) letter group _ _ i.metadata (record { in_range = h.in_range; bytes = string-is })

  -- and the metadata are what stands after its place
  after-place : drop (length (header letter group (length i.metadata) (length i.text))) (string_a i) ≡ i.metadata
  after-place =
      ap (drop (length (header letter group (length i.metadata) (length i.text)))) string-is
      ∙ drop_at (header letter group (length i.metadata) (length i.text)) i.metadata _ refl

  string-bounds : (8 ≤ length (string_a i)) × (length (string_a i) ≤ 16401)
  string-bounds =
      let e = ap length string-is ∙ length-append (header letter group (length i.metadata) (length i.text)) i.metadata in (
        omega (arith, e, header-length letter group (length i.metadata) (length i.text), decimal-some group, decimal-some (length i.metadata), decimal-some (length i.text)),
        omega (arith, e, header-longest h.in_range, h.in_range.metadata_fits),
      )

string-decides : {letter g h : ℕ} {i j : CallInput} → HeaderOf letter g i → HeaderOf letter h j → string_a i ≡ string_a j
    → (g ≡ h) × (i.metadata ≡ j.metadata) × (length i.text ≡ length j.text)
string-decides {letter} {g} {h} {i} {j} a b e =
    let one = header letter g (length i.metadata) (length i.text) in
    let other = header letter h (length j.metadata) (length j.text) in
    let both = sym (string-read a) ∙ ap read_header e ∙ string-read b in
    let r : a_header letter g (length i.metadata) (length i.text) (length one) ≡ a_header letter h (length j.metadata) (length j.text) (length other) = cc in (
      ap (λ (x : Header). x.group) r,
      sym (after-place a) ∙ ap (λ (k : ℕ). drop k (string_a i)) (ap (λ (x : Header). x.place) r) ∙ ap (drop (length other)) e ∙ after-place b,
      ap (λ (x : Header). x.mlen) r,
    )

-- a call under the header of a group
module _ {letter group : ℕ} (i : CallInput) (known : Known letter) where
  pub own-header : group ≤ 31 → length i.metadata ≤ 16384 → length i.text ≤ 16384 → HeaderOf letter group (addressed letter group i)
  own-header g a m = record { in_range = record { known = known; group_in_range = g; metadata_fits = a; message_fits = m }; bytes = refl }

-- what is handed to a call with this many bytes of metadata and of text
abbrev of_lengths : (a m : ℕ) → CallInput
of_lengths a m = record { header = bare; metadata = replicate a 0; text = replicate m 0; out = []; tag = [] }

pub strings-of : (letter : ℕ) → Known letter → Strings letter
unfolding decimal decimal_within
strings-of letter known =
    record {
      without = bare-string;
      bounds = λ group i h. string-bounds h;
      shortest = (0, addressed letter 0 (of_lengths 0 0), own-header (of_lengths 0 0) known (omega arith) (omega arith) (omega arith), length-append (header letter 0 0 0) [] ∙ omega (arith, header-length letter 0 0 0));
      longest = (
        31,
        addressed letter 31 (of_lengths 16384 16384),
        own-header (of_lengths 16384 16384) known (omega arith) (omega (arith, length-replicate {A = ℕ} 16384 0)) (omega (arith, length-replicate {A = ℕ} 16384 0)),
        length-append (header letter 31 (length (of_lengths 16384 16384).metadata) (length (of_lengths 16384 16384).text)) (of_lengths 16384 16384).metadata
            ∙ omega (arith, length-replicate {A = ℕ} 16384 0, ap (λ (n : ℕ). length (header letter 31 n n)) (length-replicate {A = ℕ} 16384 0), header-of-17 letter),
      );
      decides = λ g h i j. string-decides;
    }

-- ---- as a call without an envelope

module _ (m : Mode) {S : Type 0} (d : HistoryRep S) (s : SessionState S) (i : CallInput) (f : FollowsLayout m.parameters.letter i)
    (h : length (string_a i) ≤ 16384) where
  -- check 1 is met by neither, 6 by both or none, and the others are the same
  same_check : check_number m d s i ≡ check_number m d s (with_string i)
  unfolding check_number check_from5 metadata_string
  same_check =
      rw (
        (fits-follows m.parameters.letter i).1 f,
        le-ltb 16384 (length i.metadata) (omega (arith, length-append (header_bytes i.header) i.metadata)),
        le-ltb 16384 (length (string_a i)) h,
      )
      refl

  -- a refusal leaves the same
  same-refused : (n : ℕ) (o : Outcome S) → if_no_check n s i o ≡ if_no_check n s (with_string i) o
  same-refused zero o = refl
  same-refused (suc n) o = refl

  wraps-as : wrap_at m d s i ≡ wrap_at m d s (with_string i)
  unfolding wrap_at metadata_string
  wraps-as =
      let o = accepted m d s i (wrap_steps m d s i) (wrap_steps m d s i).tag in
      same-refused (check_number m d s i) o ∙ ap (λ (n : ℕ). if_no_check n s (with_string i) o) same_check

  unwraps-as : unwrap_at m d s i ≡ unwrap_at m d s (with_string i)
  unfolding unwrap_at metadata_string
  unwraps-as =
      let o = compare_tag m d s i (unwrap_steps m d s i) in
      same-refused (check_number m d s i) o ∙ ap (λ (n : ℕ). if_no_check n s (with_string i) o) same_check

pub as_without : (m : Mode) → AsWithout m
as_without m = record { wraps = λ d s i. wraps-as m d s i; unwraps = λ d s i. unwraps-as m d s i }

-- ---- tag and history

-- a tag is that of the history found, and A, where it is not empty, is the string next after those that were there
pub record HistoryLaws (m : PaperMode) : Type 0 where
  pub wraps_tag : (key : List ℕ) (h : List Str) (e : Bool) (a x : List ℕ)
      → (m.wraps key h e a x).tag ≡ history_tag m key (m.wraps key h e a x).history
  pub unwraps_tag : (key : List ℕ) (h : List Str) (e : Bool) (a c t : List ℕ)
      → (m.unwraps key h e a c t).tag ≡ history_tag m key (m.unwraps key h e a c t).history
  pub wraps_A : (key : List ℕ) (h : List Str) (e : Bool) (a x : List ℕ) → 1 ≤ length a
      → (f : List Bool) × (rest : List Str) × ((m.wraps key h e a x).history ≡ h ++ (framed a f ∷ rest))
  pub unwraps_A : (key : List ℕ) (h : List Str) (e : Bool) (a c t : List ℕ) → 1 ≤ length a
      → (f : List Bool) × (rest : List Str) × ((m.unwraps key h e a c t).history ≡ h ++ (framed a f ∷ rest))

-- one more text after A
then-text : (p : Parameters) (key : List ℕ) (h : List Str) (e : Bool) (s : Str) (x : List ℕ)
    → (rest : List Str) × (with_text p (whole_history key) (h ++ (s ∷ [])) e x ≡ h ++ (s ∷ rest))
then-text p key h e s [] = ([], refl)
then-text p key h e s (y ∷ x) = (framed (y ∷ x) (p.frame_m e) ∷ [], append_assoc h (s ∷ []) (framed (y ∷ x) (p.frame_m e) ∷ []))

siv-history : (p : Parameters) → HistoryLaws (paper_of (siv p))
unfolding paper_of siv_wrap siv_unwrap
siv-history p = record { wraps_tag = λ key h e a x. refl; unwraps_tag = λ key h e a c t. refl; wraps_A = wraps; unwraps_A = unwraps }
  where
    wraps : (key : List ℕ) (h : List Str) (e : Bool) (a x : List ℕ) → 1 ≤ length a
        → (f : List Bool) × (rest : List Str) × (((paper_of (siv p)).wraps key h e a x).history ≡ h ++ (framed a f ∷ rest))
    wraps key h e [] x n = absurd (omega arith)
    wraps key h e (z ∷ a) x n = let t = then-text p key h e (framed (z ∷ a) (p.frame_a e)) x in (p.frame_a e, t.0, t.1)

    unwraps : (key : List ℕ) (h : List Str) (e : Bool) (a c t : List ℕ) → 1 ≤ length a
        → (f : List Bool) × (rest : List Str) × (((paper_of (siv p)).unwraps key h e a c t).history ≡ h ++ (framed a f ∷ rest))
    unwraps key h e [] c t n = absurd (omega arith)
    unwraps key h e (z ∷ a) c t n = let t = then-text p key h e (framed (z ∷ a) (p.frame_a e)) (siv_body p (whole_history key) (h ++ (framed (z ∷ a) (p.frame_a e) ∷ [])) e c t) in (p.frame_a e, t.0, t.1)

stream-history : (p : Parameters) → HistoryLaws (paper_of (stream p))
unfolding paper_of stream_wrap stream_unwrap
stream-history p = record { wraps_tag = λ key h e a x. refl; unwraps_tag = λ key h e a c t. refl; wraps_A = wraps; unwraps_A = unwraps }
  where
    wraps : (key : List ℕ) (h : List Str) (e : Bool) (a x : List ℕ) → 1 ≤ length a
        → (f : List Bool) × (rest : List Str) × (((paper_of (stream p)).wraps key h e a x).history ≡ h ++ (framed a f ∷ rest))
    wraps key h e [] x n = absurd (omega arith)
    wraps key h e (z ∷ a) x n = let t = then-text p key h e (framed (z ∷ a) (p.frame_a e)) (add_keystream p (whole_history key) h x) in (p.frame_a e, t.0, t.1)

    unwraps : (key : List ℕ) (h : List Str) (e : Bool) (a c t : List ℕ) → 1 ≤ length a
        → (f : List Bool) × (rest : List Str) × (((paper_of (stream p)).unwraps key h e a c t).history ≡ h ++ (framed a f ∷ rest))
    unwraps key h e [] c t n = absurd (omega arith)
    unwraps key h e (z ∷ a) c t n = let t = then-text p key h e (framed (z ∷ a) (p.frame_a e)) c in (p.frame_a e, t.0, t.1)

pub sanse-history : HistoryLaws sanse_paper
sanse-history = subst HistoryLaws sanse-paper (siv-history sanse_parameters)

pub sane-history : HistoryLaws sane_paper
sane-history = subst HistoryLaws sane-paper (stream-history sane_parameters)

-- the bytes of the first string
abbrev first_bytes : List Str → List ℕ
first_bytes [] = []
first_bytes (s ∷ h) = s.bytes

-- ---- another group

module _ {m : PaperMode} (laws : PaperLaws m) (own : HistoryLaws m) (l : Ledger) (group other : ℕ) (i : CallInput) (out : List ℕ)
    (its : HeaderOf m.letter group i) (in_table : other ≤ 31) (another : other ≢ group) (given : (ledger_wrap m l i).answer.number ≡ 0)
    (room : length i.text ≤ length out) where
  abbrev arrival : CallInput
  arrival = readdressed m l i other out

  abbrev found : PaperResult
  found = unwrap_finds m l arrival

  as_long : length arrival.text ≡ length i.text
  as_long = laws.wraps_length l.key l.history l.toggle (string_a i) i.text

  none : NoneBefore11 m.letter ⊥ m.tag_length (index_of (wrap_finds m l i).history) i
  none = (wrap-exactly m laws.known l i).accepted.0 given

  its-new : HeaderOf m.letter other arrival
  its-new = own-header (with_header bare arrival) laws.known in_table none.metadata (omega (arith, as_long, none.text))

  other-string : string_a arrival ≢ string_a i
  other-string e = another (string-decides its-new its e).0

  other-history : found.history ≢ (wrap_finds m l i).history
  other-history e =
      let h = l.history in
      let u = own.unwraps_A l.key h l.toggle (string_a arrival) arrival.text arrival.tag (omega (arith, (string-bounds its-new).0)) in
      let w = own.wraps_A l.key h l.toggle (string_a i) i.text (omega (arith, (string-bounds its).0)) in
      other-string
      (ap first_bytes (sym (drop_at h (framed (string_a arrival) u.0 ∷ u.1) (length h) refl))
      ∙ ap (λ (g : List Str). first_bytes (drop (length h) g)) (sym u.2 ∙ e ∙ w.2)
      ∙ ap first_bytes (drop_at h (framed (string_a i) w.0 ∷ w.1) (length h) refl))

  sent-tag : arrival.tag ≡ history_tag m l.key (wrap_finds m l i).history
  sent-tag = own.wraps_tag l.key l.history l.toggle (string_a i) i.text

  found-tag : found.tag ≡ history_tag m l.key found.history
  found-tag = own.unwraps_tag l.key l.history l.toggle (string_a arrival) arrival.text arrival.tag

  numbers : UnwrapExactly m l arrival (ledger_unwrap m l arrival).answer.number
  numbers = unwrap-exactly m laws.known l arrival

  -- no check before 9 is met
  passed : index_of found.history ≤ 1048576 → NoneBefore11 m.letter ⊥ m.tag_length (index_of found.history) arrival
  passed h =
      record {
        header = FollowsLayout.of-group other its-new;
        is_open = λ z. z;
        metadata = none.metadata;
        text = omega (arith, as_long, none.text);
        tag = laws.wraps_tag l.key l.history l.toggle (string_a i) i.text;
        out = omega (arith, as_long);
        index = h;
      }

  readdressed-is : Readdressed m l i other out
  readdressed-is =
      record {
        strings = other-string;
        histories = other-history;
        arrives = sent-tag;
        compared = found-tag;
        nine = (
          λ e. (numbers.refused.nine.0 e).5,
          λ h.
              numbers.refused.nine.1 (
                λ c. c (FollowsLayout.of-group other its-new),
                λ z. z,
                ⊎_elim (λ q. omega (arith, none.metadata)) (λ q. omega (arith, as_long, none.text)),
                λ c. c (laws.wraps_tag l.key l.history l.toggle (string_a i) i.text),
                λ q. omega (arith, as_long, room),
                h,
              ),
        );
        eleven = (
          λ e. ((numbers.eleven.0 e).0.index, λ q. (numbers.eleven.0 e).1 (sent-tag ∙ q ∙ sym found-tag)),
          λ h. numbers.eleven.1 (passed h.0, λ q. h.1 (sym sent-tag ∙ q ∙ found-tag)),
        );
      }

-- of a program whose promises are the rules' equations
module _ {r : Mode} {m : PaperMode} {k : Kind} {p : Promises k} (rules : ByRules r p) (f : Follows r m) (every : EveryReaddressed m) where
  pub readdressed-of : ReaddressedOf k m p
  readdressed-of l group other i out its h n given room s q out' tag e w = (
    every l group other i out its h n given room,
    ap (λ (o : Outcome DeckState). o.number)
        ((rules.unwraps s (readdressed m l i other out) q out' tag).0 w
        ∙ ap (λ (z : SessionState DeckState). unwrap_at r incremental z (readdressed m l i other out)) e
        ∙ unwrap-by-ledger f l (readdressed m l i other out)),
  )

-- ---- lists with calls of both sorts

limits-under : {m : PaperMode} → Known m.letter → (group : ℕ) → group ≤ 31 → (i : CallInput) → InLimits m (with_header bare i)
    → InLimits m (addressed m.letter group i)
limits-under known group h i w =
    record {
      header = FollowsLayout.of-group group (own-header i known h w.metadata w.text);
      metadata = w.metadata;
      text = w.text;
      tag = w.tag;
      out = w.out;
    }

both-sorts : {m : PaperMode} {key : List ℕ} {opening : List Str} → Known m.letter
    → ((i j : CallInput) (out out' : List ℕ) → BothWays m key opening i j out out') → BothSorts m key opening
both-sorts known both group i j out out' h w v a b = (
  both _ _ out out' (limits-under known group h i w) v a b,
  both _ _ out out' w (limits-under known group h j v) a b,
)

refused-anywhere : {m : PaperMode} → PaperLaws m → RefusedAnywhere m
refused-anywhere laws =
    record {
      wraps = λ t cs p x i h d. past-wrap x i h d;
      unwraps = λ t cs p x i h d. past-arrival x i (stopped laws (ledger_at x p) i h) d;
    }

-- ---- SANSE

pub sanse-strings : Strings sanse_paper.letter
sanse-strings = strings-of 83 (paper-laws sanse-follows).known

pub sanse-readdressed : EveryReaddressed sanse_paper
sanse-readdressed l group other i out = readdressed-is (paper-laws sanse-follows) sanse-history l group other i out

pub sanse-both-sorts : (key : List ℕ) → BothSorts sanse_paper key sanse_opens
sanse-both-sorts key = both-sorts (paper-laws sanse-follows).known (both_ways_lem key)

pub sanse-refused-anywhere : RefusedAnywhere sanse_paper
sanse-refused-anywhere = refused-anywhere (paper-laws sanse-follows)

-- ---- SANE

pub sane-strings : Strings sane_paper.letter
sane-strings = strings-of 78 (paper-laws sane-follows).known

pub sane-readdressed : EveryReaddressed sane_paper
sane-readdressed l group other i out = readdressed-is (paper-laws sane-follows) sane-history l group other i out

pub sane-both-sorts : (key nonce : List ℕ) → length nonce ≤ 16384 → BothSorts sane_paper key (sane_opens nonce)
sane-both-sorts key nonce h = both-sorts (paper-laws sane-follows).known (sane-both-ways key nonce h)

pub sane-refused-anywhere : RefusedAnywhere sane_paper
sane-refused-anywhere = refused-anywhere (paper-laws sane-follows)
