-- What the calls of a session mode compute, step by step, is what the rules say: for any mode, over plain values, so that a function's proof
-- only hands its facts over. Assumes nothing.
use mathlib.Core.Path.{◌≡◌, refl, sym, ap, ap₂, ◌∙◌}
use mathlib.Core.Bool.{Bool, true, false, not, ◌||◌, cond}
use mathlib.Core.List.{List, [], ◌∷◌, ◌++◌}
use Prim.Native.Nat.{ℕ, zero, suc, ◌+◌, ◌≤◌, ◌<◌}
use native.Mathlib.Omega.{arith}
use lib.ListN.{length, drop, replicate, length-replicate, length-append}
use lib.Seq.{drop_at}
use Rattle.refusals.specs.declared.Refusal.{Refusal}
use Rattle.refusals.specs.Numbers.{number_of}
use Rattle.refusals.proofs.Numbers.{number-positive}
use Rattle.deck.specs.declared.DeckState.{DeckState}
use Rattle.xoofff.specs.declared.Compressed.{Compressed}
use Rattle.deck.specs.Strings.{b, framed}
use Rattle.deck.specs.Incremental.{append}
use Rattle.deck.specs.Closing.{closing_byte, closed_by}
use Rattle.xoofff.specs.Leaves.{compressed}
use Rattle.deck.proofs.ClosingBytes.{closed_by-closing}
use Rattle.deck.proofs.Strings.{blocks_is}
use Rattle.modes.specs.Call.{CallHeader, bare, under, CallInput}
use Rattle.modes.specs.Header.{header_fits}
use Rattle.modes.specs.Mode.{is_empty, incremental, with_a, with_text, Parameters, StepResult, Mode}
use Rattle.modes.specs.Rules.{SessionState, Outcome, growth, first_check_of, check_from5, check_number, metadata_string, written, same_bytes, accepted, wrong_tag, compare_tag, if_no_check, wrap_steps, unwrap_steps, wrap_from5, unwrap_from5, wrap_at, unwrap_at}
use Rattle.modes.proofs.Steps.{ShortFrames}
use Rattle.modes.proofs.Sessions.{incremental-grows}
use Rattle.steps.specs.Steps.{compressed_if}
use Rattle.steps.proofs.History.{Passed, passed}

-- ---- strings that may be left out: the state and the count

-- the string of these bytes and this closing byte has the closing byte's frame bits
pub closed_is : (x : List ℕ) (c : ℕ) (f : List Bool) → length f ≤ 7 → c ≡ closing_byte f → closed_by x c ≡ framed x f
closed_is x c f h e = ap (closed_by x) e ∙ closed_by-closing x f h

module _ (t : Bool) (d : DeckState) (x : List ℕ) (c : ℕ) (f : List Bool) (h : Compressed) (short : length f ≤ 7) (closes : c ≡ closing_byte f)
    (is : h ≡ compressed_if t d (closed_by x c)) where
  framed-if : h ≡ compressed_if t d (framed x f)
  framed-if = is ∙ ap (compressed_if t d) (closed_is x c f short closes)

  pub state-if : h.state ≡ cond t (append d (framed x f)) d
  unfolding compressed
  state-if = ap (λ (r : Compressed). r.state) framed-if ∙ go t
    where
      go : (t : Bool) → (compressed_if t d (framed x f)).state ≡ cond t (append d (framed x f)) d
      go true = refl
      go false = refl

  pub count-if : h.count ≡ cond t (b (length x)) 0
  unfolding compressed
  count-if = ap (λ (r : Compressed). r.count) framed-if ∙ go t
    where
      go : (t : Bool) → (compressed_if t d (framed x f)).count ≡ cond t (b (length x)) 0
      go true = blocks_is (framed x f) short
      go false = refl

pub cond-not : {A : Type 0} (t : Bool) (p q : A) → cond (not t) p q ≡ cond t q p
cond-not true p q = refl
cond-not false p q = refl

-- the text's string, in a mode with these parameters
module _ (p : Parameters) (f : ShortFrames p) (d : DeckState) (e : Bool) (x : List ℕ) (c : ℕ) (h : Compressed) (closes : c ≡ closing_byte (p.frame_m e))
    (is : h ≡ compressed_if (not (is_empty x)) d (closed_by x c)) where
  pub text-state : h.state ≡ with_text p incremental d e x
  text-state = state-if (not (is_empty x)) d x c (p.frame_m e) h (f.of_m e) closes is ∙ cond-not (is_empty x) (append d (framed x (p.frame_m e))) d

  pub text-count : h.count ≡ cond (is_empty x) 0 (b (length x))
  text-count = count-if (not (is_empty x)) d x c (p.frame_m e) h (f.of_m e) closes is ∙ cond-not (is_empty x) (b (length x)) 0

-- ---- what is known once the string of A is in the history

-- the first of the checks 5 to 9 that a call meets
abbrev pub first_of : Mode → SessionState DeckState → CallInput → ℕ
first_of m s i =
    first_check_of s.opened (s.history.index + growth (length (metadata_string i)) (length i.text)) m.parameters.tag_length
    (length i.metadata) (length i.text) (length i.tag) (length i.out)

-- no check was met, and the history gained A
pub record Begun (m : Mode) (s : SessionState DeckState) (i : CallInput) (c : ℕ) (h : Compressed) : Type 0 where
  pub none : 0 ≡ first_of m s i
  pub closes : c ≡ closing_byte (m.parameters.frame_a s.toggle)
  pub long : length (metadata_string i) ≤ 16401
  pub is_a : h ≡ compressed_if (not (is_empty (metadata_string i)) || is_empty i.text) s.history (closed_by (metadata_string i) c)

-- what the string of A does to the index
index-most : (p : Parameters) → ShortFrames p → (d : DeckState) (e : Bool) (a x : List ℕ)
    → (with_a p incremental d e a x).index ≤ d.index + growth (length a) (length x)
unfolding growth
index-most p f d e [] [] = omega (arith, incremental-grows d (framed [] (p.frame_a e)) (f.of_a e))
index-most p f d e [] (y ∷ x) = omega arith
index-most p f d e (z ∷ a) [] = omega (arith, incremental-grows d (framed (z ∷ a) (p.frame_a e)) (f.of_a e))
index-most p f d e (z ∷ a) (y ∷ x) = omega (arith, incremental-grows d (framed (z ∷ a) (p.frame_a e)) (f.of_a e))

-- what the checks showed of a call that meets none of them
abbrev pub Within : Mode → SessionState DeckState → CallInput → Type 0
Within m s i =
    Passed (s.history.index + growth (length (metadata_string i)) (length i.text)) m.parameters.tag_length (length i.metadata) (length i.text)
    (length i.tag) (length i.out)

pub within : (m : Mode) (s : SessionState DeckState) (i : CallInput) → 0 ≡ first_of m s i → Within m s i
within m s i z = passed s.opened _ _ _ _ _ _ (sym z)

-- so the history can gain A, where the header has k bytes
pub begins : (m : Mode) (s : SessionState DeckState) (i : CallInput) {k : ℕ} → Within m s i → k ≤ 17
    → (k ≤ 17) × (length i.metadata ≤ 16384) × (s.history.index ≤ 1048576)
begins m s i w h = (
  h,
  w.metadata,
  omega (arith, w.index),
)

module _ {m : Mode} (f : ShortFrames m.parameters) {s : SessionState DeckState} {i : CallInput} {c : ℕ} {h : Compressed} (k : Begun m s i c h) where
  pub begun-state : h.state ≡ with_a m.parameters incremental s.history s.toggle (metadata_string i) i.text
  begun-state =
      state-if (not (is_empty (metadata_string i)) || is_empty i.text) s.history (metadata_string i) c (m.parameters.frame_a s.toggle) h
      (f.of_a s.toggle) k.closes k.is_a

  pub begun-count : h.count ≡ cond (not (is_empty (metadata_string i)) || is_empty i.text) (b (length (metadata_string i))) 0
  begun-count =
      count-if (not (is_empty (metadata_string i)) || is_empty i.text) s.history (metadata_string i) c (m.parameters.frame_a s.toggle) h
      (f.of_a s.toggle) k.closes k.is_a

  -- the index with it is within the limit
  pub begun-index : h.state.index ≤ 1048576
  begun-index =
      omega (
        arith,
        ap (λ (u : DeckState). u.index) begun-state,
        index-most m.parameters f s.history s.toggle (metadata_string i) i.text,
        (within m s i k.none).index,
      )

-- ---- what a call gives, in any mode

module _ (m : Mode) (s : SessionState DeckState) (i : CallInput) where
  -- the history d and e in the session after it
  abbrev pub gives : (number count : ℕ) (d : DeckState) (e : Bool) (out tag : List ℕ) → Outcome DeckState
  gives n c d e o t = record { number = n; count = c; session = record { history = d; toggle = e; opened = s.opened }; out = o; tag = t }

  -- refused before any work, by this check
  module _ (e : Refusal) (h : number_of e ≡ first_of m s i) where
    refused-if : (o : Outcome DeckState) → gives (number_of e) 0 s.history s.toggle i.out i.tag ≡ if_no_check (first_of m s i) s i o
    refused-if o = go (number_of e) (number-positive e) ∙ ap (λ (k : ℕ). if_no_check k s i o) h
      where
        go : (k : ℕ) → 0 < k → gives k 0 s.history s.toggle i.out i.tag ≡ if_no_check k s i o
        go zero g = absurd (omega (arith, g))
        go (suc k) g = refl

    pub wrap-refused : gives (number_of e) 0 s.history s.toggle i.out i.tag ≡ wrap_from5 m incremental s i
    unfolding wrap_from5 check_from5
    wrap-refused = refused-if _

    pub unwrap-refused : gives (number_of e) 0 s.history s.toggle i.out i.tag ≡ unwrap_from5 m incremental s i
    unfolding unwrap_from5 check_from5
    unwrap-refused = refused-if _

  -- no check was met, and the work gave what the mode's steps find, r: the history d, the count c, the output buffer o and the tag t
  pub record Worked (r : StepResult DeckState) (d : DeckState) (c : ℕ) (o t : List ℕ) : Type 0 where
    pub none : 0 ≡ first_of m s i
    pub after : d ≡ r.after
    pub count : c ≡ m.parameters.count (length (metadata_string i)) (length i.text)
    pub sized : length r.body ≡ length i.text
    pub body : o ≡ written r.body i.out
    pub tag : t ≡ r.tag

  -- accepted
  accepted-is : {r : StepResult DeckState} {d : DeckState} {c : ℕ} {o t u : List ℕ} → Worked r d c o t
      → gives 0 c d (m.parameters.next_toggle s.toggle) o u ≡ accepted m incremental s i r u
  accepted-is {u = u} w = λ j. gives 0 (w.count j) (w.after j) (m.parameters.next_toggle s.toggle) (w.body j) u

  pub wrap-accepted : {d : DeckState} {c : ℕ} {o t : List ℕ} → Worked (wrap_steps m incremental s i) d c o t
      → gives 0 c d (m.parameters.next_toggle s.toggle) o t ≡ wrap_from5 m incremental s i
  unfolding wrap_from5 check_from5
  wrap-accepted w =
      accepted-is w
      ∙ ap (accepted m incremental s i (wrap_steps m incremental s i)) w.tag
      ∙ sym (ap (λ (k : ℕ). if_no_check k s i (accepted m incremental s i (wrap_steps m incremental s i) (wrap_steps m incremental s i).tag)) (sym w.none))

  module _ {d : DeckState} {c : ℕ} {o t : List ℕ} (w : Worked (unwrap_steps m incremental s i) d c o t) where
    compared : (v : Bool) → same_bytes i.tag t ≡ v
        → cond v (accepted m incremental s i (unwrap_steps m incremental s i) i.tag) (wrong_tag m incremental s i) ≡ unwrap_from5 m incremental s i
    unfolding unwrap_from5 check_from5
    compared v e =
        sym (ap₂ (λ (k : ℕ) (q : Bool). if_no_check k s i (cond q (accepted m incremental s i (unwrap_steps m incremental s i) i.tag) (wrong_tag m incremental s i)))
        (sym w.none) (sym (ap (same_bytes i.tag) w.tag) ∙ e))

    pub unwrap-accepted : same_bytes i.tag t ≡ true → gives 0 c d (m.parameters.next_toggle s.toggle) o i.tag ≡ unwrap_from5 m incremental s i
    unwrap-accepted e = accepted-is w ∙ compared true e

    -- refused by 11, with zeros for the message in the output buffer o'
    pub unwrap-wrong : same_bytes i.tag t ≡ false → (o' : List ℕ) → o' ≡ written (replicate (length i.text) 0) o
        → gives 11 c s.history s.toggle o' i.tag ≡ unwrap_from5 m incremental s i
    unwrap-wrong e o' z = (λ j. gives 11 (w.count j) s.history s.toggle (zeroed j) i.tag) ∙ compared false e
      where
        zeroed : o' ≡ written (replicate (length i.text) 0) i.out
        zeroed =
            z
            ∙ ap (λ (k : ℕ). replicate (length i.text) 0 ++ drop k o) (length-replicate (length i.text) 0)
            ∙ ap (λ (l : List ℕ). replicate (length i.text) 0 ++ l)
            (ap (drop (length i.text)) w.body
            ∙ drop_at (unwrap_steps m incremental s i).body _ (length i.text) w.sized
            ∙ ap (λ (k : ℕ). drop k i.out) (w.sized ∙ sym (length-replicate (length i.text) 0)))

-- ---- check 1, before the others

-- what wrap or unwrap is handed, with this header
abbrev pub headed : CallHeader → (metadata text out tag : List ℕ) → CallInput
headed h metadata text out tag = record { header = h; metadata = metadata; text = text; out = out; tag = tag }

-- the first check and the length of A, from the lengths of the header `head` and the metadata
module _ (m : Mode) (s : SessionState DeckState) (head metadata text out tag : List ℕ) where
  pub first-of : {n : ℕ} → n ≡ first_check_of s.opened (s.history.index + growth (length head + length metadata) (length text)) m.parameters.tag_length
      (length metadata) (length text) (length tag) (length out) → n ≡ first_of m s (headed (under head) metadata text out tag)
  unfolding metadata_string
  first-of h =
      h
      ∙ ap (λ (k : ℕ). first_check_of s.opened (s.history.index + growth k (length text)) m.parameters.tag_length (length metadata) (length text) (length tag) (length out))
      (sym (length-append head metadata))

  pub string-long : length head ≤ 17 → Within m s (headed (under head) metadata text out tag)
      → length (metadata_string (headed (under head) metadata text out tag)) ≤ 16401
  unfolding metadata_string
  string-long h w = omega (arith, w.metadata, length-append head metadata)

  -- what the code knows once no check was met and A is in the history
  pub begun-of : {c : ℕ} {h : Compressed}
      → 0 ≡ first_check_of s.opened (s.history.index + growth (length head + length metadata) (length text)) m.parameters.tag_length
      (length metadata) (length text) (length tag) (length out) → c ≡ closing_byte (m.parameters.frame_a s.toggle) → length head ≤ 17
      → h ≡ compressed_if (not (is_empty (head ++ metadata)) || is_empty text) s.history (closed_by (head ++ metadata) c)
      → Begun m s (headed (under head) metadata text out tag) c h
  unfolding metadata_string
  begun-of e closes l is =
      let k = first-of e in
      record { none = k; closes = closes; long = string-long l (within m s (headed (under head) metadata text out tag) k); is_a = is }

-- the header plays no part in what a refusal leaves
pub same-unless : (n : ℕ) (s : SessionState DeckState) (h g : CallHeader) (metadata text out tag : List ℕ) (o : Outcome DeckState)
    → if_no_check n s (headed h metadata text out tag) o ≡ if_no_check n s (headed g metadata text out tag) o
same-unless zero s h g metadata text out tag o = refl
same-unless (suc n) s h g metadata text out tag o = refl

module _ (m : Mode) (s : SessionState DeckState) (metadata text out tag : List ℕ) where
  abbrev no_bytes : CallInput
  no_bytes = headed (under []) metadata text out tag

  -- a call without an envelope is one with a header of no bytes that check 1 lets pass
  pub bare-wrap : wrap_from5 m incremental s (headed (under []) metadata text out tag) ≡ wrap_at m incremental s (headed bare metadata text out tag)
  unfolding wrap_from5 wrap_at check_number check_from5 metadata_string
  bare-wrap =
      same-unless (check_from5 m incremental s no_bytes) s (under []) bare metadata text out tag
      (accepted m incremental s no_bytes (wrap_steps m incremental s no_bytes) (wrap_steps m incremental s no_bytes).tag)

  pub bare-unwrap : unwrap_from5 m incremental s (headed (under []) metadata text out tag) ≡ unwrap_at m incremental s (headed bare metadata text out tag)
  unfolding unwrap_from5 unwrap_at check_number check_from5 metadata_string
  bare-unwrap =
      same-unless (check_from5 m incremental s no_bytes) s (under []) bare metadata text out tag
      (compare_tag m incremental s no_bytes (unwrap_steps m incremental s no_bytes))

module _ (m : Mode) (s : SessionState DeckState) (i : CallInput) where
  abbrev fitted : Bool
  fitted = header_fits m.parameters.letter i.header (length i.metadata) (length i.text)

  -- with a header that fits
  pub fitted-wrap : fitted ≡ true → wrap_from5 m incremental s i ≡ wrap_at m incremental s i
  unfolding wrap_from5 wrap_at check_number
  fitted-wrap h =
      sym (ap (λ (q : Bool). if_no_check (cond q (check_from5 m incremental s i) 1) s i (accepted m incremental s i (wrap_steps m incremental s i) (wrap_steps m incremental s i).tag)) h)

  pub fitted-unwrap : fitted ≡ true → unwrap_from5 m incremental s i ≡ unwrap_at m incremental s i
  unfolding unwrap_from5 unwrap_at check_number
  fitted-unwrap h =
      sym (ap (λ (q : Bool). if_no_check (cond q (check_from5 m incremental s i) 1) s i (compare_tag m incremental s i (unwrap_steps m incremental s i))) h)

  -- and one that does not
  pub unfitted-wrap : fitted ≡ false → gives m s i 1 0 s.history s.toggle i.out i.tag ≡ wrap_at m incremental s i
  unfolding wrap_at check_number
  unfitted-wrap h =
      sym (ap (λ (q : Bool). if_no_check (cond q (check_from5 m incremental s i) 1) s i (accepted m incremental s i (wrap_steps m incremental s i) (wrap_steps m incremental s i).tag)) h)

  pub unfitted-unwrap : fitted ≡ false → gives m s i 1 0 s.history s.toggle i.out i.tag ≡ unwrap_at m incremental s i
  unfolding unwrap_at check_number
  unfitted-unwrap h =
      sym (ap (λ (q : Bool). if_no_check (cond q (check_from5 m incremental s i) 1) s i (compare_tag m incremental s i (unwrap_steps m incremental s i))) h)
