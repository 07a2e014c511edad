-- What `wrap` and `unwrap` compute, step by step, is what the rules say; over plain values, so that a function's proof only hands
-- its facts over. Assumes nothing.
use mathlib.Core.Path.{◌≡◌, refl, ap, ap₂, ◌∙◌}
use mathlib.Core.Logic.{◌≢◌}
use mathlib.Core.Bool.{not, ◌||◌, cond}
use mathlib.Core.List.{List, [], ◌∷◌}
use Prim.Native.Nat.{ℕ, zero, suc, ◌+◌, ◌≤◌}
use native.Mathlib.Omega.{arith}
use lib.ListN.{length, take}
use Rattle.std.proofs.Common.{length-take-le}
use Rattle.word.specs.Lists.{sum}
use Rattle.deck.specs.declared.DeckState.{DeckState}
use Rattle.xoofff.specs.declared.Compressed.{Compressed}
use Rattle.deck.specs.Strings.{Str, b, framed}
use Rattle.deck.specs.Deck.{run}
use Rattle.deck.specs.Incremental.{append, output}
use Rattle.deck.specs.Closing.{closing_byte, closed_by}
use Rattle.xoofff.specs.Leaves.{compressed, output_blocks}
use Rattle.deck.proofs.Strings.{closed-blocks}
use Rattle.xoofff.proofs.Leaves.{blocks-most}
use Rattle.modes.specs.Call.{CallInput}
use Rattle.modes.specs.Mode.{Mode, is_empty, incremental, with_a, with_text, tag_of, step_result, siv_body, siv_wrap, siv_unwrap, sanse, sanse_parameters, sanse_count}
use Rattle.modes.specs.Rules.{SessionState, metadata_string, written, wrap_steps, unwrap_steps}
use Rattle.modes.proofs.Steps.{ShortFrames}
use Rattle.steps.specs.Steps.{compressed_if, output_count}
use Rattle.steps.proofs.Buffers.{added-length, added-taken, some-counted}
use Rattle.steps.proofs.Calls.{closed_is, text-state, text-count, Begun, begun-state, begun-count, within, Worked}

-- its frame bits leave room for the padding bit in one byte
pub short : ShortFrames sanse_parameters
short = record { of_a = λ e. omega arith; of_m = λ e. omega arith; of_t = λ e. omega arith }

-- ---- counts: what the steps did is document 01's formula

sums : (a x m : List ℕ) → length m ≡ length x → (ha gm t c : ℕ) → ha ≡ cond (not (is_empty a) || is_empty x) (b (length a)) 0
    → gm ≡ cond (is_empty m) 0 (b (length m)) → t ≡ output_count 0 32 → c ≡ cond (is_empty x) 0 (b 32 + output_count 0 (length x))
    → ha + gm + t + c ≡ sanse_count (length a) (length x)
unfolding sanse_count output_blocks
sums [] [] [] l ha gm t c eh eg et ec = omega arith
sums [] [] (y ∷ m) l ha gm t c eh eg et ec = absurd (omega (arith, l))
sums [] (z ∷ x) [] l ha gm t c eh eg et ec = absurd (omega (arith, l))
sums [] (z ∷ x) (y ∷ m) l ha gm t c eh eg et ec = omega arith
sums (w ∷ a) [] [] l ha gm t c eh eg et ec = omega arith
sums (w ∷ a) [] (y ∷ m) l ha gm t c eh eg et ec = absurd (omega (arith, l))
sums (w ∷ a) (z ∷ x) [] l ha gm t c eh eg et ec = absurd (omega (arith, l))
sums (w ∷ a) (z ∷ x) (y ∷ m) l ha gm t c eh eg et ec = omega arith

-- a call within the limits does 1,030 permutations at most
count_most : (a x : ℕ) → a ≤ 16401 → x ≤ 16384 → sanse_count a x ≤ 1030
unfolding sanse_count
count_most zero zero h g = omega arith
count_most (suc a) zero h g = omega arith
count_most zero (suc x) h g = omega arith
count_most (suc a) (suc x) h g = omega arith

-- ---- wrap and unwrap

-- what is known once all strings are in the history: h is the history with A, g with the message y; the tag t, of l bytes, cost q; and the
-- keystream of the history with the tag u, whose closing byte is ct, gave the output buffer o, at the cost r
pub record Done (s : SessionState DeckState) (i : CallInput) (ca : ℕ) (h : Compressed) (y : List ℕ) (cm : ℕ) (g : Compressed) (l : ℕ) (t : List ℕ) (q : ℕ) (u : List ℕ) (ct : ℕ) (o : List ℕ) (r : ℕ) : Type 0 where
  pub begun : Begun sanse s i ca h
  pub closes_m : cm ≡ closing_byte (sanse_parameters.frame_m s.toggle)
  pub is_m : g ≡ compressed_if (not (is_empty y)) h.state (closed_by y cm)
  pub sized : length y ≡ length i.text
  pub is_tag : (t ≡ run (output g.state) 0 l) × (q ≡ output_count 0 l)
  pub fills : l ≡ 32
  pub closes_t : ct ≡ closing_byte (sanse_parameters.frame_t s.toggle)
  pub tagged : length u ≡ 32
  pub streamed : (o ≡ written (sum i.text (run (output (append h.state (closed_by u ct))) 0 (length i.text))) i.out)
      × (r ≡ cond (is_empty i.text) 0 (b (length u) + output_count 0 (length i.text)))

module _ {s : SessionState DeckState} {i : CallInput} {ca : ℕ} {h : Compressed} {y : List ℕ} {cm : ℕ} {g : Compressed} {l : ℕ} {t : List ℕ} {q : ℕ} {u : List ℕ} {ct : ℕ} {o : List ℕ} {r : ℕ}
    (k : Done s i ca h y cm g l t q u ct o r) where
  counted : h.count + g.count + q + r ≡ sanse_count (length (metadata_string i)) (length i.text)
  counted =
      sums (metadata_string i) i.text y k.sized h.count g.count q r (begun-count short k.begun)
      (text-count sanse_parameters short h.state s.toggle y cm g k.closes_m k.is_m) (k.is_tag.1 ∙ ap (output_count 0) k.fills)
      (k.streamed.1 ∙ ap (λ (j : ℕ). cond (is_empty i.text) 0 (b j + output_count 0 (length i.text))) k.tagged)

  pub done-most : h.count + g.count + q + r ≤ 1030
  done-most =
      let w = within sanse s i k.begun.none in
      omega (arith, counted, count_most (length (metadata_string i)) (length i.text) k.begun.long w.text)

  -- the history with A
  abbrev with_metadata : DeckState
  with_metadata = with_a sanse_parameters incremental s.history s.toggle (metadata_string i) i.text

  after_is : g.state ≡ with_text sanse_parameters incremental with_metadata s.toggle y
  after_is =
      text-state sanse_parameters short h.state s.toggle y cm g k.closes_m k.is_m
      ∙ ap (λ (x : DeckState). with_text sanse_parameters incremental x s.toggle y) (begun-state short k.begun)

  -- the text plus the keystream of that history with a tag
  abbrev body : (tag : List ℕ) → List ℕ
  body v = siv_body sanse_parameters incremental with_metadata s.toggle i.text v

  body_is : o ≡ written (body u) i.out
  body_is =
      k.streamed.0
      ∙ ap₂ (λ (x : DeckState) (z : Str). written (sum i.text (run (output (append x z)) 0 (length i.text))) i.out)
      (begun-state short k.begun) (closed_is u ct (sanse_parameters.frame_t s.toggle) (short.of_t s.toggle) k.closes_t)

  tag_is : t ≡ tag_of sanse_parameters incremental g.state
  tag_is = k.is_tag.0 ∙ ap (run (output g.state) 0) k.fills

  worked : {z v : List ℕ} → y ≡ z → u ≡ v
      → Worked sanse s i (step_result sanse_parameters incremental (with_text sanse_parameters incremental with_metadata s.toggle z) (body v)) g.state
      (h.count + g.count + q + r) o t
  worked {v = v} e f =
      let a = after_is ∙ ap (with_text sanse_parameters incremental with_metadata s.toggle) e in
      record {
        none = k.begun.none;
        after = a;
        count = counted;
        sized = added-length (output (append with_metadata (framed v (sanse_parameters.frame_t s.toggle)))) 0 i.text;
        body = body_is ∙ ap (λ (x : List ℕ). written (body x) i.out) f;
        tag = tag_is ∙ ap (tag_of sanse_parameters incremental) a;
      }

  -- wrap adds the tag that it found to the history of the keystream
  pub wrap-worked : y ≡ i.text → u ≡ t → Worked sanse s i (wrap_steps sanse incremental s i) g.state (h.count + g.count + q + r) o t
  unfolding siv_wrap
  wrap-worked e f = worked e (f ∙ (worked e f).tag)

  -- unwrap the one that arrived; the message is at the output buffer's start
  pub unwrap-worked : y ≡ take (length i.text) o → u ≡ i.tag
      → Worked sanse s i (unwrap_steps sanse incremental s i) g.state (h.count + g.count + q + r) o t
  unfolding siv_unwrap
  unwrap-worked e f =
      worked (e ∙ added-taken (output (append with_metadata (framed i.tag (sanse_parameters.frame_t s.toggle)))) 0 i.text i.out o (worked e f).body) f

-- what wrap knows: the history gained the message, and the tag that was found
pub wrap-done : {s : SessionState DeckState} {i : CallInput} {ca : ℕ} {h : Compressed} {cm : ℕ} {g : Compressed} {t : List ℕ} {q ct : ℕ} {o : List ℕ} {r : ℕ}
    → Begun sanse s i ca h → cm ≡ closing_byte (sanse_parameters.frame_m s.toggle) → g ≡ compressed_if (not (is_empty i.text)) h.state (closed_by i.text cm)
    → (t ≡ run (output g.state) 0 (length i.tag)) × (q ≡ output_count 0 (length i.tag)) → length t ≡ length i.tag
    → ct ≡ closing_byte (sanse_parameters.frame_t s.toggle)
    → (o ≡ written (sum i.text (run (output (append h.state (closed_by t ct))) 0 (length i.text))) i.out)
    × (r ≡ cond (is_empty i.text) 0 (b (length t) + output_count 0 (length i.text)))
    → Done s i ca h i.text cm g (length i.tag) t q t ct o r
wrap-done {s = s} {i = i} begun closes_m is_m is_tag long closes_t streamed =
    let w = within sanse s i begun.none in
    record {
      begun = begun;
      closes_m = closes_m;
      is_m = is_m;
      sized = refl;
      is_tag = is_tag;
      fills = w.tag;
      closes_t = closes_t;
      tagged = long ∙ w.tag;
      streamed = streamed;
    }

-- the message is as long as the cryptogram, since the output buffer holds it
pub taken : (m : Mode) (s : SessionState DeckState) (i : CallInput) {ca : ℕ} {h : Compressed} → Begun m s i ca h → (o : List ℕ) → length o ≡ length i.out
    → length (take (length i.text) o) ≡ length i.text
taken m s i begun o long =
    let w = within m s i begun.none in
    length-take-le _ _ (omega (arith, w.holds))

-- what unwrap knows: the history gained the message at the output buffer's start, under the tag that arrived
pub unwrap-done : {s : SessionState DeckState} {i : CallInput} {ca : ℕ} {h : Compressed} {cm : ℕ} {g : Compressed} {t : List ℕ} {q ct : ℕ} {o : List ℕ} {r : ℕ}
    → Begun sanse s i ca h → length o ≡ length i.out → cm ≡ closing_byte (sanse_parameters.frame_m s.toggle)
    → g ≡ compressed_if (not (is_empty (take (length i.text) o))) h.state (closed_by (take (length i.text) o) cm)
    → (t ≡ run (output g.state) 0 32) × (q ≡ output_count 0 32) → ct ≡ closing_byte (sanse_parameters.frame_t s.toggle)
    → (o ≡ written (sum i.text (run (output (append h.state (closed_by i.tag ct))) 0 (length i.text))) i.out)
    × (r ≡ cond (is_empty i.text) 0 (b (length i.tag) + output_count 0 (length i.text)))
    → Done s i ca h (take (length i.text) o) cm g 32 t q i.tag ct o r
unwrap-done {s = s} {i = i} {o = o} begun long closes_m is_m is_tag closes_t streamed =
    let w = within sanse s i begun.none in
    record {
      begun = begun;
      closes_m = closes_m;
      is_m = is_m;
      sized = taken sanse s i begun o long;
      is_tag = is_tag;
      fills = refl;
      closes_t = closes_t;
      tagged = w.tag;
      streamed = streamed;
    }

-- ---- the body: a text plus keystream

module _ (d : DeckState) (h : Compressed) (text tag out out' : List ℕ) (closing c : ℕ) (e : h ≡ compressed d (closed_by tag closing))
    (g : c ≡ output_count 0 (length text)) where
  body-blocks : h.count ≡ b (length tag)
  unfolding compressed
  body-blocks = ap (λ (r : Compressed). r.count) e ∙ closed-blocks tag closing

  pub body-most : h.count + c ≤ length tag + length text + 2
  body-most = omega (arith, body-blocks, blocks-most 0 (length text), g)

  pub body-added : out' ≡ written (sum text (run (output h.state) 0 (length text))) out
      → out' ≡ written (sum text (run (output (append d (closed_by tag closing))) 0 (length text))) out
  unfolding compressed
  body-added o = o ∙ ap (λ (r : Compressed). written (sum text (run (output r.state) 0 (length text))) out) e

  pub body-counted : length text ≢ 0 → h.count + c ≡ cond (is_empty text) 0 (b (length tag) + output_count 0 (length text))
  body-counted n = some-counted _ _ text n (λ i. body-blocks i + g i)
