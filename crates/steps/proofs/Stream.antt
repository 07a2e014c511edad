-- Calls of modes with SANE's steps, tags of 16 bytes and keystream from byte 16 on: what the code computes, step by step, is what the rules say, for any frame
-- bits and any way that e goes on; over plain values, so that a function's proof only hands its facts over. Assumes nothing.
use mathlib.Core.Path.{◌≡◌, refl, ap, ap₂, ◌∙◌}
use mathlib.Core.Bool.{Bool, true, false, not, ◌||◌, cond}
use mathlib.Core.List.{List, [], ◌∷◌}
use Prim.Native.Nat.{ℕ, zero, suc, ◌+◌, ◌≤◌}
use native.Mathlib.Omega.{arith}
use lib.ListN.{length, take}
use Rattle.word.specs.Lists.{sum}
use Rattle.deck.specs.declared.DeckState.{DeckState}
use Rattle.xoofff.specs.declared.Compressed.{Compressed}
use Rattle.deck.specs.Strings.{b, framed}
use Rattle.deck.specs.Deck.{run}
use Rattle.deck.specs.Incremental.{output}
use Rattle.deck.specs.Closing.{closing_byte, closed_by}
use Rattle.deck.proofs.Strings.{blocks_is}
use Rattle.modes.specs.Call.{CallInput}
use Rattle.modes.specs.Mode.{is_empty, incremental, with_a, with_text, tag_of, add_keystream, step_result, Parameters, Mode, stream_wrap, stream_unwrap, stream, sane_count}
use Rattle.modes.specs.Rules.{SessionState, written, metadata_string, wrap_steps, unwrap_steps}
use Rattle.modes.proofs.Steps.{ShortFrames}
use Rattle.modes.proofs.PapersStream.{stream_bits}
use Rattle.modes.proofs.Leaves.{count_stream, sane-leaf-counts}
use Rattle.steps.specs.Steps.{compressed_if, output_count}
use Rattle.steps.proofs.Buffers.{added-length, added-taken}
use Rattle.steps.proofs.Calls.{text-state, text-count, within, Begun, begun-state, begun-count, Worked}

-- ---- counts

-- the count of a string is small
pub text-most : (x : List ℕ) → cond (is_empty x) 0 (b (length x)) ≤ length x + 1
text-most [] = omega arith
text-most (y ∷ x) = omega arith

-- and so is a call's: within the limits it does 1,030 permutations at most
count_most : (a x : ℕ) → a ≤ 16401 → x ≤ 16384 → sane_count a x ≤ 1030
unfolding sane_count
count_most zero zero h g = omega arith
count_most (suc a) zero h g = omega arith
count_most zero (suc x) h g = omega arith
count_most (suc a) (suc x) h g = omega arith

-- ---- wrap and unwrap

module _ (letter : ℕ) (bits_a bits_c : Bool → List Bool) (next : Bool → Bool) where
  -- the mode of these bits
  abbrev pub bits : Parameters
  bits = stream_bits letter bits_a bits_c next

  abbrev pub mode : Mode
  mode = stream bits

  -- what is known once the tag t is found: c is the closing byte of A and h the history with A, q what the keystream cost, o the output buffer, y
  -- the cryptogram, c' its closing byte and g the history with it
  pub record Done (s : SessionState DeckState) (i : CallInput) (c : ℕ) (h : Compressed) (q : ℕ) (o y : List ℕ) (c' : ℕ) (g : Compressed) (t : List ℕ) : Type 0 where
    pub begun : Begun mode s i c h
    pub adds : o ≡ written (sum i.text (run (output s.history) 16 (length i.text))) i.out
    pub cost : q ≡ cond (is_empty i.text) 0 (output_count 16 (length i.text))
    pub sized : length y ≡ length i.text
    pub closes : c' ≡ closing_byte (bits_c s.toggle)
    pub gains : g.state ≡ (compressed_if (not (is_empty y)) h.state (closed_by y c')).state
    pub fills : t ≡ run (output g.state) 0 16
    pub counts : g.count ≡ (compressed_if (not (is_empty y)) h.state (closed_by y c')).count + output_count 0 16

  -- from what the code knows once the tag, of l bytes, is found
  pub done-of : {s : SessionState DeckState} {i : CallInput} {c : ℕ} {h : Compressed} {q : ℕ} {o y : List ℕ} {c' l : ℕ} {g : Compressed} {t : List ℕ}
      → Begun mode s i c h → o ≡ written (sum i.text (run (output s.history) 16 (length i.text))) i.out
      → q ≡ cond (is_empty i.text) 0 (output_count 16 (length i.text)) → length y ≡ length i.text → c' ≡ closing_byte (bits_c s.toggle) → l ≡ 16
      → g.state ≡ (compressed_if (not (is_empty y)) h.state (closed_by y c')).state → t ≡ run (output g.state) 0 l
      → g.count ≡ (compressed_if (not (is_empty y)) h.state (closed_by y c')).count + output_count 0 l
      → Done s i c h q o y c' g t
  done-of {h = h} {y = y} {c' = c'} {g = g} begun adds cost sized closes long gains fills counts =
      record {
        begun = begun;
        adds = adds;
        cost = cost;
        sized = sized;
        closes = closes;
        gains = gains;
        fills = fills ∙ ap (run (output g.state) 0) long;
        counts = counts ∙ ap (λ (k : ℕ). (compressed_if (not (is_empty y)) h.state (closed_by y c')).count + output_count 0 k) long;
      }

  module _ (short : ShortFrames bits) {s : SessionState DeckState} {i : CallInput} {c : ℕ} {h : Compressed} {q : ℕ} {o y : List ℕ} {c' : ℕ}
      {g : Compressed} {t : List ℕ} (k : Done s i c h q o y c' g t) where
    -- the history with the cryptogram
    abbrev gained : Compressed
    gained = compressed_if (not (is_empty y)) h.state (closed_by y c')

    counted : q + h.count + g.count ≡ sane_count (length (metadata_string i)) (length i.text)
    counted =
        let z : cond (is_empty i.text) 0 (output_count 16 (length i.text)) ≡ count_stream i.text = ap (cond (is_empty i.text) 0) (omega arith) in
        omega (
          arith,
          sane-leaf-counts (metadata_string i) i.text y false k.sized,
          begun-count short k.begun,
          ap (λ (u : ℕ). cond (not (is_empty (metadata_string i)) || is_empty i.text) u 0) (blocks_is (framed (metadata_string i) (false ∷ false ∷ [])) (omega arith)),
          k.cost,
          k.counts,
          text-count bits short h.state s.toggle y c' gained k.closes refl,
          ap (cond (is_empty y) 0) (blocks_is (framed y (true ∷ false ∷ [])) (omega arith)),
        )

    pub done-most : q + h.count + g.count ≤ 1030
    done-most =
        let w = within mode s i k.begun.none in
        omega (arith, counted, count_most (length (metadata_string i)) (length i.text) k.begun.long w.text)

    -- the history with the cryptogram z
    abbrev ends : List ℕ → DeckState
    ends z = with_text bits incremental (with_a bits incremental s.history s.toggle (metadata_string i) i.text) s.toggle z

    worked : (z : List ℕ) → y ≡ z
        → Worked mode s i (step_result bits incremental (ends z) (add_keystream bits incremental s.history i.text)) g.state
        (q + h.count + g.count) o t
    worked z e =
        let a : g.state ≡ ends z =
        k.gains ∙ text-state bits short h.state s.toggle y c' gained k.closes refl
        ∙ ap₂ (λ (u : DeckState) (v : List ℕ). with_text bits incremental u s.toggle v) (begun-state short k.begun) e in
        record {
          none = k.begun.none;
          after = a;
          count = counted;
          sized = added-length (output s.history) 16 i.text;
          body = k.adds;
          tag = k.fills ∙ ap (tag_of bits incremental) a;
        }

    pub wrap-worked : y ≡ take (length i.text) o → Worked mode s i (wrap_steps mode incremental s i) g.state (q + h.count + g.count) o t
    unfolding stream_wrap
    wrap-worked e = worked _ (e ∙ added-taken (output s.history) 16 i.text i.out o k.adds)

    pub unwrap-worked : y ≡ i.text → Worked mode s i (unwrap_steps mode incremental s i) g.state (q + h.count + g.count) o t
    unfolding stream_unwrap
    unwrap-worked e = worked _ e
