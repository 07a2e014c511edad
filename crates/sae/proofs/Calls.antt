-- What the calls of SAE compute is what the rules say: the steps of SANE with SAE's frame bits. Assumes nothing.
use mathlib.Core.Path.{◌≡◌, refl, sym}
use mathlib.Core.Bool.{true, false, not, ◌||◌, cond}
use mathlib.Core.List.{List, [], ◌∷◌}
use Prim.Native.Nat.{ℕ, ◌+◌, ◌≤◌}
use native.Mathlib.Omega.{arith}
use lib.ListN.{length}
use Rattle.word.specs.Lists.{sum}
use Rattle.deck.specs.declared.DeckState.{DeckState}
use Rattle.xoofff.specs.declared.Compressed.{Compressed}
use Rattle.deck.specs.Strings.{b}
use Rattle.deck.specs.Deck.{run}
use Rattle.deck.specs.Incremental.{output}
use Rattle.deck.specs.Closing.{closing_byte, closed_by}
use Rattle.envelope.specs.Layout.{letter_f}
use Rattle.modes.specs.Call.{CallInput}
use Rattle.modes.specs.Mode.{is_empty, incremental}
use Rattle.modes.specs.Rules.{SessionState, growth, first_check_of, metadata_string, written, unwrap_steps, unwrap_from5, unwrap_at}
use Rattle.sae_mode.specs.Sae.{sae, Handed, input_of}
use Rattle.sae_mode.proofs.Papers.{short}
use Rattle.steps.specs.Steps.{compressed_if, output_count}
use Rattle.steps.proofs.Calls.{Begun, within, first_of, Worked, fitted-unwrap}
use Rattle.steps.proofs.Stream as stream

-- the closing bytes of A and of the cryptogram
pub closing-A : closing_byte (false ∷ []) ≡ 2
unfolding closing_byte
closing-A = refl

pub closing-C : closing_byte (true ∷ []) ≡ 3
unfolding closing_byte
closing-C = refl

-- the first check that an unwrap meets
pub first-of : (s : SessionState DeckState) (i : Handed) {n : ℕ}
    → n ≡ first_check_of s.opened (s.history.index + growth (length i.metadata) (length i.text)) 16 (length i.metadata) (length i.text) (length i.tag) (length i.out)
    → n ≡ first_of sae s (input_of i)
unfolding metadata_string
first-of s i h = h

-- what the code knows once no check was met and A is in the history
pub begun-of : (s : SessionState DeckState) (i : Handed) {h : Compressed}
    → 0 ≡ first_check_of s.opened (s.history.index + growth (length i.metadata) (length i.text)) 16 (length i.metadata) (length i.text) (length i.tag) (length i.out)
    → h ≡ compressed_if (not (is_empty i.metadata) || is_empty i.text) s.history (closed_by i.metadata 2)
    → Begun sae s (input_of i) 2 h
unfolding metadata_string
begun-of s i e is =
    let k = first-of s i e in
    record { none = k; closes = sym closing-A; long = omega (arith, (within sae s (input_of i) k).metadata); is_a = is }

-- what is known once the tag is found, as of every mode with these steps
abbrev pub Done : (s : SessionState DeckState) (i : CallInput) (c : ℕ) (h : Compressed) (q : ℕ) (o y : List ℕ) (c' : ℕ) (g : Compressed) (t : List ℕ) → Type 0
Done = stream.Done letter_f (λ e. false ∷ []) (λ e. true ∷ []) (λ e. e)

-- from what the code knows then
pub done-of : {s : SessionState DeckState} {i : CallInput} {c : ℕ} {h : Compressed} {q : ℕ} {o : List ℕ} {g : Compressed} {t : List ℕ}
    → Begun sae s i c h → o ≡ written (sum i.text (run (output s.history) 16 (length i.text))) i.out
    → q ≡ cond (is_empty i.text) 0 (output_count 16 (length i.text))
    → g.state ≡ (compressed_if (not (is_empty i.text)) h.state (closed_by i.text 3)).state → t ≡ run (output g.state) 0 16
    → g.count ≡ (compressed_if (not (is_empty i.text)) h.state (closed_by i.text 3)).count + output_count 0 16
    → Done s i c h q o i.text 3 g t
done-of b q z = stream.done-of letter_f (λ e. false ∷ []) (λ e. true ∷ []) (λ e. e) b q z refl (sym closing-C) refl

pub done-most : {s : SessionState DeckState} {i : CallInput} {c : ℕ} {h : Compressed} {q : ℕ} {o y : List ℕ} {c' : ℕ} {g : Compressed} {t : List ℕ}
    → Done s i c h q o y c' g t → q + h.count + g.count ≤ 1030
done-most k = stream.done-most letter_f (λ e. false ∷ []) (λ e. true ∷ []) (λ e. e) short k

pub unwrap-worked : {s : SessionState DeckState} {i : CallInput} {c : ℕ} {h : Compressed} {q : ℕ} {o : List ℕ} {g : Compressed} {t : List ℕ}
    → Done s i c h q o i.text 3 g t → Worked sae s i (unwrap_steps sae incremental s i) g.state (q + h.count + g.count) o t
unwrap-worked k = stream.unwrap-worked letter_f (λ e. false ∷ []) (λ e. true ∷ []) (λ e. e) short k refl

-- without a header check 1 is not met
pub from-5 : (s : SessionState DeckState) (i : Handed) → unwrap_from5 sae incremental s (input_of i) ≡ unwrap_at sae incremental s (input_of i)
from-5 s i = fitted-unwrap sae s (input_of i) refl
