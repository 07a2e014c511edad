-- What `start`, `wrap` and `unwrap` compute, step by step, is what the rules say; over plain values, so that a function's proof only hands
-- its facts over. Assumes nothing.
use mathlib.Core.Path.{◌≡◌, refl, sym, ap, ap₂, ◌∙◌}
use mathlib.Core.Bool.{true, false, not, cond}
use mathlib.Core.List.{List, [], ◌∷◌}
use Prim.Native.Nat.{ℕ, zero, suc, ◌+◌, ◌<◌, ◌≤◌}
use native.Mathlib.Omega.{arith}
use lib.ListN.{length, take}
use Rattle.word.specs.Lists.{sum}
use Rattle.refusals.specs.declared.Refusal.{Refusal}
use Rattle.refusals.specs.Numbers.{number_of}
use Rattle.refusals.proofs.Numbers.{number-positive}
use Rattle.deck.specs.declared.DeckState.{DeckState}
use Rattle.xoofff.specs.declared.Compressed.{Compressed}
use Rattle.deck.specs.Strings.{Str, b, blocks}
use Rattle.deck.specs.Deck.{run, key_mask}
use Rattle.deck.specs.Incremental.{append, output}
use Rattle.deck.specs.Closing.{closing_byte, closed_by}
use Rattle.xoofff.specs.Leaves.{compressed}
use Rattle.state.specs.State.{zeros}
use Rattle.envelope.specs.Layout.{letter_n}
use Rattle.modes.specs.Call.{CallInput}
use Rattle.modes.specs.Mode.{is_empty, incremental, tag_of, sane, sane_parameters}
use Rattle.modes.specs.Rules.{SessionState, written, wrap_steps, unwrap_steps, closed, key_fits, nonce_check, nonce_session, nonce_opening, nonce_start_at}
use Rattle.modes.specs.NonceStart.{NonceFits}
use Rattle.modes.proofs.Steps.{ShortFrames}
use Rattle.modes.proofs.NonceStart.{nonce-exactly}
use Rattle.modes.proofs.Leaves.{closed-N, nonce-leaf-counts}
use Rattle.steps.specs.Steps.{compressed_if, output_count}
use Rattle.steps.proofs.Calls.{Begun, Worked}
use Rattle.steps.proofs.Stream as stream

-- its frame bits leave room for the padding bit in one byte
pub short : ShortFrames sane_parameters
short = record { of_a = λ e. omega arith; of_m = λ e. omega arith; of_t = λ e. omega arith }

-- ---- wrap and unwrap

-- what is known once the tag is found, as of every mode with these steps
abbrev pub Done : (s : SessionState DeckState) (i : CallInput) (c : ℕ) (h : Compressed) (q : ℕ) (o y : List ℕ) (c' : ℕ) (g : Compressed) (t : List ℕ) → Type 0
Done = stream.Done letter_n (λ e. false ∷ e ∷ []) (λ e. true ∷ e ∷ []) not

-- from what the code knows once the tag, of l bytes, is found
pub done-of : {s : SessionState DeckState} {i : CallInput} {c : ℕ} {h : Compressed} {q : ℕ} {o y : List ℕ} {c' l : ℕ} {g : Compressed} {t : List ℕ}
    → Begun sane s i c h → o ≡ written (sum i.text (run (output s.history) 16 (length i.text))) i.out
    → q ≡ cond (is_empty i.text) 0 (output_count 16 (length i.text)) → length y ≡ length i.text → c' ≡ closing_byte (true ∷ s.toggle ∷ []) → l ≡ 16
    → g.state ≡ (compressed_if (not (is_empty y)) h.state (closed_by y c')).state → t ≡ run (output g.state) 0 l
    → g.count ≡ (compressed_if (not (is_empty y)) h.state (closed_by y c')).count + output_count 0 l
    → Done s i c h q o y c' g t
done-of = stream.done-of letter_n (λ e. false ∷ e ∷ []) (λ e. true ∷ e ∷ []) not

module _ {s : SessionState DeckState} {i : CallInput} {c : ℕ} {h : Compressed} {q : ℕ} {o y : List ℕ} {c' : ℕ} {g : Compressed} {t : List ℕ}
    (k : Done s i c h q o y c' g t) where
  pub done-most : q + h.count + g.count ≤ 1030
  done-most = stream.done-most letter_n (λ e. false ∷ e ∷ []) (λ e. true ∷ e ∷ []) not short k

  pub wrap-worked : y ≡ take (length i.text) o → Worked sane s i (wrap_steps sane incremental s i) g.state (q + h.count + g.count) o t
  wrap-worked = stream.wrap-worked letter_n (λ e. false ∷ e ∷ []) (λ e. true ∷ e ∷ []) not short k

  pub unwrap-worked : y ≡ i.text → Worked sane s i (unwrap_steps sane incremental s i) g.state (q + h.count + g.count) o t
  unwrap-worked = stream.unwrap-worked letter_n (λ e. false ∷ e ∷ []) (λ e. true ∷ e ∷ []) not short k

-- ---- start

-- the first check that a start meets
abbrev first_of : (key nonce tag : List ℕ) → ℕ
first_of key nonce tag = nonce_check (key_fits key) 16 (length nonce) (length tag)

module _ (key nonce tag : List ℕ) where
  pub start-refused : (e : Refusal) → number_of e ≡ first_of key nonce tag
      → record { number = number_of e; count = 0; session = closed; tag = tag } ≡ nonce_start_at sane_parameters key nonce tag
  unfolding nonce_start_at
  start-refused e h = go (number_of e) (number-positive e) ∙ ap (nonce_opening sane_parameters key nonce tag) h
    where
      go : (k : ℕ) → 0 < k → record { number = k; count = 0; session = closed; tag = tag } ≡ nonce_opening sane_parameters key nonce tag k
      go zero g = absurd (omega (arith, g))
      go (suc k) g = refl

  module _ (z : 0 ≡ first_of key nonce tag) where
    pub fits : NonceFits key nonce tag
    unfolding nonce_start_at
    fits = (nonce-exactly key nonce tag).accepted.0 (ap (λ (k : ℕ). (nonce_opening sane_parameters key nonce tag k).number) (sym z))

    -- k is the key's mask, d the history with the nonce, t the tag and c what it cost
    module _ {k : List ℕ} (is_key : k ≡ key_mask key) {d : Compressed}
        (is_nonce : d ≡ compressed (record { acc = zeros; mask = k; index = 0 }) (closed_by nonce 1)) {t : List ℕ} {c : ℕ}
        (fills : t ≡ run (output d.state) 0 (length tag)) (counts : c ≡ output_count 0 (length tag)) where
      pub start-counted : 1 + d.count + c ≡ b (length nonce) + 3
      unfolding compressed
      start-counted =
          omega (
            arith,
            nonce-leaf-counts nonce,
            ap (λ (r : Compressed). r.count) is_nonce,
            ap blocks (closed-N nonce),
            counts ∙ ap (output_count 0) fits.tag_fits,
          )

      pub start-accepted : record { number = 0; count = 1 + d.count + c; session = record { history = d.state; toggle = false; opened = true }; tag = t }
          ≡ nonce_start_at sane_parameters key nonce tag
      unfolding nonce_start_at compressed
      start-accepted =
          (λ j. record { number = 0; count = start-counted j; session = record { history = q j; toggle = false; opened = true }; tag = u j })
          ∙ ap (nonce_opening sane_parameters key nonce tag) z
        where
          q : d.state ≡ (nonce_session key nonce).history
          q =
              ap (λ (r : Compressed). r.state) is_nonce
              ∙ ap₂ (λ (m : List ℕ) (x : Str). append (record { acc = zeros; mask = m; index = 0 }) x) is_key (closed-N nonce)

          u : t ≡ tag_of sane_parameters incremental (nonce_session key nonce).history
          u = fills ∙ ap₂ (λ (x : DeckState) (l : ℕ). run (output x) 0 l) q fits.tag_fits
