-- What the theorems ask of a mode (`ModeLaws`), and that the modes with SANSE's steps and those with SANE's have it, for any parameters with
-- short frames: their steps go by what they see of the history, what was wrapped is unwrapped, and the index grows by the lengths. Assumes nothing.
use mathlib.Core.Bool.{Bool}
use mathlib.Core.List.{List, [], ◌∷◌}
use mathlib.Core.Path.{◌≡◌, refl, sym, ap, ap₂, ◌∙◌}
use Prim.Native.Nat.{ℕ, ◌+◌, ◌≤◌}
use native.Mathlib.Omega.{arith}
use lib.ListN.{length}
use Rattle.word.specs.Lists.{tabulate, sum}
use Rattle.word.proofs.Lists.{tabulate-length, sum-length, sum-undone}
use Rattle.deck.specs.Strings.{Str, b, framed}
use Rattle.deck.specs.Deck.{run}
use Rattle.envelope.specs.Layout.{Known}
use Rattle.envelope.proofs.Layouts.{known-S, known-N}
use Rattle.modes.specs.Mode.{HistoryRep, StepResult, Mode, Parameters, with_a, with_text, tag_of, add_keystream, step_result, siv_body, siv_wrap, siv_unwrap, siv, stream_wrap, stream_unwrap, stream, sanse, sanse_parameters, sane, sane_parameters}
use Rattle.modes.specs.Rules.{growth}

-- ---- one way to hold a history seen through another

-- φ takes what one way holds to what the other holds of the same history
pub record Simulates {S S' : Type 0} (d : HistoryRep S) (d' : HistoryRep S') (φ : S → S') : Type 0 where
  pub appends : (h : S) (x : Str) → φ (d.append h x) ≡ d'.append (φ h) x
  pub keystreams : (h : S) → d'.keystream (φ h) ≡ d.keystream h
  pub indices : (h : S) → d'.index (φ h) ≡ d.index h

-- what steps find, with the history after them taken by φ
abbrev pub map_result : {S S' : Type 0} → (S → S') → StepResult S → StepResult S'
map_result φ r = record { after = φ r.after; body = r.body; tag = r.tag }

-- a way to hold a history whose index grows with each string of at most seven frame bits by b + 1
abbrev pub Grows : {S : Type 0} → HistoryRep S → Type 0
Grows {S} d = (h : S) (x : Str) → length x.frame ≤ 7 → d.index (d.append h x) ≡ d.index h + (b (length x.bytes) + 1)

-- what unwrap finds where it is handed what these steps of wrap gave for the message m
abbrev pub restored : {S : Type 0} → StepResult S → List ℕ → StepResult S
restored r m = record { after = r.after; body = m; tag = r.tag }

-- ---- the facts that the theorems need of a mode

pub record ModeLaws (m : Mode) : Type 1 where
  pub known : Known m.parameters.letter
  pub wraps_simulate : {S S' : Type 0} {d : HistoryRep S} {d' : HistoryRep S'} {φ : S → S'} → Simulates d d' φ
      → (h : S) (e : Bool) (a x : List ℕ) → m.wraps d' (φ h) e a x ≡ map_result φ (m.wraps d h e a x)
  pub unwraps_simulate : {S S' : Type 0} {d : HistoryRep S} {d' : HistoryRep S'} {φ : S → S'} → Simulates d d' φ
      → (h : S) (e : Bool) (a c t : List ℕ) → m.unwraps d' (φ h) e a c t ≡ map_result φ (m.unwraps d h e a c t)
  pub undone : {S : Type 0} (d : HistoryRep S) (h : S) (e : Bool) (a x : List ℕ)
      → m.unwraps d h e a (m.wraps d h e a x).body (m.wraps d h e a x).tag ≡ restored (m.wraps d h e a x) x
  pub wraps_length : {S : Type 0} (d : HistoryRep S) (h : S) (e : Bool) (a x : List ℕ) → length (m.wraps d h e a x).body ≡ length x
  pub wraps_tag : {S : Type 0} (d : HistoryRep S) (h : S) (e : Bool) (a x : List ℕ)
      → length (m.wraps d h e a x).tag ≡ m.parameters.tag_length
  pub wraps_index : {S : Type 0} (d : HistoryRep S) → Grows d → (h : S) (e : Bool) (a x : List ℕ)
      → d.index (m.wraps d h e a x).after ≡ d.index h + growth (length a) (length x)
  pub unwraps_index : {S : Type 0} (d : HistoryRep S) → Grows d → (h : S) (e : Bool) (a c t : List ℕ)
      → d.index (m.unwraps d h e a c t).after ≡ d.index h + growth (length a) (length c)

-- frame bits that leave room for the padding bit in one byte
pub record ShortFrames (p : Parameters) : Type 0 where
  pub of_a : (e : Bool) → length (p.frame_a e) ≤ 7
  pub of_m : (e : Bool) → length (p.frame_m e) ≤ 7
  pub of_t : (e : Bool) → length (p.frame_t e) ≤ 7

-- ---- the steps go by what they see of the history

module _ (p : Parameters) {S S' : Type 0} {d : HistoryRep S} {d' : HistoryRep S'} {φ : S → S'} (l : Simulates d d' φ) where
  with_a-simulates : (h : S) (e : Bool) (a x : List ℕ) → with_a p d' (φ h) e a x ≡ φ (with_a p d h e a x)
  with_a-simulates h e [] [] = sym (l.appends h _)
  with_a-simulates h e [] (y ∷ x) = refl
  with_a-simulates h e (y ∷ a) x = sym (l.appends h _)

  append-simulates : {r : S'} (h : S) (x : Str) → r ≡ φ h → d'.append r x ≡ φ (d.append h x)
  append-simulates h x g = ap (λ (r : S'). d'.append r x) g ∙ sym (l.appends h x)

  with_text-simulates : {r : S'} (h : S) (e : Bool) (x : List ℕ) → r ≡ φ h → with_text p d' r e x ≡ φ (with_text p d h e x)
  with_text-simulates h e [] g = g
  with_text-simulates h e (y ∷ x) g = append-simulates h _ g

  keystream-simulates : {r : S'} (h : S) → r ≡ φ h → d'.keystream r ≡ d.keystream h
  keystream-simulates h g = ap d'.keystream g ∙ l.keystreams h

  tag-simulates : {r : S'} (h : S) → r ≡ φ h → tag_of p d' r ≡ tag_of p d h
  tag-simulates h g = ap (λ (f : ℕ → ℕ). run f 0 p.tag_length) (keystream-simulates h g)

  add_keystream-simulates : {r : S'} (h : S) (x : List ℕ) → r ≡ φ h → add_keystream p d' r x ≡ add_keystream p d h x
  add_keystream-simulates h x g = ap (λ (f : ℕ → ℕ). sum x (run f p.offset (length x))) (keystream-simulates h g)

  result-simulates : {r : S'} {y : List ℕ} (h : S) (x : List ℕ) → r ≡ φ h → y ≡ x → step_result p d' r y ≡ map_result φ (step_result p d h x)
  result-simulates h x g k = λ i. record { after = g i; body = k i; tag = tag-simulates h g i }

  siv_body-simulates : {r : S'} {u : List ℕ} (h : S) (e : Bool) (x t : List ℕ) → r ≡ φ h → u ≡ t → siv_body p d' r e x u ≡ siv_body p d h e x t
  siv_body-simulates {r} h e x t g k =
      ap (siv_body p d' r e x) k ∙ add_keystream-simulates (d.append h (framed t (p.frame_t e))) x (append-simulates h _ g)

  pub siv_wrap-simulates : (h : S) (e : Bool) (a x : List ℕ) → siv_wrap p d' (φ h) e a x ≡ map_result φ (siv_wrap p d h e a x)
  unfolding siv_wrap
  siv_wrap-simulates h e a x =
      let h₁ = with_a p d h e a x in
      let h₂ = with_text p d h₁ e x in
      let g₁ = with_a-simulates h e a x in
      let g₂ = with_text-simulates h₁ e x g₁ in
      result-simulates h₂ _ g₂ (siv_body-simulates h₁ e x _ g₁ (tag-simulates h₂ g₂))

  pub siv_unwrap-simulates : (h : S) (e : Bool) (a c t : List ℕ) → siv_unwrap p d' (φ h) e a c t ≡ map_result φ (siv_unwrap p d h e a c t)
  unfolding siv_unwrap
  siv_unwrap-simulates h e a c t =
      let h₁ = with_a p d h e a c in
      let g₁ = with_a-simulates h e a c in
      let k = siv_body-simulates h₁ e c t g₁ refl in
      result-simulates (with_text p d h₁ e (siv_body p d h₁ e c t)) _
      (ap (with_text p d' (with_a p d' (φ h) e a c) e) k ∙ with_text-simulates h₁ e (siv_body p d h₁ e c t) g₁) k

  pub stream_wrap-simulates : (h : S) (e : Bool) (a x : List ℕ) → stream_wrap p d' (φ h) e a x ≡ map_result φ (stream_wrap p d h e a x)
  unfolding stream_wrap
  stream_wrap-simulates h e a x =
      let h₁ = with_a p d h e a x in
      let k = add_keystream-simulates h x refl in
      result-simulates (with_text p d h₁ e (add_keystream p d h x)) _
      (ap (with_text p d' (with_a p d' (φ h) e a x) e) k ∙ with_text-simulates h₁ e (add_keystream p d h x) (with_a-simulates h e a x)) k

  pub stream_unwrap-simulates : (h : S) (e : Bool) (a c t : List ℕ) → stream_unwrap p d' (φ h) e a c t ≡ map_result φ (stream_unwrap p d h e a c t)
  unfolding stream_unwrap
  stream_unwrap-simulates h e a c t =
      let h₁ = with_a p d h e a c in
      result-simulates (with_text p d h₁ e c) _ (with_text-simulates h₁ e c (with_a-simulates h e a c)) (add_keystream-simulates h c refl)

-- ---- keystream added twice is gone

module _ (p : Parameters) {S : Type 0} (d : HistoryRep S) where
  add_keystream-length : (h : S) (x : List ℕ) → length (add_keystream p d h x) ≡ length x
  add_keystream-length h x = sum-length x _ (omega (arith, tabulate-length (length x) (λ j. d.keystream h (p.offset + j))))

  add_keystream-undone : (h : S) (x : List ℕ) → add_keystream p d h (add_keystream p d h x) ≡ x
  add_keystream-undone h x =
      ap (λ (n : ℕ). sum (add_keystream p d h x) (run (d.keystream h) p.offset n)) (add_keystream-length h x)
      ∙ sum-undone x _ (omega (arith, tabulate-length (length x) (λ j. d.keystream h (p.offset + j))))

  -- A is taken by whether the text is empty, so the same at both ends
  with_a-body : (h : S) (e : Bool) (a x : List ℕ) (g : S) → with_a p d h e a (add_keystream p d g x) ≡ with_a p d h e a x
  unfolding sum tabulate
  with_a-body h e a [] g = refl
  with_a-body h e a (y ∷ x) g = refl

  pub siv-undone : (h : S) (e : Bool) (a x : List ℕ)
      → siv_unwrap p d h e a (siv_wrap p d h e a x).body (siv_wrap p d h e a x).tag ≡ restored (siv_wrap p d h e a x) x
  unfolding siv_wrap siv_unwrap
  siv-undone h e a x =
      ap (λ (r : S). let y : List ℕ = siv_body p d r e c t in step_result p d (with_text p d r e y) y) (with_a-body h e a x _)
      ∙ ap (λ (y : List ℕ). step_result p d (with_text p d h₁ e y) y) (add_keystream-undone (d.append h₁ (framed t (p.frame_t e))) x)
    where
      h₁ : S
      h₁ = with_a p d h e a x

      t : List ℕ
      t = tag_of p d (with_text p d h₁ e x)

      c : List ℕ
      c = siv_body p d h₁ e x t

  pub siv_wrap-length : (h : S) (e : Bool) (a x : List ℕ) → length (siv_wrap p d h e a x).body ≡ length x
  unfolding siv_wrap
  siv_wrap-length h e a x = add_keystream-length _ x

  pub siv_wrap-tag : (h : S) (e : Bool) (a x : List ℕ) → length (siv_wrap p d h e a x).tag ≡ p.tag_length
  unfolding siv_wrap
  siv_wrap-tag h e a x = tabulate-length p.tag_length _

  pub stream-undone : (h : S) (e : Bool) (a x t : List ℕ) → stream_unwrap p d h e a (stream_wrap p d h e a x).body t ≡ restored (stream_wrap p d h e a x) x
  unfolding stream_wrap stream_unwrap
  stream-undone h e a x t =
      let c = add_keystream p d h x in
      ap (λ (r : S). step_result p d (with_text p d r e c) (add_keystream p d h c)) (with_a-body h e a x h)
      ∙ ap (step_result p d (with_text p d (with_a p d h e a x) e c)) (add_keystream-undone h x)

  -- and the other way round: wrapping what was found in a cryptogram gives that cryptogram, with the tag that was found
  pub stream-redone : (h : S) (e : Bool) (a c t : List ℕ) → stream_wrap p d h e a (stream_unwrap p d h e a c t).body ≡ restored (stream_unwrap p d h e a c t) c
  unfolding stream_wrap stream_unwrap
  stream-redone h e a c t =
      ap₂ (λ (r : S) (y : List ℕ). step_result p d (with_text p d r e y) y) (with_a-body h e a c h) (add_keystream-undone h c)

  pub stream_wrap-length : (h : S) (e : Bool) (a x : List ℕ) → length (stream_wrap p d h e a x).body ≡ length x
  unfolding stream_wrap
  stream_wrap-length h e a x = add_keystream-length h x

  pub stream_wrap-tag : (h : S) (e : Bool) (a x : List ℕ) → length (stream_wrap p d h e a x).tag ≡ p.tag_length
  unfolding stream_wrap
  stream_wrap-tag h e a x = tabulate-length p.tag_length _

-- ---- the index after a call

module _ (p : Parameters) (s : ShortFrames p) {S : Type 0} (d : HistoryRep S) (g : Grows d) where
  grown : (h : S) (e : Bool) (a x : List ℕ) → d.index (with_text p d (with_a p d h e a x) e x) ≡ d.index h + growth (length a) (length x)
  unfolding growth
  grown h e [] [] = g h _ (s.of_a e)
  grown h e (y ∷ a) [] = g h _ (s.of_a e)
  grown h e [] (y ∷ x) = g h _ (s.of_m e)
  grown h e (z ∷ a) (y ∷ x) =
      g _ _ (s.of_m e) ∙ ap (λ (i : ℕ). i + (b (length (y ∷ x)) + 1)) (g h (framed (z ∷ a) (p.frame_a e)) (s.of_a e)) ∙ omega arith

  pub siv_wrap-index : (h : S) (e : Bool) (a x : List ℕ) → d.index (siv_wrap p d h e a x).after ≡ d.index h + growth (length a) (length x)
  unfolding siv_wrap
  siv_wrap-index h e a x = grown h e a x

  pub siv_unwrap-index : (h : S) (e : Bool) (a c t : List ℕ)
      → d.index (siv_unwrap p d h e a c t).after ≡ d.index h + growth (length a) (length c)
  unfolding siv_unwrap
  siv_unwrap-index h e a c t =
      ap (λ (h₁ : S). d.index (with_text p d h₁ e x)) (sym (with_a-body p d h e a c _))
      ∙ grown h e a x ∙ ap (λ (n : ℕ). d.index h + growth (length a) n) (add_keystream-length p d _ c)
    where
      x : List ℕ
      x = siv_body p d (with_a p d h e a c) e c t

  pub stream_wrap-index : (h : S) (e : Bool) (a x : List ℕ) → d.index (stream_wrap p d h e a x).after ≡ d.index h + growth (length a) (length x)
  unfolding stream_wrap
  stream_wrap-index h e a x =
      let c = add_keystream p d h x in
      ap (λ (h₁ : S). d.index (with_text p d h₁ e c)) (sym (with_a-body p d h e a x h))
      ∙ grown h e a c ∙ ap (λ (n : ℕ). d.index h + growth (length a) n) (add_keystream-length p d h x)

  pub stream_unwrap-index : (h : S) (e : Bool) (a c t : List ℕ)
      → d.index (stream_unwrap p d h e a c t).after ≡ d.index h + growth (length a) (length c)
  unfolding stream_unwrap
  stream_unwrap-index h e a c t = grown h e a c

-- ---- the modes, with any frame bits

pub siv-laws : (p : Parameters) → Known p.letter → ShortFrames p → ModeLaws (siv p)
siv-laws p k s =
    record {
      known = k;
      wraps_simulate = λ l. siv_wrap-simulates p l;
      unwraps_simulate = λ l. siv_unwrap-simulates p l;
      undone = λ d. siv-undone p d;
      wraps_length = λ d. siv_wrap-length p d;
      wraps_tag = λ d. siv_wrap-tag p d;
      wraps_index = λ d g. siv_wrap-index p s d g;
      unwraps_index = λ d g. siv_unwrap-index p s d g;
    }

pub stream-laws : (p : Parameters) → Known p.letter → ShortFrames p → ModeLaws (stream p)
stream-laws p k s =
    record {
      known = k;
      wraps_simulate = λ l. stream_wrap-simulates p l;
      unwraps_simulate = λ l. stream_unwrap-simulates p l;
      undone = λ d h e a x. stream-undone p d h e a x _;
      wraps_length = λ d. stream_wrap-length p d;
      wraps_tag = λ d. stream_wrap-tag p d;
      wraps_index = λ d g. stream_wrap-index p s d g;
      unwraps_index = λ d g. stream_unwrap-index p s d g;
    }

pub sanse-laws : ModeLaws sanse
sanse-laws = siv-laws sanse_parameters known-S (record { of_a = λ e. omega arith; of_m = λ e. omega arith; of_t = λ e. omega arith })

pub sane-laws : ModeLaws sane
sane-laws = stream-laws sane_parameters known-N (record { of_a = λ e. omega arith; of_m = λ e. omega arith; of_t = λ e. omega arith })
