-- SAE over the whole history is Algorithm 2 of 001 as printed, by the steps of SANE with any frame bits; so what is proved of every mode that follows its
-- paper holds of it. And wrapping what an unwrap found gives the letter again. Assumes nothing.
use mathlib.Core.Bool.{Bool, false}
use mathlib.Core.List.{List, [], ◌∷◌}
use mathlib.Core.Path.{◌≡◌, refl, sym, ap, ◌∙◌}
use Prim.Native.Nat.{ℕ, suc}
use native.Mathlib.Omega.{arith}
use lib.ListN.{length}
use Rattle.deck.specs.Strings.{Str}
use Rattle.deck.specs.Deck.{deck}
use Rattle.envelope.specs.Layout.{letter_f}
use Rattle.envelope.proofs.Layouts.{known-F}
use Rattle.modes.specs.Mode.{whole_history}
use Rattle.modes.specs.Paper.{PaperResult}
use Rattle.modes.specs.PaperSane.{◌≪◌, ◌⊻◌, offset}
use Rattle.modes.proofs.Steps.{ShortFrames, ModeLaws, stream-laws, stream-redone}
use Rattle.modes.proofs.Papers.{paper_of, to_paper}
use Rattle.modes.proofs.PapersStream.{stream-wraps, stream-unwraps}
use Rattle.modes.proofs.PapersSane.{sane-count-is}
use Rattle.modes.proofs.Modes.{Follows}
use Rattle.modes.proofs.Entries.{PaperLaws, paper-laws}
use Rattle.sae_mode.specs.Sae.{sae_parameters, sae}
use Rattle.sae_mode.specs.PaperSae.{SaeResult, sae_wrap, sae_unwrap}
use Rattle.sae_mode.specs.Letters.{keeping, sae_paper}

-- ---- the laws of a mode

-- its frame bits leave room for the padding bit in one byte
pub short : ShortFrames sae_parameters
short = record { of_a = λ e. omega arith; of_m = λ e. omega arith; of_t = λ e. omega arith }

pub sae-laws : ModeLaws sae
sae-laws = stream-laws sae_parameters known-F short

-- ---- Algorithm 2 of 001

module _ (key : List ℕ) (h : List Str) (e : Bool) where
  pub sae-wraps : (a x : List ℕ) → to_paper sae e (sae.wraps (whole_history key) h e a x) ≡ keeping e (sae_wrap key h a x)
  unfolding sae_wrap
  sae-wraps = stream-wraps letter_f sae_parameters.frame_a sae_parameters.frame_m sae_parameters.next_toggle key h e

  pub sae-unwraps : (a c t : List ℕ) → to_paper sae e (sae.unwraps (whole_history key) h e a c t) ≡ keeping e (sae_unwrap key h a c)
  unfolding sae_unwrap
  sae-unwraps = stream-unwraps letter_f sae_parameters.frame_a sae_parameters.frame_m sae_parameters.next_toggle key h e

pub sae-paper : paper_of sae ≡ sae_paper
unfolding paper_of
sae-paper =
    λ i. record {
      letter = 70;
      tag_length = 16;
      count = λ A M. sane-count-is A M i;
      wraps = λ key h e a x. sae-wraps key h e a x i;
      unwraps = λ key h e a c t. sae-unwraps key h e a c t i;
    }

pub sae-follows : Follows sae sae_paper
sae-follows = record { laws = sae-laws; paper = sae-paper }

pub laws : PaperLaws sae_paper
laws = paper-laws sae-follows

-- ---- what is found, wrapped again

-- a result with another text
abbrev pub with_text : SaeResult → List ℕ → SaeResult
with_text r x = record { history = r.history; text = x; tag = r.tag }

abbrev plain : PaperResult → SaeResult
plain r = record { history = r.history; text = r.text; tag = r.tag }

module _ (key : List ℕ) (h : List Str) (a : List ℕ) where
  -- unwrapping what a wrap gave
  pub sae-undone : (p : List ℕ) → sae_unwrap key h a (sae_wrap key h a p).text ≡ with_text (sae_wrap key h a p) p
  sae-undone p = ap plain (laws.undone key h false a p)

  -- wrapping what an unwrap found
  pub sae-redone : (c : List ℕ) → sae_wrap key h a (sae_unwrap key h a c).text ≡ with_text (sae_unwrap key h a c) c
  sae-redone c =
      let u : to_paper sae false (sae.unwraps (whole_history key) h false a c []) ≡ keeping false (sae_unwrap key h a c) = sae-unwraps key h false a c [] in
      ap plain
      (ap (λ (r : PaperResult). keeping false (sae_wrap key h a r.text)) (sym u)
      ∙ sym (sae-wraps key h false a (sae.unwraps (whole_history key) h false a c []).body)
      ∙ ap (to_paper sae false) (stream-redone sae_parameters (whole_history key) h false a c [])
      ∙ ap (λ (r : PaperResult). keeping false (with_text (plain r) c)) u)

-- a plaintext is as long as its cryptogram
plus-length : (x : List ℕ) (f : ℕ → ℕ) → length (x ⊻ f) ≡ length x
plus-length [] f = refl
plus-length (y ∷ x) f = ap suc (plus-length x (f ≪ 1))

pub found-length : (key : List ℕ) (h : List Str) (a c : List ℕ) → length (sae_unwrap key h a c).text ≡ length c
unfolding sae_unwrap
found-length key h a c = plus-length c (deck key h ≪ offset)
