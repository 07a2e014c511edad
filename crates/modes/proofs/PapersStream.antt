-- Modes with SANE's steps, tags of 16 bytes and keystream from byte 16 on, with any frame bits and any way that e goes on: over the whole
-- history they are the papers' algorithms as printed but for the bits. Assumes nothing.
use mathlib.Core.Bool.{Bool, true, ◌||◌}
use mathlib.Core.List.{List, [], ◌∷◌}
use mathlib.Core.Path.{◌≡◌, refl, sym, ap, ap₂, ◌∙◌}
use Prim.Native.Nat.{ℕ, suc, ◌+◌}
use native.Mathlib.Omega.{arith}
use borrow.Author.Tests.{lt-ltb}
use lib.Dec.{eqb-suc-zero}
use lib.ListN.{length, replicate}
use Rattle.word.specs.Lists.{tabulate, sum}
use Rattle.word.proofs.Lists.{cons, tabulate-ext, zeros-sum}
use Rattle.deck.specs.Strings.{Str}
use Rattle.deck.specs.Deck.{run, deck}
use Rattle.modes.specs.Mode.{Parameters, whole_history, with_a, stream_wrap, stream_unwrap, stream, sane_count}
use Rattle.modes.specs.Paper.{PaperResult}
use Rattle.modes.specs.PaperSane.{◌≪◌, ◌⊻◌, first16, offset, nonempty, empty, gains}
use Rattle.modes.proofs.Papers.{to_paper}

-- ---- the papers' sum is that of the modes

plus-is : (i : ℕ) (x : List ℕ) (f : ℕ → ℕ) → x ⊻ (f ≪ i) ≡ sum x (run f i (length x))
unfolding sum tabulate
plus-is i [] f = refl
plus-is i (y ∷ x) f =
    cons refl
    (plus-is 1 x (f ≪ i) ∙ ap (sum x) (tabulate-ext (length x) (λ j. f (i + (1 + j))) (λ j. f (i + suc j)) (λ j h. ap f (omega arith))))

-- the first bytes of an output
pub first16-is : (f : ℕ → ℕ) → first16 f ≡ run f 0 16
first16-is f = plus-is 0 (replicate 16 0) f ∙ zeros-sum 16 _

-- a run of bytes with a first one is not empty
pub some_more : (y : ℕ) (x : List ℕ) → nonempty (y ∷ x) ≡ true
some_more y x = lt-ltb 0 (length (y ∷ x)) (omega arith)

-- ---- the steps: bits after A and after the cryptogram, and e after a call

module _ (letter : ℕ) (bits_a bits_c : Bool → List Bool) (next : Bool → Bool) where
  abbrev pub stream_bits : Parameters
  stream_bits =
      record {
        letter = letter;
        frame_a = bits_a;
        frame_m = bits_c;
        frame_t = λ e. [];
        tag_length = 16;
        offset = 16;
        count = sane_count;
        next_toggle = next;
      }

  module _ (key : List ℕ) (h : List Str) (e : Bool) where
    -- the algorithms as printed, with these bits: x is the text by which A enters, c the cryptogram and y the text that is given
    abbrev pub printed : (a x c y : List ℕ) → PaperResult
    printed a x c y =
        let h₁ : List Str = gains (nonempty a || empty x) a (bits_a e) h in
        let h₂ : List Str = gains (nonempty x) c (bits_c e) h₁ in
        record { history = h₂; toggle = next e; text = y; tag = first16 (deck key h₂) }

    -- the history with A
    with_a-is : (a x : List ℕ) → with_a stream_bits (whole_history key) h e a x ≡ gains (nonempty a || empty x) a (bits_a e) h
    with_a-is [] [] = refl
    with_a-is [] (y ∷ x) = rw (eqb-suc-zero (length x)) refl
    with_a-is (z ∷ a) x = rw (some_more z a) refl

    -- a tag, of equal histories
    tag_is : {g g' : List Str} → g ≡ g' → run (deck key g) 0 16 ≡ first16 (deck key g')
    tag_is {g} {g'} q = ap (λ (r : List Str). run (deck key r) 0 16) q ∙ sym (first16-is (deck key g'))

    -- a text with the keystream of this history
    stream-is : (x : List ℕ) → sum x (run (deck key h) 16 (length x)) ≡ x ⊻ deck key h ≪ offset
    stream-is x = sym (plus-is offset x (deck key h))

    pub stream-wraps : (a x : List ℕ)
        → to_paper (stream stream_bits) e ((stream stream_bits).wraps (whole_history key) h e a x) ≡ printed a x (x ⊻ deck key h ≪ offset) (x ⊻ deck key h ≪ offset)
    unfolding stream_wrap sum tabulate
    stream-wraps a [] = let g = with_a-is a [] in λ i. record { history = g i; toggle = next e; text = []; tag = tag_is g i }
    stream-wraps a (y ∷ x) =
        let g = with_a-is a (y ∷ x) in
        let k = stream-is (y ∷ x) in
        let j = ap₂ (λ (r : List Str) (c : List ℕ). gains true c (bits_c e) r) g k in
        rw (some_more y x) (λ i. record { history = j i; toggle = next e; text = k i; tag = tag_is j i })

    pub stream-unwraps : (a c t : List ℕ)
        → to_paper (stream stream_bits) e ((stream stream_bits).unwraps (whole_history key) h e a c t) ≡ printed a c c (c ⊻ deck key h ≪ offset)
    unfolding stream_unwrap sum tabulate
    stream-unwraps a [] t = let g = with_a-is a [] in λ i. record { history = g i; toggle = next e; text = []; tag = tag_is g i }
    stream-unwraps a (y ∷ c) t =
        let g = with_a-is a (y ∷ c) in
        let k = stream-is (y ∷ c) in
        let j = ap (λ (r : List Str). gains true (y ∷ c) (bits_c e) r) g in
        rw (some_more y c) (λ i. record { history = j i; toggle = next e; text = k i; tag = tag_is j i })
