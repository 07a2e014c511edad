-- Incremental equals from scratch: what a session keeps after one more string is what the longer history gives, worked out from the key
-- and the first string on. Assumes nothing.
use mathlib.Core.Path.{◌≡◌, refl, sym, ap, ◌∙◌}
use mathlib.Core.Bool.{Bool}
use mathlib.Core.List.{List, [], ◌∷◌, ◌++◌, append_assoc, append-nil, foldl}
use Prim.Native.Nat.{ℕ, ◌+◌}
use native.Mathlib.Nat.{add-zero, add_assoc, zero-add}
use native.Mathlib.Omega.{arith}
use lib.ListN.{length}
use Rattle.word.specs.Lists.{sum}
use Rattle.state.specs.Bytes.{from_bytes}
use Rattle.state.specs.State.{zeros}
use Rattle.xoodoo.specs.Xoodoo.{perm}
use Rattle.rolling.specs.Rolling.{roll_in}
use Rattle.deck.specs.Strings.{Str, blocks, framed}
use Rattle.deck.specs.declared.DeckState.{DeckState}
use Rattle.deck.specs.Deck.{iterate, key_mask, mask_at, add_blocks, add_history, index_of, index_growth, accumulator, output_mask, deck}
use Rattle.deck.specs.Incremental.{append, output, from_scratch}
use Rattle.deck.proofs.Strings.{blocks-front}
use Rattle.deck.proofs.Deck.{add_blocks-from, add_blocks-front, mask_at-add, iterate-add}

-- the index after one more string
pub index_of-more : (h : List Str) (s : Str) → index_of (h ++ s ∷ []) ≡ index_of h + index_growth s
unfolding index_of
index_of-more [] s = omega arith
index_of-more (r ∷ h) s = omega (arith, index_of-more h s)

-- the newest string's blocks are added after the whole history's
pub add_history-more : (k : List ℕ) (i : ℕ) (h : List Str) (s : Str) (x : List ℕ)
    → add_history k i (h ++ s ∷ []) x ≡ add_blocks k (i + index_of h) s (blocks s) (add_history k i h x)
unfolding add_history index_of
add_history-more k i [] s x = rw add-zero
add_history-more k i (r ∷ h) s x = rw (← add_assoc i (index_growth r) (index_of h)) (add_history-more k (i + index_growth r) h s (add_blocks k i r (blocks r) x))

-- the accumulator after one more string
pub accumulator-more : (key : List ℕ) (h : List Str) (s : Str)
    → accumulator key (h ++ s ∷ []) ≡ add_blocks (output_mask key h) 0 s (blocks s) (accumulator key h)
unfolding accumulator output_mask
accumulator-more key h s =
    add_history-more (key_mask key) 0 h s zeros
    ∙ ap (λ (j : ℕ). add_blocks (key_mask key) j s (blocks s) (add_history (key_mask key) 0 h zeros)) (zero-add (index_of h))
    ∙ add_blocks-from (key_mask key) (index_of h) s (blocks s) (add_history (key_mask key) 0 h zeros)

-- the mask after one more string
pub output_mask-more : (key : List ℕ) (h : List Str) (s : Str) → output_mask key (h ++ s ∷ []) ≡ mask_at (output_mask key h) (index_growth s)
unfolding output_mask
output_mask-more key h s = ap (mask_at (key_mask key)) (index_of-more h s) ∙ sym (mask_at-add (key_mask key) (index_of h) (index_growth s))

-- one more string: accumulator, mask and index are those of the longer history
pub from_scratch-more : (key : List ℕ) (h : List Str) (s : Str) → from_scratch key (h ++ s ∷ []) ≡ append (from_scratch key h) s
unfolding from_scratch append
from_scratch-more key h s = λ i. record { acc = accumulator-more key h s i; mask = output_mask-more key h s i; index = index_of-more h s i }

-- no string yet
pub from_scratch-none : (key : List ℕ) → from_scratch key [] ≡ record { acc = zeros; mask = key_mask key; index = 0 }
unfolding from_scratch accumulator add_history output_mask index_of mask_at iterate
from_scratch-none key = refl

-- the output for what is kept of a history is the deck function of the history
pub output-from_scratch : (key : List ℕ) (h : List Str) → output (from_scratch key h) ≡ deck key h
unfolding output from_scratch deck
output-from_scratch key h = refl

-- several more strings
pub from_scratch-all : (key : List ℕ) (h g : List Str) → from_scratch key (h ++ g) ≡ foldl append (from_scratch key h) g
from_scratch-all key h [] = ap (from_scratch key) (append-nil h)
from_scratch-all key h (s ∷ g) =
    ap (from_scratch key) (sym (append_assoc h (s ∷ []) g))
    ∙ from_scratch-all key (h ++ s ∷ []) g ∙ ap (λ (d : DeckState). foldl append d g) (from_scratch-more key h s)

-- a full block in front of a string is one block step, and then the string
pub append-front : (d : DeckState) (p s : List ℕ) (f : List Bool) → length p ≡ 48
    → append d (framed (p ++ s) f)
    ≡ append (record { acc = sum d.acc (perm (sum (from_bytes p) d.mask)); mask = roll_in d.mask; index = d.index + 1 }) (framed s f)
unfolding append mask_at iterate index_growth
append-front d p s f h = λ t. record { acc = acc t; mask = mask t; index = index t }
  where
    P : Str
    P = framed (p ++ s) f

    S : Str
    S = framed s f

    acc : add_blocks d.mask 0 P (blocks P) d.acc ≡ add_blocks (roll_in d.mask) 0 S (blocks S) (sum d.acc (perm (sum (from_bytes p) d.mask)))
    acc =
        add_blocks-front d.mask 0 p s f h d.acc
        ∙ add_blocks-from d.mask 1 S (blocks S) (sum d.acc (perm (sum (from_bytes p) d.mask)))

    mask : iterate (blocks P + 1) roll_in d.mask ≡ iterate (blocks S + 1) roll_in (roll_in d.mask)
    mask =
        let e : blocks P + 1 ≡ 1 + (blocks S + 1) = omega (arith, blocks-front p s f h) in
        ap (λ (n : ℕ). iterate n roll_in d.mask) e ∙ iterate-add roll_in 1 (blocks S + 1) d.mask

    index : d.index + (blocks P + 1) ≡ d.index + 1 + (blocks S + 1)
    index = omega (arith, blocks-front p s f h)
