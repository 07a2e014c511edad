-- Letters that 001's Wrap made come back in their order; what is accepted are such letters and nothing else; and a letter opens exactly where its message is
-- within the limits. Assumes nothing.
use mathlib.Core.Bool.{Bool, true, false}
use mathlib.Core.List.{List, [], ◌∷◌, map}
use mathlib.Core.Path.{◌≡◌, refl, sym, ap, ◌∙◌, subst}
use Prim.Native.Nat.{ℕ, suc, ◌≤◌}
use native.Mathlib.Omega.{arith}
use borrow.Author.Tests.{eq-eqb, ne_eqb, eqb-true, eqb-false}
use lib.Dec.{eqb, eqb-suc-zero}
use lib.ListN.{length}
use Rattle.deck.specs.declared.DeckState.{DeckState}
use Rattle.deck.specs.Strings.{Str}
use Rattle.deck.specs.Deck.{index_of}
use Rattle.modes.specs.Header.{FollowsLayout}
use Rattle.modes.specs.Mode.{incremental}
use Rattle.modes.specs.Rules.{Outcome}
use Rattle.modes.specs.Exactly.{NoneBefore11}
use Rattle.modes.specs.OneCall.{session_of, starts_with}
use Rattle.modes.proofs.PapersStream.{some_more}
use Rattle.sae_mode.specs.Sae.{Handed, input_of, sae_unwrap_at}
use Rattle.sae_mode.specs.PaperSae.{SaeResult, sae_wrap, sae_unwrap}
use Rattle.sae_mode.specs.Letters.{arrives, LetterClaim, SaeCall, wrap, unwrap, Each}
use Rattle.sae_mode.specs.Box.{Message, letter_of, history_after, letters_of, history_of, Fits, AllFit, Stopped, Box, Back, AllBack, EveryBox, LettersBox, BoxFits, BackInOrder, OpensExactly, AllOpen, AllOpenExactly, OneHistory}
use Rattle.sae_mode.proofs.Papers.{laws, sae-undone, sae-redone}
use Rattle.sae_mode.proofs.Letters.{letter-claim}

-- ---- a letter that 001's Wrap made

module _ (key : List ℕ) (h : List Str) (m : Message) where
  -- what Unwrap finds in it: the message, the history and the tag of Wrap
  finds : arrives key h (letter_of key h m)
      ≡ record { history = history_after key h m; text = m.plaintext; tag = (sae_wrap key h m.metadata m.plaintext).tag }
  finds = sae-undone key h m.metadata m.plaintext

  as_long : length (letter_of key h m).text ≡ length m.plaintext
  as_long = laws.wraps_length key h false m.metadata m.plaintext

  -- it meets no check where the message fits
  unchecked : Fits key h m → NoneBefore11 70 ⊥ 16 (index_of (arrives key h (letter_of key h m)).history) (input_of (letter_of key h m))
  unchecked f =
      record {
        header = FollowsLayout.without refl;
        is_open = λ z. z;
        metadata = f.metadata;
        text = omega (arith, as_long, f.plaintext);
        tag = laws.wraps_tag key h false m.metadata m.plaintext;
        out = omega (arith, as_long, f.out);
        index = omega (arith, ap (λ (r : SaeResult). index_of r.history) finds, f.index);
      }

  fitted : NoneBefore11 70 ⊥ 16 (index_of (arrives key h (letter_of key h m)).history) (input_of (letter_of key h m)) → Fits key h m
  fitted n =
      record {
        metadata = n.metadata;
        plaintext = omega (arith, as_long, n.text);
        out = omega (arith, as_long, n.out);
        index = omega (arith, ap (λ (r : SaeResult). index_of r.history) finds, n.index);
      }

  own-tag : (letter_of key h m).tag ≡ (arrives key h (letter_of key h m)).tag
  own-tag = sym (ap (λ (r : SaeResult). r.tag) finds)

pub opens-exactly : OpensExactly
opens-exactly key h m =
    let c = (letter-claim key h (letter_of key h m)).numbers.accepted in
    (λ z. fitted key h m (c.0 z).0, λ f. c.1 (unchecked key h m f, own-tag key h m))

all_fit : (key : List ℕ) (h : List Str) (ms : List Message) → AllOpen key h ms → AllFit key h ms
all_fit key h [] AllOpen.none = AllFit.none
all_fit key h (m ∷ ms) (AllOpen.more e o) = AllFit.more ((opens-exactly key h m).0 e) (all_fit key (history_after key h m) ms o)

all-open : (key : List ℕ) (h : List Str) (ms : List Message) → AllFit key h ms → AllOpen key h ms
all-open key h [] AllFit.none = AllOpen.none
all-open key h (m ∷ ms) (AllFit.more f o) = AllOpen.more ((opens-exactly key h m).1 f) (all-open key (history_after key h m) ms o)

pub all-open-exactly : AllOpenExactly
all-open-exactly key h ms = (all_fit key h ms, all-open key h ms)

-- ---- boxes

module _ (key : List ℕ) where
  -- what a box holds comes back, and the history is 001's
  pub back-of : {h g : List Str} {cs : List SaeCall} {ms : List Message} {os : List (Outcome DeckState)} → Box key h cs ms → Each key h cs os g
      → Back cs ms os × (g ≡ history_of key h ms)
  unfolding history_of
  back-of Box.finished Each.none = (Back.finished, refl)
  back-of (Box.wrap-tried b) (Each.wrapped {o = o} e x) =
      let r = back-of b x in
      (Back.refused {o = o} (λ z. absurd (omega (arith, z, ap (λ (o : Outcome DeckState). o.number) e))) r.0, r.1)
  back-of (Box.letter {h = h} {m = m} {cs = cs} f b) (Each.opened {g = g} {os = os} n c x) =
      let y = finds key h m in
      let r = back-of b (subst (λ (z : SaeResult). Each key z.history cs os g) y x) in (
        Back.comes_back n (ap (λ (o : Outcome DeckState). o.out) (c.opens n) ∙ ap (λ (z : SaeResult). starts_with z.text m.out) y) r.0,
        r.1,
      )
  back-of (Box.letter {h = h} {m = m} f b) (Each.stopped n c x) = absurd (n (c.numbers.accepted.1 (unchecked key h m f, own-tag key h m)))
  back-of (Box.other {i = i} s b) (Each.opened n c x) =
      let w = c.numbers.accepted.0 n in
      absurd (s (
        record { header = w.0.header; metadata = w.0.metadata; text = w.0.text; tag = w.0.tag; out = w.0.out; index = w.0.index },
        w.1,
      ))
  back-of (Box.other s b) (Each.stopped n c x) = let r = back-of b x in (Back.refused n r.0, r.1)

  -- the message of a letter that is accepted
  abbrev message_of : List Str → Handed → Message
  message_of h i = record { metadata = i.metadata; plaintext = (arrives key h i).text; out = i.out }

  -- the letter is the one that 001's Wrap makes of it
  module _ (h : List Str) (i : Handed) (t : i.tag ≡ (arrives key h i).tag) where
    made_again : letter_of key h (message_of h i) ≡ i
    made_again =
        let r = sae-redone key h i.metadata i.text in
        (λ j. record { metadata = i.metadata; text = (r j).text; out = i.out; tag = (r j).tag })
        ∙ (λ j. record { metadata = i.metadata; text = i.text; out = i.out; tag = sym t j })

  every-from : (h : List Str) (cs : List SaeCall) → (ms : List Message) × Box key h cs ms
  every-from h [] = ([], Box.finished)
  every-from h (wrap i ∷ cs) = let r = every-from h cs in (r.0, Box.wrap-tried r.1)
  every-from h (unwrap i ∷ cs) = go (eqb (sae_unwrap_at incremental (session_of key h false) i).number 0) refl (λ g. every-from g cs)
    where
      c : LetterClaim key h i (sae_unwrap_at incremental (session_of key h false) i)
      c = letter-claim key h i

      go : (q : Bool) → eqb (sae_unwrap_at incremental (session_of key h false) i).number 0 ≡ q
          → ((g : List Str) → (ms : List Message) × Box key g cs ms) → (ms : List Message) × Box key h (unwrap i ∷ cs) ms
      go true a rest =
          let w = c.numbers.accepted.0 (eqb-true _ 0 a) in
          let m = message_of h i in
          let e = made_again h i w.1 in
          let f : Fits key h m =
          fitted key h m (subst (λ (z : Handed). NoneBefore11 70 ⊥ 16 (index_of (arrives key h z).history) (input_of z)) (sym e) w.0) in
          let r = rest (history_after key h m) in
          (m ∷ r.0, subst (λ (z : Handed). Box key h (unwrap z ∷ cs) (m ∷ r.0)) e (Box.letter f r.1))
      go false a rest =
          let r = rest h in
          let s : Stopped key h i =
          λ w. eqb-false _ 0 a (c.numbers.accepted.1 (
            record {
              header = w.0.header;
              is_open = λ z. z;
              metadata = w.0.metadata;
              text = w.0.text;
              tag = w.0.tag;
              out = w.0.out;
              index = w.0.index;
            },
            w.1,
          )) in
          (r.0, Box.other s r.1)

pub every-box : EveryBox
every-box key h cs = every-from key h cs

pub letters-box : LettersBox
unfolding letters_of
letters-box key h [] AllFit.none = Box.finished
letters-box key h (m ∷ ms) (AllFit.more f a) = Box.letter f (letters-box key (history_after key h m) ms a)

fit_in_box : {key : List ℕ} {h : List Str} {cs : List SaeCall} {ms : List Message} → Box key h cs ms → AllFit key h ms
fit_in_box Box.finished = AllFit.none
fit_in_box (Box.letter f b) = AllFit.more f (fit_in_box b)
fit_in_box (Box.other s b) = fit_in_box b
fit_in_box (Box.wrap-tried b) = fit_in_box b

pub box-fits : BoxFits
box-fits key h cs ms b = fit_in_box b

-- ---- what comes back

pub back-in-order : BackInOrder
back-in-order [] [] [] Back.finished = AllBack.none
back-in-order [] [] (o ∷ os) b = elim b [ ]
back-in-order [] (m ∷ ms) os b = elim b [ ]
back-in-order (c ∷ cs) ms [] b = elim b [ ]
back-in-order (c ∷ cs) (m ∷ ms) (o ∷ os) (Back.comes_back n e b) = rw (eq-eqb o.number 0 n) (AllBack.more n e (back-in-order cs ms os b))
back-in-order (c ∷ cs) ms (o ∷ os) (Back.refused n b) = rw (ne_eqb o.number 0 n) (back-in-order cs ms os b)

-- there are no more messages than calls
no_more : (cs : List SaeCall) (ms : List Message) (os : List (Outcome DeckState)) → Back cs ms os → length ms ≤ length cs
no_more [] [] [] Back.finished = omega arith
no_more [] [] (o ∷ os) b = elim b [ ]
no_more [] (m ∷ ms) os b = elim b [ ]
no_more (c ∷ cs) ms [] b = elim b [ ]
no_more (c ∷ cs) (m ∷ ms) (o ∷ os) (Back.comes_back n e b) = omega (arith, no_more cs ms os b)
no_more (c ∷ cs) ms (o ∷ os) (Back.refused n b) = omega (arith, no_more cs ms os b)

-- so where there are no more calls than messages, none is refused
pub all_back : (cs : List SaeCall) (ms : List Message) (os : List (Outcome DeckState)) → Back cs ms os → length cs ≤ length ms → AllBack ms os
all_back [] [] [] Back.finished l = AllBack.none
all_back [] [] (o ∷ os) b l = elim b [ ]
all_back [] (m ∷ ms) os b l = elim b [ ]
all_back (c ∷ cs) ms [] b l = elim b [ ]
all_back (c ∷ cs) (m ∷ ms) (o ∷ os) (Back.comes_back n e b) l = AllBack.more n e (all_back cs ms os b (omega arith))
all_back (c ∷ cs) ms (o ∷ os) (Back.refused n b) l = let none : ⊥ = omega (arith, no_more cs ms os b) in absurd none

-- each message has one letter
pub as_many : (key : List ℕ) (h : List Str) (ms : List Message) → length (map unwrap (letters_of key h ms)) ≡ length ms
unfolding letters_of
as_many key h [] = refl
as_many key h (m ∷ ms) = ap suc (as_many key (history_after key h m) ms)

-- ---- what is not true of SAE

pub one-history : OneHistory
unfolding sae_unwrap
one-history key h x y A C = rw (some_more x A, some_more y C, eqb-suc-zero (length C)) (refl, refl)
