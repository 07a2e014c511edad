-- A start of SANSE is accepted exactly under a key of 16 to 47 bytes, and gives the session of the history with no string; otherwise it is
-- refused by 4. Assumes nothing.
use mathlib.Core.Bool.{Bool, true, false, ◌&&◌, cond, and-false}
use mathlib.Core.List.{List}
use mathlib.Core.Logic.{◌↔◌, ◌⊎◌, inl, inr}
use mathlib.Core.Path.{◌≡◌, refl, ap, ap₂, ◌∙◌}
use Prim.Native.Nat.{ℕ, ◌<◌, ◌≤◌}
use native.Mathlib.Omega.{arith}
use borrow.Author.Tests.{leb-true, leb-false, le-leb, lt-leb}
use lib.Dec.{leb}
use lib.ListN.{length}
use Rattle.deck.specs.Deck.{iterate, mask_at, add_history, index_of, accumulator}
use Rattle.modes.specs.Paper.{sanse_opens}
use Rattle.modes.specs.Rules.{Opening, closed, new_session, key_fits, start_at}
use Rattle.modes.specs.OneCall.{session_of}
use Rattle.modes.specs.Start.{StartAccepted, StartRefused, StartExactly}

-- a start's session is that of the history with no string
pub new-session : (key : List ℕ) → new_session key ≡ session_of key sanse_opens false
unfolding accumulator add_history mask_at iterate index_of
new-session key = refl

module _ (key : List ℕ) where
  pub start-accepted : 16 ≤ length key → length key ≤ 47 → StartAccepted key (start_at key)
  unfolding start_at
  start-accepted h g =
      let e : start_at key ≡ record { number = 0; count = 1; session = new_session key } =
      ap₂ (λ (p q : Bool). cond (p && q) (record { number = 0; count = 1; session = new_session key }) (record { number = 4; count = 0; session = closed }))
      (le-leb 16 (length key) h) (le-leb (length key) 47 g) in
      record {
        number = ap (λ (o : Opening). o.number) e;
        count = ap (λ (o : Opening). o.count) e;
        session = ap (λ (o : Opening). o.session) e ∙ new-session key;
      }

  pub start-refused : (length key < 16) ⊎ (47 < length key) → StartRefused (start_at key)
  unfolding start_at
  start-refused h =
      ap (λ (q : Bool). cond q (record { number = 0; count = 1; session = new_session key }) (record { number = 4; count = 0; session = closed })) (fits h)
    where
      fits : (length key < 16) ⊎ (47 < length key) → key_fits key ≡ false
      fits (inl g) = ap (λ (p : Bool). p && leb (length key) 47) (lt-leb 16 (length key) g)
      fits (inr g) = ap (λ (p : Bool). leb 16 (length key) && p) (lt-leb (length key) 47 g) ∙ and-false (leb 16 (length key))

  pub start-exactly : StartExactly key (start_at key)
  start-exactly = record { accepted = either.0; four = either.1; opens = start-accepted; refused = start-refused }
    where
      go : (p q : Bool) → leb 16 (length key) ≡ p → leb (length key) 47 ≡ q
          → (((start_at key).number ≡ 0) ↔ ((16 ≤ length key) × (length key ≤ 47))) × (((start_at key).number ≡ 4) ↔ ((length key < 16) ⊎ (47 < length key)))
      go true true s t =
          let a : 16 ≤ length key = leb-true 16 (length key) s in
          let b : length key ≤ 47 = leb-true (length key) 47 t in
          let e : (start_at key).number ≡ 0 = (start-accepted a b).number in
          ((λ h. (a, b), λ h. e), (λ h. absurd (omega arith), elim [ inl h ↦ absurd (omega arith) | inr h ↦ absurd (omega arith) ]))
      go true false s t =
          let b : 47 < length key = leb-false (length key) 47 t in
          let e : (start_at key).number ≡ 4 = ap (λ (o : Opening). o.number) (start-refused (inr b)) in
          ((λ h. absurd (omega arith), λ h. absurd (omega (arith, h.1))), (λ h. inr b, λ h. e))
      go false q s t =
          let a : length key < 16 = leb-false 16 (length key) s in
          let e : (start_at key).number ≡ 4 = ap (λ (o : Opening). o.number) (start-refused (inl a)) in
          ((λ h. absurd (omega arith), λ h. absurd (omega (arith, h.0))), (λ h. inl a, λ h. e))

      either : (((start_at key).number ≡ 0) ↔ ((16 ≤ length key) × (length key ≤ 47))) × (((start_at key).number ≡ 4) ↔ ((length key < 16) ⊎ (47 < length key)))
      either = go (leb 16 (length key)) (leb (length key) 47) refl refl
