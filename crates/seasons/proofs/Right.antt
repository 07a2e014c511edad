-- The number that a day gets is the one whose condition holds, and the first permitted day has one answer. Assumes nothing.
use Prim.Native.Nat.{ℕ}
use mathlib.Core.Path.{◌≡◌, refl, sym, ap, ◌∙◌, subst}
use mathlib.Core.Bool.{Bool, true, false, ◌&&◌, and-false, true≢false}
use mathlib.Core.Logic.{◌↔◌, inl, inr}
use native.Mathlib.Omega.{arith}
use lib.Dec.{leb}
use borrow.Author.Tests.{leb-true, leb-false}
use Rattle.std.specs.Prelude.{Option, Some, None, Result, Ok, Err}
use Rattle.refusals.specs.declared.Refusal.{Refusal}
use Rattle.refusals.proofs.Numbers.{number-tells, number-positive}
use Rattle.days.specs.Days.{is_day}
use Rattle.days.proofs.Rules.{day-exactly}
use Rattle.windows.specs.declared.Window.{Window}
use Rattle.windows.specs.Computed.{open_on, good_window}
use Rattle.windows.proofs.Right.{window-exactly}
use Rattle.seasons.specs.declared.First.{First}
use Rattle.seasons.specs.Seasons.{Meets16, SeasonStop, no_such, outside, inside, passes16, season_number, SeasonExactly}
use Rattle.seasons.specs.FirstDay.{IsFirst, NoneFrom, first_of, refused_by, found_day, no_day, FirstDay, refused, found, none, FirstExactly}

module _ (w : Window) (day : ℕ) where
  -- 16 is met exactly where the test says so.
  pub met-16 : (passes16 w day ≡ false) ↔ Meets16 w day
  unfolding passes16
  met-16 = ((λ e. to (is_day day) (good_window w) refl refl e), (λ h. from h))
    where
      to : (a b : Bool) → is_day day ≡ a → good_window w ≡ b → a && b ≡ false → Meets16 w day
      to false b p q e = inl ((day-exactly day).no.0 p)
      to true false p q e = inr ((window-exactly w).bad.0 q)
      to true true p q e = absurd (true≢false e)

      from : Meets16 w day → passes16 w day ≡ false
      from (inl h) = simp ((day-exactly day).no.1 h)
      from (inr h) = simp ((window-exactly w).bad.1 h, and-false)

  pub not-met-16 : (passes16 w day ≡ true) ↔ (Meets16 w day → ⊥)
  not-met-16 = ((λ e h. true≢false (sym e ∙ met-16.1 h)), (λ never. go (passes16 w day) refl never))
    where
      go : (t : Bool) → passes16 w day ≡ t → (Meets16 w day → ⊥) → passes16 w day ≡ true
      go true e never = e
      go false e never = absurd (never (met-16.0 e))

  pub number-16 : passes16 w day ≡ false → season_number w day ≡ 16
  unfolding season_number
  number-16 e = simp e

  pub number-17 : passes16 w day ≡ true → open_on w day ≡ false → season_number w day ≡ 17
  unfolding season_number
  number-17 e f = simp (e, f)

  pub number-0 : passes16 w day ≡ true → open_on w day ≡ true → season_number w day ≡ 0
  unfolding season_number
  number-0 e f = simp (e, f)

  -- The number is the one whose condition holds, and it is given exactly there.
  season-stop : SeasonStop w day (season_number w day)
  season-stop = go (passes16 w day) (open_on w day) refl refl
    where
      go : (a b : Bool) → passes16 w day ≡ a → open_on w day ≡ b → SeasonStop w day (season_number w day)
      go false b p q = subst (SeasonStop w day) (sym (number-16 p)) (no_such (met-16.0 p))
      go true false p q = subst (SeasonStop w day) (sym (number-17 p q)) (outside (not-met-16.0 p) (((window-exactly w).is_shut day).0 q))
      go true true p q = subst (SeasonStop w day) (sym (number-0 p q)) (inside (not-met-16.0 p) (((window-exactly w).is_open day).0 q))

  pub season-exactly : SeasonExactly w day
  season-exactly n = ((λ e. subst (SeasonStop w day) e season-stop), (λ s. given s))
    where
      given : {m : ℕ} → SeasonStop w day m → season_number w day ≡ m
      given (no_such h) = number-16 (met-16.1 h)
      given (outside h o) = number-17 (not-met-16.1 h) (((window-exactly w).is_shut day).1 o)
      given (inside h o) = number-0 (not-met-16.1 h) (((window-exactly w).is_open day).1 o)

  -- There is one first day, and one answer to the question for it.
  first-same : {d k : ℕ} → IsFirst w day d → IsFirst w day k → d ≡ k
  first-same {d} {k} f g = same (leb d k) (leb k d) refl refl
    where
      same : (s t : Bool) → leb d k ≡ s → leb k d ≡ t → d ≡ k
      same true true p q = omega (arith, leb-true d k p, leb-true k d q)
      same false t p q = absurd (f.no_earlier k g.exists g.is_open (omega (arith, g.not_before)) (leb-false d k p))
      same true false p q = absurd (g.no_earlier d f.exists f.is_open (omega (arith, f.not_before)) (leb-false k d q))

  one_answer : {r s : First} → FirstDay w day r → FirstDay w day s → r ≡ s
  one_answer (refused a) (refused b) = refl
  one_answer (refused a) (found d n f) = absurd (n a)
  one_answer (refused a) (none n f) = absurd (n a)
  one_answer (found d n f) (refused a) = absurd (n a)
  one_answer (found d n f) (none m g) = absurd (g d f.exists f.is_open (omega (arith, f.not_before)))
  one_answer (found d n f) (found k m g) = ap found_day (first-same f g)
  one_answer (none n f) (refused a) = absurd (n a)
  one_answer (none n f) (found d m g) = absurd (f d g.exists g.is_open (omega (arith, g.not_before)))
  one_answer (none n f) (none m g) = refl

  -- All that is claimed of an answer.
  pub first-exactly : (r : First) → FirstDay w day r → FirstExactly w day r
  first-exactly r f =
      record {
        sixteen = ((λ e. is-16 (subst (FirstDay w day) e f) refl), (λ h. one_answer f (refused h)));
        a_day = λ d. ((λ e. is-day d (subst (FirstDay w day) e f) refl), (λ h. one_answer f (found d h.0 h.1)));
        no_such_day = ((λ e. is_none (subst (FirstDay w day) e f) refl), (λ h. one_answer f (none h.0 h.1)));
        only = λ s g. one_answer f g;
      }
    where
      number_of : {s t : First} → s ≡ t → s.number ≡ t.number
      number_of e = ap (λ (x : First). x.number) e

      found_of : {s t : First} → s ≡ t → s.found ≡ t.found
      found_of e = ap (λ (x : First). x.found) e

      is-16 : {s : First} → FirstDay w day s → s ≡ refused_by 16 → Meets16 w day
      is-16 (refused h) e = h
      is-16 (found d n g) e = let bad : ⊥ = omega (arith, number_of e) in absurd bad
      is-16 (none n g) e = let bad : ⊥ = omega (arith, number_of e) in absurd bad

      is-day : (d : ℕ) {s : First} → FirstDay w day s → s ≡ found_day d → (Meets16 w day → ⊥) × IsFirst w day d
      is-day d (refused h) e = let bad : ⊥ = omega (arith, number_of e) in absurd bad
      is-day d (found k n g) e = (n, subst (IsFirst w day) (ap (λ (x : First). x.day) e) g)
      is-day d (none n g) e = absurd (true≢false (sym (found_of e)))

      is_none : {s : First} → FirstDay w day s → s ≡ no_day → (Meets16 w day → ⊥) × NoneFrom w day
      is_none (refused h) e = let bad : ⊥ = omega (arith, number_of e) in absurd bad
      is_none (found k n g) e = absurd (true≢false (found_of e))
      is_none (none n g) e = (n, g)

-- an answer tells what the question gave: no bit of it is left open
pub first-tells : (a b : Result (Option ℕ) Refusal) → first_of a ≡ first_of b → a ≡ b
first-tells (Ok (Some d)) (Ok (Some k)) h = ap (λ (x : First). Ok (Some x.day)) h
first-tells (Ok (Some d)) (Ok None) h = absurd (true≢false (ap (λ (x : First). x.found) h))
first-tells (Ok None) (Ok (Some k)) h = absurd (true≢false (sym (ap (λ (x : First). x.found) h)))
first-tells (Ok None) (Ok None) h = refl
first-tells (Ok (Some d)) (Err f) h = let bad : ⊥ = omega (arith, ap (λ (x : First). x.number) h, number-positive f) in absurd bad
first-tells (Ok None) (Err f) h = let bad : ⊥ = omega (arith, ap (λ (x : First). x.number) h, number-positive f) in absurd bad
first-tells (Err e) (Ok (Some k)) h = let bad : ⊥ = omega (arith, ap (λ (x : First). x.number) h, number-positive e) in absurd bad
first-tells (Err e) (Ok None) h = let bad : ⊥ = omega (arith, ap (λ (x : First). x.number) h, number-positive e) in absurd bad
first-tells (Err e) (Err f) h = ap Err (number-tells e f (ap (λ (x : First). x.number) h))
