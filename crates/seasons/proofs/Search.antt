-- The search for the first day, step by step: d is the day that is looked at. Assumes nothing.
use Prim.Native.Nat.{ℕ, ◌<◌, ◌≤◌}
use mathlib.Core.Path.{◌≡◌, refl, sym, subst}
use mathlib.Core.Bool.{Bool, true, false, cond}
use native.Mathlib.Omega.{arith}
use lib.Dec.{ltb}
use borrow.Author.Tests.{ltb-true, ltb-false}
use Rattle.std.specs.Prelude.{Option, Result, Err}
use Rattle.refusals.specs.declared.Refusal.{Refusal}
use Rattle.refusals.specs.Numbers.{number_of}
use Rattle.refusals.proofs.Numbers.{number-positive}
use Rattle.days.specs.Days.{Exists, last_day, is_day, next_day}
use Rattle.days.proofs.Rules.{both, day-exactly}
use Rattle.days.proofs.Next.{next-exactly}
use Rattle.windows.specs.declared.Window.{Window}
use Rattle.windows.specs.Windows.{Open}
use Rattle.windows.specs.Computed.{open_on, good_window}
use Rattle.windows.proofs.Right.{window-exactly}
use Rattle.seasons.specs.declared.First.{First}
use Rattle.seasons.specs.Seasons.{passes16}
use Rattle.seasons.specs.FirstDay.{first_of, refused_by, found_day, no_day, FirstDay, refused, found, none}
use Rattle.seasons.proofs.Right.{met-16, not-met-16}

-- what the search knows at d: it is not before the day that was asked for, it exists unless it lies past the last day, and no day before it will do
pub record At (w : Window) (day d : ℕ) : Type 0 where
  pub not_before : day ≤ d
  pub exists : d ≤ last_day → Exists d
  pub none_yet : (other : ℕ) → Exists other → Open w other → day ≤ other → other < d → ⊥

module _ (w : Window) (day : ℕ) where
  -- where the dates were not refused
  pub passed : ◌≡◌ {A = ℕ} 0 (cond (passes16 w day) 0 16) → passes16 w day ≡ true
  passed h = grind arith

  -- it begins at the day itself
  pub start : is_day day ≡ true → At w day day
  start e =
      record {
        not_before = omega arith;
        exists = λ h. (day-exactly day).yes.0 e;
        none_yet = λ other is o a b. let bad : ⊥ = omega arith in absurd bad;
      }

  -- so where they were not refused
  pub starts : passes16 w day ≡ true → At w day day
  unfolding passes16
  starts e = start (both (is_day day) (good_window w) e).0

  module _ (d : ℕ) (at : At w day d) where
    -- and goes on at the next day, where the window is not open on this one
    pub step : d ≤ last_day → open_on w d ≡ false → At w day (next_day d)
    step inside shut =
        record {
          not_before = omega (arith, at.not_before, (next-exactly d here).later);
          exists = λ h. (next-exactly d here).exists (omega (arith, (next-exactly d here).later));
          none_yet = λ other is o a b. go other (ltb other d) (ltb d other) refl refl is o a b;
        }
      where
        here : Exists d
        here = at.exists inside

        go : (other : ℕ) (s t : Bool) → ltb other d ≡ s → ltb d other ≡ t → Exists other → Open w other → day ≤ other → other < next_day d → ⊥
        go other true t p q is o a b = at.none_yet other is o a (ltb-true other d p)
        go other false true p q is o a b = omega (arith, (next-exactly d here).nothing_between other is (ltb-true d other q))
        go other false false p q is o a b =
            let same : other ≡ d = omega (arith, ltb-false other d p, ltb-false d other q) in
            ((window-exactly w).is_shut d).0 shut (subst (Open w) same o)

  -- the answers, where v is the same window
  module _ (v : Window) (same : w ≡ v) where
    there : {r : First} → FirstDay w day r → FirstDay v day r
    there {r} f = subst (λ (x : Window). FirstDay x day r) same f

    pub answer-refused : (r : Result (Option ℕ) Refusal) (e : Refusal) → r ≡ Err e → number_of e ≡ cond (passes16 w day) 0 16 → FirstDay v day (first_of r)
    answer-refused r e is h = subst (λ (x : Result (Option ℕ) Refusal). FirstDay v day (first_of x)) (sym is) (go (passes16 w day) refl)
      where
        go : (t : Bool) → passes16 w day ≡ t → FirstDay v day (refused_by (number_of e))
        go true p = let zero : number_of e ≡ 0 = rw p at h in let bad : ⊥ = omega (arith, number-positive e) in absurd bad
        go false p = let sixteen : number_of e ≡ 16 = rw p at h in there (subst (λ (n : ℕ). FirstDay w day (refused_by n)) (sym sixteen) (refused ((met-16 w day).0 p)))

    pub answer-found : (d : ℕ) → passes16 w day ≡ true → At w day d → d ≤ last_day → open_on w d ≡ true → FirstDay v day (found_day d)
    answer-found d e at inside o =
        there
        (found d ((not-met-16 w day).0 e)
        (record { exists = at.exists inside; is_open = ((window-exactly w).is_open d).0 o; not_before = at.not_before; no_earlier = at.none_yet }))

    pub answer-none : (d : ℕ) → passes16 w day ≡ true → At w day d → last_day < d → FirstDay v day no_day
    answer-none d e at past =
        there (none ((not-met-16 w day).0 e) (λ other is o a. at.none_yet other is o a (omega (arith, (next-exactly other is).not_past))))
