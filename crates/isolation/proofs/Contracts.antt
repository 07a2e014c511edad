-- What the lists of calls know of a call is the `ensures` of the function, all of it; and each wrap and unwrap of a list is a call of one of the
-- functions (`EitherSort` of `specs/Isolation.antt`). Assumes nothing.
use mathlib.Core.Bool.{true}
use mathlib.Core.List.{List}
use mathlib.Core.Logic.{◌⊎◌, inl, inr}
use mathlib.Core.Path.{◌≡◌, refl, ap}
use Prim.Native.Nat.{ℕ}
use seplogic.Ra.Ura.{Ura}
use base.Logic.{SProp}
use prog.Memory.{Memory}
use prog.Routine.{Routine}
use types.Logic.{Logic}
use contract.Lifetimes.{Lfts}
use contract.Monad.{Fun}
use contract.Notation.{connectives}
use denote.Triple.Clauses.{AtExit}
use denote.Triple.Entry.{Args, Res}
use Rattle.modes.specs.Call.{CallHeader, bare, under, with_header}
use Rattle.sanse.specs.Session.{handed, handed_for}
use Rattle.office.specs.contracts.start_day as start-day
use Rattle.office.specs.contracts.open_group as open-group
use Rattle.office.specs.contracts.wrap_group as wrap-group
use Rattle.office.specs.contracts.unwrap_group as unwrap-group
use Rattle.office_envelope.specs.contracts.wrap_envelope_group as wrap-envelope
use Rattle.office_envelope.specs.contracts.unwrap_envelope_group as unwrap-envelope
use Rattle.office.proofs.Contracts.{wrap-by, unwrap-by}
use Rattle.office_envelope.proofs.Contracts.{wrap-envelope-by, unwrap-envelope-by}
use Rattle.isolation.specs.Calls.{Opened, Wrapped, Unwrapped, DayStarted}
use Rattle.isolation.specs.Isolation.{EitherSort}

-- in every model of the program logic
module _ {M : Type 1} {𝓤 : Ura M} (𝓛 : Logic 𝓤) (mem : Memory → SProp 𝓤) (run : Routine → Fun 𝓤) where
  pub open-promises : (κs : Lfts 2) (a : Args open-group.signature κs) (r : Res open-group.signature κs) (z : AtExit open-group.ended κs)
      → (open-group.clauses 𝓛 mem run κs a).ensures tt r z
      ≡ (connectives 𝓤).⌜◌⌝ (Opened a.1.1.0 a.0.now a.1.0 a.1.1.1.0.now r z.0.now)
  open-promises κs a r z = refl

  pub wrap-promises : (κs : Lfts 5) (a : Args wrap-group.signature κs) (r : Res wrap-group.signature κs) (z : AtExit wrap-group.ended κs)
      → (wrap-group.clauses 𝓛 mem run κs a).ensures tt r z
      ≡ (connectives 𝓤).⌜◌⌝
      (Wrapped a.1.1.0 a.0.now a.1.0
      (handed a.1.1.1.0.now a.1.1.1.1.0.now a.1.1.1.1.1.0.now a.1.1.1.1.1.1.0.now)
      r z.0.now z.1.1.1.1.1.0.now z.1.1.1.1.1.1.0.now)
  wrap-promises κs a r z = refl

  pub unwrap-promises : (κs : Lfts 5) (a : Args unwrap-group.signature κs) (r : Res unwrap-group.signature κs) (z : AtExit unwrap-group.ended κs)
      → (unwrap-group.clauses 𝓛 mem run κs a).ensures tt r z
      ≡ (connectives 𝓤).⌜◌⌝
      (Unwrapped a.1.1.0 a.0.now a.1.0
      (handed a.1.1.1.0.now a.1.1.1.1.0.now a.1.1.1.1.1.1.0.now a.1.1.1.1.1.0.now)
      r z.0.now z.1.1.1.1.1.1.0.now a.1.1.1.1.1.0.now)
  unwrap-promises κs a r z = refl

  -- for an envelope
  pub wrap-envelope-promises : (κs : Lfts 6) (a : Args wrap-envelope.signature κs) (r : Res wrap-envelope.signature κs) (z : AtExit wrap-envelope.ended κs)
      → (wrap-envelope.clauses 𝓛 mem run κs a).ensures tt r z
      ≡ (connectives 𝓤).⌜◌⌝
      (Wrapped a.1.1.0 a.0.now a.1.0
      (handed_for a.1.1.1.0.now a.1.1.1.1.0.now a.1.1.1.1.1.0.now a.1.1.1.1.1.1.0.now a.1.1.1.1.1.1.1.0.now)
      r z.0.now z.1.1.1.1.1.1.0.now z.1.1.1.1.1.1.1.0.now)
  wrap-envelope-promises κs a r z = refl

  pub unwrap-envelope-promises : (κs : Lfts 6) (a : Args unwrap-envelope.signature κs) (r : Res unwrap-envelope.signature κs)
      (z : AtExit unwrap-envelope.ended κs)
      → (unwrap-envelope.clauses 𝓛 mem run κs a).ensures tt r z
      ≡ (connectives 𝓤).⌜◌⌝
      (Unwrapped a.1.1.0 a.0.now a.1.0
      (handed_for a.1.1.1.0.now a.1.1.1.1.0.now a.1.1.1.1.1.0.now a.1.1.1.1.1.1.1.0.now a.1.1.1.1.1.1.0.now)
      r z.0.now z.1.1.1.1.1.1.1.0.now a.1.1.1.1.1.1.0.now)
  unwrap-envelope-promises κs a r z = refl

  -- each promise holds whether full blocks are taken four side by side or not; written out for a call where they are
  pub wrap-four-promises : (κs : Lfts 5) (a : Args wrap-group.signature κs) (r : Res wrap-group.signature κs) (z : AtExit wrap-group.ended κs)
      → (wrap-group.clauses 𝓛 mem run κs (wrap-by 𝓛 mem run κs a true)).ensures tt r z
      ≡ (connectives 𝓤).⌜◌⌝
      (Wrapped a.1.1.0 a.0.now a.1.0
      (handed a.1.1.1.0.now a.1.1.1.1.0.now a.1.1.1.1.1.0.now a.1.1.1.1.1.1.0.now)
      r z.0.now z.1.1.1.1.1.0.now z.1.1.1.1.1.1.0.now)
  wrap-four-promises κs a r z = refl

  pub unwrap-four-promises : (κs : Lfts 5) (a : Args unwrap-group.signature κs) (r : Res unwrap-group.signature κs) (z : AtExit unwrap-group.ended κs)
      → (unwrap-group.clauses 𝓛 mem run κs (unwrap-by 𝓛 mem run κs a true)).ensures tt r z
      ≡ (connectives 𝓤).⌜◌⌝
      (Unwrapped a.1.1.0 a.0.now a.1.0
      (handed a.1.1.1.0.now a.1.1.1.1.0.now a.1.1.1.1.1.1.0.now a.1.1.1.1.1.0.now)
      r z.0.now z.1.1.1.1.1.1.0.now a.1.1.1.1.1.0.now)
  unwrap-four-promises κs a r z = refl

  pub wrap-envelope-four-promises : (κs : Lfts 6) (a : Args wrap-envelope.signature κs) (r : Res wrap-envelope.signature κs) (z : AtExit wrap-envelope.ended κs)
      → (wrap-envelope.clauses 𝓛 mem run κs (wrap-envelope-by 𝓛 mem run κs a true)).ensures tt r z
      ≡ (connectives 𝓤).⌜◌⌝
      (Wrapped a.1.1.0 a.0.now a.1.0
      (handed_for a.1.1.1.0.now a.1.1.1.1.0.now a.1.1.1.1.1.0.now a.1.1.1.1.1.1.0.now a.1.1.1.1.1.1.1.0.now)
      r z.0.now z.1.1.1.1.1.1.0.now z.1.1.1.1.1.1.1.0.now)
  wrap-envelope-four-promises κs a r z = refl

  pub unwrap-envelope-four-promises : (κs : Lfts 6) (a : Args unwrap-envelope.signature κs) (r : Res unwrap-envelope.signature κs)
      (z : AtExit unwrap-envelope.ended κs)
      → (unwrap-envelope.clauses 𝓛 mem run κs (unwrap-envelope-by 𝓛 mem run κs a true)).ensures tt r z
      ≡ (connectives 𝓤).⌜◌⌝
      (Unwrapped a.1.1.0 a.0.now a.1.0
      (handed_for a.1.1.1.0.now a.1.1.1.1.0.now a.1.1.1.1.1.0.now a.1.1.1.1.1.1.1.0.now a.1.1.1.1.1.1.0.now)
      r z.0.now z.1.1.1.1.1.1.1.0.now a.1.1.1.1.1.1.0.now)
  unwrap-envelope-four-promises κs a r z = refl

  pub start-day-promises : (κs : Lfts 1) (a : Args start-day.signature κs) (r : Res start-day.signature κs) (z : AtExit start-day.ended κs)
      → (start-day.clauses 𝓛 mem run κs a).ensures tt r z ≡ (connectives 𝓤).⌜◌⌝ (DayStarted a.1.0 a.0.now r z.0.now)
  start-day-promises κs a r z = refl

-- ---- both sorts of calls

pub either-sort : EitherSort
either-sort i = go i.header refl
  where
    go : (h : CallHeader) → i.header ≡ h
        → (i ≡ handed i.metadata i.text i.out i.tag) ⊎ ((x : List ℕ) × (i ≡ handed_for x i.metadata i.text i.out i.tag))
    go bare e = inl (ap (λ (h : CallHeader). with_header h i) e)
    go (under x) e = inr (x, ap (λ (h : CallHeader). with_header h i) e)
