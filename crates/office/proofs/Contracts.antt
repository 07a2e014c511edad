-- The clauses of the crate's public functions: each has just one clause, its equation of `specs/Table.antt`, and asks nothing of a call. Assumes
-- nothing.
use mathlib.Core.Path.{◌≡◌, refl}
use mathlib.Core.Bool.{Bool, true, false}
use seplogic.Ra.Ura.{Ura}
use base.Logic.{SProp}
use prog.Memory.{Memory}
use prog.Routine.{Routine}
use types.Logic.{Logic}
use contract.Lifetimes.{Lfts}
use contract.Monad.{Fun}
use contract.Notation.{connectives}
use denote.Triple.Clauses.{AtExit}
use denote.Triple.Entry.{Args, Res}
use Rattle.sanse.specs.Session.{handed}
use Rattle.office.specs.Table.{table_of, day_result, table_result, opening_result, start_day_at, wrap_group_at, unwrap_group_at, open_group_at, nearly_full_at, nearly_full_result}
use Rattle.office.specs.contracts.start_day as start-day
use Rattle.office.specs.contracts.open_group as open-group
use Rattle.office.specs.contracts.wrap_group as wrap-group
use Rattle.office.specs.contracts.unwrap_group as unwrap-group
use Rattle.office.specs.contracts.nearly_full as nearly-full

-- in every model of the program logic
module _ {M : Type 1} {𝓤 : Ura M} (𝓛 : Logic 𝓤) (mem : Memory → SProp 𝓤) (run : Routine → Fun 𝓤) where
  pub start-day-asks : (κs : Lfts 1) (a : Args start-day.signature κs) → (start-day.clauses 𝓛 mem run κs a).requires tt ≡ (connectives 𝓤).⊤ₛ
  start-day-asks κs a = refl

  pub start-day-ensures : (κs : Lfts 1) (a : Args start-day.signature κs) (r : Res start-day.signature κs) (z : AtExit start-day.ended κs)
      → (start-day.clauses 𝓛 mem run κs a).ensures tt r z ≡ (connectives 𝓤).⌜◌⌝ (day_result r z.0.now ≡ start_day_at a.1.0 (table_of a.0.now))
  start-day-ensures κs a r z = refl

  pub open-asks : (κs : Lfts 2) (a : Args open-group.signature κs) → (open-group.clauses 𝓛 mem run κs a).requires tt ≡ (connectives 𝓤).⊤ₛ
  open-asks κs a = refl

  pub open-ensures : (κs : Lfts 2) (a : Args open-group.signature κs) (r : Res open-group.signature κs) (z : AtExit open-group.ended κs)
      → (open-group.clauses 𝓛 mem run κs a).ensures tt r z
      ≡ (connectives 𝓤).⌜◌⌝ (opening_result r z.0.now ≡ open_group_at a.1.1.0 (table_of a.0.now) a.1.0 a.1.1.1.0.now)
  open-ensures κs a r z = refl

  pub wrap-asks : (κs : Lfts 5) (a : Args wrap-group.signature κs) → (wrap-group.clauses 𝓛 mem run κs a).requires tt ≡ (connectives 𝓤).⊤ₛ
  wrap-asks κs a = refl

  pub wrap-ensures : (κs : Lfts 5) (a : Args wrap-group.signature κs) (r : Res wrap-group.signature κs) (z : AtExit wrap-group.ended κs)
      → (wrap-group.clauses 𝓛 mem run κs a).ensures tt r z
      ≡ (connectives 𝓤).⌜◌⌝
      (table_result r z.0.now z.1.1.1.1.1.0.now z.1.1.1.1.1.1.0.now
      ≡ wrap_group_at a.1.1.0 (table_of a.0.now) a.1.0
      (handed a.1.1.1.0.now a.1.1.1.1.0.now a.1.1.1.1.1.0.now a.1.1.1.1.1.1.0.now))
  wrap-ensures κs a r z = refl

  pub unwrap-asks : (κs : Lfts 5) (a : Args unwrap-group.signature κs) → (unwrap-group.clauses 𝓛 mem run κs a).requires tt ≡ (connectives 𝓤).⊤ₛ
  unwrap-asks κs a = refl

  pub unwrap-ensures : (κs : Lfts 5) (a : Args unwrap-group.signature κs) (r : Res unwrap-group.signature κs) (z : AtExit unwrap-group.ended κs)
      → (unwrap-group.clauses 𝓛 mem run κs a).ensures tt r z
      ≡ (connectives 𝓤).⌜◌⌝
      (table_result r z.0.now z.1.1.1.1.1.1.0.now a.1.1.1.1.1.0.now
      ≡ unwrap_group_at a.1.1.0 (table_of a.0.now) a.1.0
      (handed a.1.1.1.0.now a.1.1.1.1.0.now a.1.1.1.1.1.1.0.now a.1.1.1.1.1.0.now))
  unwrap-ensures κs a r z = refl

  pub nearly-full-asks : (κs : Lfts 1) (a : Args nearly-full.signature κs) → (nearly-full.clauses 𝓛 mem run κs a).requires tt ≡ (connectives 𝓤).⊤ₛ
  nearly-full-asks κs a = refl

  pub nearly-full-ensures : (κs : Lfts 1) (a : Args nearly-full.signature κs) (r : Res nearly-full.signature κs) (z : AtExit nearly-full.ended κs)
      → (nearly-full.clauses 𝓛 mem run κs a).ensures tt r z ≡ (connectives 𝓤).⌜◌⌝ (nearly_full_result r ≡ nearly_full_at (table_of a.0.now) a.1.0)
  nearly-full-ensures κs a r z = refl

  -- ---- whether full blocks are taken four side by side alters no clause (document 02, request 10): of any call the clauses where they
  -- are, are those where they are not, all of them
  -- a call with the last argument four
  abbrev pub wrap-by : (κs : Lfts 5) (a : Args wrap-group.signature κs) (four : Bool) → Args wrap-group.signature κs
  wrap-by κs a t =
      (a.0, (a.1.0, (a.1.1.0, (a.1.1.1.0, (a.1.1.1.1.0, (a.1.1.1.1.1.0, (a.1.1.1.1.1.1.0, (t, a.1.1.1.1.1.1.1.1))))))))

  pub wrap-same : (κs : Lfts 5) (a : Args wrap-group.signature κs)
      → wrap-group.clauses 𝓛 mem run κs (wrap-by κs a true) ≡ wrap-group.clauses 𝓛 mem run κs (wrap-by κs a false)
  wrap-same κs a = refl

  -- a call with the last argument four
  abbrev pub unwrap-by : (κs : Lfts 5) (a : Args unwrap-group.signature κs) (four : Bool) → Args unwrap-group.signature κs
  unwrap-by κs a t =
      (a.0, (a.1.0, (a.1.1.0, (a.1.1.1.0, (a.1.1.1.1.0, (a.1.1.1.1.1.0, (a.1.1.1.1.1.1.0, (t, a.1.1.1.1.1.1.1.1))))))))

  pub unwrap-same : (κs : Lfts 5) (a : Args unwrap-group.signature κs)
      → unwrap-group.clauses 𝓛 mem run κs (unwrap-by κs a true) ≡ unwrap-group.clauses 𝓛 mem run κs (unwrap-by κs a false)
  unwrap-same κs a = refl
