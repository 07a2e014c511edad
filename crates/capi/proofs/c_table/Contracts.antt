-- The clauses of the exported functions over the office's table: each is just the promise of the function that it hands its
-- arguments on to, and asks nothing of a call. Assumes nothing.
use mathlib.Core.Path.{◌≡◌, refl, ap}
use seplogic.Ra.Ura.{Ura}
use base.Logic.{SProp}
use prog.Memory.{Memory}
use prog.Routine.{Routine}
use types.Logic.{Logic}
use contract.Lifetimes.{Lfts}
use contract.Monad.{Fun}
use contract.Notation.{connectives}
use denote.Triple.Clauses.{AtExit}
use denote.Triple.Entry.{Args, Res}
use Rattle.sanse.specs.Session.{handed, handed_for}
use Rattle.office.specs.Table.{table_of, day_result, table_result, opening_result, start_day_at, wrap_group_at, unwrap_group_at, open_group_at, TableFinding, nearly_full_at}
use Rattle.capi.specs.Found.{found_result}
use Rattle.capi.specs.declared.c_table.Found.{Found}
use Rattle.capi.specs.contracts.c_table.pevghazo_start_day as start-day
use Rattle.capi.specs.contracts.c_table.pevghazo_open_group as open-group
use Rattle.capi.specs.contracts.c_table.pevghazo_wrap_group as wrap-group
use Rattle.capi.specs.contracts.c_table.pevghazo_unwrap_group as unwrap-group
use Rattle.capi.specs.contracts.c_table.pevghazo_wrap_envelope_group as wrap-envelope
use Rattle.capi.specs.contracts.c_table.pevghazo_unwrap_envelope_group as unwrap-envelope
use Rattle.capi.specs.contracts.c_table.pevghazo_nearly_full as nearly-full
use Rattle.capi.specs.contracts.c_table.pevghazo_wrap_group_four as wrap-group-four
use Rattle.capi.specs.contracts.c_table.pevghazo_unwrap_group_four as unwrap-group-four
use Rattle.capi.specs.contracts.c_table.pevghazo_wrap_envelope_group_four as wrap-envelope-four
use Rattle.capi.specs.contracts.c_table.pevghazo_unwrap_envelope_group_four as unwrap-envelope-four

-- in every model of the program logic
module _ {M : Type 1} {𝓤 : Ura M} (𝓛 : Logic 𝓤) (mem : Memory → SProp 𝓤) (run : Routine → Fun 𝓤) where
  -- ---- the day
  pub start-day-asks : (κs : Lfts 1) (a : Args start-day.signature κs) → (start-day.clauses 𝓛 mem run κs a).requires tt ≡ (connectives 𝓤).⊤ₛ
  start-day-asks κs a = refl

  pub start-day-ensures : (κs : Lfts 1) (a : Args start-day.signature κs) (r : Res start-day.signature κs) (z : AtExit start-day.ended κs)
      → (start-day.clauses 𝓛 mem run κs a).ensures tt r z ≡ (connectives 𝓤).⌜◌⌝ (day_result r z.0.now ≡ start_day_at a.1.0 (table_of a.0.now))
  start-day-ensures κs a r z = refl

  -- ---- calls for a group
  pub open-group-asks : (κs : Lfts 2) (a : Args open-group.signature κs) → (open-group.clauses 𝓛 mem run κs a).requires tt ≡ (connectives 𝓤).⊤ₛ
  open-group-asks κs a = refl

  pub open-group-ensures : (κs : Lfts 2) (a : Args open-group.signature κs) (r : Res open-group.signature κs) (z : AtExit open-group.ended κs)
      → (open-group.clauses 𝓛 mem run κs a).ensures tt r z
      ≡ (connectives 𝓤).⌜◌⌝
      (opening_result r z.0.now ≡ open_group_at a.1.1.0 (table_of a.0.now) a.1.0 a.1.1.1.0.now)
  open-group-ensures κs a r z = refl

  pub wrap-group-asks : (κs : Lfts 5) (a : Args wrap-group.signature κs) → (wrap-group.clauses 𝓛 mem run κs a).requires tt ≡ (connectives 𝓤).⊤ₛ
  wrap-group-asks κs a = refl

  pub wrap-group-ensures : (κs : Lfts 5) (a : Args wrap-group.signature κs) (r : Res wrap-group.signature κs) (z : AtExit wrap-group.ended κs)
      → (wrap-group.clauses 𝓛 mem run κs a).ensures tt r z
      ≡ (connectives 𝓤).⌜◌⌝
      (table_result r z.0.now z.1.1.1.1.1.0.now z.1.1.1.1.1.1.0.now
      ≡ wrap_group_at a.1.1.0 (table_of a.0.now) a.1.0
      (handed a.1.1.1.0.now a.1.1.1.1.0.now a.1.1.1.1.1.0.now a.1.1.1.1.1.1.0.now))
  wrap-group-ensures κs a r z = refl

  pub unwrap-group-asks : (κs : Lfts 5) (a : Args unwrap-group.signature κs) → (unwrap-group.clauses 𝓛 mem run κs a).requires tt ≡ (connectives 𝓤).⊤ₛ
  unwrap-group-asks κs a = refl

  pub unwrap-group-ensures : (κs : Lfts 5) (a : Args unwrap-group.signature κs) (r : Res unwrap-group.signature κs) (z : AtExit unwrap-group.ended κs)
      → (unwrap-group.clauses 𝓛 mem run κs a).ensures tt r z
      ≡ (connectives 𝓤).⌜◌⌝
      (table_result r z.0.now z.1.1.1.1.1.1.0.now a.1.1.1.1.1.0.now
      ≡ unwrap_group_at a.1.1.0 (table_of a.0.now) a.1.0
      (handed a.1.1.1.0.now a.1.1.1.1.0.now a.1.1.1.1.1.1.0.now a.1.1.1.1.1.0.now))
  unwrap-group-ensures κs a r z = refl

  pub wrap-envelope-asks : (κs : Lfts 6) (a : Args wrap-envelope.signature κs)
      → (wrap-envelope.clauses 𝓛 mem run κs a).requires tt ≡ (connectives 𝓤).⊤ₛ
  wrap-envelope-asks κs a = refl

  pub wrap-envelope-ensures : (κs : Lfts 6) (a : Args wrap-envelope.signature κs) (r : Res wrap-envelope.signature κs) (z : AtExit wrap-envelope.ended κs)
      → (wrap-envelope.clauses 𝓛 mem run κs a).ensures tt r z
      ≡ (connectives 𝓤).⌜◌⌝
      (table_result r z.0.now z.1.1.1.1.1.1.0.now z.1.1.1.1.1.1.1.0.now
      ≡ wrap_group_at a.1.1.0 (table_of a.0.now) a.1.0
      (handed_for a.1.1.1.0.now a.1.1.1.1.0.now a.1.1.1.1.1.0.now a.1.1.1.1.1.1.0.now
      a.1.1.1.1.1.1.1.0.now))
  wrap-envelope-ensures κs a r z = refl

  pub unwrap-envelope-asks : (κs : Lfts 6) (a : Args unwrap-envelope.signature κs)
      → (unwrap-envelope.clauses 𝓛 mem run κs a).requires tt ≡ (connectives 𝓤).⊤ₛ
  unwrap-envelope-asks κs a = refl

  pub unwrap-envelope-ensures : (κs : Lfts 6) (a : Args unwrap-envelope.signature κs) (r : Res unwrap-envelope.signature κs)
      (z : AtExit unwrap-envelope.ended κs)
      → (unwrap-envelope.clauses 𝓛 mem run κs a).ensures tt r z
      ≡ (connectives 𝓤).⌜◌⌝
      (table_result r z.0.now z.1.1.1.1.1.1.1.0.now a.1.1.1.1.1.1.0.now
      ≡ unwrap_group_at a.1.1.0 (table_of a.0.now) a.1.0
      (handed_for a.1.1.1.0.now a.1.1.1.1.0.now a.1.1.1.1.1.0.now a.1.1.1.1.1.1.1.0.now
      a.1.1.1.1.1.1.0.now))
  unwrap-envelope-ensures κs a r z = refl

  pub nearly-full-asks : (κs : Lfts 1) (a : Args nearly-full.signature κs) → (nearly-full.clauses 𝓛 mem run κs a).requires tt ≡ (connectives 𝓤).⊤ₛ
  nearly-full-asks κs a = refl

  pub nearly-full-ensures : (κs : Lfts 1) (a : Args nearly-full.signature κs) (r : Res nearly-full.signature κs) (z : AtExit nearly-full.ended κs)
      → (nearly-full.clauses 𝓛 mem run κs a).ensures tt r z
      ≡ (connectives 𝓤).⌜◌⌝ (found_result r ≡ nearly_full_at (table_of a.0.now) a.1.0)
  nearly-full-ensures κs a r z = refl

  -- ---- with full blocks taken four side by side: the clauses of the function without, all of them
  pub wrap-group-four-asks : (κs : Lfts 5) (a : Args wrap-group-four.signature κs)
      → (wrap-group-four.clauses 𝓛 mem run κs a).requires tt ≡ (connectives 𝓤).⊤ₛ
  wrap-group-four-asks κs a = refl

  pub wrap-group-four-same : wrap-group-four.clauses 𝓛 mem run ≡ wrap-group.clauses 𝓛 mem run
  wrap-group-four-same = refl

  pub unwrap-group-four-asks : (κs : Lfts 5) (a : Args unwrap-group-four.signature κs)
      → (unwrap-group-four.clauses 𝓛 mem run κs a).requires tt ≡ (connectives 𝓤).⊤ₛ
  unwrap-group-four-asks κs a = refl

  pub unwrap-group-four-same : unwrap-group-four.clauses 𝓛 mem run ≡ unwrap-group.clauses 𝓛 mem run
  unwrap-group-four-same = refl

  pub wrap-envelope-four-asks : (κs : Lfts 6) (a : Args wrap-envelope-four.signature κs)
      → (wrap-envelope-four.clauses 𝓛 mem run κs a).requires tt ≡ (connectives 𝓤).⊤ₛ
  wrap-envelope-four-asks κs a = refl

  pub wrap-envelope-four-same : wrap-envelope-four.clauses 𝓛 mem run ≡ wrap-envelope.clauses 𝓛 mem run
  wrap-envelope-four-same = refl

  pub unwrap-envelope-four-asks : (κs : Lfts 6) (a : Args unwrap-envelope-four.signature κs)
      → (unwrap-envelope-four.clauses 𝓛 mem run κs a).requires tt ≡ (connectives 𝓤).⊤ₛ
  unwrap-envelope-four-asks κs a = refl

  pub unwrap-envelope-four-same : unwrap-envelope-four.clauses 𝓛 mem run ≡ unwrap-envelope.clauses 𝓛 mem run
  unwrap-envelope-four-same = refl

-- what the nearly-full question gives is decided by its promise
pub one_found : (f g : Found) → found_result f ≡ found_result g → f ≡ g
one_found f g = ap (λ (r : TableFinding). record { number = r.number; found = r.found; group = r.group })
