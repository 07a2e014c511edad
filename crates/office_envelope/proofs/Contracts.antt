-- The clauses of the crate's public functions: each has just one clause, its equation of the office's `Table`, and asks nothing of a call. Assumes
-- nothing.
use mathlib.Core.Path.{◌≡◌, refl}
use mathlib.Core.Bool.{Bool, true, false}
use seplogic.Ra.Ura.{Ura}
use base.Logic.{SProp}
use prog.Memory.{Memory}
use prog.Routine.{Routine}
use types.Logic.{Logic}
use contract.Lifetimes.{Lfts}
use contract.Monad.{Fun}
use contract.Notation.{connectives}
use denote.Triple.Clauses.{AtExit}
use denote.Triple.Entry.{Args, Res}
use Rattle.sanse.specs.Session.{handed_for}
use Rattle.office.specs.Table.{table_of, table_result, wrap_group_at, unwrap_group_at}
use Rattle.office_envelope.specs.contracts.wrap_envelope_group as wrap-envelope
use Rattle.office_envelope.specs.contracts.unwrap_envelope_group as unwrap-envelope

-- in every model of the program logic
module _ {M : Type 1} {𝓤 : Ura M} (𝓛 : Logic 𝓤) (mem : Memory → SProp 𝓤) (run : Routine → Fun 𝓤) where
  pub wrap-envelope-asks : (κs : Lfts 6) (a : Args wrap-envelope.signature κs) → (wrap-envelope.clauses 𝓛 mem run κs a).requires tt ≡ (connectives 𝓤).⊤ₛ
  wrap-envelope-asks κs a = refl

  pub wrap-envelope-ensures : (κs : Lfts 6) (a : Args wrap-envelope.signature κs) (r : Res wrap-envelope.signature κs) (z : AtExit wrap-envelope.ended κs)
      → (wrap-envelope.clauses 𝓛 mem run κs a).ensures tt r z
      ≡ (connectives 𝓤).⌜◌⌝
      (table_result r z.0.now z.1.1.1.1.1.1.0.now z.1.1.1.1.1.1.1.0.now
      ≡ wrap_group_at a.1.1.0 (table_of a.0.now) a.1.0
      (handed_for a.1.1.1.0.now a.1.1.1.1.0.now a.1.1.1.1.1.0.now a.1.1.1.1.1.1.0.now a.1.1.1.1.1.1.1.0.now))
  wrap-envelope-ensures κs a r z = refl

  pub unwrap-envelope-asks : (κs : Lfts 6) (a : Args unwrap-envelope.signature κs) → (unwrap-envelope.clauses 𝓛 mem run κs a).requires tt ≡ (connectives 𝓤).⊤ₛ
  unwrap-envelope-asks κs a = refl

  pub unwrap-envelope-ensures : (κs : Lfts 6) (a : Args unwrap-envelope.signature κs) (r : Res unwrap-envelope.signature κs) (z : AtExit unwrap-envelope.ended κs)
      → (unwrap-envelope.clauses 𝓛 mem run κs a).ensures tt r z
      ≡ (connectives 𝓤).⌜◌⌝
      (table_result r z.0.now z.1.1.1.1.1.1.1.0.now a.1.1.1.1.1.1.0.now
      ≡ unwrap_group_at a.1.1.0 (table_of a.0.now) a.1.0
      (handed_for a.1.1.1.0.now a.1.1.1.1.0.now a.1.1.1.1.1.0.now a.1.1.1.1.1.1.1.0.now a.1.1.1.1.1.1.0.now))
  unwrap-envelope-ensures κs a r z = refl

  -- ---- whether full blocks are taken four side by side alters no clause (document 02, request 10): of any call the clauses where they
  -- are, are those where they are not, all of them
  -- a call with the last argument four
  abbrev pub wrap-envelope-by : (κs : Lfts 6) (a : Args wrap-envelope.signature κs) (four : Bool) → Args wrap-envelope.signature κs
  wrap-envelope-by κs a t =
      (a.0, (a.1.0, (a.1.1.0, (a.1.1.1.0, (a.1.1.1.1.0, (a.1.1.1.1.1.0, (a.1.1.1.1.1.1.0, (a.1.1.1.1.1.1.1.0, (t, a.1.1.1.1.1.1.1.1.1)))))))))

  pub wrap-envelope-same : (κs : Lfts 6) (a : Args wrap-envelope.signature κs)
      → wrap-envelope.clauses 𝓛 mem run κs (wrap-envelope-by κs a true) ≡ wrap-envelope.clauses 𝓛 mem run κs (wrap-envelope-by κs a false)
  wrap-envelope-same κs a = refl

  -- a call with the last argument four
  abbrev pub unwrap-envelope-by : (κs : Lfts 6) (a : Args unwrap-envelope.signature κs) (four : Bool) → Args unwrap-envelope.signature κs
  unwrap-envelope-by κs a t =
      (a.0, (a.1.0, (a.1.1.0, (a.1.1.1.0, (a.1.1.1.1.0, (a.1.1.1.1.1.0, (a.1.1.1.1.1.1.0, (a.1.1.1.1.1.1.1.0, (t, a.1.1.1.1.1.1.1.1.1)))))))))

  pub unwrap-envelope-same : (κs : Lfts 6) (a : Args unwrap-envelope.signature κs)
      → unwrap-envelope.clauses 𝓛 mem run κs (unwrap-envelope-by κs a true) ≡ unwrap-envelope.clauses 𝓛 mem run κs (unwrap-envelope-by κs a false)
  unwrap-envelope-same κs a = refl
