-- The clauses of the exported functions over a lent record: each is just the promise of the function that it hands its arguments
-- on to, and asks nothing of a call. Assumes nothing.
use mathlib.Core.Path.{◌≡◌, refl}
use seplogic.Ra.Ura.{Ura}
use base.Logic.{SProp}
use prog.Memory.{Memory}
use prog.Routine.{Routine}
use types.Logic.{Logic}
use contract.Lifetimes.{Lfts}
use contract.Monad.{Fun}
use contract.Notation.{connectives}
use denote.Triple.Clauses.{AtExit}
use denote.Triple.Entry.{Args, Res}
use Rattle.sanse.specs.Session.{handed, handed_for}
use Rattle.session.specs.Lent.{Started, Wrapped, Unwrapped}
use Rattle.capi.specs.contracts.c_session.pevghazo_start as start
use Rattle.capi.specs.contracts.c_session.pevghazo_wrap as wrap
use Rattle.capi.specs.contracts.c_session.pevghazo_unwrap as unwrap
use Rattle.capi.specs.contracts.c_session.pevghazo_wrap_envelope as wrap-envelope
use Rattle.capi.specs.contracts.c_session.pevghazo_unwrap_envelope as unwrap-envelope
use Rattle.capi.specs.contracts.c_session.pevghazo_wrap_four as wrap-four
use Rattle.capi.specs.contracts.c_session.pevghazo_unwrap_four as unwrap-four
use Rattle.capi.specs.contracts.c_session.pevghazo_wrap_envelope_four as wrap-envelope-four
use Rattle.capi.specs.contracts.c_session.pevghazo_unwrap_envelope_four as unwrap-envelope-four

-- in every model of the program logic
module _ {M : Type 1} {𝓤 : Ura M} (𝓛 : Logic 𝓤) (mem : Memory → SProp 𝓤) (run : Routine → Fun 𝓤) where
  pub start-asks : (κs : Lfts 2) (a : Args start.signature κs) → (start.clauses 𝓛 mem run κs a).requires tt ≡ (connectives 𝓤).⊤ₛ
  start-asks κs a = refl

  pub start-ensures : (κs : Lfts 2) (a : Args start.signature κs) (r : Res start.signature κs) (z : AtExit start.ended κs)
      → (start.clauses 𝓛 mem run κs a).ensures tt r z ≡ (connectives 𝓤).⌜◌⌝ (Started a.1.0.now r z.0.now)
  start-ensures κs a r z = refl

  pub wrap-asks : (κs : Lfts 5) (a : Args wrap.signature κs) → (wrap.clauses 𝓛 mem run κs a).requires tt ≡ (connectives 𝓤).⊤ₛ
  wrap-asks κs a = refl

  pub wrap-ensures : (κs : Lfts 5) (a : Args wrap.signature κs) (r : Res wrap.signature κs) (z : AtExit wrap.ended κs)
      → (wrap.clauses 𝓛 mem run κs a).ensures tt r z
      ≡ (connectives 𝓤).⌜◌⌝
      (Wrapped a.0.now (handed a.1.0.now a.1.1.0.now a.1.1.1.0.now a.1.1.1.1.0.now) r z.0.now
      z.1.1.1.0.now z.1.1.1.1.0.now)
  wrap-ensures κs a r z = refl

  pub unwrap-asks : (κs : Lfts 5) (a : Args unwrap.signature κs) → (unwrap.clauses 𝓛 mem run κs a).requires tt ≡ (connectives 𝓤).⊤ₛ
  unwrap-asks κs a = refl

  pub unwrap-ensures : (κs : Lfts 5) (a : Args unwrap.signature κs) (r : Res unwrap.signature κs) (z : AtExit unwrap.ended κs)
      → (unwrap.clauses 𝓛 mem run κs a).ensures tt r z
      ≡ (connectives 𝓤).⌜◌⌝
      (Unwrapped a.0.now (handed a.1.0.now a.1.1.0.now a.1.1.1.1.0.now a.1.1.1.0.now) r z.0.now
      z.1.1.1.1.0.now a.1.1.1.0.now)
  unwrap-ensures κs a r z = refl

  pub wrap-envelope-asks : (κs : Lfts 6) (a : Args wrap-envelope.signature κs)
      → (wrap-envelope.clauses 𝓛 mem run κs a).requires tt ≡ (connectives 𝓤).⊤ₛ
  wrap-envelope-asks κs a = refl

  pub wrap-envelope-ensures : (κs : Lfts 6) (a : Args wrap-envelope.signature κs) (r : Res wrap-envelope.signature κs) (z : AtExit wrap-envelope.ended κs)
      → (wrap-envelope.clauses 𝓛 mem run κs a).ensures tt r z
      ≡ (connectives 𝓤).⌜◌⌝
      (Wrapped a.0.now (handed_for a.1.0.now a.1.1.0.now a.1.1.1.0.now a.1.1.1.1.0.now a.1.1.1.1.1.0.now) r
      z.0.now z.1.1.1.1.0.now z.1.1.1.1.1.0.now)
  wrap-envelope-ensures κs a r z = refl

  pub unwrap-envelope-asks : (κs : Lfts 6) (a : Args unwrap-envelope.signature κs)
      → (unwrap-envelope.clauses 𝓛 mem run κs a).requires tt ≡ (connectives 𝓤).⊤ₛ
  unwrap-envelope-asks κs a = refl

  pub unwrap-envelope-ensures : (κs : Lfts 6) (a : Args unwrap-envelope.signature κs) (r : Res unwrap-envelope.signature κs)
      (z : AtExit unwrap-envelope.ended κs)
      → (unwrap-envelope.clauses 𝓛 mem run κs a).ensures tt r z
      ≡ (connectives 𝓤).⌜◌⌝
      (Unwrapped a.0.now (handed_for a.1.0.now a.1.1.0.now a.1.1.1.0.now a.1.1.1.1.1.0.now a.1.1.1.1.0.now) r
      z.0.now z.1.1.1.1.1.0.now a.1.1.1.1.0.now)
  unwrap-envelope-ensures κs a r z = refl

  -- ---- with full blocks taken four side by side: the clauses of the function without, all of them
  pub wrap-four-asks : (κs : Lfts 5) (a : Args wrap-four.signature κs)
      → (wrap-four.clauses 𝓛 mem run κs a).requires tt ≡ (connectives 𝓤).⊤ₛ
  wrap-four-asks κs a = refl

  pub wrap-four-same : wrap-four.clauses 𝓛 mem run ≡ wrap.clauses 𝓛 mem run
  wrap-four-same = refl

  pub unwrap-four-asks : (κs : Lfts 5) (a : Args unwrap-four.signature κs)
      → (unwrap-four.clauses 𝓛 mem run κs a).requires tt ≡ (connectives 𝓤).⊤ₛ
  unwrap-four-asks κs a = refl

  pub unwrap-four-same : unwrap-four.clauses 𝓛 mem run ≡ unwrap.clauses 𝓛 mem run
  unwrap-four-same = refl

  pub wrap-envelope-four-asks : (κs : Lfts 6) (a : Args wrap-envelope-four.signature κs)
      → (wrap-envelope-four.clauses 𝓛 mem run κs a).requires tt ≡ (connectives 𝓤).⊤ₛ
  wrap-envelope-four-asks κs a = refl

  pub wrap-envelope-four-same : wrap-envelope-four.clauses 𝓛 mem run ≡ wrap-envelope.clauses 𝓛 mem run
  wrap-envelope-four-same = refl

  pub unwrap-envelope-four-asks : (κs : Lfts 6) (a : Args unwrap-envelope-four.signature κs)
      → (unwrap-envelope-four.clauses 𝓛 mem run κs a).requires tt ≡ (connectives 𝓤).⊤ₛ
  unwrap-envelope-four-asks κs a = refl

  pub unwrap-envelope-four-same : unwrap-envelope-four.clauses 𝓛 mem run ≡ unwrap-envelope.clauses 𝓛 mem run
  unwrap-envelope-four-same = refl
