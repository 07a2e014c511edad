-- The clauses of SAE's functions over a lent record: each is just its promise (`specs/Lent.antt`), and asks nothing of a call. Assumes nothing.
use mathlib.Core.Path.{◌≡◌, refl}
use seplogic.Ra.Ura.{Ura}
use base.Logic.{SProp}
use prog.Memory.{Memory}
use prog.Routine.{Routine}
use types.Logic.{Logic}
use contract.Lifetimes.{Lfts}
use contract.Monad.{Fun}
use contract.Notation.{connectives}
use denote.Triple.Clauses.{AtExit}
use denote.Triple.Entry.{Args, Res}
use Rattle.sae.specs.Session.{handed}
use Rattle.sae_session.specs.Lent.{Started, Unwrapped, Wrapped, result_of, lent_starts, lent_promises}
use Rattle.sae_session.specs.contracts.start as start
use Rattle.sae_session.specs.contracts.unwrap as unwrap
use Rattle.sae_session.specs.contracts.wrap as wrap

-- in every model of the program logic
module _ {M : Type 1} {𝓤 : Ura M} (𝓛 : Logic 𝓤) (mem : Memory → SProp 𝓤) (run : Routine → Fun 𝓤) where
  pub start-asks : (κs : Lfts 4) (a : Args start.signature κs) → (start.clauses 𝓛 mem run κs a).requires tt ≡ (connectives 𝓤).⊤ₛ
  start-asks κs a = refl

  pub start-ensures : (κs : Lfts 4) (a : Args start.signature κs) (r : Res start.signature κs) (z : AtExit start.ended κs)
      → (start.clauses 𝓛 mem run κs a).ensures tt r z
      ≡ (connectives 𝓤).⌜◌⌝ (Started a.1.0.now a.1.1.0.now a.1.1.1.0.now r z.0.now z.1.1.1.0.now)
  start-ensures κs a r z = refl

  pub unwrap-asks : (κs : Lfts 5) (a : Args unwrap.signature κs) → (unwrap.clauses 𝓛 mem run κs a).requires tt ≡ (connectives 𝓤).⊤ₛ
  unwrap-asks κs a = refl

  pub unwrap-ensures : (κs : Lfts 5) (a : Args unwrap.signature κs) (r : Res unwrap.signature κs) (z : AtExit unwrap.ended κs)
      → (unwrap.clauses 𝓛 mem run κs a).ensures tt r z
      ≡ (connectives 𝓤).⌜◌⌝
      (Unwrapped a.0.now (handed a.1.0.now a.1.1.0.now a.1.1.1.1.0.now a.1.1.1.0.now) r z.0.now
      z.1.1.1.1.0.now a.1.1.1.0.now)
  unwrap-ensures κs a r z = refl

  pub wrap-asks : (κs : Lfts 5) (a : Args wrap.signature κs) → (wrap.clauses 𝓛 mem run κs a).requires tt ≡ (connectives 𝓤).⊤ₛ
  wrap-asks κs a = refl

  pub wrap-ensures : (κs : Lfts 5) (a : Args wrap.signature κs) (r : Res wrap.signature κs) (z : AtExit wrap.ended κs)
      → (wrap.clauses 𝓛 mem run κs a).ensures tt r z
      ≡ (connectives 𝓤).⌜◌⌝
      (Wrapped a.0.now (handed a.1.0.now a.1.1.0.now a.1.1.1.0.now a.1.1.1.1.0.now) r z.0.now
      z.1.1.1.0.now z.1.1.1.1.0.now)
  wrap-ensures κs a r z = refl

  -- and that promise is the one of which request 9's claims are proved
  pub start-promises : (κs : Lfts 4) (a : Args start.signature κs) (r : Res start.signature κs) (z : AtExit start.ended κs)
      → (start.clauses 𝓛 mem run κs a).ensures tt r z
      ≡ (connectives 𝓤).⌜◌⌝
      (lent_starts a.1.0.now a.1.1.0.now a.1.1.1.0.now (result_of r z.0.now) z.1.1.1.0.now)
  start-promises κs a r z = refl

  pub unwrap-promises : (κs : Lfts 5) (a : Args unwrap.signature κs) (r : Res unwrap.signature κs) (z : AtExit unwrap.ended κs)
      → (unwrap.clauses 𝓛 mem run κs a).ensures tt r z
      ≡ (connectives 𝓤).⌜◌⌝
      (lent_promises.unwraps a.0.now (handed a.1.0.now a.1.1.0.now a.1.1.1.1.0.now a.1.1.1.0.now)
      (result_of r z.0.now) z.1.1.1.1.0.now a.1.1.1.0.now)
  unwrap-promises κs a r z = refl

  pub wrap-promises : (κs : Lfts 5) (a : Args wrap.signature κs) (r : Res wrap.signature κs) (z : AtExit wrap.ended κs)
      → (wrap.clauses 𝓛 mem run κs a).ensures tt r z
      ≡ (connectives 𝓤).⌜◌⌝
      (lent_promises.wraps a.0.now (handed a.1.0.now a.1.1.0.now a.1.1.1.0.now a.1.1.1.1.0.now)
      (result_of r z.0.now) z.1.1.1.0.now z.1.1.1.1.0.now)
  wrap-promises κs a r z = refl
