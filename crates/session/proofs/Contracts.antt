-- The clauses of the functions over a lent record: each is just its promise (`specs/Lent.antt`), and asks nothing of a call. Assumes nothing.
use mathlib.Core.Path.{◌≡◌, refl}
use mathlib.Core.Bool.{Bool, true, false}
use seplogic.Ra.Ura.{Ura}
use base.Logic.{SProp}
use prog.Memory.{Memory}
use prog.Routine.{Routine}
use types.Logic.{Logic}
use contract.Lifetimes.{Lfts}
use contract.Monad.{Fun}
use contract.Notation.{connectives}
use denote.Triple.Clauses.{AtExit}
use denote.Triple.Entry.{Args, Res}
use Rattle.sanse.specs.Session.{handed, handed_for}
use Rattle.session.specs.Lent.{Started, Wrapped, Unwrapped, result_of, lent_starts, lent_promises}
use Rattle.session.specs.contracts.start as start
use Rattle.session.specs.contracts.wrap as wrap
use Rattle.session.specs.contracts.unwrap as unwrap
use Rattle.session.specs.contracts.wrap_envelope as wrap-envelope
use Rattle.session.specs.contracts.unwrap_envelope as unwrap-envelope

-- in every model of the program logic
module _ {M : Type 1} {𝓤 : Ura M} (𝓛 : Logic 𝓤) (mem : Memory → SProp 𝓤) (run : Routine → Fun 𝓤) where
  pub start-asks : (κs : Lfts 2) (a : Args start.signature κs) → (start.clauses 𝓛 mem run κs a).requires tt ≡ (connectives 𝓤).⊤ₛ
  start-asks κs a = refl

  pub start-ensures : (κs : Lfts 2) (a : Args start.signature κs) (r : Res start.signature κs) (z : AtExit start.ended κs)
      → (start.clauses 𝓛 mem run κs a).ensures tt r z ≡ (connectives 𝓤).⌜◌⌝ (Started a.1.0.now r z.0.now)
  start-ensures κs a r z = refl

  pub wrap-asks : (κs : Lfts 5) (a : Args wrap.signature κs) → (wrap.clauses 𝓛 mem run κs a).requires tt ≡ (connectives 𝓤).⊤ₛ
  wrap-asks κs a = refl

  pub wrap-ensures : (κs : Lfts 5) (a : Args wrap.signature κs) (r : Res wrap.signature κs) (z : AtExit wrap.ended κs)
      → (wrap.clauses 𝓛 mem run κs a).ensures tt r z
      ≡ (connectives 𝓤).⌜◌⌝
      (Wrapped a.0.now (handed a.1.0.now a.1.1.0.now a.1.1.1.0.now a.1.1.1.1.0.now) r z.0.now
      z.1.1.1.0.now z.1.1.1.1.0.now)
  wrap-ensures κs a r z = refl

  pub unwrap-asks : (κs : Lfts 5) (a : Args unwrap.signature κs) → (unwrap.clauses 𝓛 mem run κs a).requires tt ≡ (connectives 𝓤).⊤ₛ
  unwrap-asks κs a = refl

  pub unwrap-ensures : (κs : Lfts 5) (a : Args unwrap.signature κs) (r : Res unwrap.signature κs) (z : AtExit unwrap.ended κs)
      → (unwrap.clauses 𝓛 mem run κs a).ensures tt r z
      ≡ (connectives 𝓤).⌜◌⌝
      (Unwrapped a.0.now (handed a.1.0.now a.1.1.0.now a.1.1.1.1.0.now a.1.1.1.0.now) r z.0.now
      z.1.1.1.1.0.now a.1.1.1.0.now)
  unwrap-ensures κs a r z = refl

  pub wrap-envelope-asks : (κs : Lfts 6) (a : Args wrap-envelope.signature κs)
      → (wrap-envelope.clauses 𝓛 mem run κs a).requires tt ≡ (connectives 𝓤).⊤ₛ
  wrap-envelope-asks κs a = refl

  pub unwrap-envelope-asks : (κs : Lfts 6) (a : Args unwrap-envelope.signature κs)
      → (unwrap-envelope.clauses 𝓛 mem run κs a).requires tt ≡ (connectives 𝓤).⊤ₛ
  unwrap-envelope-asks κs a = refl

  -- and that promise is the one of which the demands are proved
  pub start-promises : (κs : Lfts 2) (a : Args start.signature κs) (r : Res start.signature κs) (z : AtExit start.ended κs)
      → (start.clauses 𝓛 mem run κs a).ensures tt r z ≡ (connectives 𝓤).⌜◌⌝ (lent_starts a.1.0.now (result_of r z.0.now))
  start-promises κs a r z = refl

  pub wrap-promises : (κs : Lfts 5) (a : Args wrap.signature κs) (r : Res wrap.signature κs) (z : AtExit wrap.ended κs)
      → (wrap.clauses 𝓛 mem run κs a).ensures tt r z
      ≡ (connectives 𝓤).⌜◌⌝
      (lent_promises.wraps a.0.now (handed a.1.0.now a.1.1.0.now a.1.1.1.0.now a.1.1.1.1.0.now)
      (result_of r z.0.now) z.1.1.1.0.now z.1.1.1.1.0.now)
  wrap-promises κs a r z = refl

  pub unwrap-promises : (κs : Lfts 5) (a : Args unwrap.signature κs) (r : Res unwrap.signature κs) (z : AtExit unwrap.ended κs)
      → (unwrap.clauses 𝓛 mem run κs a).ensures tt r z
      ≡ (connectives 𝓤).⌜◌⌝
      (lent_promises.unwraps a.0.now (handed a.1.0.now a.1.1.0.now a.1.1.1.1.0.now a.1.1.1.0.now)
      (result_of r z.0.now) z.1.1.1.1.0.now a.1.1.1.0.now)
  unwrap-promises κs a r z = refl

  pub wrap-envelope-promises : (κs : Lfts 6) (a : Args wrap-envelope.signature κs) (r : Res wrap-envelope.signature κs) (z : AtExit wrap-envelope.ended κs)
      → (wrap-envelope.clauses 𝓛 mem run κs a).ensures tt r z
      ≡ (connectives 𝓤).⌜◌⌝
      (lent_promises.wraps a.0.now
      (handed_for a.1.0.now a.1.1.0.now a.1.1.1.0.now a.1.1.1.1.0.now a.1.1.1.1.1.0.now)
      (result_of r z.0.now) z.1.1.1.1.0.now z.1.1.1.1.1.0.now)
  wrap-envelope-promises κs a r z = refl

  pub unwrap-envelope-promises : (κs : Lfts 6) (a : Args unwrap-envelope.signature κs) (r : Res unwrap-envelope.signature κs)
      (z : AtExit unwrap-envelope.ended κs)
      → (unwrap-envelope.clauses 𝓛 mem run κs a).ensures tt r z
      ≡ (connectives 𝓤).⌜◌⌝
      (lent_promises.unwraps a.0.now
      (handed_for a.1.0.now a.1.1.0.now a.1.1.1.0.now a.1.1.1.1.1.0.now a.1.1.1.1.0.now)
      (result_of r z.0.now) z.1.1.1.1.1.0.now a.1.1.1.1.0.now)
  unwrap-envelope-promises κs a r z = refl

  -- ---- whether full blocks are taken four side by side alters no clause (document 02, request 10): of any call the clauses where they
  -- are, are those where they are not, all of them; and so is what the call promises
  -- a call with the last argument four
  abbrev pub wrap-by : (κs : Lfts 5) (a : Args wrap.signature κs) (four : Bool) → Args wrap.signature κs
  wrap-by κs a t = (a.0, (a.1.0, (a.1.1.0, (a.1.1.1.0, (a.1.1.1.1.0, (t, a.1.1.1.1.1.1))))))

  pub wrap-same : (κs : Lfts 5) (a : Args wrap.signature κs)
      → wrap.clauses 𝓛 mem run κs (wrap-by κs a true) ≡ wrap.clauses 𝓛 mem run κs (wrap-by κs a false)
  wrap-same κs a = refl

  -- a call with the last argument four
  abbrev pub unwrap-by : (κs : Lfts 5) (a : Args unwrap.signature κs) (four : Bool) → Args unwrap.signature κs
  unwrap-by κs a t = (a.0, (a.1.0, (a.1.1.0, (a.1.1.1.0, (a.1.1.1.1.0, (t, a.1.1.1.1.1.1))))))

  pub unwrap-same : (κs : Lfts 5) (a : Args unwrap.signature κs)
      → unwrap.clauses 𝓛 mem run κs (unwrap-by κs a true) ≡ unwrap.clauses 𝓛 mem run κs (unwrap-by κs a false)
  unwrap-same κs a = refl

  -- a call with the last argument four
  abbrev pub wrap-envelope-by : (κs : Lfts 6) (a : Args wrap-envelope.signature κs) (four : Bool) → Args wrap-envelope.signature κs
  wrap-envelope-by κs a t = (a.0, (a.1.0, (a.1.1.0, (a.1.1.1.0, (a.1.1.1.1.0, (a.1.1.1.1.1.0, (t, a.1.1.1.1.1.1.1)))))))

  pub wrap-envelope-same : (κs : Lfts 6) (a : Args wrap-envelope.signature κs)
      → wrap-envelope.clauses 𝓛 mem run κs (wrap-envelope-by κs a true) ≡ wrap-envelope.clauses 𝓛 mem run κs (wrap-envelope-by κs a false)
  wrap-envelope-same κs a = refl

  -- a call with the last argument four
  abbrev pub unwrap-envelope-by : (κs : Lfts 6) (a : Args unwrap-envelope.signature κs) (four : Bool) → Args unwrap-envelope.signature κs
  unwrap-envelope-by κs a t = (a.0, (a.1.0, (a.1.1.0, (a.1.1.1.0, (a.1.1.1.1.0, (a.1.1.1.1.1.0, (t, a.1.1.1.1.1.1.1)))))))

  pub unwrap-envelope-same : (κs : Lfts 6) (a : Args unwrap-envelope.signature κs)
      → unwrap-envelope.clauses 𝓛 mem run κs (unwrap-envelope-by κs a true) ≡ unwrap-envelope.clauses 𝓛 mem run κs (unwrap-envelope-by κs a false)
  unwrap-envelope-same κs a = refl

  pub wrap-four-promises : (κs : Lfts 5) (a : Args wrap.signature κs) (r : Res wrap.signature κs) (z : AtExit wrap.ended κs)
      → (wrap.clauses 𝓛 mem run κs (wrap-by κs a true)).ensures tt r z
      ≡ (connectives 𝓤).⌜◌⌝
      (lent_promises.wraps a.0.now (handed a.1.0.now a.1.1.0.now a.1.1.1.0.now a.1.1.1.1.0.now)
      (result_of r z.0.now) z.1.1.1.0.now z.1.1.1.1.0.now)
  wrap-four-promises κs a r z = refl

  pub unwrap-four-promises : (κs : Lfts 5) (a : Args unwrap.signature κs) (r : Res unwrap.signature κs) (z : AtExit unwrap.ended κs)
      → (unwrap.clauses 𝓛 mem run κs (unwrap-by κs a true)).ensures tt r z
      ≡ (connectives 𝓤).⌜◌⌝
      (lent_promises.unwraps a.0.now (handed a.1.0.now a.1.1.0.now a.1.1.1.1.0.now a.1.1.1.0.now)
      (result_of r z.0.now) z.1.1.1.1.0.now a.1.1.1.0.now)
  unwrap-four-promises κs a r z = refl

  pub wrap-envelope-four-promises : (κs : Lfts 6) (a : Args wrap-envelope.signature κs) (r : Res wrap-envelope.signature κs)
      (z : AtExit wrap-envelope.ended κs)
      → (wrap-envelope.clauses 𝓛 mem run κs (wrap-envelope-by κs a true)).ensures tt r z
      ≡ (connectives 𝓤).⌜◌⌝
      (lent_promises.wraps a.0.now
      (handed_for a.1.0.now a.1.1.0.now a.1.1.1.0.now a.1.1.1.1.0.now a.1.1.1.1.1.0.now)
      (result_of r z.0.now) z.1.1.1.1.0.now z.1.1.1.1.1.0.now)
  wrap-envelope-four-promises κs a r z = refl

  pub unwrap-envelope-four-promises : (κs : Lfts 6) (a : Args unwrap-envelope.signature κs) (r : Res unwrap-envelope.signature κs)
      (z : AtExit unwrap-envelope.ended κs)
      → (unwrap-envelope.clauses 𝓛 mem run κs (unwrap-envelope-by κs a true)).ensures tt r z
      ≡ (connectives 𝓤).⌜◌⌝
      (lent_promises.unwraps a.0.now
      (handed_for a.1.0.now a.1.1.0.now a.1.1.1.0.now a.1.1.1.1.1.0.now a.1.1.1.1.0.now)
      (result_of r z.0.now) z.1.1.1.1.1.0.now a.1.1.1.1.0.now)
  unwrap-envelope-four-promises κs a r z = refl
