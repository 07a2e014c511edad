-- The clauses of the exported function for codes: just the promise of the function that it hands its arguments on to, and it asks nothing of a
-- call. Assumes nothing.
use mathlib.Core.Path.{◌≡◌, refl}
use seplogic.Ra.Ura.{Ura}
use base.Logic.{SProp}
use prog.Memory.{Memory}
use prog.Routine.{Routine}
use types.Logic.{Logic}
use contract.Lifetimes.{Lfts}
use contract.Monad.{Fun}
use contract.Notation.{connectives}
use denote.Triple.Clauses.{AtExit}
use denote.Triple.Entry.{Args, Res}
use Rattle.codes.specs.Code.{Coded}
use Rattle.capi.specs.contracts.c_codes.pevghazo_code as code

-- in every model of the program logic
module _ {M : Type 1} {𝓤 : Ura M} (𝓛 : Logic 𝓤) (mem : Memory → SProp 𝓤) (run : Routine → Fun 𝓤) where
  pub code-asks : (κs : Lfts 2) (a : Args code.signature κs) → (code.clauses 𝓛 mem run κs a).requires tt ≡ (connectives 𝓤).⊤ₛ
  code-asks κs a = refl

  pub code-ensures : (κs : Lfts 2) (a : Args code.signature κs) (r : Res code.signature κs) (z : AtExit code.ended κs)
      → (code.clauses 𝓛 mem run κs a).ensures tt r z
      ≡ (connectives 𝓤).⌜◌⌝ (Coded a.0.now a.1.0 a.1.1.0.now r z.1.1.0.now)
  code-ensures κs a r z = refl
