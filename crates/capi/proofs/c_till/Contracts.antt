-- The clauses of the exported function for charging: it has just the promise of the function that it hands its arguments on to, and asks nothing of a
-- call, whatever the till and the price list. Assumes nothing.
use mathlib.Core.Path.{◌≡◌, refl}
use seplogic.Ra.Ura.{Ura}
use base.Logic.{SProp}
use prog.Memory.{Memory}
use prog.Routine.{Routine}
use types.Logic.{Logic}
use contract.Lifetimes.{Lfts}
use contract.Monad.{Fun}
use contract.Notation.{connectives}
use denote.Triple.Clauses.{AtExit}
use denote.Triple.Entry.{Args, Res}
use Rattle.charges.specs.Charges.{price_line}
use Rattle.capi.specs.contracts.c_till.pevghazo_price as price

-- in every model of the program logic
module _ {M : Type 1} {𝓤 : Ura M} (𝓛 : Logic 𝓤) (mem : Memory → SProp 𝓤) (run : Routine → Fun 𝓤) where
  pub price-asks : (κs : Lfts 1) (a : Args price.signature κs) → (price.clauses 𝓛 mem run κs a).requires tt ≡ (connectives 𝓤).⊤ₛ
  price-asks κs a = refl

  pub price-ensures : (κs : Lfts 1) (a : Args price.signature κs) (r : Res price.signature κs) (z : AtExit price.ended κs)
      → (price.clauses 𝓛 mem run κs a).ensures tt r z ≡ (connectives 𝓤).⌜◌⌝ (r ≡ price_line a.1.0 a.0 a.1.1.0.now)
  price-ensures κs a r z = refl
