-- The clauses of `expand_four` are those of `xoofff::expand`, all of them. Assumes nothing.
use mathlib.Core.Path.{◌≡◌, refl}
use seplogic.Ra.Ura.{Ura}
use base.Logic.{SProp}
use prog.Memory.{Memory}
use prog.Routine.{Routine}
use types.Logic.{Logic}
use contract.Monad.{Fun}
use Rattle.xoofff.specs.contracts.expand as expand
use Rattle.expand4.specs.contracts.expand_four as expand-four

-- in every model of the program logic
module _ {M : Type 1} {𝓤 : Ura M} (𝓛 : Logic 𝓤) (mem : Memory → SProp 𝓤) (run : Routine → Fun 𝓤) where
  pub same-clauses : expand-four.clauses 𝓛 mem run ≡ expand.clauses 𝓛 mem run
  same-clauses = refl
