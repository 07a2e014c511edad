-- The clauses of the functions over lent records: each is just its promise, and asks nothing of a call, whatever the pool and the windows. Assumes
-- nothing.
use mathlib.Core.Path.{◌≡◌, refl}
use seplogic.Ra.Ura.{Ura}
use base.Logic.{SProp}
use prog.Memory.{Memory}
use prog.Routine.{Routine}
use types.Logic.{Logic}
use contract.Lifetimes.{Lfts}
use contract.Monad.{Fun}
use contract.Notation.{connectives}
use denote.Triple.Clauses.{AtExit}
use denote.Triple.Entry.{Args, Res}
use Rattle.refusals.specs.Numbers.{number_given}
use Rattle.lent_pool.specs.Lent.{added_result}
use Rattle.seasons.specs.FirstDay.{first_of}
use Rattle.season_lines.specs.Lines.{add_in_season}
use Rattle.season_lines.specs.FirstDay.{LineFirst}
use Rattle.lent_season.specs.Lent.{Adds}
use Rattle.lent_season.specs.contracts.add_line as add
use Rattle.lent_season.specs.contracts.first_day as first

-- in every model of the program logic
module _ {M : Type 1} {𝓤 : Ura M} (𝓛 : Logic 𝓤) (mem : Memory → SProp 𝓤) (run : Routine → Fun 𝓤) where
  pub add-asks : (κs : Lfts 3) (a : Args add.signature κs) → (add.clauses 𝓛 mem run κs a).requires tt ≡ (connectives 𝓤).⊤ₛ
  add-asks κs a = refl

  pub add-ensures : (κs : Lfts 3) (a : Args add.signature κs) (r : Res add.signature κs) (z : AtExit add.ended κs)
      → (add.clauses 𝓛 mem run κs a).ensures tt r z
      ≡ (connectives 𝓤).⌜◌⌝ (added_result (number_given r) z.0.now ≡ add_in_season a.1.0.now a.0.now a.1.1.0.now)
  add-ensures κs a r z = refl

  -- and that is the promise of which lists of calls are made
  pub add-promises : (κs : Lfts 3) (a : Args add.signature κs) (r : Res add.signature κs) (z : AtExit add.ended κs)
      → (add.clauses 𝓛 mem run κs a).ensures tt r z
      ≡ (connectives 𝓤).⌜◌⌝ (Adds a.1.0.now a.0.now a.1.1.0.now (number_given r) z.0.now)
  add-promises κs a r z = refl

  pub first-asks : (κs : Lfts 2) (a : Args first.signature κs) → (first.clauses 𝓛 mem run κs a).requires tt ≡ (connectives 𝓤).⊤ₛ
  first-asks κs a = refl

  pub first-ensures : (κs : Lfts 2) (a : Args first.signature κs) (r : Res first.signature κs) (z : AtExit first.ended κs)
      → (first.clauses 𝓛 mem run κs a).ensures tt r z ≡ (connectives 𝓤).⌜◌⌝ (LineFirst a.0.now a.1.0.now (first_of r))
  first-ensures κs a r z = refl
