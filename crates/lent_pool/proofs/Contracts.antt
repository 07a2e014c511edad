-- The clauses of the functions over a lent pool: each is just its promise, and asks nothing of a call, whatever the pool. Assumes nothing.
use mathlib.Core.Path.{◌≡◌, refl}
use seplogic.Ra.Ura.{Ura}
use base.Logic.{SProp}
use prog.Memory.{Memory}
use prog.Routine.{Routine}
use types.Logic.{Logic}
use contract.Lifetimes.{Lfts}
use contract.Monad.{Fun}
use contract.Notation.{connectives}
use denote.Triple.Clauses.{AtExit}
use denote.Triple.Entry.{Args, Res}
use Rattle.refusals.specs.Numbers.{number_given}
use Rattle.runs.specs.Runs.{a_run, any_meets, rings_of}
use Rattle.pool.specs.Pool.{runs_of}
use Rattle.pool_lines.specs.Lines.{add_line}
use Rattle.lent_pool.specs.Lent.{added_result, Adds}
use Rattle.lent_pool.specs.contracts.add_line as add
use Rattle.lent_pool.specs.contracts.holds as holds
use Rattle.lent_pool.specs.contracts.rings as rings

-- in every model of the program logic
module _ {M : Type 1} {𝓤 : Ura M} (𝓛 : Logic 𝓤) (mem : Memory → SProp 𝓤) (run : Routine → Fun 𝓤) where
  pub add-asks : (κs : Lfts 2) (a : Args add.signature κs) → (add.clauses 𝓛 mem run κs a).requires tt ≡ (connectives 𝓤).⊤ₛ
  add-asks κs a = refl

  pub add-ensures : (κs : Lfts 2) (a : Args add.signature κs) (r : Res add.signature κs) (z : AtExit add.ended κs)
      → (add.clauses 𝓛 mem run κs a).ensures tt r z ≡ (connectives 𝓤).⌜◌⌝ (added_result (number_given r) z.0.now ≡ add_line a.0.now a.1.0.now)
  add-ensures κs a r z = refl

  -- and that is the promise of which lists of calls are made
  pub add-promises : (κs : Lfts 2) (a : Args add.signature κs) (r : Res add.signature κs) (z : AtExit add.ended κs)
      → (add.clauses 𝓛 mem run κs a).ensures tt r z ≡ (connectives 𝓤).⌜◌⌝ (Adds a.0.now a.1.0.now (number_given r) z.0.now)
  add-promises κs a r z = refl

  pub holds-asks : (κs : Lfts 1) (a : Args holds.signature κs) → (holds.clauses 𝓛 mem run κs a).requires tt ≡ (connectives 𝓤).⊤ₛ
  holds-asks κs a = refl

  pub holds-ensures : (κs : Lfts 1) (a : Args holds.signature κs) (r : Res holds.signature κs) (z : AtExit holds.ended κs)
      → (holds.clauses 𝓛 mem run κs a).ensures tt r z
      ≡ (connectives 𝓤).⌜◌⌝ (r ≡ any_meets (a_run a.1.0 a.1.1.0 a.1.1.0) (runs_of a.0.now))
  holds-ensures κs a r z = refl

  pub rings-asks : (κs : Lfts 1) (a : Args rings.signature κs) → (rings.clauses 𝓛 mem run κs a).requires tt ≡ (connectives 𝓤).⊤ₛ
  rings-asks κs a = refl

  pub rings-ensures : (κs : Lfts 1) (a : Args rings.signature κs) (r : Res rings.signature κs) (z : AtExit rings.ended κs)
      → (rings.clauses 𝓛 mem run κs a).ensures tt r z ≡ (connectives 𝓤).⌜◌⌝ (r ≡ rings_of (runs_of a.0.now))
  rings-ensures κs a r z = refl
