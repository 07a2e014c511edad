-- `compress_four` ensures what `xoofff::compress` ensures, word for word, of the same arguments; and what it asks: that the index afterwards fits into
-- 32 bits, whatever the string's length. Assumes nothing.
use mathlib.Core.List.{List}
use mathlib.Core.Path.{◌≡◌, refl}
use Prim.Native.Nat.{ℕ, ◌+◌, ◌≤◌}
use native.Mathlib.Omega.{arith}
use lib.ListN.{length}
use seplogic.Ra.Ura.{Ura}
use base.Logic.{SProp}
use prog.Memory.{Memory}
use prog.Routine.{Routine}
use types.Logic.{Logic}
use contract.Lifetimes.{Lfts}
use contract.Monad.{Fun}
use contract.Notation.{connectives}
use denote.Triple.Clauses.{AtExit}
use denote.Triple.Entry.{Args, Res}
use Rattle.deck.specs.declared.DeckState.{DeckState}
use Rattle.deck.specs.Strings.{b}
use Rattle.deck.specs.Closing.{closed_by}
use Rattle.xoofff.specs.Leaves.{compressed}
use Rattle.xoofff.specs.contracts.compress as compress
use Rattle.compress4.proofs.Compress.{compressed-index}
use Rattle.compress4.specs.contracts.compress_four as compress-four

-- in every model of the program logic
module _ {M : Type 1} {𝓤 : Ura M} (𝓛 : Logic 𝓤) (mem : Memory → SProp 𝓤) (run : Routine → Fun 𝓤) where
  pub same-ensures : (κs : Lfts 1) (a : Args compress.signature κs) (r : Res compress.signature κs) (z : AtExit compress.ended κs)
      → (compress-four.clauses 𝓛 mem run κs a).ensures tt r z ≡ (compress.clauses 𝓛 mem run κs a).ensures tt r z
  same-ensures κs a r z = refl

  pub four-asks : (κs : Lfts 1) (a : Args compress.signature κs)
      → (compress-four.clauses 𝓛 mem run κs a).requires tt
      ≡ (connectives 𝓤).⌜◌⌝ (a.0.index + b (length a.1.0.now) + 1 ≤ 4294967295)
  four-asks κs a = refl

-- so it is for every string and every index for which the index afterwards is within the limit of document 01
pub within-limit : (d : DeckState) (s : List ℕ) (c : ℕ) → (compressed d (closed_by s c)).state.index ≤ 1048576
    → d.index + b (length s) + 1 ≤ 4294967295
within-limit d s c h = omega (arith, compressed-index d s c refl)
