-- The clauses of the exported functions over envelopes: each is just the promise of the function that it hands its arguments
-- on to, and asks nothing of a call. Assumes nothing.
use mathlib.Core.Path.{◌≡◌, refl}
use seplogic.Ra.Ura.{Ura}
use base.Logic.{SProp}
use prog.Memory.{Memory}
use prog.Routine.{Routine}
use types.Logic.{Logic}
use contract.Lifetimes.{Lfts}
use contract.Monad.{Fun}
use contract.Notation.{connectives}
use denote.Triple.Clauses.{AtExit}
use denote.Triple.Entry.{Args, Res}
use Rattle.envelope.specs.Read.{read_parts, read_answer}
use Rattle.envelope_write.specs.Write.{write_answer, write_buffer, header_answer, header_buffer}
use Rattle.capi.specs.contracts.c_envelope.pevghazo_read_envelope as read-envelope
use Rattle.capi.specs.contracts.c_envelope.pevghazo_write_envelope as write-envelope
use Rattle.capi.specs.contracts.c_envelope.pevghazo_write_header as write-header

-- in every model of the program logic
module _ {M : Type 1} {𝓤 : Ura M} (𝓛 : Logic 𝓤) (mem : Memory → SProp 𝓤) (run : Routine → Fun 𝓤) where
  pub read-envelope-asks : (κs : Lfts 1) (a : Args read-envelope.signature κs) → (read-envelope.clauses 𝓛 mem run κs a).requires tt ≡ (connectives 𝓤).⊤ₛ
  read-envelope-asks κs a = refl

  pub read-envelope-ensures : (κs : Lfts 1) (a : Args read-envelope.signature κs) (r : Res read-envelope.signature κs) (z : AtExit read-envelope.ended κs)
      → (read-envelope.clauses 𝓛 mem run κs a).ensures tt r z ≡ (connectives 𝓤).⌜◌⌝ (r ≡ read_answer (read_parts a.0.now))
  read-envelope-ensures κs a r z = refl

  pub write-envelope-asks : (κs : Lfts 4) (a : Args write-envelope.signature κs) → (write-envelope.clauses 𝓛 mem run κs a).requires tt ≡ (connectives 𝓤).⊤ₛ
  write-envelope-asks κs a = refl

  pub write-envelope-ensures : (κs : Lfts 4) (a : Args write-envelope.signature κs) (r : Res write-envelope.signature κs) (z : AtExit write-envelope.ended κs)
      → (write-envelope.clauses 𝓛 mem run κs a).ensures tt r z
      ≡ (connectives 𝓤).⌜◌⌝
      ((r ≡ write_answer a.0 a.1.0 a.1.1.0.now a.1.1.1.0.now a.1.1.1.1.0.now a.1.1.1.1.1.0.now)
      × (z.1.1.1.1.1.0.now ≡ write_buffer a.0 a.1.0 a.1.1.0.now a.1.1.1.0.now a.1.1.1.1.0.now a.1.1.1.1.1.0.now))
  write-envelope-ensures κs a r z = refl

  pub write-header-asks : (κs : Lfts 1) (a : Args write-header.signature κs) → (write-header.clauses 𝓛 mem run κs a).requires tt ≡ (connectives 𝓤).⊤ₛ
  write-header-asks κs a = refl

  pub write-header-ensures : (κs : Lfts 1) (a : Args write-header.signature κs) (r : Res write-header.signature κs) (z : AtExit write-header.ended κs)
      → (write-header.clauses 𝓛 mem run κs a).ensures tt r z
      ≡ (connectives 𝓤).⌜◌⌝
      ((r ≡ header_answer a.0 a.1.0 a.1.1.0 a.1.1.1.0 a.1.1.1.1.0.now)
      × (z.1.1.1.1.0.now ≡ header_buffer a.0 a.1.0 a.1.1.0 a.1.1.1.0 a.1.1.1.1.0.now))
  write-header-ensures κs a r z = refl
