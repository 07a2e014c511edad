-- What the functions promise, by value and over a lent record: the clauses of each are just one equation with the definition, and it asks nothing of
-- a call; and the promise by the function's own `ensures`, as the lists of calls and codes have it. Assumes nothing.
use mathlib.Core.List.{List, []}
use mathlib.Core.Logic.{◌↔◌}
use mathlib.Core.Path.{◌≡◌, refl, sym, ◌∙◌}
use Prim.Native.Nat.{ℕ}
use seplogic.Ra.Ura.{Ura}
use base.Logic.{SProp}
use prog.Memory.{Memory}
use prog.Routine.{Routine}
use types.Logic.{Logic}
use contract.Lifetimes.{Lfts}
use contract.Monad.{Fun}
use contract.Notation.{connectives}
use denote.MutBor.{MutBor}
use denote.Triple.Clauses.{AtExit}
use denote.Triple.Entry.{Args, Res}
use borrow.Fn.Kinds.{Dens, ended_of}
use Rattle.modes.specs.Mode.{incremental}
use Rattle.modes.specs.Codes.{CodeOutcome, code_at}
use Rattle.modes.specs.CodeLists.{Codes}
use Rattle.sanse.specs.declared.Session.{Session}
use Rattle.sanse.specs.Session.{state_of, sanse_kind}
use Rattle.steps.specs.declared.Answer.{Answer}
use Rattle.codes.specs.Code.{code_result, Coded, lent_codes}
use Rattle.codes.specs.contracts.code_of as by_value
use Rattle.codes.specs.contracts.code as lent
use Rattle.codes.proofs.code_of.Reads.{Post}
use Rattle.codes.proofs.code_of.Kinds.{ps, r as result}

-- ---- the clauses, in every model of the program logic

module _ {M : Type 1} {𝓤 : Ura M} (𝓛 : Logic 𝓤) (mem : Memory → SProp 𝓤) (run : Routine → Fun 𝓤) where
  pub by-value-asks : (κs : Lfts 1) (a : Args by_value.signature κs) → (by_value.clauses 𝓛 mem run κs a).requires tt ≡ (connectives 𝓤).⊤ₛ
  by-value-asks κs a = refl

  pub by-value-ensures : (κs : Lfts 1) (a : Args by_value.signature κs) (r : Res by_value.signature κs) (z : AtExit by_value.ended κs)
      → (by_value.clauses 𝓛 mem run κs a).ensures tt r z
      ≡ (connectives 𝓤).⌜◌⌝ (code_result r z.1.1.0.now ≡ code_at incremental (state_of a.0) a.1.0 a.1.1.0.now)
  by-value-ensures κs a r z = refl

  -- and that equation is the post of which the promise below speaks
  pub by-value-post : (κs : Lfts 1) (a : Args by_value.signature κs) (r : Res by_value.signature κs) (z : AtExit by_value.ended κs)
      → (by_value.clauses 𝓛 mem run κs a).ensures tt r z ≡ (connectives 𝓤).⌜◌⌝ (Post κs a r z)
  by-value-post κs a r z = refl

  pub lent-asks : (κs : Lfts 2) (a : Args lent.signature κs) → (lent.clauses 𝓛 mem run κs a).requires tt ≡ (connectives 𝓤).⊤ₛ
  lent-asks κs a = refl

  pub lent-ensures : (κs : Lfts 2) (a : Args lent.signature κs) (r : Res lent.signature κs) (z : AtExit lent.ended κs)
      → (lent.clauses 𝓛 mem run κs a).ensures tt r z
      ≡ (connectives 𝓤).⌜◌⌝ (Coded a.0.now a.1.0 a.1.1.0.now r z.1.1.0.now)
  lent-ensures κs a r z = refl

  -- and that promise is the one of which the theorems are proved
  pub lent-promises : (κs : Lfts 2) (a : Args lent.signature κs) (r : Res lent.signature κs) (z : AtExit lent.ended κs)
      → (lent.clauses 𝓛 mem run κs a).ensures tt r z
      ≡ (connectives 𝓤).⌜◌⌝ (lent_codes a.0.now a.1.0 a.1.1.0.now (code_result r z.1.1.0.now))
  lent-promises κs a r z = refl

-- ---- the promise by value: a call with some arguments, of which the function's `ensures` holds

-- asked of the record s, of a packet and with the buffer out, it gave g
pub record CodePromise (s : Session) (packet : ℕ) (out : List ℕ) (g : CodeOutcome) : Type 0 where
  pub κs : Lfts 1
  pub args : Dens κs ps
  pub exits : AtExit (ended_of 1 ps result) κs
  pub answer : Answer
  pub is_record : args.0 ≡ s
  pub is_packet : args.1.0 ≡ packet
  pub is_out : args.1.1.0.now ≡ out
  pub gave : code_result answer exits.1.1.0.now ≡ g
  pub met : Post κs args answer exits

-- every call of which the function's `ensures` holds keeps its promise: nothing else is asked of it
pub code-kept : (κs : Lfts 1) (args : Dens κs ps) (exits : AtExit (ended_of 1 ps result) κs) (r : Answer) → Post κs args r exits
    → CodePromise args.0 args.1.0 args.1.1.0.now (code_result r exits.1.1.0.now)
code-kept κs args exits r h =
    record { κs = κs; args = args; exits = exits; answer = r; is_record = refl; is_packet = refl; is_out = refl; gave = refl; met = h }

-- some reference to these bytes
abbrev to : List ℕ → MutBor (List ℕ)
to x = record { ref_ptr = (0, 0); ghost_name = 0; now = x }

-- what it says: just the equation with the definition
pub code_is : (s : Session) (packet : ℕ) (out : List ℕ) (g : CodeOutcome)
    → CodePromise s packet out g ↔ (g ≡ code_at incremental (state_of s) packet out)
code_is s packet out g = (
  λ p. sym p.gave ∙ p.met ∙ (λ j. code_at incremental (state_of (p.is_record j)) (p.is_packet j) (p.is_out j)),
  λ e.
      code-kept ([], tt) (s, (packet, (to out, tt))) (s, (packet, (to g.out, tt))) (record { number = g.number; count = g.count }) e,
)

-- the promise, of the kind of record that SANSE's sessions are
abbrev pub codes : Codes sanse_kind
codes = CodePromise
