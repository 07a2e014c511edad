-- What the program's functions promise: for each of the three, its clauses are just one equation with the rules, and it asks nothing of a call; and the
-- promises by the functions' own `ensures`, as the mode's `Promises` has them. Assumes nothing.
use mathlib.Core.List.{List, []}
use mathlib.Core.Logic.{◌↔◌}
use mathlib.Core.Path.{◌≡◌, refl, sym, ap, ◌∙◌, subst}
use Prim.Native.Nat.{ℕ}
use seplogic.Ra.Ura.{Ura}
use base.Logic.{SProp}
use prog.Memory.{Memory}
use prog.Routine.{Routine}
use types.Logic.{Logic}
use contract.Lifetimes.{Lfts}
use contract.Monad.{Fun}
use contract.Notation.{connectives}
use denote.Ref.{Bor, MutBor}
use denote.Triple.Clauses.{AtExit}
use denote.Triple.Entry.{Args, Res}
use borrow.Fn.Kinds.{Dens, ended_of}
use Rattle.deck.specs.declared.DeckState.{DeckState}
use Rattle.modes.specs.Mode.{incremental}
use Rattle.modes.specs.Rules.{Outcome, nonce_start_at}
use Rattle.modes.proofs.AnySession.{any-unwrap}
use Rattle.sae_mode.specs.Sae.{sae, sae_parameters, Handed, input_of, sae_wrap_at, sae_unwrap_at}
use Rattle.sae_mode.specs.Promises.{SaePromises}
use Rattle.sae.specs.declared.SaeSession.{SaeSession}
use Rattle.steps.specs.declared.CallResult.{CallResult}
use Rattle.sae.specs.Session.{state_of, nonce_result, call_result, handed, sae_kind}
use Rattle.sae.specs.contracts.start as start
use Rattle.sae.specs.contracts.wrap as wrap
use Rattle.sae.specs.contracts.unwrap as unwrap
use Rattle.sae.proofs.start.Reads.{Post as StartPost}
use Rattle.sae.proofs.start.Kinds.{ps as start-ps, r as start-r}
use Rattle.sae.proofs.wrap.Reads.{Post as WrapPost}
use Rattle.sae.proofs.wrap.Kinds.{ps as wrap-ps, r as wrap-r}
use Rattle.sae.proofs.unwrap.Reads.{Post as UnwrapPost}
use Rattle.sae.proofs.unwrap.Kinds.{ps as unwrap-ps, r as unwrap-r}

-- ---- the clauses, in every model of the program logic

module _ {M : Type 1} {𝓤 : Ura M} (𝓛 : Logic 𝓤) (mem : Memory → SProp 𝓤) (run : Routine → Fun 𝓤) where
  pub start-asks : (κs : Lfts 3) (a : Args start.signature κs) → (start.clauses 𝓛 mem run κs a).requires tt ≡ (connectives 𝓤).⊤ₛ
  start-asks κs a = refl

  pub start-ensures : (κs : Lfts 3) (a : Args start.signature κs) (r : Res start.signature κs) (z : AtExit start.ended κs)
      → (start.clauses 𝓛 mem run κs a).ensures tt r z
      ≡ (connectives 𝓤).⌜◌⌝
      (nonce_result r z.1.1.0.now ≡ nonce_start_at sae_parameters a.0.now a.1.0.now a.1.1.0.now)
  start-ensures κs a r z = refl

  pub wrap-asks : (κs : Lfts 4) (a : Args wrap.signature κs) → (wrap.clauses 𝓛 mem run κs a).requires tt ≡ (connectives 𝓤).⊤ₛ
  wrap-asks κs a = refl

  pub wrap-ensures : (κs : Lfts 4) (a : Args wrap.signature κs) (r : Res wrap.signature κs) (z : AtExit wrap.ended κs)
      → (wrap.clauses 𝓛 mem run κs a).ensures tt r z
      ≡ (connectives 𝓤).⌜◌⌝
      (call_result r z.1.1.1.0.now z.1.1.1.1.0.now
      ≡ sae_wrap_at (state_of a.0) (handed a.1.0.now a.1.1.0.now a.1.1.1.0.now a.1.1.1.1.0.now))
  wrap-ensures κs a r z = refl

  pub unwrap-asks : (κs : Lfts 4) (a : Args unwrap.signature κs) → (unwrap.clauses 𝓛 mem run κs a).requires tt ≡ (connectives 𝓤).⊤ₛ
  unwrap-asks κs a = refl

  pub unwrap-ensures : (κs : Lfts 4) (a : Args unwrap.signature κs) (r : Res unwrap.signature κs) (z : AtExit unwrap.ended κs)
      → (unwrap.clauses 𝓛 mem run κs a).ensures tt r z
      ≡ (connectives 𝓤).⌜◌⌝
      (call_result r z.1.1.1.1.0.now a.1.1.1.0.now
      ≡ sae_unwrap_at incremental (state_of a.0) (handed a.1.0.now a.1.1.0.now a.1.1.1.1.0.now a.1.1.1.0.now))
  unwrap-ensures κs a r z = refl

  -- and that equation is the post of which the promises below speak
  pub start-post : (κs : Lfts 3) (a : Args start.signature κs) (r : Res start.signature κs) (z : AtExit start.ended κs)
      → (start.clauses 𝓛 mem run κs a).ensures tt r z ≡ (connectives 𝓤).⌜◌⌝ (StartPost κs a r z)
  start-post κs a r z = refl

  pub wrap-post : (κs : Lfts 4) (a : Args wrap.signature κs) (r : Res wrap.signature κs) (z : AtExit wrap.ended κs)
      → (wrap.clauses 𝓛 mem run κs a).ensures tt r z ≡ (connectives 𝓤).⌜◌⌝ (WrapPost κs a r z)
  wrap-post κs a r z = refl

  pub unwrap-post : (κs : Lfts 4) (a : Args unwrap.signature κs) (r : Res unwrap.signature κs) (z : AtExit unwrap.ended κs)
      → (unwrap.clauses 𝓛 mem run κs a).ensures tt r z ≡ (connectives 𝓤).⌜◌⌝ (UnwrapPost κs a r z)
  unwrap-post κs a r z = refl

-- ---- the promises: a call with some arguments, of which the function's `ensures` holds

-- a start that was handed key, nonce and tag buffer gave r, and left the tag buffer
pub record StartPromise (key nonce tag : List ℕ) (r : CallResult SaeSession) (tag' : List ℕ) : Type 0 where
  pub κs : Lfts 3
  pub args : Dens κs start-ps
  pub exits : AtExit (ended_of 3 start-ps start-r) κs
  pub is_key : args.0.now ≡ key
  pub is_nonce : args.1.0.now ≡ nonce
  pub is_tag : args.1.1.0.now ≡ tag
  pub is_left : exits.1.1.0.now ≡ tag'
  pub met : StartPost κs args r exits

-- a wrap that was handed the record s and i gave r, and left the output buffer and the tag
pub record WrapPromise (s : SaeSession) (i : Handed) (r : CallResult SaeSession) (out tag : List ℕ) : Type 0 where
  pub κs : Lfts 4
  pub args : Dens κs wrap-ps
  pub exits : AtExit (ended_of 4 wrap-ps wrap-r) κs
  pub is_record : args.0 ≡ s
  pub is_input : handed args.1.0.now args.1.1.0.now args.1.1.1.0.now args.1.1.1.1.0.now ≡ i
  pub is_out : exits.1.1.1.0.now ≡ out
  pub is_tag : exits.1.1.1.1.0.now ≡ tag
  pub met : WrapPost κs args r exits

-- and so of an unwrap, whose tag is a shared slice: no call alters it
pub record UnwrapPromise (s : SaeSession) (i : Handed) (r : CallResult SaeSession) (out tag : List ℕ) : Type 0 where
  pub κs : Lfts 4
  pub args : Dens κs unwrap-ps
  pub exits : AtExit (ended_of 4 unwrap-ps unwrap-r) κs
  pub is_record : args.0 ≡ s
  pub is_input : handed args.1.0.now args.1.1.0.now args.1.1.1.1.0.now args.1.1.1.0.now ≡ i
  pub is_out : exits.1.1.1.1.0.now ≡ out
  pub is_tag : args.1.1.1.0.now ≡ tag
  pub met : UnwrapPost κs args r exits

-- ---- every call of which the function's `ensures` holds keeps its promise: nothing else is asked of it

pub start-kept : (κs : Lfts 3) (args : Dens κs start-ps) (exits : AtExit (ended_of 3 start-ps start-r) κs) (r : CallResult SaeSession)
    → StartPost κs args r exits → StartPromise args.0.now args.1.0.now args.1.1.0.now r exits.1.1.0.now
start-kept κs args exits r h =
    record { κs = κs; args = args; exits = exits; is_key = refl; is_nonce = refl; is_tag = refl; is_left = refl; met = h }

pub wrap-kept : (κs : Lfts 4) (args : Dens κs wrap-ps) (exits : AtExit (ended_of 4 wrap-ps wrap-r) κs) (r : CallResult SaeSession)
    → WrapPost κs args r exits
    → WrapPromise args.0 (handed args.1.0.now args.1.1.0.now args.1.1.1.0.now args.1.1.1.1.0.now) r
    exits.1.1.1.0.now exits.1.1.1.1.0.now
wrap-kept κs args exits r h =
    record { κs = κs; args = args; exits = exits; is_record = refl; is_input = refl; is_out = refl; is_tag = refl; met = h }

pub unwrap-kept : (κs : Lfts 4) (args : Dens κs unwrap-ps) (exits : AtExit (ended_of 4 unwrap-ps unwrap-r) κs) (r : CallResult SaeSession)
    → UnwrapPost κs args r exits
    → UnwrapPromise args.0 (handed args.1.0.now args.1.1.0.now args.1.1.1.1.0.now args.1.1.1.0.now) r
    exits.1.1.1.1.0.now args.1.1.1.0.now
unwrap-kept κs args exits r h =
    record { κs = κs; args = args; exits = exits; is_record = refl; is_input = refl; is_out = refl; is_tag = refl; met = h }

-- the promises of wrap and unwrap
abbrev pub promises : SaePromises sae_kind
promises = record { wraps = WrapPromise; unwraps = UnwrapPromise }

-- some reference to these bytes, and some lifetimes, one for each slice that wrap or unwrap is handed
abbrev to : List ℕ → Bor (List ℕ)
to x = record { ref_ptr = (0, 0); now = x }

abbrev into : List ℕ → MutBor (List ℕ)
into x = record { ref_ptr = (0, 0); ghost_name = 0; now = x }

abbrev lifetimes : Lfts 4
lifetimes = ([], ([], ([], ([], tt))))

-- ---- what they say: just the equation with the rules

pub start_is : (key nonce tag : List ℕ) (r : CallResult SaeSession) (tag' : List ℕ)
    → StartPromise key nonce tag r tag' ↔ (nonce_result r tag' ≡ nonce_start_at sae_parameters key nonce tag)
start_is key nonce tag r tag' = (
  λ p.
      sym (λ j. nonce_result r (p.is_left j)) ∙ p.met
      ∙ (λ j. nonce_start_at sae_parameters (p.is_key j) (p.is_nonce j) (p.is_tag j)),
  λ e. start-kept ([], ([], ([], tt))) (to key, (to nonce, (into tag, tt))) (to key, (to nonce, (into tag', tt))) r e,
)

module _ (s : SaeSession) (i : Handed) (r : CallResult SaeSession) (out tag : List ℕ) where
  -- the tag handed to an unwrap is not altered
  tag-kept : call_result r out tag ≡ sae_unwrap_at incremental (state_of s) i → i.tag ≡ tag
  tag-kept e = sym (ap (λ (o : Outcome DeckState). o.tag) e ∙ (any-unwrap sae incremental (state_of s) (input_of i)).tag)

  pub wrap-is : WrapPromise s i r out tag ↔ (call_result r out tag ≡ sae_wrap_at (state_of s) i)
  wrap-is = (
    λ p. sym (λ j. call_result r (p.is_out j) (p.is_tag j)) ∙ p.met ∙ (λ j. sae_wrap_at (state_of (p.is_record j)) (p.is_input j)),
    λ e.
        wrap-kept lifetimes (s, (to i.metadata, (to i.text, (into i.out, (into i.tag, tt)))))
        (s, (to i.metadata, (to i.text, (into out, (into tag, tt))))) r e,
  )

  pub unwrap-is : UnwrapPromise s i r out tag ↔ (call_result r out tag ≡ sae_unwrap_at incremental (state_of s) i)
  unwrap-is = (
    λ p. sym (λ j. call_result r (p.is_out j) (p.is_tag j)) ∙ p.met ∙ (λ j. sae_unwrap_at incremental (state_of (p.is_record j)) (p.is_input j)),
    λ e.
        let t : i.tag ≡ tag = tag-kept e in
        subst (UnwrapPromise s i r out) t
        (unwrap-kept lifetimes (s, (to i.metadata, (to i.text, (to i.tag, (into i.out, tt)))))
        (s, (to i.metadata, (to i.text, (to i.tag, (into out, tt))))) r (ap (call_result r out) t ∙ e)),
  )
