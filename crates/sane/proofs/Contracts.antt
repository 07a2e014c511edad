-- What the program's functions promise: for each of the five, its clauses are just one equation with the rules, and it asks nothing of a
-- call; and the promises by the functions' own `ensures`, as the modes' `Promises` has them. Assumes nothing.
use mathlib.Core.Bool.{Bool}
use mathlib.Core.List.{List, []}
use mathlib.Core.Logic.{◌↔◌}
use mathlib.Core.Path.{◌≡◌, refl, sym, ap, ◌∙◌, subst}
use Prim.Native.Nat.{ℕ}
use seplogic.Ra.Ura.{Ura}
use base.Logic.{SProp}
use prog.Memory.{Memory}
use prog.Routine.{Routine}
use types.Logic.{Logic}
use contract.Lifetimes.{Lfts}
use contract.Monad.{Fun}
use contract.Notation.{connectives}
use denote.Ref.{Bor, MutBor}
use denote.Triple.Clauses.{AtExit}
use denote.Triple.Entry.{Args, Res}
use borrow.Fn.Kinds.{Dens, ended_of}
use Rattle.modes.specs.Call.{CallHeader, bare, under, CallInput, with_header}
use Rattle.modes.specs.Promises.{Promises, both_sorts}
use Rattle.modes.specs.Mode.{incremental, sane, sane_parameters}
use Rattle.modes.specs.Rules.{Outcome, nonce_start_at, wrap_at, unwrap_at}
use Rattle.modes.proofs.AnySession.{any-unwrap}
use Rattle.deck.specs.declared.DeckState.{DeckState}
use Rattle.sane.specs.declared.SaneSession.{SaneSession}
use Rattle.steps.specs.declared.CallResult.{CallResult}
use Rattle.sane.specs.Session.{state_of, nonce_result, call_result, handed, handed_for, sane_kind}
use Rattle.sane.specs.contracts.start as start
use Rattle.sane.specs.contracts.wrap as wrap
use Rattle.sane.specs.contracts.unwrap as unwrap
use Rattle.sane.specs.contracts.wrap_envelope as wrap-envelope
use Rattle.sane.specs.contracts.unwrap_envelope as unwrap-envelope
use Rattle.sane.proofs.start.Reads.{Post as StartPost}
use Rattle.sane.proofs.start.Kinds.{ps as start-ps, r as start-r}
use Rattle.sane.proofs.wrap.Reads.{Post as WrapPost}
use Rattle.sane.proofs.wrap.Kinds.{ps as wrap-ps, r as wrap-r}
use Rattle.sane.proofs.unwrap.Reads.{Post as UnwrapPost}
use Rattle.sane.proofs.unwrap.Kinds.{ps as unwrap-ps, r as unwrap-r}
use Rattle.sane.proofs.wrap_envelope.Reads.{Post as WrapEnvelopePost}
use Rattle.sane.proofs.wrap_envelope.Kinds.{ps as wrap-envelope-ps, r as wrap-envelope-r}
use Rattle.sane.proofs.unwrap_envelope.Reads.{Post as UnwrapEnvelopePost}
use Rattle.sane.proofs.unwrap_envelope.Kinds.{ps as unwrap-envelope-ps, r as unwrap-envelope-r}

-- ---- the clauses, in every model of the program logic

module _ {M : Type 1} {𝓤 : Ura M} (𝓛 : Logic 𝓤) (mem : Memory → SProp 𝓤) (run : Routine → Fun 𝓤) where
  pub start-asks : (κs : Lfts 3) (a : Args start.signature κs) → (start.clauses 𝓛 mem run κs a).requires tt ≡ (connectives 𝓤).⊤ₛ
  start-asks κs a = refl

  pub start-ensures : (κs : Lfts 3) (a : Args start.signature κs) (r : Res start.signature κs) (z : AtExit start.ended κs)
      → (start.clauses 𝓛 mem run κs a).ensures tt r z
      ≡ (connectives 𝓤).⌜◌⌝
      (nonce_result r z.1.1.0.now ≡ nonce_start_at sane_parameters a.0.now a.1.0.now a.1.1.0.now)
  start-ensures κs a r z = refl

  pub wrap-asks : (κs : Lfts 4) (a : Args wrap.signature κs) → (wrap.clauses 𝓛 mem run κs a).requires tt ≡ (connectives 𝓤).⊤ₛ
  wrap-asks κs a = refl

  pub wrap-ensures : (κs : Lfts 4) (a : Args wrap.signature κs) (r : Res wrap.signature κs) (z : AtExit wrap.ended κs)
      → (wrap.clauses 𝓛 mem run κs a).ensures tt r z
      ≡ (connectives 𝓤).⌜◌⌝
      (call_result r z.1.1.1.0.now z.1.1.1.1.0.now
      ≡ wrap_at sane incremental (state_of a.0) (handed a.1.0.now a.1.1.0.now a.1.1.1.0.now a.1.1.1.1.0.now))
  wrap-ensures κs a r z = refl

  pub unwrap-asks : (κs : Lfts 4) (a : Args unwrap.signature κs) → (unwrap.clauses 𝓛 mem run κs a).requires tt ≡ (connectives 𝓤).⊤ₛ
  unwrap-asks κs a = refl

  pub unwrap-ensures : (κs : Lfts 4) (a : Args unwrap.signature κs) (r : Res unwrap.signature κs) (z : AtExit unwrap.ended κs)
      → (unwrap.clauses 𝓛 mem run κs a).ensures tt r z
      ≡ (connectives 𝓤).⌜◌⌝
      (call_result r z.1.1.1.1.0.now a.1.1.1.0.now
      ≡ unwrap_at sane incremental (state_of a.0) (handed a.1.0.now a.1.1.0.now a.1.1.1.1.0.now a.1.1.1.0.now))
  unwrap-ensures κs a r z = refl

  pub wrap-envelope-asks : (κs : Lfts 5) (a : Args wrap-envelope.signature κs)
      → (wrap-envelope.clauses 𝓛 mem run κs a).requires tt ≡ (connectives 𝓤).⊤ₛ
  wrap-envelope-asks κs a = refl

  pub wrap-envelope-ensures : (κs : Lfts 5) (a : Args wrap-envelope.signature κs) (r : Res wrap-envelope.signature κs) (z : AtExit wrap-envelope.ended κs)
      → (wrap-envelope.clauses 𝓛 mem run κs a).ensures tt r z
      ≡ (connectives 𝓤).⌜◌⌝
      (call_result r z.1.1.1.1.0.now z.1.1.1.1.1.0.now
      ≡ wrap_at sane incremental (state_of a.0)
      (handed_for a.1.0.now a.1.1.0.now a.1.1.1.0.now a.1.1.1.1.0.now a.1.1.1.1.1.0.now))
  wrap-envelope-ensures κs a r z = refl

  pub unwrap-envelope-asks : (κs : Lfts 5) (a : Args unwrap-envelope.signature κs)
      → (unwrap-envelope.clauses 𝓛 mem run κs a).requires tt ≡ (connectives 𝓤).⊤ₛ
  unwrap-envelope-asks κs a = refl

  pub unwrap-envelope-ensures : (κs : Lfts 5) (a : Args unwrap-envelope.signature κs) (r : Res unwrap-envelope.signature κs)
      (z : AtExit unwrap-envelope.ended κs)
      → (unwrap-envelope.clauses 𝓛 mem run κs a).ensures tt r z
      ≡ (connectives 𝓤).⌜◌⌝
      (call_result r z.1.1.1.1.1.0.now a.1.1.1.1.0.now
      ≡ unwrap_at sane incremental (state_of a.0)
      (handed_for a.1.0.now a.1.1.0.now a.1.1.1.0.now a.1.1.1.1.1.0.now a.1.1.1.1.0.now))
  unwrap-envelope-ensures κs a r z = refl

  -- and that equation is the post of which the promises below speak
  pub start-post : (κs : Lfts 3) (a : Args start.signature κs) (r : Res start.signature κs) (z : AtExit start.ended κs)
      → (start.clauses 𝓛 mem run κs a).ensures tt r z ≡ (connectives 𝓤).⌜◌⌝ (StartPost κs a r z)
  start-post κs a r z = refl

  pub wrap-post : (κs : Lfts 4) (a : Args wrap.signature κs) (r : Res wrap.signature κs) (z : AtExit wrap.ended κs)
      → (wrap.clauses 𝓛 mem run κs a).ensures tt r z ≡ (connectives 𝓤).⌜◌⌝ (WrapPost κs a r z)
  wrap-post κs a r z = refl

  pub unwrap-post : (κs : Lfts 4) (a : Args unwrap.signature κs) (r : Res unwrap.signature κs) (z : AtExit unwrap.ended κs)
      → (unwrap.clauses 𝓛 mem run κs a).ensures tt r z ≡ (connectives 𝓤).⌜◌⌝ (UnwrapPost κs a r z)
  unwrap-post κs a r z = refl

  pub wrap-envelope-post : (κs : Lfts 5) (a : Args wrap-envelope.signature κs) (r : Res wrap-envelope.signature κs) (z : AtExit wrap-envelope.ended κs)
      → (wrap-envelope.clauses 𝓛 mem run κs a).ensures tt r z ≡ (connectives 𝓤).⌜◌⌝ (WrapEnvelopePost κs a r z)
  wrap-envelope-post κs a r z = refl

  pub unwrap-envelope-post : (κs : Lfts 5) (a : Args unwrap-envelope.signature κs) (r : Res unwrap-envelope.signature κs)
      (z : AtExit unwrap-envelope.ended κs)
      → (unwrap-envelope.clauses 𝓛 mem run κs a).ensures tt r z ≡ (connectives 𝓤).⌜◌⌝ (UnwrapEnvelopePost κs a r z)
  unwrap-envelope-post κs a r z = refl

-- ---- the promises: a call with some arguments, of which the function's `ensures` holds

-- a start that was handed key, nonce and tag buffer gave r, and left the tag buffer
pub record StartPromise (key nonce tag : List ℕ) (r : CallResult SaneSession) (tag' : List ℕ) : Type 0 where
  pub κs : Lfts 3
  pub args : Dens κs start-ps
  pub exits : AtExit (ended_of 3 start-ps start-r) κs
  pub is_key : args.0.now ≡ key
  pub is_nonce : args.1.0.now ≡ nonce
  pub is_tag : args.1.1.0.now ≡ tag
  pub is_left : exits.1.1.0.now ≡ tag'
  pub met : StartPost κs args r exits

-- a wrap that was handed the record s and i, and whether to take full blocks four side by side, gave r, and left the output buffer and the tag
pub record WrapPromise (four : Bool) (s : SaneSession) (i : CallInput) (r : CallResult SaneSession) (out tag : List ℕ) : Type 0 where
  pub κs : Lfts 4
  pub args : Dens κs wrap-ps
  pub exits : AtExit (ended_of 4 wrap-ps wrap-r) κs
  pub is_record : args.0 ≡ s
  pub is_four : args.1.1.1.1.1.0 ≡ four
  pub is_input : handed args.1.0.now args.1.1.0.now args.1.1.1.0.now args.1.1.1.1.0.now ≡ i
  pub is_out : exits.1.1.1.0.now ≡ out
  pub is_tag : exits.1.1.1.1.0.now ≡ tag
  pub met : WrapPost κs args r exits

-- and so of an unwrap, whose tag is a shared slice: no call alters it
pub record UnwrapPromise (four : Bool) (s : SaneSession) (i : CallInput) (r : CallResult SaneSession) (out tag : List ℕ) : Type 0 where
  pub κs : Lfts 4
  pub args : Dens κs unwrap-ps
  pub exits : AtExit (ended_of 4 unwrap-ps unwrap-r) κs
  pub is_record : args.0 ≡ s
  pub is_four : args.1.1.1.1.1.0 ≡ four
  pub is_input : handed args.1.0.now args.1.1.0.now args.1.1.1.1.0.now args.1.1.1.0.now ≡ i
  pub is_out : exits.1.1.1.1.0.now ≡ out
  pub is_tag : args.1.1.1.0.now ≡ tag
  pub met : UnwrapPost κs args r exits

-- the same of a wrap and of an unwrap for an envelope
pub record WrapEnvelopePromise (four : Bool) (s : SaneSession) (i : CallInput) (r : CallResult SaneSession) (out tag : List ℕ) : Type 0 where
  pub κs : Lfts 5
  pub args : Dens κs wrap-envelope-ps
  pub exits : AtExit (ended_of 5 wrap-envelope-ps wrap-envelope-r) κs
  pub is_record : args.0 ≡ s
  pub is_four : args.1.1.1.1.1.1.0 ≡ four
  pub is_input : handed_for args.1.0.now args.1.1.0.now args.1.1.1.0.now args.1.1.1.1.0.now args.1.1.1.1.1.0.now ≡ i
  pub is_out : exits.1.1.1.1.0.now ≡ out
  pub is_tag : exits.1.1.1.1.1.0.now ≡ tag
  pub met : WrapEnvelopePost κs args r exits

pub record UnwrapEnvelopePromise (four : Bool) (s : SaneSession) (i : CallInput) (r : CallResult SaneSession) (out tag : List ℕ) : Type 0 where
  pub κs : Lfts 5
  pub args : Dens κs unwrap-envelope-ps
  pub exits : AtExit (ended_of 5 unwrap-envelope-ps unwrap-envelope-r) κs
  pub is_record : args.0 ≡ s
  pub is_four : args.1.1.1.1.1.1.0 ≡ four
  pub is_input : handed_for args.1.0.now args.1.1.0.now args.1.1.1.0.now args.1.1.1.1.1.0.now args.1.1.1.1.0.now ≡ i
  pub is_out : exits.1.1.1.1.1.0.now ≡ out
  pub is_tag : args.1.1.1.1.0.now ≡ tag
  pub met : UnwrapEnvelopePost κs args r exits

-- ---- every call of which the function's `ensures` holds keeps its promise: nothing else is asked of it

pub start-kept : (κs : Lfts 3) (args : Dens κs start-ps) (exits : AtExit (ended_of 3 start-ps start-r) κs) (r : CallResult SaneSession)
    → StartPost κs args r exits → StartPromise args.0.now args.1.0.now args.1.1.0.now r exits.1.1.0.now
start-kept κs args exits r h =
    record { κs = κs; args = args; exits = exits; is_key = refl; is_nonce = refl; is_tag = refl; is_left = refl; met = h }

pub wrap-kept : (κs : Lfts 4) (args : Dens κs wrap-ps) (exits : AtExit (ended_of 4 wrap-ps wrap-r) κs) (r : CallResult SaneSession)
    → WrapPost κs args r exits
    → WrapPromise args.1.1.1.1.1.0 args.0 (handed args.1.0.now args.1.1.0.now args.1.1.1.0.now args.1.1.1.1.0.now) r
    exits.1.1.1.0.now exits.1.1.1.1.0.now
wrap-kept κs args exits r h =
    record { κs = κs; args = args; exits = exits; is_record = refl; is_four = refl; is_input = refl; is_out = refl; is_tag = refl; met = h }

pub unwrap-kept : (κs : Lfts 4) (args : Dens κs unwrap-ps) (exits : AtExit (ended_of 4 unwrap-ps unwrap-r) κs) (r : CallResult SaneSession)
    → UnwrapPost κs args r exits
    → UnwrapPromise args.1.1.1.1.1.0 args.0 (handed args.1.0.now args.1.1.0.now args.1.1.1.1.0.now args.1.1.1.0.now) r
    exits.1.1.1.1.0.now args.1.1.1.0.now
unwrap-kept κs args exits r h =
    record { κs = κs; args = args; exits = exits; is_record = refl; is_four = refl; is_input = refl; is_out = refl; is_tag = refl; met = h }

pub wrap-envelope-kept : (κs : Lfts 5) (args : Dens κs wrap-envelope-ps) (exits : AtExit (ended_of 5 wrap-envelope-ps wrap-envelope-r) κs) (r : CallResult SaneSession)
    → WrapEnvelopePost κs args r exits
    → WrapEnvelopePromise args.1.1.1.1.1.1.0 args.0
    (handed_for args.1.0.now args.1.1.0.now args.1.1.1.0.now args.1.1.1.1.0.now args.1.1.1.1.1.0.now) r
    exits.1.1.1.1.0.now exits.1.1.1.1.1.0.now
wrap-envelope-kept κs args exits r h =
    record { κs = κs; args = args; exits = exits; is_record = refl; is_four = refl; is_input = refl; is_out = refl; is_tag = refl; met = h }

pub unwrap-envelope-kept : (κs : Lfts 5) (args : Dens κs unwrap-envelope-ps) (exits : AtExit (ended_of 5 unwrap-envelope-ps unwrap-envelope-r) κs)
    (r : CallResult SaneSession)
    → UnwrapEnvelopePost κs args r exits
    → UnwrapEnvelopePromise args.1.1.1.1.1.1.0 args.0
    (handed_for args.1.0.now args.1.1.0.now args.1.1.1.0.now args.1.1.1.1.1.0.now args.1.1.1.1.0.now) r
    exits.1.1.1.1.1.0.now args.1.1.1.1.0.now
unwrap-envelope-kept κs args exits r h =
    record { κs = κs; args = args; exits = exits; is_record = refl; is_four = refl; is_input = refl; is_out = refl; is_tag = refl; met = h }

-- the promises of wrap and unwrap, by which way they were called: without an envelope and for one, and of calls of both sorts
abbrev pub bare_promises : Bool → Promises sane_kind
bare_promises four = record { wraps = WrapPromise four; unwraps = UnwrapPromise four }

abbrev pub envelope_promises : Bool → Promises sane_kind
envelope_promises four = record { wraps = WrapEnvelopePromise four; unwraps = UnwrapEnvelopePromise four }

abbrev pub promises : Bool → Promises sane_kind
promises four = both_sorts sane_kind (bare_promises four) (envelope_promises four)

-- some reference to these bytes, and some lifetimes, one for each slice that wrap or unwrap is handed
abbrev to : List ℕ → Bor (List ℕ)
to x = record { ref_ptr = (0, 0); now = x }

abbrev into : List ℕ → MutBor (List ℕ)
into x = record { ref_ptr = (0, 0); ghost_name = 0; now = x }

abbrev lifetimes : Lfts 4
lifetimes = ([], ([], ([], ([], tt))))

-- ---- what they say: just the equation with the rules

pub start_is : (key nonce tag : List ℕ) (r : CallResult SaneSession) (tag' : List ℕ)
    → StartPromise key nonce tag r tag' ↔ (nonce_result r tag' ≡ nonce_start_at sane_parameters key nonce tag)
start_is key nonce tag r tag' = (
  λ p.
      sym (λ j. nonce_result r (p.is_left j)) ∙ p.met
      ∙ (λ j. nonce_start_at sane_parameters (p.is_key j) (p.is_nonce j) (p.is_tag j)),
  λ e. start-kept ([], ([], ([], tt))) (to key, (to nonce, (into tag, tt))) (to key, (to nonce, (into tag', tt))) r e,
)

module _ (four : Bool) (s : SaneSession) (i : CallInput) (r : CallResult SaneSession) (out tag : List ℕ) where
  -- the tag handed to an unwrap is not altered
  tag-kept : (h : CallHeader) → call_result r out tag ≡ unwrap_at sane incremental (state_of s) (with_header h i) → i.tag ≡ tag
  tag-kept h e = sym (ap (λ (o : Outcome DeckState). o.tag) e ∙ (any-unwrap sane incremental (state_of s) (with_header h i)).tag)

  pub wrap-is : WrapPromise four s (with_header bare i) r out tag ↔ (call_result r out tag ≡ wrap_at sane incremental (state_of s) (with_header bare i))
  wrap-is = (
    λ p.
        sym (λ j. call_result r (p.is_out j) (p.is_tag j)) ∙ p.met
        ∙ (λ j. wrap_at sane incremental (state_of (p.is_record j)) (p.is_input j)),
    λ e.
        wrap-kept lifetimes (s, (to i.metadata, (to i.text, (into i.out, (into i.tag, (four, tt))))))
        (s, (to i.metadata, (to i.text, (into out, (into tag, (four, tt)))))) r e,
  )

  pub unwrap-is : UnwrapPromise four s (with_header bare i) r out tag ↔ (call_result r out tag ≡ unwrap_at sane incremental (state_of s) (with_header bare i))
  unwrap-is = (
    λ p.
        sym (λ j. call_result r (p.is_out j) (p.is_tag j)) ∙ p.met
        ∙ (λ j. unwrap_at sane incremental (state_of (p.is_record j)) (p.is_input j)),
    λ e.
        let t : i.tag ≡ tag = tag-kept bare e in
        subst (UnwrapPromise four s (with_header bare i) r out) t
        (unwrap-kept lifetimes (s, (to i.metadata, (to i.text, (to i.tag, (into i.out, (four, tt))))))
        (s, (to i.metadata, (to i.text, (to i.tag, (into out, (four, tt)))))) r (ap (call_result r out) t ∙ e)),
  )

  -- under the header x
  module _ (x : List ℕ) where
    pub wrap-envelope-is : WrapEnvelopePromise four s (with_header (under x) i) r out tag
        ↔ (call_result r out tag ≡ wrap_at sane incremental (state_of s) (with_header (under x) i))
    wrap-envelope-is = (
      λ p.
          sym (λ j. call_result r (p.is_out j) (p.is_tag j)) ∙ p.met
          ∙ (λ j. wrap_at sane incremental (state_of (p.is_record j)) (p.is_input j)),
      λ e.
          wrap-envelope-kept ([], lifetimes) (s, (to x, (to i.metadata, (to i.text, (into i.out, (into i.tag, (four, tt)))))))
          (s, (to x, (to i.metadata, (to i.text, (into out, (into tag, (four, tt))))))) r e,
    )

    pub unwrap-envelope-is : UnwrapEnvelopePromise four s (with_header (under x) i) r out tag
        ↔ (call_result r out tag ≡ unwrap_at sane incremental (state_of s) (with_header (under x) i))
    unwrap-envelope-is = (
      λ p.
          sym (λ j. call_result r (p.is_out j) (p.is_tag j)) ∙ p.met
          ∙ (λ j. unwrap_at sane incremental (state_of (p.is_record j)) (p.is_input j)),
      λ e.
          let t : i.tag ≡ tag = tag-kept (under x) e in
          subst (UnwrapEnvelopePromise four s (with_header (under x) i) r out) t
          (unwrap-envelope-kept ([], lifetimes) (s, (to x, (to i.metadata, (to i.text, (to i.tag, (into i.out, (four, tt)))))))
          (s, (to x, (to i.metadata, (to i.text, (to i.tag, (into out, (four, tt))))))) r (ap (call_result r out) t ∙ e)),
    )
