-- Lists of old letters: every run of calls, each known by its equation with the rules, is as 001 says over the history of the accepted ones. Assumes nothing.
use mathlib.Core.Bool.{Bool, true, false}
use mathlib.Core.List.{List, [], ◌∷◌}
use mathlib.Core.Path.{◌≡◌, refl, sym, ap, ap₂, ◌∙◌, subst}
use Prim.Native.Nat.{ℕ}
use borrow.Author.Tests.{eqb-true, eqb-false}
use lib.Dec.{eqb}
use Rattle.deck.specs.declared.DeckState.{DeckState}
use Rattle.deck.specs.Strings.{Str}
use Rattle.modes.specs.Mode.{incremental}
use Rattle.modes.specs.Rules.{SessionState, Outcome}
use Rattle.modes.specs.OneCall.{session_of}
use Rattle.sae_mode.specs.Sae.{Handed, sae_wrap_at, sae_unwrap_at}
use Rattle.sae_mode.specs.PaperSae.{sae_unwrap}
use Rattle.sae_mode.specs.Letters.{LetterClaim, SaeCall, wrap, unwrap, Each}
use Rattle.sae_mode.proofs.Letters.{letter-claim, opened-session, stopped-session, letter-decided}

-- `Runs cs s os q`: the calls cs, from the session s, by the rules
pub data Runs : List SaeCall → SessionState DeckState → List (Outcome DeckState) → SessionState DeckState → Type 0 where
  none : {s : SessionState DeckState} → Runs [] s [] s
  wrapped : {i : Handed} {cs : List SaeCall} {s q : SessionState DeckState} {o : Outcome DeckState} {os : List (Outcome DeckState)}
      → o ≡ sae_wrap_at s i → Runs cs o.session os q → Runs (wrap i ∷ cs) s (o ∷ os) q
  unwrapped : {i : Handed} {cs : List SaeCall} {s q : SessionState DeckState} {o : Outcome DeckState} {os : List (Outcome DeckState)}
      → o ≡ sae_unwrap_at incremental s i → Runs cs o.session os q → Runs (unwrap i ∷ cs) s (o ∷ os) q

-- what a run from the session of a history gives, and where it arrives
pub record Arrives (key : List ℕ) (h : List Str) (cs : List SaeCall) (os : List (Outcome DeckState)) (q : SessionState DeckState) : Type 0 where
  pub history : List Str
  pub each : Each key h cs os history
  pub finish : q ≡ session_of key history false

module _ (key : List ℕ) where
  pub each_of : {cs : List SaeCall} {s q : SessionState DeckState} {os : List (Outcome DeckState)} → Runs cs s os q
      → (h : List Str) → s ≡ session_of key h false → Arrives key h cs os q
  each_of Runs.none h e = record { history = h; each = Each.none; finish = e }
  each_of (Runs.wrapped {i = i} {s = s} {o = o} w z) h e =
      let r : o ≡ sae_wrap_at (session_of key h false) i = w ∙ ap (λ (s : SessionState DeckState). sae_wrap_at s i) e in
      let x = each_of z h (ap (λ (o : Outcome DeckState). o.session) r) in
      record { history = x.history; each = Each.wrapped r x.each; finish = x.finish }
  each_of (Runs.unwrapped {i = i} {cs = cs} {q = q} {o = o} {os = os} w z) h e = go (eqb o.number 0) refl (each_of z)
    where
      c : LetterClaim key h i o
      c = subst (LetterClaim key h i) (sym (w ∙ ap (λ (s : SessionState DeckState). sae_unwrap_at incremental s i) e)) (letter-claim key h i)

      go : (t : Bool) → eqb o.number 0 ≡ t → ((h : List Str) → o.session ≡ session_of key h false → Arrives key h cs os q)
          → Arrives key h (unwrap i ∷ cs) (o ∷ os) q
      go true a rest =
          let n = eqb-true o.number 0 a in
          let x = rest (sae_unwrap key h i.metadata i.text).history (opened-session c n) in
          record { history = x.history; each = Each.opened n c x.each; finish = x.finish }
      go false a rest =
          let n = eqb-false o.number 0 a in
          let x = rest h (stopped-session c n) in
          record { history = x.history; each = Each.stopped n c x.each; finish = x.finish }

  -- the claim leaves nothing open: of one list from one history it is true of one list of outcomes and one history
  pub each-decides : {h g g' : List Str} {cs : List SaeCall} {os os' : List (Outcome DeckState)} → Each key h cs os g → Each key h cs os' g'
      → (os ≡ os') × (g ≡ g')
  each-decides Each.none Each.none = (refl, refl)
  each-decides (Each.wrapped a x) (Each.wrapped b y) =
      let r = each-decides x y in (ap₂ {C = List (Outcome DeckState)} (λ o os. o ∷ os) (a ∙ sym b) r.0, r.1)
  each-decides (Each.opened n c x) (Each.opened m d y) =
      let r = each-decides x y in (ap₂ {C = List (Outcome DeckState)} (λ o os. o ∷ os) (letter-decided c _ d) r.0, r.1)
  each-decides (Each.stopped n c x) (Each.stopped m d y) =
      let r = each-decides x y in (ap₂ {C = List (Outcome DeckState)} (λ o os. o ∷ os) (letter-decided c _ d) r.0, r.1)
  each-decides (Each.opened n c x) (Each.stopped m d y) = absurd (m (sym (ap (λ (o : Outcome DeckState). o.number) (letter-decided c _ d)) ∙ n))
  each-decides (Each.stopped n c x) (Each.opened m d y) = absurd (n (ap (λ (o : Outcome DeckState). o.number) (letter-decided c _ d) ∙ m))
