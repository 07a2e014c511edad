-- Request 9's claims hold of all promises, over any kind of record, that are each call's equation with the rules; and such promises are kept by some result
-- whatever a call is handed, so that every list has a run. Assumes nothing.
use mathlib.Core.Bool.{false}
use mathlib.Core.List.{List, [], ◌∷◌}
use mathlib.Core.Logic.{◌↔◌}
use mathlib.Core.Path.{◌≡◌, sym, ap, ◌∙◌, subst}
use Prim.Native.Nat.{ℕ}
use native.Mathlib.Omega.{arith}
use Rattle.deck.specs.declared.DeckState.{DeckState}
use Rattle.deck.specs.Strings.{Str}
use Rattle.modes.specs.Mode.{incremental}
use Rattle.modes.specs.Rules.{SessionState, Outcome}
use Rattle.modes.specs.OneCall.{session_of}
use Rattle.modes.specs.AnySession.{AnyUnwrap}
use Rattle.modes.specs.Promises.{Kind, call_result}
use Rattle.modes.specs.SaneDemands.{NonceStarts, NonceStartsExist, AcceptedStartsExist}
use Rattle.modes.proofs.AnySession.{any-unwrap}
use Rattle.modes.proofs.Demands.{Whole, made_of}
use Rattle.modes.proofs.SaneDemands.{NonceByRules, nonce-starts-exist, accepted-starts-exist}
use Rattle.sae_mode.specs.Sae.{sae, Handed, input_of, sae_wrap_at, sae_unwrap_at}
use Rattle.sae_mode.specs.PaperSae.{sae_opens}
use Rattle.sae_mode.specs.Letters.{LetterClaim, SaeCall, wrap, unwrap}
use Rattle.sae_mode.specs.Box.{OldLetters}
use Rattle.sae_mode.specs.Promises.{SaeStart, SaePromises, sae_by_rules, sae_start_by_rules, Run, SaeStartOf, AnySaeCallOf, OneLetterOf, OldLettersOf, LettersComeBackOf, SaeRunsExist}
use Rattle.sae_mode.proofs.Start.{as-sane, sae-start}
use Rattle.sae_mode.proofs.Letters.{letter-claim}
use Rattle.sae_mode.proofs.Lists.{Runs, each_of, each-decides}
use Rattle.sae_mode.proofs.Boxes.{back-of, letters-box, all_back, as_many}

-- ---- what is asked of promises: that they are the equations with the rules, no less and no more

pub record SaeByRules {k : Kind} (p : SaePromises k) : Type 0 where
  pub wraps : (s : k.Record) (i : Handed) (r : k.Result) (out tag : List ℕ) → p.wraps s i r out tag ↔ (sae_by_rules k).wraps s i r out tag
  pub unwraps : (s : k.Record) (i : Handed) (r : k.Result) (out tag : List ℕ) → p.unwraps s i r out tag ↔ (sae_by_rules k).unwraps s i r out tag

abbrev pub SaeStartByRules : (k : Kind) → NonceStarts k → Type 0
SaeStartByRules k starts =
    (key nonce tag : List ℕ) (r : k.Result) (tag' : List ℕ) → starts key nonce tag r tag' ↔ sae_start_by_rules k key nonce tag r tag'

-- the equations themselves are such
pub rules-by-rules : (k : Kind) → SaeByRules (sae_by_rules k)
rules-by-rules k = record { wraps = λ s i r out tag. (λ e. e, λ e. e); unwraps = λ s i r out tag. (λ e. e, λ e. e) }

pub start-by-rules : (k : Kind) → SaeStartByRules k (sae_start_by_rules k)
start-by-rules k key nonce tag r tag' = (λ e. e, λ e. e)

-- ---- starts

module _ (k : Kind) (starts : NonceStarts k) (s : SaeStartByRules k starts) where
  -- they are starts of SANE
  as-nonce : NonceByRules k starts
  as-nonce key nonce tag r tag' = (
    λ w. (s key nonce tag r tag').0 w ∙ as-sane key nonce tag,
    λ e. (s key nonce tag r tag').1 (e ∙ sym (as-sane key nonce tag)),
  )

  pub start_of : SaeStartOf k starts
  start_of key nonce tag r tag' w = subst (SaeStart key nonce tag) (sym ((s key nonce tag r tag').0 w)) (sae-start key nonce tag)

  pub starts-exist : Whole k → NonceStartsExist k starts
  starts-exist w = nonce-starts-exist w starts as-nonce

  pub accepted-exist : Whole k → AcceptedStartsExist k starts
  accepted-exist w = accepted-starts-exist w starts as-nonce

-- ---- calls

module _ {k : Kind} {p : SaePromises k} (l : SaeByRules p) where
  -- demand 1, of any record
  pub any-call-of : AnySaeCallOf k p
  any-call-of =
      record {
        wraps = λ s i r out tag w. (l.wraps s i r out tag).0 w;
        unwraps = λ s i r out tag w.
            subst (AnyUnwrap sae incremental (k.state_of s) (input_of i)) (sym ((l.unwraps s i r out tag).0 w)) (any-unwrap sae incremental (k.state_of s) (input_of i));
      }

  -- demands 1 and 2, of one letter
  pub one-letter-of : OneLetterOf k p
  one-letter-of key h s i r out tag q w =
      subst (LetterClaim key h i) (sym ((l.unwraps s i r out tag).0 w ∙ ap (λ (z : SessionState DeckState). sae_unwrap_at incremental z i) q)) (letter-claim key h i)

  -- the promises' runs are runs by the rules
  runs_of : {cs : List SaeCall} {s q : k.Record} {os : List (Outcome DeckState)} → Run k p cs s os q → Runs cs (k.state_of s) os (k.state_of q)
  runs_of Run.none = Runs.none
  runs_of (Run.wrapped {s = s} {i = i} {r = r} {out = out} {tag = tag} w z) = Runs.wrapped ((l.wraps s i r out tag).0 w) (runs_of z)
  runs_of (Run.unwrapped {s = s} {i = i} {r = r} {out = out} {tag = tag} w z) = Runs.unwrapped ((l.unwraps s i r out tag).0 w) (runs_of z)

  -- one claim about the whole list
  pub old-letters-of : {starts : NonceStarts k} → SaeStartByRules k starts → OldLettersOf k starts p
  old-letters-of {starts} s key nonce t first t' a n cs os q z =
      let x = each_of key (runs_of z) (sae_opens nonce) ((start_of k starts s key nonce t first t' a).session_001 n) in
      record { history = x.history; each = x.each; finish = x.finish; back = λ ms b. back-of key b x.each }

  -- the letters of messages that fit all open
  pub letters-come-back-of : {starts : NonceStarts k} → SaeStartByRules k starts → LettersComeBackOf k starts p
  letters-come-back-of {starts} s key nonce t first t' a n ms f os q z =
      let h = sae_opens nonce in
      let x = old-letters-of s key nonce t first t' a n _ os q z in
      let b = x.back ms (letters-box key h ms f) in (
        all_back _ ms os b.0 (omega (arith, as_many key h ms)),
        x.finish ∙ ap (λ (g : List Str). session_of key g false) b.1,
      )

  -- every list has a run
  pub runs-exist : Whole k → SaeRunsExist k p
  runs-exist w [] s = ([], s, Run.none)
  runs-exist w (wrap i ∷ cs) s =
      let o = sae_wrap_at (k.state_of s) i in
      let r = made_of w o in
      let z = runs-exist w cs (k.left r.0) in
      (call_result k r.0 o.out o.tag ∷ z.0, z.1, Run.wrapped ((l.wraps s i r.0 o.out o.tag).1 r.1) z.2)
  runs-exist w (unwrap i ∷ cs) s =
      let o = sae_unwrap_at incremental (k.state_of s) i in
      let r = made_of w o in
      let z = runs-exist w cs (k.left r.0) in
      (call_result k r.0 o.out o.tag ∷ z.0, z.1, Run.unwrapped ((l.unwraps s i r.0 o.out o.tag).1 r.1) z.2)

-- the claim about a list leaves nothing open: of one list under one key and nonce it is true of one list of outcomes, one history and one session
pub old-letters-decide : {key nonce : List ℕ} {cs : List SaeCall} {os os' : List (Outcome DeckState)} {q q' : SessionState DeckState}
    → (a : OldLetters key nonce cs os q) (b : OldLetters key nonce cs os' q') → (os ≡ os') × (a.history ≡ b.history) × (q ≡ q')
old-letters-decide {key} a b =
    let r = each-decides key a.each b.each in
    (r.0, r.1, a.finish ∙ ap (λ (h : List Str). session_of key h false) r.1 ∙ sym b.finish)
