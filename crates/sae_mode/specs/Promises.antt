-- Functions over a kind of record that holds sessions of SAE, of which only promises are known: what start, wrap and unwrap promise; the calls of a
-- list on one record; and what is claimed of them (demands 1 and 2, and request 9's lists of old letters). Assumes nothing.
use Rattle.std.specs.Prelude.{false, List, [], ◌∷◌, map, ◌≡◌, ℕ}
use Rattle.deck.specs.declared.DeckState.{DeckState}
use Rattle.deck.specs.Strings.{Str}
use Rattle.modes.specs.Mode.{incremental}
use Rattle.modes.specs.Rules.{Outcome, NonceOpening, nonce_start_at}
use Rattle.modes.specs.NonceStart.{NonceExactly}
use Rattle.modes.specs.OneCall.{session_of}
use Rattle.modes.specs.AnySession.{AnyUnwrap}
use Rattle.modes.specs.Promises.{Kind, call_result}
use Rattle.modes.specs.SaneDemands.{nonce_result, NonceStarts}
use Rattle.sae_mode.specs.Sae.{sae_parameters, sae, Handed, input_of, sae_wrap_at, sae_unwrap_at}
use Rattle.sae_mode.specs.PaperSae.{sae_opens, sae_opening_tag}
use Rattle.sae_mode.specs.Letters.{LetterClaim, SaeCall, wrap, unwrap}
use Rattle.sae_mode.specs.Box.{Message, letters_of, history_of, AllFit, AllBack, OldLetters}

-- a start, of the opening o that it gives: as for SANE, 4, 6 and 7 exactly by the lengths, count b(N) + 3; and where it is accepted it gives the tag of 001's
-- Initialization, and the session of its history with e 0
pub record SaeStart (key nonce tag : List ℕ) (o : NonceOpening) : Type 0 where
  pub exactly : NonceExactly key nonce tag o
  pub tag_001 : o.number ≡ 0 → o.tag ≡ sae_opening_tag key nonce
  pub session_001 : o.number ≡ 0 → o.session ≡ session_of key (sae_opens nonce) false

module _ (k : Kind) where
  -- ---- promises

  -- what wrap and unwrap promise of the record and what else they were handed, what they gave, and the output buffer and the tag as they left them
  pub record SaePromises : Type 1 where
    pub wraps : k.Record → Handed → k.Result → (out tag : List ℕ) → Type 0
    pub unwraps : k.Record → Handed → k.Result → (out tag : List ℕ) → Type 0

  -- the promises that are each call's equation with the rules, and nothing else
  abbrev pub sae_by_rules : SaePromises
  sae_by_rules =
      record {
        wraps = λ s i r out tag. call_result k r out tag ≡ sae_wrap_at (k.state_of s) i;
        unwraps = λ s i r out tag. call_result k r out tag ≡ sae_unwrap_at incremental (k.state_of s) i;
      }

  -- and so of a start
  abbrev pub sae_start_by_rules : NonceStarts k
  sae_start_by_rules key nonce tag r tag' = nonce_result k r tag' ≡ nonce_start_at sae_parameters key nonce tag

  -- `Run p cs s os q`: the calls cs, made in order on the record s, gave os and left the record q. Each call is handed the record as the last one left it;
  -- nothing else writes it; and nothing is known of a call but its promise
  pub data Run (p : SaePromises) : List SaeCall → k.Record → List (Outcome DeckState) → k.Record → Type 0 where
    none : {s : k.Record} → Run p [] s [] s
    wrapped : {cs : List SaeCall} {s q : k.Record} {os : List (Outcome DeckState)} {i : Handed} {r : k.Result} {out tag : List ℕ}
        → p.wraps s i r out tag → Run p cs (k.left r) os q → Run p (wrap i ∷ cs) s (call_result k r out tag ∷ os) q
    unwrapped : {cs : List SaeCall} {s q : k.Record} {os : List (Outcome DeckState)} {i : Handed} {r : k.Result} {out tag : List ℕ}
        → p.unwraps s i r out tag → Run p cs (k.left r) os q → Run p (unwrap i ∷ cs) s (call_result k r out tag ∷ os) q

  -- ---- the claims

  -- demand 1: every start
  abbrev pub SaeStartOf : NonceStarts k → Type 0
  SaeStartOf starts = (key nonce tag : List ℕ) (r : k.Result) (tag' : List ℕ) → starts key nonce tag r tag' → SaeStart key nonce tag (nonce_result k r tag')

  -- demand 1: a call that is handed any record, open or not, and also one that no history gives: a wrap gets 18, with count 0 and nothing altered
  pub record AnySaeCallOf (p : SaePromises) : Type 0 where
    pub wraps : (s : k.Record) (i : Handed) (r : k.Result) (out tag : List ℕ) → p.wraps s i r out tag
        → call_result k r out tag ≡ record { number = 18; count = 0; session = k.state_of s; out = i.out; tag = i.tag }
    pub unwraps : (s : k.Record) (i : Handed) (r : k.Result) (out tag : List ℕ) → p.unwraps s i r out tag
        → AnyUnwrap sae incremental (k.state_of s) (input_of i) (call_result k r out tag)

  -- demands 1 and 2: an unwrap that is handed the record of a history
  abbrev pub OneLetterOf : SaePromises → Type 0
  OneLetterOf p =
      (key : List ℕ) (h : List Str) (s : k.Record) (i : Handed) (r : k.Result) (out tag : List ℕ)
      → k.state_of s ≡ session_of key h false → p.unwraps s i r out tag → LetterClaim key h i (call_result k r out tag)

  -- a start that is not refused, and then any list of calls on its record
  abbrev pub OldLettersOf : NonceStarts k → SaePromises → Type 0
  OldLettersOf starts p =
      (key nonce t : List ℕ) (first : k.Result) (t' : List ℕ) → starts key nonce t first t' → k.number first ≡ 0
      → (cs : List SaeCall) (os : List (Outcome DeckState)) (q : k.Record) → Run p cs (k.left first) os q
      → OldLetters key nonce cs os (k.state_of q)

  -- a start that is not refused, and then the letters that 001's Wrap makes of messages that fit, in their order: all open, all messages come back, and the
  -- session is that of 001's history, with e 0
  abbrev pub LettersComeBackOf : NonceStarts k → SaePromises → Type 0
  LettersComeBackOf starts p =
      (key nonce t : List ℕ) (first : k.Result) (t' : List ℕ) → starts key nonce t first t' → k.number first ≡ 0
      → (ms : List Message) → AllFit key (sae_opens nonce) ms
      → (os : List (Outcome DeckState)) (q : k.Record) → Run p (map unwrap (letters_of key (sae_opens nonce) ms)) (k.left first) os q
      → AllBack ms os × (k.state_of q ≡ session_of key (history_of key (sae_opens nonce) ms) false)

  -- every list of calls has a run, on any record
  abbrev pub SaeRunsExist : SaePromises → Type 0
  SaeRunsExist p = (cs : List SaeCall) (s : k.Record) → (os : List (Outcome DeckState)) × (q : k.Record) × Run p cs s os q
