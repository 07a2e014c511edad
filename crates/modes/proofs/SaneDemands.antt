-- Demands 1 and 3 of SANE hold of all promises, over any kind of record, that are each call's equation with the rules; such a start exists
-- whatever it is handed; and what demand 3 speaks of is there, from the history that a nonce is. Calls of one record are every mode's
-- (`any-call-of`, `one-call-of` of `Demands`). Assumes nothing.
use mathlib.Core.Bool.{false}
use mathlib.Core.List.{List, []}
use mathlib.Core.Logic.{◌↔◌, ◌≢◌}
use mathlib.Core.Path.{◌≡◌, sym, ap, ◌∙◌, subst}
use Prim.Native.Nat.{ℕ, ◌+◌, ◌≤◌}
use native.Mathlib.Omega.{arith}
use lib.ListN.{length}
use Rattle.deck.specs.declared.DeckState.{DeckState}
use Rattle.deck.specs.Deck.{index_of}
use Rattle.modes.specs.Call.{CallInput, Side, Call}
use Rattle.modes.specs.Mode.{sane, sane_parameters}
use Rattle.modes.specs.PaperSane.{sane_opens, sane_unwrap}
use Rattle.modes.specs.Rules.{Outcome, NonceOpening, nonce_session, nonce_start_at}
use Rattle.modes.specs.Ledger.{sane_paper, Ledger, unwrap_finds}
use Rattle.modes.specs.NonceStart.{NonceAccepted, NonceExactly}
use Rattle.modes.specs.TwoEnds.{Ends, at}
use Rattle.modes.specs.Delivery.{DeliversExactly}
use Rattle.modes.specs.Promises.{Kind, Promises, left_by}
use Rattle.modes.specs.Fresh.{FreshAccepts, BothWays, Disturbed, other_tag, repeated, reflected, Replays}
use Rattle.modes.specs.SaneDemands.{SaneDemand3, nonce_result, NonceStarts, nonce_by_rules, NonceStartOf, SaneDemand3Of, NonceStartsExist, AcceptedStartsExist}
use Rattle.modes.proofs.Modes.{sane-follows}
use Rattle.modes.proofs.Entries.{paper-laws}
use Rattle.modes.proofs.Converse.{delivers-exactly}
use Rattle.modes.proofs.Demands.{ByRules, Whole, list_of}
use Rattle.modes.proofs.Fresh.{fresh-by, both_by, disturbed-by}
use Rattle.modes.proofs.NonceStart.{nonce-session, nonce-index, nonce-exactly}

-- ---- what is asked of a start's promise: that it is the equation with the rules, no less and no more

abbrev pub NonceByRules : (k : Kind) → NonceStarts k → Type 0
NonceByRules k starts =
    (key nonce tag : List ℕ) (r : k.Result) (tag' : List ℕ) → starts key nonce tag r tag' ↔ nonce_by_rules k key nonce tag r tag'

-- the equation itself is such
pub nonce-by-rules : (k : Kind) → NonceByRules k (nonce_by_rules k)
nonce-by-rules k key nonce tag r tag' = (λ e. e, λ e. e)

-- and some result keeps it, whatever a start is handed
pub nonce-starts-exist : {k : Kind} → Whole k → (starts : NonceStarts k) → NonceByRules k starts → NonceStartsExist k starts
nonce-starts-exist {k} w starts s key nonce tag =
    let o = nonce_start_at sane_parameters key nonce tag in
    let r = w.made o.number o.count o.session in
    let e = w.same o.number o.count o.session in
    (r, o.tag, (s key nonce tag r o.tag).1 (λ i. record { number = (e i).number; count = (e i).count; session = (e i).session; tag = o.tag }))

-- ---- the demands

-- demand 1, of a start
pub nonce-start-of : (k : Kind) (starts : NonceStarts k) → NonceByRules k starts → NonceStartOf k starts
nonce-start-of k starts s key nonce tag r tag' w =
    subst (NonceExactly key nonce tag) (sym ((s key nonce tag r tag').0 w)) (nonce-exactly key nonce tag)

-- so where the lengths fit there is a start that is not refused
pub accepted-starts-exist : {k : Kind} → Whole k → (starts : NonceStarts k) → NonceByRules k starts → AcceptedStartsExist k starts
accepted-starts-exist {k} w starts s key nonce tag f =
    let x = nonce-starts-exist w starts s key nonce tag in
    (x.0, x.1, x.2, (nonce-start-of k starts s key nonce tag x.0 x.1 x.2).accepted.1 f)

-- demand 3, one claim about the whole list
pub sane-demand-3-of : {k : Kind} {starts : NonceStarts k} {p : Promises k} → NonceByRules k starts → ByRules sane p → SaneDemand3Of k starts p
sane-demand-3-of {k} {starts} s l key nonce t u first second t' u' a b h g cs os to r =
    let x = (nonce-start-of k starts s key nonce t first t' a).opens h in
    let y = (nonce-start-of k starts s key nonce u second u' b).opens g in
    record {
      office_start = x;
      group_start = y;
      calls = list_of l sane-follows key (sane_opens nonce) (left_by k first second) x.session y.session cs os to r;
    }

-- an accepted start gives one thing only
same_start : {key nonce : List ℕ} {o o' : NonceOpening} → NonceAccepted key nonce o → NonceAccepted key nonce o' → o ≡ o'
same_start a b =
    λ i. record {
      number = (a.number ∙ sym b.number) i;
      count = (a.count ∙ sym b.count) i;
      session = (a.session ∙ sym b.session) i;
      tag = (a.tag ∙ sym b.tag) i;
    }

-- the claim leaves nothing open: of one list under one key and one nonce it is true of one opening at either end, of one list of outcomes and
-- of one session at each end
pub sane-demand-3-decides : {key nonce : List ℕ} {cs : List Call} {first second first' second' : NonceOpening} {os os' : List (Outcome DeckState)} {q q' : Ends DeckState}
    → SaneDemand3 key nonce cs first second os q → SaneDemand3 key nonce cs first' second' os' q'
    → (first ≡ first') × (second ≡ first) × (os ≡ os') × ((x : Side) → at x q ≡ at x q')
sane-demand-3-decides a b = (
  same_start a.office_start b.office_start,
  same_start a.group_start a.office_start,
  a.calls.same ∙ sym b.calls.same,
  λ x. a.calls.finish x ∙ sym (b.calls.finish x),
)

-- ---- what they speak of is there

-- the lists in which each message is delivered are just those in which each comes back
pub sane-delivers-exactly : DeliversExactly sane_paper
sane-delivers-exactly = delivers-exactly (paper-laws sane-follows)

-- from the history that a nonce of a start is
module _ (key nonce : List ℕ) (h : length nonce ≤ 16384) where
  room : index_of (sane_opens nonce) + 2058 ≤ 1048576
  room = omega (arith, nonce-index nonce)

  -- a fresh ledger accepts just the wraps within the limits, and so does the session that a start gives
  pub sane-fresh-accepts : (i : CallInput) → FreshAccepts sane_paper sane key (sane_opens nonce) (nonce_session key nonce) i
  sane-fresh-accepts = fresh-by sane-follows key (sane_opens nonce) room (nonce_session key nonce) (nonce-session key nonce)

  -- messages both ways
  pub sane-both-ways : (i j : CallInput) (out out' : List ℕ) → BothWays sane_paper key (sane_opens nonce) i j out out'
  sane-both-ways = both_by sane-follows key (sane_opens nonce) room (omega arith)

  -- a message on its way, disturbed
  pub sane-disturbed : (i j : CallInput) (out out' : List ℕ) (a b c : CallInput) → Disturbed sane_paper key (sane_opens nonce) i j out out' a b c
  sane-disturbed = disturbed-by sane-follows key (sane_opens nonce) room (omega arith)

  -- as by another tag, a repeat and a reflection
  pub sane-replays : (i j : CallInput) (out out' t : List ℕ) → Replays sane_paper key (sane_opens nonce) i j out out' t
  sane-replays i j out out' t =
      sane-disturbed i j out out'
      (other_tag sane_paper key (sane_opens nonce) i j out out' t) (repeated sane_paper key (sane_opens nonce) i j out out' t) (reflected sane_paper key (sane_opens nonce) i j out out' t)

-- arrivals whose tags differ there are: the tag that is found goes by the ledger, the header, the metadata and the cryptogram, and not by the tag that
-- arrived, so every other tag differs
pub sane-some-differ : (l : Ledger) (z : CallInput)
    → z.tag ≢ (unwrap_finds sane_paper l (record { header = z.header; metadata = z.metadata; text = z.text; out = []; tag = [] })).tag
    → z.tag ≢ (unwrap_finds sane_paper l z).tag
unfolding sane_unwrap
sane-some-differ l z d h = d h
