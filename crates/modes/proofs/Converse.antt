-- The lists in which each message is delivered are just those in which, by the ledgers' answers, each comes back and each other arrival is
-- refused: `Delivers` leaves no such list out. Assumes nothing.
use mathlib.Core.List.{List, [], ◌∷◌}
use mathlib.Core.Logic.{◌≢◌, ◌⊎◌, inl, inr}
use mathlib.Core.Path.{◌≡◌, refl, ap, ◌∙◌, subst, subst₂}
use Prim.Native.Nat.{ℕ, zero, suc, ◌≤◌}
use native.Mathlib.Omega.{arith}
use lib.ListN.{length, take}
use lib.Seq.{take_at}
use Rattle.modes.specs.Call.{CallInput, other, Call, wrap, unwrap}
use Rattle.modes.specs.Ledger.{PaperMode, sanse_paper, Ledger, LedgerAnswer, Entry, string_a, wrap_finds, unwrap_finds, check_before11, ledger_wrap, ledger_unwrap}
use Rattle.modes.specs.TwoEnds.{Ledgers, ledger_at, next_ledgers, entries, answers}
use Rattle.modes.specs.Delivery.{delivery, InFlight, nothing, sent, Delivers, Returned, DeliversExactly}
use Rattle.modes.proofs.Entries.{PaperLaws, paper-laws, wrap-none, wrap-done}
use Rattle.modes.proofs.Modes.{sanse-follows}
use Rattle.modes.proofs.Delivery.{returned}
use Rattle.modes.proofs.Exactly.{check-none, unwrap-exactly}

abbrev first : LedgerAnswer → List LedgerAnswer → LedgerAnswer
first d [] = d
first d (a ∷ rs) = a

abbrev later : List LedgerAnswer → List LedgerAnswer
later [] = []
later (a ∷ rs) = rs

module _ {m : PaperMode} (laws : PaperLaws m) where
  abbrev Sized : InFlight → Type 0
  Sized nothing = ℕ
  Sized (sent w) = length w.cryptogram ≡ length w.input.text

  pub stopped : (l : Ledger) (i : CallInput) → (ledger_unwrap m l i).answer.number ≢ 0
      → (check_before11 m (unwrap_finds m l i) i ≢ 0) ⊎ (i.tag ≢ (unwrap_finds m l i).tag)
  stopped l i h = go (check_before11 m (unwrap_finds m l i) i) refl
    where
      go : (k : ℕ) → check_before11 m (unwrap_finds m l i) i ≡ k → (check_before11 m (unwrap_finds m l i) i ≢ 0) ⊎ (i.tag ≢ (unwrap_finds m l i).tag)
      go zero e = inr (λ q. h ((unwrap-exactly m laws.known l i).accepted.1 (check-none m laws.known (unwrap_finds m l i) i e, q)))
      go (suc k) e = inl (λ q. absurd (omega (arith, e, q)))

  delivers-from : (t : InFlight) (cs : List Call) (p : Ledgers) (rs : List LedgerAnswer) → Sized t
      → rs ≡ answers m cs p → Returned t cs rs → Delivers m t cs p
  unfolding entries
  delivers-from t cs p rs z q Returned.finished = Delivers.finished
  delivers-from t cs p rs z q (Returned.wrap-refused {x = x} {i = i} {cs = cs'} {a = a} {rs = rs'} h r) =
      let e : a ≡ (ledger_wrap m (ledger_at x p) i).answer = ap (first a) q in
      Delivers.wrap-refused (subst (λ (a : LedgerAnswer). a.number ≢ 0) e h)
      (delivers-from t cs' (next_ledgers m (wrap x i) p) rs' z (ap later q) r)
  delivers-from t cs p rs z q (Returned.wrap-accepted {x = x} {i = i} {cs = cs'} {a = a} {rs = rs'} h r) =
      let l = ledger_at x p in
      let e : a ≡ (ledger_wrap m l i).answer = ap (first a) q in
      let g : (ledger_wrap m l i).answer.number ≡ 0 = subst (λ (a : LedgerAnswer). a.number ≡ 0) e h in
      let d = wrap-done m l i (wrap-none m l i g) in
      let n = laws.wraps_length l.key l.history l.toggle (string_a i) i.text in
      let c : take (length i.text) a.out ≡ (wrap_finds m l i).text =
      ap (λ (a : LedgerAnswer). take (length i.text) a.out) e ∙ ap (λ (e : Entry). take (length i.text) e.answer.out) d
      ∙ take_at (wrap_finds m l i).text _ (length i.text) n in
      let u : a.tag ≡ (wrap_finds m l i).tag = ap (λ (a : LedgerAnswer). a.tag) e ∙ ap (λ (e : Entry). e.answer.tag) d in
      Delivers.wrap-accepted g
      (subst₂ (λ (c u : List ℕ). Delivers m (sent (record { from = x; input = i; cryptogram = c; tag = u })) cs' (next_ledgers m (wrap x i) p)) c u
      (delivers-from (sent (record { from = x; input = i; cryptogram = take (length i.text) a.out; tag = a.tag })) cs' (next_ledgers m (wrap x i) p) rs'
      (ap (λ (c : List ℕ). length c) c ∙ n) (ap later q) r))
  delivers-from t cs p rs z q (Returned.comes_back {w = w} {out = out} {cs = cs'} {a = a} {rs = rs'} h o r) =
      let l = ledger_at (other w.from) p in
      let i = delivery w out in
      let e : a ≡ (ledger_unwrap m l i).answer = ap (first a) q in
      let g : (ledger_unwrap m l i).answer.number ≡ 0 = subst (λ (a : LedgerAnswer). a.number ≡ 0) e h in
      let f : length w.cryptogram ≤ length out = ((unwrap-exactly m laws.known l i).accepted.0 g).0.out in
      Delivers.delivered (subst (λ (n : ℕ). n ≤ length out) z f)
      (delivers-from nothing cs' (next_ledgers m (unwrap (other w.from) i) p) rs' 0 (ap later q) r)
  delivers-from t cs p rs z q (Returned.arrival-refused {x = x} {i = i} {cs = cs'} {a = a} {rs = rs'} h r) =
      let e : a ≡ (ledger_unwrap m (ledger_at x p) i).answer = ap (first a) q in
      Delivers.other-arrival (stopped (ledger_at x p) i (subst (λ (a : LedgerAnswer). a.number ≢ 0) e h))
      (delivers-from t cs' (next_ledgers m (unwrap x i) p) rs' z (ap later q) r)

  -- from equal ledgers, with nothing on its way
  pub delivers-exactly : DeliversExactly m
  delivers-exactly cs p e = (λ d. returned laws d e, λ r. delivers-from nothing cs p _ 0 refl r)

pub sanse-delivers-exactly : DeliversExactly sanse_paper
sanse-delivers-exactly = delivers-exactly (paper-laws sanse-follows)
