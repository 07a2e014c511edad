-- Lists in which each message is delivered, at the ledgers: each message comes back, each other arrival is refused, and both ledgers finish
-- equal. Assumes nothing.
use mathlib.Core.List.{List, ◌++◌}
use mathlib.Core.Path.{◌≡◌, refl, sym, ap, ap₂, ◌∙◌, subst₂}
use Prim.Native.Nat.{ℕ, ◌≤◌}
use lib.ListN.{length, take, drop}
use lib.Seq.{take_at}
use Rattle.modes.specs.Call.{CallInput, Side, office, group, other, Call, wrap}
use Rattle.modes.specs.Ledger.{PaperMode, Ledger, Entry, string_a, wrap_finds, check_before11, accepts, ledger_wrap, ledger_unwrap}
use Rattle.modes.specs.TwoEnds.{Ledgers, ledger_at, set_ledger, next_ledgers, entries, answers, finish_ledgers}
use Rattle.modes.specs.Delivery.{Sent, delivery, sent_by, InFlight, nothing, sent, Delivers, Returned}
use Rattle.modes.proofs.Entries.{PaperLaws, restored_paper, wrap-none, wrap-done, wrap-stays, unwrap-stopped, unwrap-done}

-- ---- both ledgers

at_set : (x : Side) (l : Ledger) (p : Ledgers) → ledger_at x (set_ledger x l p) ≡ l
at_set office l p = refl
at_set group l p = refl

at_set_other : (x : Side) (l : Ledger) (p : Ledgers) → ledger_at (other x) (set_ledger x l p) ≡ ledger_at (other x) p
at_set_other office l p = refl
at_set_other group l p = refl

-- a call that leaves the ledger leaves both
pub set_same : (x : Side) (l : Ledger) (p : Ledgers) → l ≡ ledger_at x p → set_ledger x l p ≡ p
set_same office l p h = ap (λ (r : Ledger). set_ledger office r p) h
set_same group l p h = ap (λ (r : Ledger). set_ledger group r p) h

level-at : (x : Side) (p : Ledgers) → p.office ≡ p.group → ledger_at (other x) p ≡ ledger_at x p
level-at office p h = sym h
level-at group p h = h

level-set : (x : Side) (l : Ledger) (p : Ledgers) → ledger_at x p ≡ l → (set_ledger (other x) l p).office ≡ (set_ledger (other x) l p).group
level-set office l p h = h
level-set group l p h = sym h

module _ {m : PaperMode} (laws : PaperLaws m) where
  -- with a message on its way, the end that wrapped it is ahead of the other by it
  record Ahead (w : Sent) (p : Ledgers) : Type 0 where
    behind : Ledger
    receiver : ledger_at (other w.from) p ≡ behind
    fits : check_before11 m (wrap_finds m behind w.input) w.input ≡ 0
    text : w.cryptogram ≡ (wrap_finds m behind w.input).text
    tag : w.tag ≡ (wrap_finds m behind w.input).tag
    sender : ledger_at w.from p ≡ (ledger_wrap m behind w.input).ledger

  -- what is known of the ledgers with t on its way
  abbrev InStep : InFlight → Ledgers → Type 0
  InStep nothing p = p.office ≡ p.group
  InStep (sent w) p = Ahead w p

  after-wrap : (x : Side) (i : CallInput) (p : Ledgers) → (ledger_wrap m (ledger_at x p) i).answer.number ≡ 0 → p.office ≡ p.group
      → Ahead (sent_by m x i p) (next_ledgers m (wrap x i) p)
  after-wrap x i p h e =
      record {
        behind = ledger_at x p;
        receiver = at_set_other x (ledger_wrap m (ledger_at x p) i).ledger p ∙ level-at x p e;
        fits = wrap-none m (ledger_at x p) i h;
        text = refl;
        tag = refl;
        sender = at_set x (ledger_wrap m (ledger_at x p) i).ledger p;
      }

  -- the delivery: accepted, with the message, and the ledgers are equal after it
  arrives : (w : Sent) (out : List ℕ) (p : Ledgers) → Ahead w p → length w.input.text ≤ length out
      → (e : Entry)
      × (ledger_unwrap m (ledger_at (other w.from) p) (delivery w out) ≡ e)
      × (e.answer.number ≡ 0)
      × (e.answer.out ≡ w.input.text ++ drop (length w.input.text) out)
      × (e.ledger ≡ ledger_at w.from p)
  arrives w out p k f =
      let r = wrap_finds m k.behind w.input in
      let w' : Sent = record { from = w.from; input = w.input; cryptogram = r.text; tag = r.tag } in (
        accepts m k.behind (delivery w' out) (restored_paper r w.input.text) r.tag,
        ap (λ (l : Ledger). ledger_unwrap m l (delivery w out)) k.receiver
            ∙ ap₂ (λ (c u : List ℕ). ledger_unwrap m k.behind (delivery (record { from = w.from; input = w.input; cryptogram = c; tag = u }) out)) k.text k.tag
            ∙ unwrap-done laws k.behind w.from w.input out k.fits f,
        refl,
        refl,
        sym (k.sender ∙ ap (λ (e : Entry). e.ledger) (wrap-done m k.behind w.input k.fits)),
      )

  returned-from : {t : InFlight} {cs : List Call} {p : Ledgers} → Delivers m t cs p → InStep t p
      → Returned t cs (answers m cs p)
  unfolding entries
  returned-from Delivers.finished k = Returned.finished
  returned-from (Delivers.wrap-refused {x = x} {i = i} {p = p} h r) k =
      Returned.wrap-refused h (returned-from r (rw (set_same x _ p (wrap-stays m (ledger_at x p) i h)) k))
  returned-from (Delivers.wrap-accepted {x = x} {i = i} {cs = cs} {p = p} h r) k =
      let l = ledger_at x p in
      let e = wrap-done m l i (wrap-none m l i h) in
      Returned.wrap-accepted h
      (subst₂ (λ (c u : List ℕ). Returned (sent (record { from = x; input = i; cryptogram = c; tag = u })) cs (answers m cs (next_ledgers m (wrap x i) p)))
      (sym (ap (λ (e : Entry). take (length i.text) e.answer.out) e
      ∙ take_at (wrap_finds m l i).text _ (length i.text) (laws.wraps_length l.key l.history l.toggle (string_a i) i.text)))
      (sym (ap (λ (e : Entry). e.answer.tag) e))
      (returned-from r (after-wrap x i p h k)))
  returned-from (Delivers.delivered {w = w} {out = out} {p = p} f r) k =
      let z = arrives w out p k f in
      Returned.comes_back (ap (λ (e : Entry). e.answer.number) z.1 ∙ z.2) (ap (λ (e : Entry). e.answer.out) z.1 ∙ z.3)
      (returned-from r (level-set w.from _ p (sym (ap (λ (e : Entry). e.ledger) z.1 ∙ z.4))))
  returned-from (Delivers.other-arrival {x = x} {i = i} {p = p} h r) k =
      let z = unwrap-stopped m (ledger_at x p) i h in
      Returned.arrival-refused z.0 (returned-from r (rw (set_same x _ p z.1) k))

  level-from : {t : InFlight} {cs : List Call} {p : Ledgers} → Delivers m t cs p → InStep t p
      → (finish_ledgers m cs p).office ≡ (finish_ledgers m cs p).group
  unfolding finish_ledgers
  level-from Delivers.finished k = k
  level-from (Delivers.wrap-refused {x = x} {i = i} {p = p} h r) k =
      level-from r (rw (set_same x _ p (wrap-stays m (ledger_at x p) i h)) k)
  level-from (Delivers.wrap-accepted {x = x} {i = i} {p = p} h r) k = level-from r (after-wrap x i p h k)
  level-from (Delivers.delivered {w = w} {out = out} {p = p} f r) k =
      let z = arrives w out p k f in
      level-from r (level-set w.from _ p (sym (ap (λ (e : Entry). e.ledger) z.1 ∙ z.4)))
  level-from (Delivers.other-arrival {x = x} {i = i} {p = p} h r) k =
      level-from r (rw (set_same x _ p (unwrap-stopped m (ledger_at x p) i h).1) k)

  -- from equal ledgers, with nothing on its way
  pub returned : {cs : List Call} {p : Ledgers} → Delivers m nothing cs p → p.office ≡ p.group
      → Returned nothing cs (answers m cs p)
  returned d k = returned-from d k

  pub level : {cs : List Call} {p : Ledgers} → Delivers m nothing cs p → p.office ≡ p.group
      → (finish_ledgers m cs p).office ≡ (finish_ledgers m cs p).group
  level d k = level-from d k
