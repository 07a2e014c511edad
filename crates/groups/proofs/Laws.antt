-- Laws of the count's formula, of check 10 and of a group's calls, over plain values. Assumes nothing.
use mathlib.Core.Path.{◌≡◌, refl, sym, ap, ◌∙◌}
use mathlib.Core.Logic.{◌≢◌}
use mathlib.Core.Bool.{Bool, true, false, cond}
use mathlib.Core.List.{List, []}
use Prim.Native.Nat.{ℕ, zero, suc, ◌+◌, ◌/◌, ◌≤◌, ◌<◌}
use native.Mathlib.Omega.{arith}
use lib.ListN.{length, length-append}
use borrow.Author.Tests.{ltb-false, le-leb, lt-leb}
use Rattle.deck.specs.declared.DeckState.{DeckState}
use Rattle.modes.specs.Call.{bare, under, CallInput}
use Rattle.modes.specs.Mode.{sanse, incremental, sanse_count}
use Rattle.modes.specs.Rules.{SessionState, Outcome, Opening, growth, first_check_of, check_from5, count_of, metadata_string, if_no_check, start_at}
use Rattle.steps.proofs.Calls.{same-unless, bare-wrap, fitted-wrap, bare-unwrap, fitted-unwrap}
use Rattle.steps.specs.declared.CallResult.{CallResult}
use Rattle.sanse.specs.declared.Session.{Session}
use Rattle.sanse.specs.Session.{start_result, call_result, handed, handed_for}
use Rattle.groups.proofs.Counts.{start-count}
use Rattle.groups.specs.declared.Record.{Record}
use Rattle.groups.specs.Groups.{GroupState, above_allowance, then10, group_check, charged, on_day, wrap_on_day, unwrap_on_day, open_check, opened_unless, charged_opening, open_on_day, record_of, group_opening_result, group_result}

-- ---- the count's formula

pub count-bare : (a n : ℕ) → n ≡ 0 → a / 48 + 3 ≡ sanse_count a n
unfolding sanse_count
count-bare a zero h = omega arith
count-bare a (suc n) h = omega arith

pub count-text : (a n : ℕ) → n ≢ 0 → a ≡ 0 → n / 48 + 5 + (n + 47) / 48 ≡ sanse_count a n
unfolding sanse_count
count-text a zero h z = absurd (h refl)
count-text zero (suc n) h z = omega arith
count-text (suc a) (suc n) h z = omega arith

pub count-both : (a n : ℕ) → n ≢ 0 → a ≢ 0 → a / 48 + 1 + (n / 48 + 5 + (n + 47) / 48) ≡ sanse_count a n
unfolding sanse_count
count-both a zero h z = absurd (h refl)
count-both zero (suc n) h z = absurd (z refl)
count-both (suc a) (suc n) h z = omega arith

-- ---- checks 5 to 10

-- a call that meets none of them is within the allowance
none-of-10 : (n allowance spent c : ℕ) → then10 n (above_allowance allowance spent c) ≡ 0 → (n ≡ 0) × (spent + c ≤ allowance)
none-of-10 (suc n) allowance spent c e = absurd (omega arith)
none-of-10 zero allowance spent c e = (refl, go (above_allowance allowance spent c) refl e)
  where
    go : (t : Bool) → above_allowance allowance spent c ≡ t → ◌≡◌ {A = ℕ} (cond t 10 0) 0 → spent + c ≤ allowance
    go true g z = absurd (omega arith)
    go false g z = ltb-false allowance (spent + c) g

-- ---- wrap and unwrap for a group: `lone` is what the lone call gives

-- nothing is added by a count of 0
pub nothing-added : (spent : ℕ) → spent ≡ spent + 0
nothing-added spent = omega arith

-- what a refused call gives, with the buffers as they were
refused-is : (n : ℕ) (r : Record) (i : CallInput) (lone : Outcome DeckState) → 0 < n
    → group_result (record { number = n; count = 0; left = r }) i.out i.tag ≡ charged r.count (if_no_check n (record_of r).session i lone)
refused-is zero r i lone h = absurd (omega (arith, h))
refused-is (suc n) r i lone h =
    ap (λ (k : ℕ). record { number = suc n; count = 0; left = record { session = (record_of r).session; count = k }; out = i.out; tag = i.tag })
    (nothing-added r.count)

-- what a call gives that meets none of the checks 5 to 10
charged-is : (n spent : ℕ) (r : CallResult Session) (s : SessionState DeckState) (i : CallInput) (out tag : List ℕ) (lone : Outcome DeckState) → 0 ≡ n
    → call_result r out tag ≡ lone
    → group_result (record { number = r.number; count = r.count; left = record { session = r.left; count = spent + r.count } }) out tag
    ≡ charged spent (if_no_check n s i lone)
charged-is zero spent r s i out tag lone z e = ap (charged spent) e
charged-is (suc n) spent r s i out tag lone z e = absurd (omega (arith, z))

-- n is the first check as the program has it
module _ (allowance : ℕ) (g : Record) (head a x out tag : List ℕ) (n : ℕ)
    (checked : n
    ≡ then10 (first_check_of g.session.opened (g.session.history.index + growth (length head + length a) (length x)) 32 (length a) (length x) (length tag) (length out))
    (above_allowance allowance g.count (sanse_count (length head + length a) (length x)))) where
  abbrev input : CallInput
  input = handed_for head a x out tag

  abbrev s : SessionState DeckState
  s = (record_of g).session

  first-is : n ≡ group_check allowance (record_of g) input
  unfolding group_check check_from5 metadata_string
  first-is =
      checked
      ∙ ap (λ (k : ℕ). then10 (first_check_of g.session.opened (g.session.history.index + growth k (length x)) 32 (length a) (length x) (length tag) (length out))
      (above_allowance allowance g.count (sanse_count k (length x)))) (sym (length-append head a))

  pub call-refused : (lone : Outcome DeckState) (r : CallResult Record) → 0 < n → r ≡ record { number = n; count = 0; left = g }
      → group_result r out tag ≡ on_day allowance (record_of g) input lone
  unfolding on_day
  call-refused lone r h e =
      ap (λ (r : CallResult Record). group_result r out tag) e ∙ refused-is n g input lone h
      ∙ ap (λ (k : ℕ). charged g.count (if_no_check k s input lone)) first-is

  -- the call's count, added to the group's, is at most the allowance
  pub call_fits : (lone : Outcome DeckState) (r : CallResult Session) (out' tag' : List ℕ)
      → (check_from5 sanse incremental s input ≡ 0 → lone.count ≡ count_of sanse incremental input) → 0 ≡ n → call_result r out' tag' ≡ lone
      → g.count + r.count ≤ allowance
  unfolding group_check
  call_fits lone r out' tag' counts z e =
      let w = none-of-10 (check_from5 sanse incremental s input) allowance g.count (count_of sanse incremental input) (sym first-is ∙ sym z) in
      let k : r.count ≡ lone.count = ap (λ (o : Outcome DeckState). o.count) e in
      omega (arith, counts w.0, w.1)

  pub call-charged : (lone : Outcome DeckState) (r : CallResult Session) (c : CallResult Record) (out' tag' : List ℕ) → 0 ≡ n → call_result r out' tag' ≡ lone
      → c ≡ record { number = r.number; count = r.count; left = record { session = r.left; count = g.count + r.count } }
      → group_result c out' tag' ≡ on_day allowance (record_of g) input lone
  unfolding on_day
  call-charged lone r c out' tag' z e k =
      ap (λ (c : CallResult Record). group_result c out' tag') k ∙ charged-is n g.count r s input out' tag' lone z e
      ∙ ap (λ (k : ℕ). charged g.count (if_no_check k s input lone)) first-is

-- a call without an envelope is one with a header of no bytes
module _ (allowance : ℕ) (g : GroupState) (a x out tag : List ℕ) where
  abbrev no_bytes : CallInput
  no_bytes = handed_for [] a x out tag

  bare-day : {lone lone' : Outcome DeckState} → lone ≡ lone' → on_day allowance g no_bytes lone ≡ on_day allowance g (handed a x out tag) lone'
  unfolding on_day group_check check_from5 metadata_string
  bare-day {lone} {lone'} e =
      ap (on_day allowance g no_bytes) e
      ∙ ap (charged g.count) (same-unless (group_check allowance g no_bytes) g.session (under []) bare a x out tag lone')

  pub bare-wrap-day : wrap_on_day allowance g no_bytes ≡ wrap_on_day allowance g (handed a x out tag)
  bare-wrap-day = bare-day (bare-wrap sanse g.session a x out tag ∙ sym (fitted-wrap sanse g.session (handed a x out tag) refl))

  pub bare-unwrap-day : unwrap_on_day allowance g no_bytes ≡ unwrap_on_day allowance g (handed a x out tag)
  bare-unwrap-day = bare-day (bare-unwrap sanse g.session a x out tag ∙ sym (fitted-unwrap sanse g.session (handed a x out tag) refl))

-- ---- opening a group

module _ (allowance : ℕ) (g : Record) (key : List ℕ) where
  -- refused by n, where n is the first check
  open-refused-by : (n : ℕ) → n ≢ 0 → open_check allowance g.count key ≡ n → (r : CallResult Record) → r ≡ record { number = n; count = 0; left = g }
      → group_opening_result r ≡ open_on_day allowance (record_of g) key
  unfolding open_on_day
  open-refused-by zero h c r e = absurd (h refl)
  open-refused-by (suc n) h c r e =
      ap group_opening_result e
      ∙ ap (λ (k : ℕ). record { number = suc n; count = 0; left = record { session = (record_of g).session; count = k } }) (nothing-added g.count)
      ∙ ap (λ (k : ℕ). charged_opening g.count (opened_unless k (record_of g).session (start_at key))) (sym c)

  pub open-short : (r : CallResult Record) → length key < 16 → r ≡ record { number = 4; count = 0; left = g }
      → group_opening_result r ≡ open_on_day allowance (record_of g) key
  open-short r h e = open-refused-by 4 (λ z. omega (arith, z)) (rw (lt-leb 16 (length key) h)) r e

  pub open-long : (r : CallResult Record) → 16 ≤ length key → 47 < length key → r ≡ record { number = 4; count = 0; left = g }
      → group_opening_result r ≡ open_on_day allowance (record_of g) key
  open-long r l h e = open-refused-by 4 (λ z. omega (arith, z)) (rw (le-leb 16 (length key) l, lt-leb (length key) 47 h)) r e

  module _ (l : 16 ≤ length key) (h : length key ≤ 47) (t : Bool) (above : t ≡ above_allowance allowance g.count 1) where
    open-check : open_check allowance g.count key ≡ cond t 10 0
    open-check = rw (le-leb 16 (length key) l, le-leb (length key) 47 h, above)

    pub open_above : (r : CallResult Record) → t ≡ true → r ≡ record { number = 10; count = 0; left = g }
        → group_opening_result r ≡ open_on_day allowance (record_of g) key
    open_above r y e = open-refused-by 10 (λ z. omega (arith, z)) (open-check ∙ ap (λ (t : Bool). cond t 10 0) y) r e

    pub open-fits : (r : CallResult Session) → t ≡ false → start_result r ≡ start_at key → g.count + r.count ≤ allowance
    open-fits r y e =
        let c : r.count ≡ (start_at key).count = ap (λ (o : Opening). o.count) e in
        let w : g.count + 1 ≤ allowance = ltb-false allowance (g.count + 1) (sym above ∙ y) in
        omega (arith, start-count key)

    pub open-charged : (r : CallResult Session) (c : CallResult Record) → t ≡ false → start_result r ≡ start_at key
        → c ≡ record { number = r.number; count = r.count; left = record { session = r.left; count = g.count + r.count } }
        → group_opening_result c ≡ open_on_day allowance (record_of g) key
    unfolding open_on_day
    open-charged r c y e k =
        ap group_opening_result k ∙ ap (charged_opening g.count) e
        ∙ ap (λ (k : ℕ). charged_opening g.count (opened_unless k (record_of g).session (start_at key)))
        (sym (open-check ∙ ap (λ (t : Bool). cond t 10 0) y))
