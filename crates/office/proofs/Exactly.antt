-- The claims of `specs/Exactly.antt` hold of every call of the table by the rules, and so of the program's calls. Assumes nothing.
use mathlib.Core.Path.{◌≡◌, refl, sym, ap, ap₂, ◌∙◌, subst}
use mathlib.Core.Logic.{◌↔◌, ◌≢◌, ◌⊎◌, inl, inr}
use mathlib.Core.Bool.{Bool, true, false, not, ◌||◌, ◌&&◌, cond}
use mathlib.Core.List.{List}
use Prim.Native.Nat.{ℕ, zero, suc, ◌+◌, ◌<◌, ◌≤◌}
use native.Mathlib.Omega.{arith}
use lib.Dec.{ltb, leb, eqb}
use lib.ListN.{length, set, length-set, length-map, get_or-map}
use lib.Seq.{get_or-set_same, get_or-set_other, set-get_or, ext_get_or}
use borrow.Author.Tests.{ltb-true, ltb-false, leb-true, leb-false, eqb-true, eqb-false}
use Rattle.deck.specs.declared.DeckState.{DeckState}
use Rattle.envelope.specs.Layout.{letter_s}
use Rattle.modes.specs.Call.{bare, under, CallInput}
use Rattle.modes.specs.Header.{HeaderOf, ForGroup, header_fits}
use Rattle.modes.specs.Mode.{sanse, incremental}
use Rattle.modes.specs.Rules.{SessionState, Outcome, Opening, longest, highest_index, growth, metadata_string, first_check_of, check_from5, check_number, count_of, refused, if_no_check, same_bytes, accepted, wrong_tag, compare_tag, wrap_steps, unwrap_steps, wrap_from5, unwrap_from5, wrap_at, unwrap_at, key_fits, start_at, new_session, closed}
use Rattle.modes.proofs.Header.{fits-follows, fits-group, fits-group-not, group-follows}
use Rattle.modes.proofs.AnySession.{any-wrap, any-unwrap}
use Rattle.modes.proofs.Envelopes.{sanse-strings}
use Rattle.steps.proofs.Calls.{fitted-wrap, fitted-unwrap}
use Rattle.groups.specs.Groups.{GroupState, new_day, above_allowance, then10, group_check, charged, on_day, opened_unless, charged_opening, open_on_day}
use Rattle.office.specs.Table.{Table, unopened, no_group_outcome, group_at, session_at, DayStart, start_day_at, TableOutcome, TableOpening, refused_by, header_passes, table_check, if_group, written_back, call_group_at, wrap_group_at, opened_back, open_group_at}
use Rattle.office.specs.Exactly.{Check1, Check3, Check10, DayExactly, NoCheckMet, CallExactly, WrapGroupExactly, UnwrapGroupExactly, WrongGroup, OpenExactly}

-- ---- the tests as statements

-- how a test came out, with the statement that it tells
data Told (P : Type 0) (Q : Type 0) : Bool → Type 0 where
  holds : P → Told P Q true
  fails : Q → Told P Q false

told1 : (g : ℕ) (i : CallInput) → Told (ForGroup letter_s g i) (Check1 g i) (header_passes g i)
told1 g i = go (header_passes g i) refl
  where
    go : (u : Bool) → header_passes g i ≡ u → Told (ForGroup letter_s g i) (Check1 g i) u
    go true e = holds ((fits-group letter_s i g).0 e)
    go false e = fails ((fits-group-not letter_s i g).0 e)

told3 : (t : Table) (g : ℕ) → Told (Check3 t g) ((length t ≡ 32) × (g ≤ 31)) (no_group_outcome (length t) g)
told3 t g = go (eqb (length t) 32) (ltb 31 g) refl refl
  where
    go : (u v : Bool) → eqb (length t) 32 ≡ u → ltb 31 g ≡ v → Told (Check3 t g) ((length t ≡ 32) × (g ≤ 31)) (not u || v)
    go false v e f = holds (inl (eqb-false (length t) 32 e))
    go true true e f = holds (inr (ltb-true 31 g f))
    go true false e f = fails (eqb-true (length t) 32 e, ltb-false 31 g f)

-- check 3 is not met where both hold
apart : (t : Table) (g : ℕ) → (length t ≡ 32) × (g ≤ 31) → Check3 t g → ⊥
apart t g w (inl n) = n w.0
apart t g w (inr l) = omega (arith, w.1, l)

told10 : (allowance : ℕ) (t : Table) (g c : ℕ)
    → Told (Check10 allowance t g c) ((group_at t g).count + c ≤ allowance) (above_allowance allowance (group_at t g).count c)
told10 allowance t g c = go (above_allowance allowance (group_at t g).count c) refl
  where
    go : (u : Bool) → above_allowance allowance (group_at t g).count c ≡ u → Told (Check10 allowance t g c) ((group_at t g).count + c ≤ allowance) u
    go true e = holds (ltb-true allowance ((group_at t g).count + c) e)
    go false e = fails (ltb-false allowance ((group_at t g).count + c) e)

told-key : (key : List ℕ) → Told ((16 ≤ length key) × (length key ≤ 47)) ((length key < 16) ⊎ (47 < length key)) (key_fits key)
told-key key = go (leb 16 (length key)) (leb (length key) 47) refl refl
  where
    go : (u v : Bool) → leb 16 (length key) ≡ u → leb (length key) 47 ≡ v
        → Told ((16 ≤ length key) × (length key ≤ 47)) ((length key < 16) ⊎ (47 < length key)) (u && v)
    go false v e f = fails (inl (leb-false 16 (length key) e))
    go true false e f = fails (inr (leb-false (length key) 47 f))
    go true true e f = holds (leb-true 16 (length key) e, leb-true (length key) 47 f)

-- the numbers that the checks 5 to 9 give
first_range : (o : Bool) (k l a n t b : ℕ) → (first_check_of o k l a n t b ≡ 0) ⊎ ((5 ≤ first_check_of o k l a n t b) × (first_check_of o k l a n t b ≤ 9))
first_range o k l a n t b = go (not o) (ltb longest a || ltb longest n) (not (eqb t l)) (ltb b n) (ltb highest_index k)
  where
    go : (u v w x y : Bool) → (let c : ℕ = cond u 5 (cond v 6 (cond w 7 (cond x 8 (cond y 9 0)))) in (c ≡ 0) ⊎ ((5 ≤ c) × (c ≤ 9)))
    go true v w x y = inr (omega arith, omega arith)
    go false true w x y = inr (omega arith, omega arith)
    go false false true x y = inr (omega arith, omega arith)
    go false false false true y = inr (omega arith, omega arith)
    go false false false false true = inr (omega arith, omega arith)
    go false false false false false = inl refl

check-range : (s : SessionState DeckState) (i : CallInput)
    → (check_from5 sanse incremental s i ≡ 0) ⊎ ((5 ≤ check_from5 sanse incremental s i) × (check_from5 sanse incremental s i ≤ 9))
unfolding check_from5
check-range s i =
    first_range s.opened (s.history.index + growth (length (metadata_string i)) (length i.text)) 32 (length i.metadata) (length i.text)
    (length i.tag) (length i.out)

-- a header of the call's own is the layout's of some group
own-fits : (g : ℕ) (i : CallInput) → ForGroup letter_s g i → header_fits letter_s i.header (length i.metadata) (length i.text) ≡ true
own-fits g i own = (fits-follows letter_s i).1 (group-follows letter_s i own)

-- so where the header is the call's own, or none, the lone call meets one of them or none
pub own-check : (g : ℕ) (s : SessionState DeckState) (i : CallInput) → ForGroup letter_s g i → check_from5 sanse incremental s i ≡ check_number sanse incremental s i
unfolding check_number
own-check g s i own =
    sym (ap (λ (q : Bool). cond q (check_from5 sanse incremental s i) 1) (own-fits g i own))

own_range : (g : ℕ) (s : SessionState DeckState) (i : CallInput) → ForGroup letter_s g i
    → (check_number sanse incremental s i ≡ 0) ⊎ ((5 ≤ check_number sanse incremental s i) × (check_number sanse incremental s i ≤ 9))
own_range g s i own = subst (λ (n : ℕ). (n ≡ 0) ⊎ ((5 ≤ n) × (n ≤ 9))) (own-check g s i own) (check-range s i)

-- ---- starting a day

pub day-exactly : (allowance : ℕ) (t : Table) → DayExactly allowance t (start_day_at allowance t)
day-exactly allowance t =
    record {
      given = refl;
      size = length-map t new_day;
      counts = λ k. ap (λ (r : GroupState). r.count) (get_or-map new_day t k unopened);
      sessions = λ k. ap (λ (r : GroupState). r.session) (get_or-map new_day t k unopened);
    }

-- ---- a record that is written back

-- a record with a count of 0 added to its own is that record
nothing-counted : (r : GroupState) → ◌≡◌ {A = GroupState} (record { session = r.session; count = r.count + 0 }) r
nothing-counted r = ap (λ (k : ℕ). record { session = r.session; count = k }) (let e : r.count + 0 ≡ r.count = omega arith in e)

-- so the table stays where it is written back
put_back : (t : Table) (g : ℕ) → set t g (record { session = session_at t g; count = (group_at t g).count + 0 }) ≡ t
put_back t g = ap (set t g) (nothing-counted (group_at t g)) ∙ set-get_or t g unopened

-- ---- a wrap or an unwrap for a group, by the first check

module _ (allowance : ℕ) (t : Table) (g : ℕ) (i : CallInput) where
  -- the first check that the lone call meets, by the rules
  abbrev first : ℕ
  first = check_number sanse incremental (session_at t g) i

  -- what is asked of the outcome `lone` of a lone call that meets none of 1 and 5 to 9
  pub record Worked (lone : Outcome DeckState) : Type 0 where
    pub number : (lone.number ≡ 0) ⊎ ((lone.number ≡ 11) × (lone.session ≡ session_at t g))
    pub count : lone.count ≡ count_of sanse incremental i

  module _ (lone : Outcome DeckState) where
    -- refused by n, where n is neither 0 nor 11: nothing is altered
    stops : (n : ℕ) → n ≢ 0 → n ≢ 11 → (n ≡ 1) ↔ Check1 g i → (n ≡ 3) ↔ (ForGroup letter_s g i × Check3 t g)
        → (ForGroup letter_s g i → (Check3 t g → ⊥) → first ≢ 0 → n ≡ first)
        → (5 ≤ n → n ≤ 9 → ForGroup letter_s g i × (Check3 t g → ⊥) × (first ≡ n))
        → (n ≡ 10) ↔ (ForGroup letter_s g i × (Check3 t g → ⊥) × (first ≡ 0) × Check10 allowance t g (count_of sanse incremental i))
        → (NoCheckMet allowance t g i → ⊥) → CallExactly allowance t g i lone (refused_by n t i)
    stops n n0 n11 one three five_to_nine only ten some =
        record {
          one = one;
          three = three;
          five_to_nine = five_to_nine;
          only_five_to_nine = only;
          ten = ten;
          unaltered = λ _ _. refl;
          none = (λ z. absurd (neither z), λ z. absurd (some z));
          worked = λ z. absurd (some z);
          counted = λ z. absurd (some z);
          eleven = λ e. absurd (n11 e);
          added = let e : (group_at t g).count ≡ (group_at t g).count + 0 = omega arith in e;
          others = λ k _. refl;
          size = refl;
        }
      where
        neither : (n ≡ 0) ⊎ (n ≡ 11) → ⊥
        neither (inl z) = n0 z
        neither (inr z) = n11 z

    by1 : Check1 g i → CallExactly allowance t g i lone (refused_by 1 t i)
    by1 c =
        stops 1 (λ e. omega (arith, e)) (λ e. omega (arith, e)) (λ _. c, λ _. refl) (λ e. absurd (omega (arith, e)), λ h. absurd (c h.0))
        (λ own. absurd (c own)) (λ low _. absurd (omega (arith, low))) (λ e. absurd (omega (arith, e)), λ h. absurd (c h.0)) (λ z. c z.one)

    module _ (own : ForGroup letter_s g i) where
      -- another number than 1
      not1 : {n : ℕ} → n ≢ 1 → (n ≡ 1) ↔ Check1 g i
      not1 n = (λ e. absurd (n e), λ c. absurd (c own))

      by3 : Check3 t g → CallExactly allowance t g i lone (refused_by 3 t i)
      by3 c =
          stops 3 (λ e. omega (arith, e)) (λ e. omega (arith, e)) (not1 (λ e. omega (arith, e))) (λ _. (own, c), λ _. refl) (λ _ n _. absurd (n c))
          (λ low _. absurd (omega (arith, low))) (λ e. absurd (omega (arith, e)), λ h. absurd (h.1 c)) (λ z. z.three c)

    module _ (own : ForGroup letter_s g i) (in3 : (length t ≡ 32) × (g ≤ 31)) where
      -- another number than 3
      not3 : {n : ℕ} → n ≢ 3 → (n ≡ 3) ↔ (ForGroup letter_s g i × Check3 t g)
      not3 n = (λ e. absurd (n e), λ h. absurd (apart t g in3 h.1))

      by-check : (n : ℕ) → first ≡ n → 5 ≤ n → n ≤ 9 → CallExactly allowance t g i lone (refused_by n t i)
      by-check n e low high =
          stops n (λ z. omega (arith, z)) (λ z. omega (arith, z)) (not1 own (λ z. omega (arith, z))) (not3 (λ z. omega (arith, z))) (λ _ _ _. sym e)
          (λ _ _. (own, apart t g in3, e)) (λ z. absurd (omega (arith, z)), λ h. absurd (omega (arith, h.2, e))) (λ z. omega (arith, z.five_to_nine, e))

      by10 : first ≡ 0 → Check10 allowance t g (count_of sanse incremental i) → CallExactly allowance t g i lone (refused_by 10 t i)
      by10 e above =
          stops 10 (λ z. omega (arith, z)) (λ z. omega (arith, z)) (not1 own (λ z. omega (arith, z))) (not3 (λ z. omega (arith, z))) (λ _ _ n. absurd (n e))
          (λ _ high. absurd (omega (arith, high))) (λ _. (own, apart t g in3, e, above), λ _. refl) (λ z. z.ten above)

      -- the work was done: number 0 or 11
      done : NoCheckMet allowance t g i → Worked lone → CallExactly allowance t g i lone (written_back t g (charged (group_at t g).count lone))
      done clear r =
          record {
            one = (λ z. absurd (other z (omega arith) (omega arith)), λ c. absurd (c own));
            three = (λ z. absurd (other z (omega arith) (omega arith)), λ c. absurd (clear.three c.1));
            five_to_nine = λ _ _ n. absurd (n clear.five_to_nine);
            only_five_to_nine = λ low high. absurd (other refl (λ z. omega (arith, z, low)) (λ z. omega (arith, z, high)));
            ten = (λ z. absurd (other z (omega arith) (omega arith)), λ h. absurd (clear.ten h.3));
            unaltered = λ n m. absurd (other refl n m);
            none = (λ _. clear, λ _. either r.number);
            worked = λ _. refl;
            counted = λ _. r.count;
            eleven = λ z. (r.count, ap (λ (r : GroupState). r.session) written ∙ kept r.number z);
            added = ap (λ (r : GroupState). r.count) written;
            others = λ k n. get_or-set_other t g k (charged (group_at t g).count lone).left unopened n;
            size = length-set t g (charged (group_at t g).count lone).left;
          }
        where
          -- the group's record is the one that the call left
          written : group_at (set t g (charged (group_at t g).count lone).left) g ≡ (charged (group_at t g).count lone).left
          written = get_or-set_same t g (charged (group_at t g).count lone).left unopened (omega (arith, in3.0, in3.1))

          either : (lone.number ≡ 0) ⊎ ((lone.number ≡ 11) × (lone.session ≡ session_at t g)) → (lone.number ≡ 0) ⊎ (lone.number ≡ 11)
          either (inl z) = inl z
          either (inr z) = inr z.0

          other : {n : ℕ} → lone.number ≡ n → n ≢ 0 → n ≢ 11 → ⊥
          other {n} p a b = go (either r.number)
            where
              go : (lone.number ≡ 0) ⊎ (lone.number ≡ 11) → ⊥
              go (inl z) = a (sym p ∙ z)
              go (inr z) = b (sym p ∙ z)

          kept : (lone.number ≡ 0) ⊎ ((lone.number ≡ 11) × (lone.session ≡ session_at t g)) → lone.number ≡ 11 → lone.session ≡ session_at t g
          kept (inl z) p = absurd (omega (arith, z, p))
          kept (inr z) p = z.1

      -- a check that stops the call writes the group's record back as it was
      stays : (n : ℕ) → written_back t g (charged (group_at t g).count (refused n (session_at t g) i)) ≡ refused_by n t i
      stays n = ap (λ (u : Table). record { number = n; count = 0; table = u; out = i.out; tag = i.tag }) (put_back t g)

      -- by the first of 5 to 9, then by 10
      after3 : (first ≡ 0 → Worked lone) → CallExactly allowance t g i lone (written_back t g (on_day allowance (group_at t g) i lone))
      unfolding on_day group_check
      after3 ends = go (check_from5 sanse incremental (session_at t g) i) (sym (own-check g (session_at t g) i own)) (own_range g (session_at t g) i own)
        where
          at10 : (u : Bool) → first ≡ 0 → Told (Check10 allowance t g (count_of sanse incremental i)) ((group_at t g).count + count_of sanse incremental i ≤ allowance) u
              → CallExactly allowance t g i lone (written_back t g (charged (group_at t g).count (if_no_check (cond u 10 0) (session_at t g) i lone)))
          at10 true e (holds above) = subst (CallExactly allowance t g i lone) (sym (stays 10)) (by10 e above)
          at10 false e (fails within) =
              done (record { one = own; three = λ c. apart t g in3 c; five_to_nine = e; ten = λ above. omega (arith, above, within) }) (ends e)

          go : (n : ℕ) → first ≡ n → (first ≡ 0) ⊎ ((5 ≤ first) × (first ≤ 9))
              → CallExactly allowance t g i lone (written_back t g (charged (group_at t g).count (if_no_check (then10 n (above_allowance allowance (group_at t g).count (count_of sanse incremental i))) (session_at t g) i lone)))
          go zero e z = at10 (above_allowance allowance (group_at t g).count (count_of sanse incremental i)) e (told10 allowance t g (count_of sanse incremental i))
          go (suc n) e (inl z) = absurd (omega (arith, e, z))
          go (suc n) e (inr z) = subst (CallExactly allowance t g i lone) (sym (stays (suc n))) (by-check (suc n) e (omega (arith, e, z.0)) (omega (arith, e, z.1)))

    -- by the checks 1 and 3, of a call that goes by `lone'` where check 1 is not met
    exactly : (lone' : Outcome DeckState) → (ForGroup letter_s g i → lone ≡ lone') → (first ≡ 0 → Worked lone)
        → CallExactly allowance t g i lone (call_group_at allowance t g i lone')
    unfolding call_group_at
    exactly lone' same ends = go (header_passes g i) (no_group_outcome (length t) g) (told1 g i) (told3 t g)
      where
        go : (u v : Bool) → Told (ForGroup letter_s g i) (Check1 g i) u → Told (Check3 t g) ((length t ≡ 32) × (g ≤ 31)) v
            → CallExactly allowance t g i lone (if_group (table_check u v) t i (written_back t g (on_day allowance (group_at t g) i lone')))
        go false v (fails c) w = by1 c
        go true true (holds own) (holds c) = by3 own c
        go true false (holds own) (fails in3) =
            subst (λ (o : Outcome DeckState). CallExactly allowance t g i lone (written_back t g (on_day allowance (group_at t g) i o))) (same own) (after3 own in3 ends)

  -- a lone wrap that meets none of 1 and 5 to 9 is accepted
  wrap-number : first ≡ 0 → (wrap_at sanse incremental (session_at t g) i).number ≡ 0
  unfolding wrap_at
  wrap-number e =
      let s = session_at t g in
      ap (λ (n : ℕ). (if_no_check n s i (accepted sanse incremental s i (wrap_steps sanse incremental s i) (wrap_steps sanse incremental s i).tag)).number) e

  wrap-call : CallExactly allowance t g i (wrap_at sanse incremental (session_at t g) i) (wrap_group_at allowance t g i)
  wrap-call =
      exactly (wrap_at sanse incremental (session_at t g) i) (wrap_from5 sanse incremental (session_at t g) i)
      (λ own. sym (fitted-wrap sanse (session_at t g) i (own-fits g i own)))
      (λ e. record { number = inl (wrap-number e); count = (any-wrap sanse incremental (session_at t g) i).count (wrap-number e) })

  pub wrap-exactly : WrapGroupExactly allowance t g i
  wrap-exactly =
      record {
        call = wrap-call;
        never_11 = λ e.
            let z = wrap-call.none.0 (inr e) in
            omega (arith, e, ap (λ (o : TableOutcome). o.number) (wrap-call.worked z), wrap-number z.five_to_nine);
      }

  -- a lone unwrap is accepted, or its tag differs
  abbrev Either : Outcome DeckState → Type 0
  Either o = (o.number ≡ 0) ⊎ ((o.number ≡ 11) × (o.session ≡ session_at t g))

  unwrap-number : first ≡ 0 → Either (unwrap_at sanse incremental (session_at t g) i)
  unfolding unwrap_at
  unwrap-number e =
      subst (λ (n : ℕ). Either (if_no_check n (session_at t g) i (compare_tag sanse incremental (session_at t g) i (unwrap_steps sanse incremental (session_at t g) i)))) (sym e)
      (go (same_bytes i.tag (unwrap_steps sanse incremental (session_at t g) i).tag))
    where
      go : (u : Bool) → Either (cond u (accepted sanse incremental (session_at t g) i (unwrap_steps sanse incremental (session_at t g) i) i.tag)
          (wrong_tag sanse incremental (session_at t g) i))
      go true = inl refl
      go false = inr (refl, refl)

  unwrap-worked : Either (unwrap_at sanse incremental (session_at t g) i) → Worked (unwrap_at sanse incremental (session_at t g) i)
  unwrap-worked (inl z) = record { number = inl z; count = (any-unwrap sanse incremental (session_at t g) i).count z }
  unwrap-worked (inr z) =
      record { number = inr z; count = ap (λ (o : Outcome DeckState). o.count) ((any-unwrap sanse incremental (session_at t g) i).wrong-tag z.0) }

  pub unwrap-exactly : UnwrapGroupExactly allowance t g i
  unwrap-exactly =
      exactly (unwrap_at sanse incremental (session_at t g) i) (unwrap_from5 sanse incremental (session_at t g) i)
      (λ own. sym (fitted-unwrap sanse (session_at t g) i (own-fits g i own))) (λ e. unwrap-worked (unwrap-number e))

-- ---- a header of another group

-- it is not the call's own: no two groups have one header
another : (g other : ℕ) (i : CallInput) → HeaderOf letter_s other i → other ≢ g → Check1 g i
another g other i h n (ForGroup.without e) = let z : under _ ≡ bare = sym h.bytes ∙ e in let w : ◌≡◌ {A = ℕ} 0 1 = cc in omega arith
another g other i h n (ForGroup.its_own o) = n (sanse-strings.decides other g i i h o refl).0

pub wrong-group : WrongGroup
wrong-group allowance t g other i h n =
    let c = another g other i h n in
    (by_one (wrap-exactly allowance t g i).call c, by_one (unwrap-exactly allowance t g i) c)
  where
    by_one : {lone : Outcome DeckState} {o : TableOutcome} → CallExactly allowance t g i lone o → Check1 g i → o ≡ refused_by 1 t i
    by_one x c =
        let e = x.one.1 c in
        x.unaltered (λ z. omega (arith, z, e)) (λ z. omega (arith, z, e)) ∙ ap (λ (n : ℕ). refused_by n t i) e

-- ---- opening a group

module _ (allowance : ℕ) (t : Table) (g : ℕ) (key : List ℕ) where
  abbrev refused-open : ℕ → TableOpening
  refused-open n = record { number = n; count = 0; table = t }

  open_stays : (n : ℕ)
      → ◌≡◌ {A = TableOpening} (record { number = n; count = 0; table = set t g (record { session = session_at t g; count = (group_at t g).count + 0 }) }) (refused-open n)
  open_stays n = ap (λ (u : Table). record { number = n; count = 0; table = u }) (put_back t g)

  open-3 : Check3 t g → OpenExactly allowance t g key (refused-open 3)
  open-3 c =
      record {
        three = (λ _. c, λ _. refl);
        four = (λ e. absurd (omega (arith, e)), λ h. absurd (h.0 c));
        ten = (λ e. absurd (omega (arith, e)), λ h. absurd (h.0 c));
        accepted = λ n _ _ _. absurd (n c);
        unaltered = λ _. refl;
        others = λ k _. refl;
        size = refl;
      }

  outside : (16 ≤ length key) × (length key ≤ 47) → (length key < 16) ⊎ (47 < length key) → ⊥
  outside k (inl l) = omega (arith, k.0, l)
  outside k (inr l) = omega (arith, k.1, l)

  module _ (in3 : (length t ≡ 32) × (g ≤ 31)) where
    open-4 : (length key < 16) ⊎ (47 < length key) → OpenExactly allowance t g key (refused-open 4)
    open-4 w =
        record {
          three = (λ e. absurd (omega (arith, e)), λ c. absurd (apart t g in3 c));
          four = (λ _. (λ c. apart t g in3 c, w), λ _. refl);
          ten = (λ e. absurd (omega (arith, e)), λ h. absurd (outside h.1 w));
          accepted = λ _ l h _. absurd (outside (l, h) w);
          unaltered = λ _. refl;
          others = λ k _. refl;
          size = refl;
        }

    module _ (fits : (16 ≤ length key) × (length key ≤ 47)) where
      open-10 : Check10 allowance t g 1 → OpenExactly allowance t g key (refused-open 10)
      open-10 above =
          record {
            three = (λ e. absurd (omega (arith, e)), λ c. absurd (apart t g in3 c));
            four = (λ e. absurd (omega (arith, e)), λ h. absurd (outside fits h.1));
            ten = (λ _. (λ c. apart t g in3 c, fits, above), λ _. refl);
            accepted = λ _ _ _ n. absurd (n above);
            unaltered = λ _. refl;
            others = λ k _. refl;
            size = refl;
          }

      opened : (group_at t g).count + 1 ≤ allowance
          → OpenExactly allowance t g key (record { number = 0; count = 1; table = set t g (record { session = new_session key; count = (group_at t g).count + 1 }) })
      opened within =
          record {
            three = (λ e. absurd (omega (arith, e)), λ c. absurd (apart t g in3 c));
            four = (λ e. absurd (omega (arith, e)), λ h. absurd (outside fits h.1));
            ten = (λ e. absurd (omega (arith, e)), λ h. absurd (omega (arith, h.2, within)));
            accepted = λ _ _ _ _. refl;
            unaltered = λ n. absurd (n refl);
            others = λ k n. get_or-set_other t g k (record { session = new_session key; count = (group_at t g).count + 1 }) unopened n;
            size = length-set t g (record { session = new_session key; count = (group_at t g).count + 1 });
          }

  -- what opening gives by the outcome o of the checks and the start
  abbrev back : Opening → TableOpening
  back o = opened_back t g (charged_opening (group_at t g).count o)

  pub open-exactly : OpenExactly allowance t g key (open_group_at allowance t g key)
  unfolding open_group_at open_on_day start_at
  open-exactly = go3 (no_group_outcome (length t) g) (told3 t g)
    where
      go10 : (w : Bool) → Told (Check10 allowance t g 1) ((group_at t g).count + 1 ≤ allowance) w → (length t ≡ 32) × (g ≤ 31) → (16 ≤ length key) × (length key ≤ 47)
          → OpenExactly allowance t g key (back (opened_unless (cond w 10 0) (session_at t g) (record { number = 0; count = 1; session = new_session key })))
      go10 true (holds above) in3 fits = subst (OpenExactly allowance t g key) (sym (open_stays 10)) (open-10 in3 fits above)
      go10 false (fails within) in3 fits = opened in3 fits within

      go4 : (v : Bool) → Told ((16 ≤ length key) × (length key ≤ 47)) ((length key < 16) ⊎ (47 < length key)) v → (length t ≡ 32) × (g ≤ 31)
          → OpenExactly allowance t g key (back (opened_unless (cond (not v) 4 (cond (above_allowance allowance (group_at t g).count 1) 10 0)) (session_at t g)
          (cond v (record { number = 0; count = 1; session = new_session key }) (record { number = 4; count = 0; session = closed }))))
      go4 true (holds fits) in3 = go10 (above_allowance allowance (group_at t g).count 1) (told10 allowance t g 1) in3 fits
      go4 false (fails w) in3 = subst (OpenExactly allowance t g key) (sym (open_stays 4)) (open-4 in3 w)

      go3 : (u : Bool) → Told (Check3 t g) ((length t ≡ 32) × (g ≤ 31)) u
          → OpenExactly allowance t g key (cond u (record { number = 3; count = 0; table = t })
          (back (opened_unless (cond (not (key_fits key)) 4 (cond (above_allowance allowance (group_at t g).count 1) 10 0)) (session_at t g)
          (cond (key_fits key) (record { number = 0; count = 1; session = new_session key }) (record { number = 4; count = 0; session = closed })))))
      go3 true (holds c) = open-3 c
      go3 false (fails in3) = go4 (key_fits key) (told-key key) in3

-- ---- the claims leave nothing open: each is true of one outcome

pub day-decided : (allowance : ℕ) (t : Table) (o o' : DayStart) → DayExactly allowance t o → DayExactly allowance t o' → o ≡ o'
day-decided allowance t o o' x y =
    ap₂ (λ (a : ℕ) (u : Table). record { allowance = a; table = u }) (x.given ∙ sym y.given)
    (ext_get_or unopened o.table o'.table (x.size ∙ sym y.size)
    (λ k _. ap₂ (λ (s : SessionState DeckState) (c : ℕ). record { session = s; count = c }) (x.sessions k ∙ sym (y.sessions k)) (x.counts k ∙ sym (y.counts k))))

module _ (allowance : ℕ) (t : Table) (g : ℕ) (i : CallInput) (lone : Outcome DeckState) where
  abbrev Only : TableOutcome → Type 0
  Only w = (o : TableOutcome) → CallExactly allowance t g i lone o → o ≡ w

  stopped : (n : ℕ) → n ≢ 0 → n ≢ 11 → ((o : TableOutcome) → CallExactly allowance t g i lone o → o.number ≡ n) → Only (refused_by n t i)
  stopped n n0 n11 is o x =
      x.unaltered (λ z. n0 (sym (is o x) ∙ z)) (λ z. n11 (sym (is o x) ∙ z)) ∙ ap (λ (n : ℕ). refused_by n t i) (is o x)

  only : (w : TableOutcome) × Only w
  only = go (header_passes g i) (no_group_outcome (length t) g) (told1 g i) (told3 t g)
    where
      at10 : (u : Bool) → Told (Check10 allowance t g (count_of sanse incremental i)) ((group_at t g).count + count_of sanse incremental i ≤ allowance) u
          → ForGroup letter_s g i → (Check3 t g → ⊥) → check_number sanse incremental (session_at t g) i ≡ 0 → (w : TableOutcome) × Only w
      at10 true (holds above) own in3 e =
          (refused_by 10 t i, stopped 10 (λ z. omega (arith, z)) (λ z. omega (arith, z)) (λ o x. x.ten.1 (own, in3, e, above)))
      at10 false (fails within) own in3 e = (
        written_back t g (charged (group_at t g).count lone),
        λ o x. x.worked (record { one = own; three = in3; five_to_nine = e; ten = λ above. omega (arith, above, within) }),
      )

      at5 : (n : ℕ) → check_number sanse incremental (session_at t g) i ≡ n → (n ≡ 0) ⊎ ((5 ≤ n) × (n ≤ 9)) → ForGroup letter_s g i → (Check3 t g → ⊥)
          → (w : TableOutcome) × Only w
      at5 zero e z own in3 = at10 (above_allowance allowance (group_at t g).count (count_of sanse incremental i)) (told10 allowance t g (count_of sanse incremental i)) own in3 e
      at5 (suc n) e (inl z) own in3 = absurd (omega (arith, z))
      at5 (suc n) e (inr z) own in3 = (
        refused_by (suc n) t i,
        stopped (suc n) (λ q. omega (arith, q)) (λ q. omega (arith, q, z.1)) (λ o x. x.five_to_nine own in3 (λ q. omega (arith, q, e)) ∙ e),
      )

      go : (u v : Bool) → Told (ForGroup letter_s g i) (Check1 g i) u → Told (Check3 t g) ((length t ≡ 32) × (g ≤ 31)) v → (w : TableOutcome) × Only w
      go false v (fails c) w = (refused_by 1 t i, stopped 1 (λ z. omega (arith, z)) (λ z. omega (arith, z)) (λ o x. x.one.1 c))
      go true true (holds own) (holds c) = (refused_by 3 t i, stopped 3 (λ z. omega (arith, z)) (λ z. omega (arith, z)) (λ o x. x.three.1 (own, c)))
      go true false (holds own) (fails in3) =
          at5 (check_number sanse incremental (session_at t g) i) refl (own_range g (session_at t g) i own) own (apart t g in3)

  pub call-decided : (o o' : TableOutcome) → CallExactly allowance t g i lone o → CallExactly allowance t g i lone o' → o ≡ o'
  call-decided o o' x y = only.1 o x ∙ sym (only.1 o' y)

module _ (allowance : ℕ) (t : Table) (g : ℕ) (key : List ℕ) where
  abbrev OnlyOpen : TableOpening → Type 0
  OnlyOpen w = (o : TableOpening) → OpenExactly allowance t g key o → o ≡ w

  refused-only : (n : ℕ) → n ≢ 0 → ((o : TableOpening) → OpenExactly allowance t g key o → o.number ≡ n) → OnlyOpen (refused-open allowance t g key n)
  refused-only n n0 is o x = x.unaltered (λ z. n0 (sym (is o x) ∙ z)) ∙ ap (refused-open allowance t g key) (is o x)

  only-open : (w : TableOpening) × OnlyOpen w
  only-open = go (no_group_outcome (length t) g) (told3 t g)
    where
      at10 : (u : Bool) → Told (Check10 allowance t g 1) ((group_at t g).count + 1 ≤ allowance) u → (Check3 t g → ⊥) → (16 ≤ length key) × (length key ≤ 47) → (w : TableOpening) × OnlyOpen w
      at10 true (holds above) in3 k = (refused-open allowance t g key 10, refused-only 10 (λ z. omega (arith, z)) (λ o x. x.ten.1 (in3, k, above)))
      at10 false (fails within) in3 k = (
        record { number = 0; count = 1; table = set t g (record { session = new_session key; count = (group_at t g).count + 1 }) },
        λ o x. x.accepted in3 k.0 k.1 (λ above. omega (arith, above, within)),
      )

      at4 : (u : Bool) → Told ((16 ≤ length key) × (length key ≤ 47)) ((length key < 16) ⊎ (47 < length key)) u → (Check3 t g → ⊥) → (w : TableOpening) × OnlyOpen w
      at4 true (holds k) in3 = at10 (above_allowance allowance (group_at t g).count 1) (told10 allowance t g 1) in3 k
      at4 false (fails k) in3 = (refused-open allowance t g key 4, refused-only 4 (λ z. omega (arith, z)) (λ o x. x.four.1 (in3, k)))

      go : (u : Bool) → Told (Check3 t g) ((length t ≡ 32) × (g ≤ 31)) u → (w : TableOpening) × OnlyOpen w
      go true (holds c) = (refused-open allowance t g key 3, refused-only 3 (λ z. omega (arith, z)) (λ o x. x.three.1 c))
      go false (fails in3) = at4 (key_fits key) (told-key key) (apart t g in3)

  pub open-decided : (o o' : TableOpening) → OpenExactly allowance t g key o → OpenExactly allowance t g key o' → o ≡ o'
  open-decided o o' x y = only-open.1 o x ∙ sym (only-open.1 o' y)
