-- Demand 1 of the rules' wrap and unwrap, of any session in any mode. Assumes nothing.
use mathlib.Core.Bool.{Bool, true, false, cond, true≢false}
use mathlib.Core.List.{List, ◌++◌}
use mathlib.Core.Logic.{◌≢◌}
use mathlib.Core.Path.{◌≡◌, refl, sym, ap, ap₂, ◌∙◌}
use Prim.Native.Nat.{ℕ, zero, suc, ◌+◌}
use native.Mathlib.Omega.{arith}
use lib.ListN.{length, drop, replicate, length-replicate}
use Rattle.modes.specs.Call.{CallInput}
use Rattle.modes.specs.Header.{FollowsLayout, header_fits}
use Rattle.modes.specs.Mode.{HistoryRep, Mode}
use Rattle.modes.specs.Rules.{SessionState, Outcome, metadata_string, same_bytes, first_check_of, if_no_check, check_from5, check_number, wrap_steps, unwrap_steps, accepted, wrong_tag, compare_tag, wrap_at, unwrap_at}
use Rattle.modes.specs.Ledger.{equal_tags}
use Rattle.modes.specs.AnySession.{NotOpen, index_after, unaltered, AnyWrap, AnyUnwrap}
use Rattle.modes.proofs.Entries.{equal_tags-is, equal_tags-refl, equal_tags-true, equal_tags-false}
use Rattle.modes.proofs.Header.{fits-follows, fits_not}
use Rattle.modes.proofs.Exactly.{First, or_else, first-check, met-none, by_first, by-tag}

module _ (m : Mode) {S : Type 0} (d : HistoryRep S) (s : SessionState S) (i : CallInput) where
  abbrev letter : ℕ
  letter = m.parameters.letter

  -- the first check, by whether the header fits and whether the session is open
  abbrev check_if : (fits opened : Bool) → ℕ
  check_if f q =
      cond f (first_check_of q (index_after m d s i) m.parameters.tag_length (length i.metadata) (length i.text) (length i.tag) (length i.out)) 1

  check-first : First letter (NotOpen m d s i) m.parameters.tag_length (index_after m d s i) i (check_number m d s i)
  unfolding check_number check_from5
  check-first = go (header_fits letter i.header (length i.metadata) (length i.text)) refl
    where
      opened : s.opened ≡ true → NotOpen m d s i → ⊥
      opened h g = true≢false (sym h ∙ g)

      go : (f : Bool) → header_fits letter i.header (length i.metadata) (length i.text) ≡ f
          → First letter (NotOpen m d s i) m.parameters.tag_length (index_after m d s i) i (check_if f s.opened)
      go true e = first-check letter (NotOpen m d s i) m.parameters.tag_length (index_after m d s i) i ((fits-follows letter i).0 e) s.opened (λ h. h) opened
      go false e = First.is1 ((fits_not letter i).0 e)

  pub any-wrap : AnyWrap m d s i (wrap_at m d s i)
  unfolding wrap_at check_number check_from5
  any-wrap =
      let z =
      by_first letter (NotOpen m d s i) m.parameters.tag_length (index_after m d s i) i (check_number m d s i) (wrap_at m d s i).number check-first
      (number (check_number m d s i)) in
      record {
        numbers = z.0;
        accepted = z.1;
        count = count (check_number m d s i);
        refused = refused (check_number m d s i);
        bad-header = λ h. ap (λ (f : Bool). if_no_check (check_if f s.opened) s i done) ((fits_not letter i).1 h);
        not-open = λ h f. ap₂ (λ (f q : Bool). if_no_check (check_if f q) s i done) ((fits-follows letter i).1 f) h;
      }
    where
      done : Outcome S
      done = accepted m d s i (wrap_steps m d s i) (wrap_steps m d s i).tag

      number : (k : ℕ) → (if_no_check k s i done).number ≡ or_else k 0
      number zero = refl
      number (suc k) = refl

      count : (k : ℕ) → (if_no_check k s i done).number ≡ 0 → (if_no_check k s i done).count ≡ done.count
      count zero h = refl
      count (suc k) h = absurd (omega arith)

      refused : (k : ℕ) → (if_no_check k s i done).number ≢ 0 → if_no_check k s i done ≡ unaltered m d s i (if_no_check k s i done).number
      refused zero h = absurd (h refl)
      refused (suc k) h = refl

  pub any-unwrap : AnyUnwrap m d s i (unwrap_at m d s i)
  unfolding unwrap_at check_number check_from5
  any-unwrap =
      let z =
      by-tag letter (NotOpen m d s i) m.parameters.tag_length (index_after m d s i) i found (check_number m d s i) (unwrap_at m d s i).number same check-first
      (λ h. equal_tags-true i.tag found (sym (equal_tags-is i.tag found) ∙ h)) differ (number (check_number m d s i) same) in
      record {
        numbers = z.0;
        eleven = z.1;
        accepted = z.2;
        count = count (check_number m d s i) same;
        refused = refused (check_number m d s i) same;
        wrong-tag = λ h.
            let w = z.1.0 h in
            wrong (met-none letter (NotOpen m d s i) m.parameters.tag_length (index_after m d s i) i (check_number m d s i) check-first w.0)
            (equal_tags-is i.tag found ∙ equal_tags-false i.tag found w.1);
        bad-header = λ h. ap (λ (f : Bool). if_no_check (check_if f s.opened) s i (last same)) ((fits_not letter i).1 h);
        not-open = λ h f. ap₂ (λ (f q : Bool). if_no_check (check_if f q) s i (last same)) ((fits-follows letter i).1 f) h;
        tag = tag (check_number m d s i) same;
      }
    where
      found : List ℕ
      found = (unwrap_steps m d s i).tag

      same : Bool
      same = same_bytes i.tag found

      differ : same ≡ false → i.tag ≢ found
      differ e h = true≢false (sym (equal_tags-refl i.tag) ∙ ap (equal_tags i.tag) h ∙ sym (equal_tags-is i.tag found) ∙ e)

      last : Bool → Outcome S
      last q = cond q (accepted m d s i (unwrap_steps m d s i) i.tag) (wrong_tag m d s i)

      number : (k : ℕ) (q : Bool) → (if_no_check k s i (last q)).number ≡ or_else k (cond q 0 11)
      number zero true = refl
      number zero false = refl
      number (suc k) q = refl

      count : (k : ℕ) (q : Bool) → (if_no_check k s i (last q)).number ≡ 0 → (if_no_check k s i (last q)).count ≡ m.parameters.count (length (metadata_string i)) (length i.text)
      count zero true h = refl
      count zero false h = absurd (omega arith)
      count (suc k) q h = absurd (omega arith)

      refused : (k : ℕ) (q : Bool) → (if_no_check k s i (last q)).number ≢ 0 → (if_no_check k s i (last q)).number ≢ 11
          → if_no_check k s i (last q) ≡ unaltered m d s i (if_no_check k s i (last q)).number
      refused zero true h g = absurd (h refl)
      refused zero false h g = absurd (g refl)
      refused (suc k) q h g = refl

      tag : (k : ℕ) (q : Bool) → (if_no_check k s i (last q)).tag ≡ i.tag
      tag zero true = refl
      tag zero false = refl
      tag (suc k) q = refl

      -- where the tags differ and no check before 11 is met
      wrong : check_number m d s i ≡ 0 → same ≡ false
          → unwrap_at m d s i
          ≡ record {
            number = 11;
            count = m.parameters.count (length (metadata_string i)) (length i.text);
            session = s;
            out = replicate (length i.text) 0 ++ drop (length i.text) i.out;
            tag = i.tag;
          }
      wrong k q =
          ap₂ (λ (k : ℕ) (q : Bool). if_no_check k s i (last q)) k q
          ∙ ap (λ (n : ℕ). record {
            number = 11;
            count = m.parameters.count (length (metadata_string i)) (length i.text);
            session = s;
            out = replicate (length i.text) 0 ++ drop n i.out;
            tag = i.tag;
          })
          (length-replicate {A = ℕ} (length i.text) 0)
