-- The first permitted day of a line: there is one answer, and it is the one for the line's size and day. Assumes nothing.
use Prim.Native.Nat.{ℕ}
use mathlib.Core.Path.{◌≡◌, refl, sym, ap, ◌∙◌, subst}
use mathlib.Core.Bool.{true, false}
use mathlib.Core.List.{List}
use native.Mathlib.Omega.{arith}
use Rattle.std.specs.Prelude.{Option, None, Result, Err}
use Rattle.refusals.specs.declared.Refusal.{Refusal}
use Rattle.refusals.specs.declared.Refusal.TheVariants.{BadLine}
use Rattle.issue_line.specs.declared.Line.{Line as LineFields}
use Rattle.issue_line.specs.Read.{Line, found_line}
use Rattle.issue_line.specs.Layout.{IsLine}
use Rattle.issue_line.specs.Read.{read_line, a_line}
use Rattle.issue_line.proofs.Reading.{line-sound, line-complete, line_refused}
use Rattle.seasons.specs.declared.Windows.{Windows}
use Rattle.seasons.specs.declared.First.{First}
use Rattle.seasons.specs.Seasons.{window_of}
use Rattle.seasons.specs.FirstDay.{first_of, refused_by, FirstDay, refused, found, none}
use Rattle.seasons.proofs.Right.{first-exactly}
use Rattle.season_lines.specs.Lines.{NoLine}
use Rattle.season_lines.specs.FirstDay.{LineFirst, no_line, of-line, LineFirstExactly}

-- the answers of the code: no line was read, or the line l
module _ (ws : Windows) (bytes : List ℕ) where
  pub answer-13 : (r : Result (Option ℕ) Refusal) (o : Option LineFields) → o ≡ None → found_line o ≡ read_line bytes → r ≡ Err BadLine
      → LineFirst ws bytes (first_of r)
  answer-13 r o nothing is e =
      let f : (read_line bytes).found ≡ false = ap (λ (x : Line). x.found) (sym is) ∙ ap (λ (x : Option LineFields). (found_line x).found) nothing in
      subst (λ (x : Result (Option ℕ) Refusal). LineFirst ws bytes (first_of x)) (sym e) (no_line ((line_refused bytes).0 f))

  pub answer-line : (l : Line) → l ≡ read_line bytes → (r : First) → l.found ≡ true → FirstDay (window_of ws l.size) l.day r → LineFirst ws bytes r
  answer-line l is r e f =
      of-line _ _ _ _ _ (line-sound bytes (ap (λ (x : Line). x.found) (sym is) ∙ e)) (subst (λ (x : Line). FirstDay (window_of ws x.size) x.day r) is f)

-- the answer for a size and a day is not 13
not-13 : {w : _} {day : ℕ} {r : First} → FirstDay w day r → r ≡ refused_by 13 → ⊥
not-13 (refused h) e = omega (arith, ap (λ (x : First). x.number) e)
not-13 (found d n g) e = omega (arith, ap (λ (x : First). x.number) e)
not-13 (none n g) e = omega (arith, ap (λ (x : First). x.number) e)

module _ (ws : Windows) (bytes : List ℕ) where
  -- the answer for a line goes by its own size and day
  pub its_own : (group size first last day : ℕ) {r : First} → IsLine bytes group size first last day → LineFirst ws bytes r → FirstDay (window_of ws size) day r
  its_own group size first last day is (no_line never) = absurd (never group size first last day is)
  its_own group size first last day {r} is (of-line g s f l d there first-day) =
      let same : a_line g s f l d ≡ a_line group size first last day = sym (line-complete bytes g s f l d there) ∙ line-complete bytes group size first last day is in
      subst (λ (x : Line). FirstDay (window_of ws x.size) x.day r) same first-day

  one_answer : {r s : First} → LineFirst ws bytes r → LineFirst ws bytes s → r ≡ s
  one_answer (no_line never) (no_line again) = refl
  one_answer (no_line never) (of-line g s f l d there a) = absurd (never g s f l d there)
  one_answer (of-line g s f l d there a) other = (first-exactly (window_of ws s) d _ a).only _ (its_own g s f l d there other)

  -- All that is claimed of an answer.
  pub line-first-exactly : (r : First) → LineFirst ws bytes r → LineFirstExactly ws bytes r
  line-first-exactly r answer =
      record {
        thirteen = ((λ e. is-13 answer e), (λ never. one_answer answer (no_line never)));
        is_a_line = λ group size first last day is. first-exactly (window_of ws size) day r (its_own group size first last day is answer);
        only = λ s other. one_answer answer other;
      }
    where
      is-13 : {s : First} → LineFirst ws bytes s → s ≡ refused_by 13 → NoLine bytes
      is-13 (no_line never) e = never
      is-13 (of-line g s f l d there a) e = absurd (not-13 a e)
