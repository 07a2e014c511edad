-- What `write_code` and `code_of` compute is what the definition says, over plain values, so that a function's proof only hands its facts over.
-- Assumes nothing.
use mathlib.Core.List.{List, [], ◌++◌}
use mathlib.Core.Path.{◌≡◌, refl, sym, ap, ap₂, ◌∙◌}
use Prim.Native.Nat.{ℕ, zero, suc, ◌+◌, ◌*◌, ◌≤◌, ◌<◌}
use native.Mathlib.Omega.{arith}
use lib.ListN.{length, drop}
use Rattle.word.proofs.Lists.{tabulate-length}
use Rattle.refusals.specs.declared.Refusal.{Refusal}
use Rattle.refusals.specs.Numbers.{number_of}
use Rattle.refusals.proofs.Numbers.{number-positive}
use Rattle.deck.specs.Deck.{run}
use Rattle.deck.specs.Incremental.{output}
use Rattle.modes.specs.Mode.{incremental}
use Rattle.modes.specs.Rules.{written}
use Rattle.modes.specs.Codes.{CodeOutcome, code_check, code_given, unless_check, code_at}
use Rattle.modes.proofs.Codes.{code-counts, any_code}
use Rattle.steps.specs.Steps.{output_count}
use Rattle.sanse.specs.declared.Session.{Session}
use Rattle.sanse.specs.Session.{state_of}
use Rattle.codes.specs.Code.{code_result}

-- ---- its count

-- what the leaf counts for it
pub counts-two : (packet : ℕ) → output_count (32 + 8 * packet) 8 ≡ 2
counts-two packet = omega (arith, code-counts (λ i. i) packet [])

-- ---- what is given

module _ (s : Session) (packet : ℕ) (out : List ℕ) where
  abbrev check : ℕ
  check = code_check s.opened s.history.index packet (length out)

  abbrev done : CodeOutcome
  done = code_given (output (state_of s).history) packet out

  -- where no check is met, packet and buffer are within their limits
  pub passed : 0 ≡ check → (packet ≤ 2047) × (8 ≤ length out)
  unfolding code_at
  passed e = let w = (any_code incremental (state_of s) packet out).given.0 (ap (λ (n : ℕ). (unless_check n out done).number) (sym e)) in (w.2, w.3)

  pub refused : (e : Refusal) → number_of e ≡ check → code_result (record { number = number_of e; count = 0 }) out ≡ code_at incremental (state_of s) packet out
  unfolding code_at
  refused e h = go (number_of e) (number-positive e) ∙ ap (λ (n : ℕ). unless_check n out done) h
    where
      go : (n : ℕ) → 0 < n → code_result (record { number = n; count = 0 }) out ≡ unless_check n out done
      go zero z = absurd (omega (arith, z))
      go (suc n) z = refl

  pub given : (out' : List ℕ) (count : ℕ) → 0 ≡ check → out' ≡ written (run (output (state_of s).history) (32 + 8 * packet) 8) out → count ≡ 2
      → code_result (record { number = 0; count = count }) out' ≡ code_at incremental (state_of s) packet out
  unfolding code_at
  given out' count e g h =
      ap₂ (λ (c : ℕ) (o : List ℕ). code_result (record { number = 0; count = c }) o) h (g ∙ ap (λ (n : ℕ). bytes ++ drop n out) (tabulate-length 8 _))
      ∙ ap (λ (n : ℕ). unless_check n out done) e
    where
      bytes : List ℕ
      bytes = run (output (state_of s).history) (32 + 8 * packet) 8
