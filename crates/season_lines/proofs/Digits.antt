-- A line's day is written as year, month and date. Assumes nothing.
use Prim.Native.Nat.{ℕ}
use mathlib.Core.Path.{◌≡◌, refl, ap₂}
use mathlib.Core.List.{List, ◌∷◌}
use native.Mathlib.Omega.{arith}
use Rattle.decimal.specs.Decimal.{digit_char}
use Rattle.issue_line.specs.Layout.{last_digits}
use Rattle.season_lines.specs.Lines.{EightDigits}

-- two lists whose first digits, and whose others, are the same
same : {a b : ℕ} {l m : List ℕ} → a ≡ b → l ≡ m → digit_char a ∷ l ≡ digit_char b ∷ m
same e f = ap₂ (λ (x : ℕ) (y : List ℕ). digit_char x ∷ y) e f

pub eight-digits : (day : ℕ) → EightDigits day
unfolding last_digits
eight-digits day =
    same (omega arith) (same (omega arith) (same (omega arith) (same (omega arith) (same (omega arith) (same (omega arith) (same (omega arith) (same (omega arith) refl)))))))
