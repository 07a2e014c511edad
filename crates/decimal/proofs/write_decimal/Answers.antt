-- `decimal::write_decimal` meets its contract. Assumes nothing.
use Prim.Native.Nat.{ℕ, ◌≤◌, ◌+◌, ◌-◌, ◌/◌, ◌%◌}
use mathlib.Core.Path.{◌≡◌, sym, ap, ◌∙◌}
use mathlib.Core.List.{List, [], ◌∷◌, ◌++◌, append_assoc, append-nil}
use native.Mathlib.Omega.{arith}
use lib.ListN.{length, set, length-append}
use Rattle.decimal.specs.Decimal.{digit_char}
use Rattle.decimal.specs.Buffer.{written_at}
use Rattle.decimal.proofs.Laws.{digits, digits-none, digits-more, length-digits, digits-all}
use Rattle.decimal.proofs.Buffers.{written_at-none, written_at-before}
use Rattle.decimal.proofs.write_decimal.Goals as goal

-- what a turn leaves: one digit more stands in front of those written
turn : (v at i j d : ℕ) (all buffer out tail : List ℕ) → i ≡ j + 1 → at ≤ j → digits (i - at) v ++ tail ≡ all → out ≡ written_at buffer i tail
    → at + length all ≤ length buffer → d ≡ digit_char (v % 10)
    → (digits (j - at) (v / 10) ++ (d ∷ tail) ≡ all) × (set out j d ≡ written_at buffer j (d ∷ tail))
turn v at i j d all buffer out tail next from spelled content room is =
    let whole : i - at + length tail ≡ length all = omega (arith, length-digits (i - at) v, length-append (digits (i - at) v) tail, ap length spelled) in (
      sym (append_assoc (digits (j - at) (v / 10)) (d ∷ []) tail)
          ∙ ap (λ (x : ℕ). (digits (j - at) (v / 10) ++ (x ∷ [])) ++ tail) is
          ∙ ap (λ (l : List ℕ). l ++ tail) (sym (digits-more (i - at) (j - at) v (omega arith)))
          ∙ spelled,
      ap (λ (l : List ℕ). set l j d) (content ∙ ap (λ (k : ℕ). written_at buffer k tail) next) ∙ written_at-before buffer j d tail (omega arith),
    )

-- what the last turn leaves
last : (v at i : ℕ) (all buffer out tail : List ℕ) → i ≡ at → digits (i - at) v ++ tail ≡ all → out ≡ written_at buffer i tail → out ≡ written_at buffer at all
last v at i all buffer out tail none spelled content =
    let whole : tail ≡ all = ap (λ (l : List ℕ). l ++ tail) (sym (digits-none (i - at) v (omega arith))) ∙ spelled in
    content ∙ ap (λ (k : ℕ). written_at buffer k tail) none ∙ ap (written_at buffer at) whole

pub loop-i-init : goal.loop-i-init
loop-i-init c =
    let e = c.decimal_len.ensures in
    (omega arith, [], append-nil _ ∙ ap (λ (k : ℕ). digits k c.args.n) (omega (arith, e)) ∙ digits-all c.args.n, sym (written_at-none _ _))

pub loop-i-preserved : goal.loop-i-preserved
loop-i-preserved c =
    let inv = c.loop-i.invariant in
    let d : c.digit_char.result ≡ digit_char (c.loop-i.v % 10) = grind (arith, c.digit_char.ensures) in
    let t = turn c.loop-i.v c.args.at c.loop-i.i _ _ _ _ _ inv.1 (omega arith) (omega arith) inv.2 inv.3 c.requires d in
    (omega arith, c.digit_char.result ∷ inv.1, t.0, t.1)

pub returns : goal.returns
returns c =
    let inv = c.loop-i.invariant in
    (omega arith, last c.loop-i.v c.args.at c.loop-i.i _ _ _ inv.1 (omega arith) inv.2 inv.3)
