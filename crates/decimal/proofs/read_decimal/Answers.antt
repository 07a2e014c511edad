-- `decimal::read_decimal` meets its contract. Assumes nothing.
use mathlib.Core.Path.{sym, ◌∙◌}
use native.Mathlib.Omega.{arith}
use Rattle.std.proofs.lemmas.Grind.{common_steps}
use Rattle.decimal.proofs.Steps.{first_out, first_read, more-out, more-ends, more-read}
use Rattle.decimal.proofs.read_decimal.Goals as goal

pub returns-in_err-first : goal.returns-in_err-first
returns-in_err-first c = grind (arith, common_steps, first_out)

pub returns-in_err-digit_of : goal.returns-in_err-digit_of
returns-in_err-digit_of c = grind (arith, common_steps, first_read)

pub returns-in_err-value : goal.returns-in_err-value
returns-in_err-value c = grind (arith, common_steps, first_read)

pub loop-i-init : goal.loop-i-init
loop-i-init c = grind (arith, common_steps, first_read)

pub returns-then-s-i : goal.returns-then-s-i
returns-then-s-i c = sym (more-ends _ _ _ _ _ c.loop-i-test.true c.if-s-i.true) ∙ c.loop-i.invariant

pub returns-in_err-value-2 : goal.returns-in_err-value-2
returns-in_err-value-2 c =
    let e = more-read c.args.max c.args.end c.args.s.now c.loop-i.value c.loop-i.i c.loop-i-test.true c.if-s-i.false in
    grind (arith, common_steps)

pub loop-i-preserved : goal.loop-i-preserved
loop-i-preserved c =
    let e = more-read c.args.max c.args.end c.args.s.now c.loop-i.value c.loop-i.i c.loop-i-test.true c.if-s-i.false in
    grind (arith, common_steps)

pub returns : goal.returns
returns c = sym (more-out _ _ _ _ _ c.loop-i-test.false) ∙ c.loop-i.invariant
