-- `issue_line::read_day` meets its contract. Assumes nothing.
use Rattle.std.proofs.Common.{◌≡◌, ◌<◌, length, arith, sym, ◌∙◌}
use Rattle.std.proofs.lemmas.Grind.{common_steps}
use Rattle.decimal.proofs.Laws.{digit-forth}
use Rattle.issue_line.proofs.Steps.{day-short, day-more, day-end, day-start, pow_small, pow-next}
use Rattle.issue_line.proofs.read_day.Goals as goal

pub returns-in_err-field : goal.returns-in_err-field
returns-in_err-field c = grind (arith, common_steps, day-short)

pub returns-in_err-b-items : goal.returns-in_err-b-items
returns-in_err-b-items c = grind (arith, common_steps, day-short)

pub loop-b-init : goal.loop-b-init
loop-b-init c = let e = day-start c.args.s.now c.args.at in grind (arith, common_steps)

pub overflow_mul-value : goal.overflow_mul-value
overflow_mul-value c = let k = pow_small c.loop-b.b-index in grind (arith, common_steps)

pub returns-in_err-value : goal.returns-in_err-value
returns-in_err-value c = let e = day-more c.in_ok-field.field.now c.args.at c.loop-b.value c.loop-b.b-index in grind (arith, common_steps)

pub overflow_add-value : goal.overflow_add-value
overflow_add-value c =
    let k = pow_small c.loop-b.b-index in
    let d = (digit-forth _ _ (sym c.in_ok-value.ensures)).0 in
    grind (arith, common_steps)

pub loop-b-preserved : goal.loop-b-preserved
loop-b-preserved c =
    let e = day-more c.in_ok-field.field.now c.args.at c.loop-b.value c.loop-b.b-index in
    let d = (digit-forth _ _ (sym c.in_ok-value.ensures)).0 in
    (omega (arith, pow-next c.loop-b.b-index), grind (arith, common_steps))

pub returns-in_err-end : goal.returns-in_err-end
returns-in_err-end c = grind (arith, common_steps, day-short)

pub returns : goal.returns
returns c =
    let eight : c.loop-b.b-index ≡ 8 = grind (arith, common_steps) in
    let inside : 8 < length c.in_ok-field.field.now = grind (arith, common_steps) in
    c.then_some.ensures ∙ day-end c.in_ok-field.field.now _ _ _ eight inside _ (c.in_ok-end.ensures.lookup.3.1 0) ∙ c.loop-b.invariant.1
