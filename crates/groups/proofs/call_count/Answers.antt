-- `groups::call_count` meets its contract. Assumes nothing.
use native.Mathlib.Omega.{arith}
use Rattle.groups.proofs.Laws.{count-bare, count-text, count-both}
use Rattle.groups.proofs.call_count.Goals as goal

pub returns-then-m-eq0 : goal.returns-then-m-eq0
returns-then-m-eq0 c = (count-bare _ _ c.if-m-eq0.true, omega arith)

pub returns-then-a-eq0 : goal.returns-then-a-eq0
returns-then-a-eq0 c = (count-text _ _ c.if-m-eq0.false c.if-a-eq0.true, omega arith)

pub returns-else-a-eq0 : goal.returns-else-a-eq0
returns-else-a-eq0 c = (count-both _ _ c.if-m-eq0.false c.if-a-eq0.false, omega arith)
