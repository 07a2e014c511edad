-- `steps::index_growth` meets its contract. Assumes nothing.
use Rattle.steps.proofs.History.{growth-bare, growth-text, growth-both}
use Rattle.steps.proofs.index_growth.Goals as goal

pub returns-then-mlen-eq0 : goal.returns-then-mlen-eq0
returns-then-mlen-eq0 c = growth-bare _ _ c.if-mlen-eq0.true

pub returns-then-alen-eq0 : goal.returns-then-alen-eq0
returns-then-alen-eq0 c = growth-text _ _ c.if-mlen-eq0.false c.if-alen-eq0.true

pub returns-else-alen-eq0 : goal.returns-else-alen-eq0
returns-else-alen-eq0 c = growth-both _ _ c.if-mlen-eq0.false c.if-alen-eq0.false
