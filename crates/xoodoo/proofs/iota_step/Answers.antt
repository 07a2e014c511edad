-- `xoodoo::iota_step` meets its contract. Assumes nothing.
use borrow.Author.Rules.{rules}
use Rattle.state.proofs.Lanes.{fits-of}
use Rattle.xoodoo.proofs.Steps.{iota-law}
use Rattle.xoodoo.proofs.iota_step.Goals as goal

pub returns : goal.returns
returns c = iota-law c.args.c c.args.a c.ranges.c.fits (λ i. fits-of (search rules)) (search rules)
