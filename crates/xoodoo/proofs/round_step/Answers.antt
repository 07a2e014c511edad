-- `xoodoo::round_step` meets its contract. Assumes nothing.
use Rattle.xoodoo.proofs.Steps.{round-steps}
use Rattle.xoodoo.proofs.round_step.Goals as goal

pub returns : goal.returns
returns c = cc (round-steps c.args.c c.args.a)
