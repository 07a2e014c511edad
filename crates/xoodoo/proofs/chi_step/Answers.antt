-- `xoodoo::chi_step` meets its contract. Assumes nothing.
use Rattle.std.proofs.Common.{◌∙◌, rules}
use Rattle.word.proofs.Lists.{made}
use Rattle.state.proofs.Lanes.{fits-of}
use Rattle.xoodoo.proofs.Steps.{chi-lanes}
use Rattle.xoodoo.proofs.chi_step.Goals as goal

pub returns : goal.returns
returns c = made c.from_fn.ensures.items _ (search rules) ∙ chi-lanes c.args.a (λ i. fits-of (search rules))
