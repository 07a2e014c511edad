-- `xoodoo::theta_step` meets its contract. Assumes nothing.
use Rattle.std.proofs.Common.{◌∙◌, rules}
use Rattle.word.proofs.Lists.{made}
use Rattle.state.proofs.Lanes.{fits-of}
use Rattle.xoodoo.proofs.Steps.{theta-lanes}
use Rattle.xoodoo.proofs.theta_step.Goals as goal

pub returns : goal.returns
returns c =
    made c.from_fn.ensures.items _ (search rules)
    ∙ theta-lanes c.args.a c.from_fn-p.result c.from_fn-e.result (λ i. fits-of (search rules)) (made c.from_fn-p.ensures.items _ (search rules)) (made c.from_fn-e.ensures.items _ (search rules))
