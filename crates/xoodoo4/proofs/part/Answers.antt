-- `xoodoo4::part` meets its contract. Assumes nothing.
use Rattle.std.proofs.Common.{rules}
use Rattle.word.proofs.Lists.{made}
use Rattle.xoodoo4.specs.Four.{part}
use Rattle.xoodoo4.proofs.part.Goals as goal

pub returns : goal.returns
unfolding part
returns c = made c.from_fn.ensures.items _ (search rules)
