-- `state::to_bytes` meets its contract. Assumes nothing.
use mathlib.Core.Path.{◌∙◌}
use Rattle.word.proofs.Lists.{zeros-sum}
use Rattle.state.specs.Bytes.{state_byte}
use Rattle.state.proofs.to_bytes.Goals as goal

pub returns : goal.returns
returns c = c.add_bytes.ensures ∙ zeros-sum 48 (state_byte c.args.s.now)
