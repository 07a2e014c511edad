-- `state::lane_at` meets its contract. Assumes nothing.
use Rattle.std.proofs.Common.{rules}
use Rattle.state.proofs.Bytes.{lane-of-four}
use Rattle.state.proofs.lane_at.Goals as goal

pub returns : goal.returns
returns c = lane-of-four c.args.s.now c.args.at (search rules) (search rules) (search rules) (search rules) (search rules)
