-- A rotation to the left is std's, which is by shifts and or.
use Rattle.std.proofs.Common.{rules, arith}
use Rattle.word.proofs.Bit.{rotated}
use Rattle.word.proofs.rotl.Goals as goal

pub returns : goal.returns
returns c = rotated c.args.x c.args.v (omega arith) (omega arith) c.ranges.x.fits (search rules)
