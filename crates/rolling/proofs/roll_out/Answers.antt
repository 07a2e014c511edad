-- `rolling::roll_out` meets its contract. Assumes nothing.
use mathlib.Core.Path.{◌∙◌}
use Prim.Native.Nat.{◌<◌, ◌^◌}
use lib.Dec.{lit<}
use borrow.Author.Rules.{rules}
use Rattle.word.proofs.Bit.{is-own, is-xor, is-and, is_eq}
use Rattle.word.proofs.Lists.{Words}
use Rattle.state.proofs.Lanes.{fits-of}
use Rattle.rolling.specs.Rolling.{roll_out}
use Rattle.rolling.proofs.Moves.{moved}
use Rattle.rolling.proofs.roll_out.Goals as goal

pub returns : goal.returns
unfolding roll_out
returns c =
    let a = c.args.a in
    let w : Words 32 a = λ i. fits-of (search rules) in
    let seven : 7 < 2 ^ 32 = lit< tt in
    c.move_lanes.ensures ∙ moved a (is-xor (is-xor (is-xor (is-and (is-own (w 4)) (is-own (w 8))) (is_eq c.rotl.ensures)) (is_eq c.rotl-2.ensures)) (is-own seven))
