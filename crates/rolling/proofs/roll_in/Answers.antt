-- `rolling::roll_in` meets its contract. Assumes nothing.
use mathlib.Core.Path.{◌∙◌}
use borrow.Author.Rules.{rules}
use Rattle.word.proofs.Bit.{is-own, is-xor, is_eq, is-shl}
use Rattle.word.proofs.Lists.{Words}
use Rattle.state.proofs.Lanes.{fits-of}
use Rattle.rolling.specs.Rolling.{roll_in}
use Rattle.rolling.proofs.Moves.{moved}
use Rattle.rolling.proofs.roll_in.Goals as goal

pub returns : goal.returns
unfolding roll_in
returns c =
    let a = c.args.a in
    let w : Words 32 a = λ i. fits-of (search rules) in
    c.move_lanes.ensures ∙ moved a (is-xor (is-xor (is-own (w 0)) (is-shl 13 (is-own (w 0)))) (is_eq c.rotl.ensures))
