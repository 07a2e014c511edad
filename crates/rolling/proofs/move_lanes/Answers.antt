-- `rolling::move_lanes` meets its contract. Assumes nothing.
use borrow.Author.Rules.{rules}
use Rattle.word.proofs.Bit.{is-own, is-still}
use Rattle.word.proofs.Lists.{Words}
use Rattle.state.proofs.Lanes.{fits-of, lanes-are}
use Rattle.rolling.proofs.move_lanes.Goals as goal

pub returns : goal.returns
returns c =
    let w : Words 32 c.args.a = λ i. fits-of (search rules) in
    lanes-are _
    (is-own (w 4)) (is-own (w 5)) (is-own (w 6)) (is-own (w 7))
    (is-own (w 8)) (is-own (w 9)) (is-own (w 10)) (is-own (w 11))
    (is-still (is-own (w 1))) (is-still (is-own (w 2))) (is-still (is-own (w 3))) (is-still (is-own c.ranges.n.fits))
