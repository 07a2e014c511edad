-- `xoodoo::rho_west` meets its contract. Assumes nothing.
use borrow.Author.Rules.{rules}
use Rattle.word.proofs.Bit.{is-own, is_eq, is-still}
use Rattle.word.proofs.Lists.{Words}
use Rattle.state.proofs.Lanes.{fits-of, lanes-are}
use Rattle.xoodoo.proofs.rho_west.Goals as goal

pub returns : goal.returns
returns c =
    let w : Words 32 c.args.a = λ i. fits-of (search rules) in
    lanes-are _
    (is-own (w 0)) (is-own (w 1)) (is-own (w 2)) (is-own (w 3))
    (is-still (is-own (w 7))) (is-still (is-own (w 4))) (is-still (is-own (w 5))) (is-still (is-own (w 6)))
    (is_eq c.rotl.ensures) (is_eq c.rotl-2.ensures) (is_eq c.rotl-3.ensures) (is_eq c.rotl-4.ensures)
