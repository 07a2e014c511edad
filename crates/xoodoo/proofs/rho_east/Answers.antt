-- `xoodoo::rho_east` meets its contract. Assumes nothing.
use borrow.Author.Rules.{rules}
use Rattle.word.proofs.Bit.{is-own, is_eq}
use Rattle.word.proofs.Lists.{Words}
use Rattle.state.proofs.Lanes.{fits-of, lanes-are}
use Rattle.xoodoo.proofs.rho_east.Goals as goal

pub returns : goal.returns
returns c =
    let c4 = c in
    let w : Words 32 c4.args.a = λ i. fits-of (search rules) in
    lanes-are _
    (is-own (w 0)) (is-own (w 1)) (is-own (w 2)) (is-own (w 3))
    (is_eq c4.rotl.ensures) (is_eq c4.rotl-2.ensures) (is_eq c4.rotl-3.ensures) (is_eq c4.rotl-4.ensures)
    (is_eq c.rotl-5.ensures) (is_eq c.rotl-6.ensures) (is_eq c.rotl-7.ensures) (is_eq c.rotl-8.ensures)
