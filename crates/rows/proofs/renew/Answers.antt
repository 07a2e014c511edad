-- `rows::renew` meets its contract. Assumes nothing.
use borrow.Author.Rules.{rules}
use Rattle.rows.proofs.Rows.{moved-copied, renewed-used_up, renewed-same}
use Rattle.rows.proofs.renew.Goals as goal

pub returns-then-n-lt-USED_UP : goal.returns-then-n-lt-USED_UP
returns-then-n-lt-USED_UP c = renewed-same c.args.n c.args.r.now c.if-n-lt-USED_UP.true

pub returns : goal.returns
returns c =
    let r = c.args.r.now in
    let w = c.copy_within in
    let m = w.ensures in
    renewed-used_up c.args.n r w.new.self c.if-n-lt-USED_UP.false (moved-copied r w.new.self (search rules) m.len m.by_index.0 m.by_index.2)
