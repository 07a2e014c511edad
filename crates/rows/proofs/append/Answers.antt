-- `rows::append` meets its contract. Assumes nothing.
use Rattle.rows.proofs.Rows.{rolled-appended}
use Rattle.rows.proofs.append.Goals as goal

pub returns : goal.returns
returns g c =
    let a = c.args in
    rolled-appended g.R.Rolling.rolled a.n a.r.now c.state_at-k.ensures c.roll-k1.ensures c.roll-k2.ensures c.roll-k3.ensures c.roll-k4.ensures
