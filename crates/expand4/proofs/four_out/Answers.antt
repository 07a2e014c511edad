-- `expand4::four_out` meets its contract. Assumes nothing.
use Rattle.xoodoo4.specs.Four.{laid}
use Rattle.expand4.proofs.Expand.{four-added}
use Rattle.expand4.proofs.four_out.Goals as goal

pub returns : goal.returns
returns c =
    let p = c.permute_into in
    let a = c.args in
    let r = a.row.now in
    (p.ensures, four-added (laid r.at 3 1 r.words) a.mask.now a.out.now c.requires.1 p.ensures c.add_part.ensures c.add_part-2.ensures c.add_part-3.ensures c.add_part-4.ensures)
