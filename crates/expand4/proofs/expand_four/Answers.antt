-- `expand4::expand_four` meets its contract. Assumes nothing.
use native.Mathlib.Omega.{arith}
use lib.ListN.{length}
use Rattle.xoofff.proofs.Leaves.{blocks-most}
use Rattle.expand4.proofs.Expand.{whole_is}
use Rattle.expand4.proofs.expand_four.Goals as goal

pub overflow_add-result : goal.overflow_add-result
overflow_add-result c =
    let a = c.args in
    let x = c.expand-first in
    let g = c.expand_groups-count in
    let n = c.min-head in
    let w = whole_is a.y a.mask.now a.out.now a.from n.result n.ensures c.roll_by-z.ensures c.roll_by-t.ensures x.ensures.0 x.ensures.1 g.ensures.0 g.ensures.1 in
    omega (arith, w.count, blocks-most a.from (length a.out.now))

pub returns : goal.returns
returns c =
    let a = c.args in
    let x = c.expand-first in
    let g = c.expand_groups-count in
    let n = c.min-head in
    let w = whole_is a.y a.mask.now a.out.now a.from n.result n.ensures c.roll_by-z.ensures c.roll_by-t.ensures x.ensures.0 x.ensures.1 g.ensures.0 g.ensures.1 in
    (w.bytes, w.count)
