-- `joined::assemble` meets its contract. Assumes nothing.
use Rattle.joined.proofs.Joined.{copied-both}
use Rattle.joined.proofs.assemble.Goals as goal

pub returns : goal.returns
returns c =
    let a = c.args in
    copied-both a.head.now a.s.now c.copy_from_slice.new.self c.copy_from_slice-2.new.self a.n c.min-h.result c.requires.0 c.requires.1 c.min-h.ensures
    c.copy_from_slice.ensures.after c.copy_from_slice-2.ensures.after
