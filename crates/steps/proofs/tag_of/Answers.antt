-- `steps::tag_of` meets its contract. Assumes nothing.
use Rattle.std.proofs.Common.{◌≡◌, length, replicate, arith}
use Rattle.std.proofs.lemmas.Grind.{common_steps}
use Rattle.deck.specs.Incremental.{output}
use Rattle.steps.proofs.Buffers.{tag-filled}
use Rattle.steps.proofs.tag_of.Goals as goal

pub returns-clause-fills : goal.returns-clause-fills
returns-clause-fills c =
    let t = c.args.tag.now in
    let zeros : c.fill.new.self ≡ replicate (length t) 0 = grind (arith, common_steps) in
    tag-filled (output c.args.d) t _ _ zeros c.add_output.ensures.adds
