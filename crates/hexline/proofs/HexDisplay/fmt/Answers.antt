-- One more byte's digits are written after those before it. Assumes nothing.
use Rattle.std.proofs.Common.{rules, get_or, ◌<◌, ap, sym, ◌∙◌, false, []}
use Rattle.std.proofs.Output.{has_written_append, has_written_of_eq}
use Rattle.std.proofs.lemmas.Fmt.{hex_byte}
use Rattle.std.proofs.lemmas.List.{flat_map_more, take_more}
use Rattle.hexline.specs.Hex.{hex_of, two_digits}
use Rattle.hexline.proofs.HexDisplay.fmt.Goals as goal

pub loop-byte-preserved : goal.loop-byte-preserved
loop-byte-preserved g c p =
    let byte = get_or c.args.self.now.0.now c.loop-byte.byte-index 0 in
    let small : byte < 256 = search rules in
    has_written_of_eq _ _ _ _ _
    (flat_map_more two_digits [] _ byte ∙ ap hex_of (sym (take_more c.args.self.now.0.now c.loop-byte.byte-index 0 (search rules))))
    (has_written_append _ _ _ _ _ _ (c.loop-byte.invariant p) (has_written_of_eq _ _ _ _ _ (hex_byte false byte small) (search rules)))
