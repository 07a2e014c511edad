-- `xoofff::key_mask` meets its contract. Assumes nothing.
use mathlib.Core.Path.{◌≡◌, ap, sym, ◌∙◌}
use Prim.Native.Nat.{◌/◌}
use native.Mathlib.Omega.{arith}
use lib.ListN.{length}
use Rattle.xoodoo.specs.Xoodoo.{perm}
use Rattle.deck.specs.Strings.{block}
use Rattle.deck.specs.Closing.{closed_by}
use Rattle.deck.proofs.Deck.{key_mask-closed}
use Rattle.xoofff.proofs.key_mask.Goals as goal

pub returns : goal.returns
returns c =
    let key = c.args.key.now in
    let e : length key / 48 ≡ 0 = omega arith in
    c.permute.ensures ∙ ap perm (c.last_block-b.ensures ∙ ap (block (closed_by key 1)) e) ∙ sym (key_mask-closed key)
