-- `xoofff::last_block` meets its contract. Assumes nothing.
use mathlib.Core.Path.{sym, ap, ◌∙◌}
use mathlib.Core.List.{List, ◌++◌}
use Prim.Native.Nat.{ℕ, ◌*◌, ◌/◌, ◌%◌}
use native.Mathlib.Omega.{arith}
use lib.ListN.{length, drop, replicate}
use borrow.Author.Rules.{rules}
use Rattle.state.specs.Bytes.{from_bytes}
use Rattle.deck.proofs.Strings.{block-tabulate}
use Rattle.xoofff.proofs.Leaves.{copied_all, closed_block}
use Rattle.xoofff.proofs.last_block.Goals as goal

pub returns : goal.returns
returns c =
    let a = c.args in
    let s = a.s.now in
    let j : ℕ = length s / 48 in
    let n : ℕ = length s % 48 in
    let x = c.copy_from_slice.new.self in
    c.from_bytes.ensures
    ∙ ap (λ (b : List ℕ). from_bytes b)
    (closed_block s a.closing.byte (48 * j) (x ++ drop n (replicate 48 0)) n (omega arith) (omega arith)
    (copied_all s a.closing.byte (48 * j) n _ x (omega arith) (omega arith) (omega arith) c.copy_from_slice.ensures.after))
    ∙ sym (block-tabulate s a.closing.byte j (search rules) (search rules))
