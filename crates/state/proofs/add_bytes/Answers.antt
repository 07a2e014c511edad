-- `state::add_bytes` meets its contract. The loop's invariant: the bytes of the lanes below i are added, and the others stand as they
-- did. Assumes nothing.
use Rattle.std.proofs.Common.{◌≡◌, ℕ, ◌∙◌, ◌+◌, ◌*◌, ◌<◌, refl, get_or, bit_xor, rules, arith}
use lib.Dec.{lit<}
use Rattle.word.proofs.Lists.{tabulate-length, summed-none, summed-more, summed-all}
use Rattle.state.specs.Bytes.{to_bytes}
use Rattle.state.proofs.Bytes.{bytes-added}
use Rattle.state.proofs.add_bytes.Goals as goal

pub loop-i-init : goal.loop-i-init
loop-i-init c = summed-none _ _

pub loop-i-preserved : goal.loop-i-preserved
loop-i-preserved c =
    let l = c.loop-i in
    let a = c.args in
    let o = a.out.now in
    let i = l.i in
    let byte : (q m : ℕ) → q < 4 → m ≡ 4 * i + q → get_or c.to_le_bytes-b.result q 0 ≡ bit_xor (get_or o m 0) (get_or (to_bytes a.s.now) m 0) =
    bytes-added a.s.now o l.out c.to_le_bytes-b.result i (omega arith) (λ q. search rules) l.invariant.rest c.lane_at.ensures c.to_le_bytes-b.ensures in
    summed-more o _ (4 * i + 3) _ _ (omega arith) (omega arith) (byte 3 _ (lit< tt) refl)
    (summed-more o _ (4 * i + 2) _ _ (omega arith) (omega arith) (byte 2 _ (lit< tt) refl)
    (summed-more o _ (4 * i + 1) _ _ (omega arith) (omega arith) (byte 1 _ (lit< tt) refl)
    (summed-more o _ (4 * i) _ _ (omega arith) refl (byte 0 _ (lit< tt) (omega arith)) l.invariant)))

pub returns : goal.returns
returns c = summed-all _ _ _ _ (omega arith) (tabulate-length 48 _ ∙ search rules) c.loop-i.invariant
