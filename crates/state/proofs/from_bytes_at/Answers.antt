-- `state::from_bytes_at` meets its contract. Assumes nothing.
use Rattle.std.proofs.Common.{ℕ, ◌+◌, ◌*◌, ◌∙◌, refl, rules, drop}
use Rattle.word.proofs.Bit.{is-more, word-is}
use Rattle.word.proofs.Lists.{made}
use Rattle.state.specs.State.{lane}
use Rattle.state.specs.Bytes.{byte_bit, string_state, from_string}
use Rattle.state.proofs.Lanes.{lanes-made}
use Rattle.state.proofs.Bytes.{lane-further}
use Rattle.state.proofs.from_bytes_at.Goals as goal

pub returns : goal.returns
unfolding from_string
returns c =
    let s = c.args.s.now in
    let at = c.args.at in
    made c.from_fn.ensures.items (λ (i : ℕ). lane (byte_bit (drop (at + 4 * i) s))) (search rules)
    ∙ lanes-made (string_state (byte_bit (drop at s))) _ (λ x y k l. is-more (word-is 32 _) (lane-further s at (x + 4 * y) _ refl))
