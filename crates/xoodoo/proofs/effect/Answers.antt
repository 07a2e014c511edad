-- `xoodoo::effect` meets its contract. Assumes nothing.
use Rattle.word.proofs.Bit.{is_word, is-xor, is_eq}
use Rattle.xoodoo.proofs.effect.Goals as goal

pub returns : goal.returns
returns c = is_word (is-xor (is_eq c.rotl.ensures) (is_eq c.rotl-2.ensures))
