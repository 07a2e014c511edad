-- `sae::start` meets its contract: a start of SANE. Assumes nothing.
use mathlib.Core.Path.{sym, ◌∙◌}
use Rattle.sae_mode.proofs.Start.{as-sane}
use Rattle.sae.proofs.start.Goals as goal

pub returns : goal.returns
returns c = let a = c.args in c.start-r.ensures ∙ sym (as-sane a.key.now a.nonce.now a.tag.now)
