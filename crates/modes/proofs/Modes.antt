-- The modes that the theorems are about: each is lawful, and over the whole history it is the papers' mode of its name. Assumes nothing.
use mathlib.Core.Path.{◌≡◌}
use Rattle.modes.specs.Mode.{Mode, sanse, sane}
use Rattle.modes.specs.Ledger.{PaperMode, sanse_paper, sane_paper}
use Rattle.modes.proofs.Papers.{paper_of, sanse-paper}
use Rattle.modes.proofs.PapersSane.{sane-paper}
use Rattle.modes.proofs.Steps.{ModeLaws, sanse-laws, sane-laws}

-- the program's mode r follows the papers' mode m
pub record Follows (r : Mode) (m : PaperMode) : Type 1 where
  pub laws : ModeLaws r
  pub paper : paper_of r ≡ m

pub sanse-follows : Follows sanse sanse_paper
sanse-follows = record { laws = sanse-laws; paper = sanse-paper }

pub sane-follows : Follows sane sane_paper
sane-follows = record { laws = sane-laws; paper = sane-paper }
