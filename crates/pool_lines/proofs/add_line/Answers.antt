-- `pool_lines::add_line` meets its contract: the run of a line has a number. Assumes nothing.
use Rattle.std.proofs.Common.{refl, sym, ap, ◌∙◌}
use Rattle.issue_line.specs.Read.{found_line}
use Rattle.pool_lines.proofs.Steps.{line-valid}
use Rattle.pool_lines.proofs.add_line.Goals as goal

pub add-requires : goal.add-requires
add-requires c = rw c.run_of.ensures (line-valid _ _ (ap found_line (sym c.in_ok-line.ensures.ok_part) ∙ c.read_line.ensures) refl)
