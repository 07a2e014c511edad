-- `season_lines::first_day_of_line` meets its contract, whether the bytes are a line or not. Assumes nothing.
use Rattle.std.proofs.Common.{rules, refl, sym, ap, ◌∙◌}
use Rattle.issue_line.specs.Read.{found_line}
use Rattle.season_lines.proofs.FirstDay.{answer-13, answer-line}
use Rattle.season_lines.proofs.first_day_of_line.Goals as goal

pub returns-in_err-l : goal.returns-in_err-l
returns-in_err-l c = answer-13 _ _ _ _ (search rules) c.read_line.ensures (search rules)

pub returns : goal.returns
returns c = answer-line _ _ _ (ap found_line (sym c.in_ok-l.ensures.ok_part) ∙ c.read_line.ensures) _ refl c.first_day.ensures
