-- `issue_line::read_day` meets its contract. The loop's invariant: what is found after some digits, with the number so far, is what is found at the
-- place; and the number so far has as many digits at most, so that no sum or product wraps. Assumes nothing.
use Rattle.std.proofs.Common.{◌≡◌, ◌<◌, ◌-◌, ◌+◌, ◌^◌, drop}
use Rattle.issue_line.specs.Read.{read_digits, read_day}
use Rattle.issue_line.proofs.read_day.Given as goal

abbrev pub invariant-loop-b : goal.invariant-loop-b
invariant-loop-b l =
    (l.value < 10 ^ l.b-index) × (read_digits (8 - l.b-index) l.value (l.at + l.b-index) (drop l.b-index l.field) ≡ read_day l.s l.at)
