-- `office::nearly_full` meets its contract. Assumes nothing.
use Rattle.std.specs.Prelude.{position}
use Rattle.std.proofs.Common.{◌≡◌, arith}
use Rattle.std.proofs.lemmas.Grind.{common_steps}
use Rattle.groups.specs.Groups.{record_of}
use Rattle.office.specs.Table.{above_mark}
use Rattle.office.proofs.Search.{says-refused, says-found}
use Rattle.office.proofs.nearly_full.Goals as goal

pub returns-then-table-ne-GROUPS : goal.returns-then-table-ne-GROUPS
returns-then-table-ne-GROUPS c = says-refused c.args.table.now c.args.mark c.if-table-ne-GROUPS.true

pub returns : goal.returns
returns c =
    let found : c.first_above.result ≡ position (λ r. above_mark (record_of r).session c.args.mark) c.args.table.now =
    grind (arith, common_steps, c.first_above.ensures) in
    says-found c.args.table.now c.args.mark c.if-table-ne-GROUPS.false c.first_above.result found
