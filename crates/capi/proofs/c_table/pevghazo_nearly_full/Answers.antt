-- The group that the answer names is one of the table's.
use mathlib.Core.Path.{sym, subst}
use Prim.Native.Nat.{◌<◌}
use Rattle.office.specs.Table.{TableFinding, table_of}
use Rattle.office.proofs.Lowest.{group-below}
use Rattle.capi.proofs.c_table.pevghazo_nearly_full.Goals as goal

pub narrow-requires : goal.narrow-requires
narrow-requires c =
    subst (λ (f : TableFinding). f.group < 32) (sym c.nearly_full.ensures) (group-below (table_of c.args.table.now) c.args.mark)
