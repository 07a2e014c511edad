-- The answer of the nearly-full question at the C boundary, in the words of the table. Assumes nothing.
use Rattle.office.specs.Table.{TableFinding}
use Rattle.capi.specs.declared.c_table.Found.{Found}

-- field by field
abbrev pub found_result : Found → TableFinding
found_result f = record { number = f.number; found = f.found; group = f.group }
