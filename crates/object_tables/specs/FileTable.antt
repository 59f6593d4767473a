-- The table of a file, as callers see it.
use Rattle.object_tables.specs.Table.{TableState}
use Rattle.object_tables.specs.declared.file_table.FileTable.{FileTable}
use Rattle.object_tables.specs.declared.file_table.FileTable.TheVariants.{LowestFree, Given}

-- the state of the file's table
abbrev pub state_of : FileTable → TableState
state_of (LowestFree table) = table
state_of (Given table) = table
