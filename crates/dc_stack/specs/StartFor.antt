-- The state at the start of an opened file.
use Rattle.mapping.specs.PageMap.{map_numbers}
use Rattle.meta_headers.specs.declared.opened.Opened.{Opened}
use Rattle.object_tables.specs.Table.{TableKind}
use Rattle.dc_stack.specs.State.{State, start_state}

-- the state before the first record of an opened file with this kind of table
abbrev pub start_for : Opened → TableKind → State
start_for opened kind = start_state opened.rules (map_numbers opened.start_map) kind
