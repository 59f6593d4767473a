-- Deletions of objects. A state that has the object selected keeps the values of the object, but not its index.
use Rattle.std.specs.Prelude.{ℕ, suc, ◌^◌, ◌-◌, min, if◌then◌else◌, map, Option, None}
use Rattle.object_tables.specs.Slots.{without_object}
use Rattle.dc_stack.specs.Selecting.{is_in_use, is_index_of}
use Rattle.dc_stack.specs.State.{DcValue, Selections, State}

-- a stored index, or none if it is the one that is deleted
abbrev pub other_index : ℕ → Option ℕ → Option ℕ
other_index index kept = if is_index_of index kept then None else kept

-- the selected objects without this index
abbrev pub without_index : ℕ → Selections → Selections
without_index index s = record {
  pen = record { object = s.pen.object; index = other_index index s.pen.index };
  brush = record { object = s.brush.object; index = other_index index s.brush.index };
  font = other_index index s.font;
  palette = other_index index s.palette;
}

-- what drawings depend on, without this index
abbrev pub dc_without : ℕ → DcValue → DcValue
dc_without index dc = record {
  selected = without_index index dc.selected;
  modes = dc.modes;
  map = dc.map;
  position = dc.position;
  clip = dc.clip;
}

-- a count plus 1, but at most 2^32 - 1
abbrev pub counted : ℕ → ℕ
counted n = min (suc n) (2 ^ 32 - 1)

-- The state after an object is deleted. Nothing has it selected any more. If something had, that keeps its values, and
-- the deletion is counted.
abbrev pub after_deleting : ℕ → State → State
after_deleting index state = record {
  dc = dc_without index state.dc;
  slots = without_object index state.slots;
  table_kind = state.table_kind;
  saved = map (dc_without index) state.saved;
  path = state.path;
  rules = state.rules;
  held_deletions = if is_in_use index state then counted state.held_deletions else state.held_deletions;
}
