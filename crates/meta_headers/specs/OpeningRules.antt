-- Opening a file under rules: how many parts a unit of the frame has.
use Rattle.std.specs.Prelude.{ℕ, ◌*◌, if◌then◌else◌, List, Result}
use Rattle.mapping.specs.PageMap.{map_in_parts}
use Rattle.mapping.specs.Parts.{fine_parts}
use Rattle.draw_ops.specs.Results.{result_map}
use Rattle.draw_ops.specs.RuleSets.{in_force, is_print}
use Rattle.draw_ops.specs.declared.fault.Fault.{Fault}
use Rattle.draw_ops.specs.declared.rules.Rules.{Rules}
use Rattle.meta_headers.specs.Headers.{OpenedValue}
use Rattle.meta_headers.specs.Opening.{opened}

-- how many parts a unit has, in a frame of this size: on a fine plane as many as the longer side allows, otherwise 1
abbrev pub parts_of_unit : Rules → ℕ → ℕ → ℕ
parts_of_unit rules width height = if is_print rules then fine_parts width height else 1

-- an opened file under these rules, with this many parts to a unit
abbrev pub divided : Rules → ℕ → OpenedValue → OpenedValue
divided rules parts o = record {
  format = o.format;
  rules = rules;
  frame_width = o.frame_width;
  frame_height = o.frame_height;
  fine_width = o.frame_width * parts;
  fine_height = o.frame_height * parts;
  map = map_in_parts parts o.map;
  handles = o.handles;
  notes = o.notes;
}

-- an opened file, opened again under these rules
abbrev pub reopened : Rules → OpenedValue → OpenedValue
reopened rules o = divided (in_force rules) (parts_of_unit rules o.frame_width o.frame_height) o

-- the result of opening a file under rules; its faults are the same under all rules
abbrev pub opened_by : Rules → List ℕ → Result OpenedValue Fault
opened_by rules file = result_map (reopened rules) (opened file)
