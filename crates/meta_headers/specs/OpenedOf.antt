-- The value of an opened file.
use Rattle.mapping.specs.PageMap.{map_numbers}
use Rattle.draw_ops.specs.NoteSet.{notes_in}
use Rattle.meta_headers.specs.Headers.{OpenedValue}
use Rattle.meta_headers.specs.declared.opened.Opened.{Opened}

-- the value of an opened file, field by field
abbrev pub opened_of : Opened → OpenedValue
opened_of o = record {
  format = o.format;
  rules = o.rules;
  frame_width = o.frame.width;
  frame_height = o.frame.height;
  fine_width = o.fine_frame.width;
  fine_height = o.fine_frame.height;
  map = map_numbers o.start_map;
  handles = o.handles;
  notes = notes_in o.notes;
}
