-- What object records mean ([MS-WMF] 2.3.4). Each object is made at the lowest free index.
use Rattle.std.specs.Prelude.{ℕ, List, Option, None, Result, Ok}
use Rattle.point_views.specs.Numbers.{number_at, i16_at}
use Rattle.draw_ops.specs.BrushRecords.{brush_meant}
use Rattle.draw_ops.specs.Fields.{needs_bytes, rgb_at}
use Rattle.draw_ops.specs.Meaning.{DecodedValue, plain, unnoted}
use Rattle.draw_ops.specs.Objects.{ObjectValue}
use Rattle.draw_ops.specs.Operation.{Operation, create}
use Rattle.draw_ops.specs.PenRecords.{log_pen_fields, pen_meant}
use Rattle.draw_ops.specs.declared.record_fault.RecordFault.{RecordFault}
use Rattle.draw_ops.specs.declared.pen_records.PenFields.{PenFields}
use Rattle.wmf_records.specs.ObjectFields.{index_end, logbrush_color, logbrush_end, logbrush_hatch, logbrush_style, object_index, pen_color, pen_end, pen_style, pen_width}

-- the brush of META_CREATEBRUSHINDIRECT: its style, its colour and its hatch
abbrev log_brush_decoded : List ℕ → Result DecodedValue RecordFault
log_brush_decoded bytes = brush_meant None (number_at bytes logbrush_style 2) (rgb_at bytes logbrush_color) (number_at bytes logbrush_hatch 2)

-- META_CREATEBRUSHINDIRECT, 2.3.4.1: the brush
abbrev pub create_brush_indirect : List ℕ → Result DecodedValue RecordFault
create_brush_indirect bytes = needs_bytes logbrush_end bytes (log_brush_decoded bytes)

-- the fields of the pen of META_CREATEPENINDIRECT
abbrev pub pen_in : List ℕ → Option PenFields
pen_in bytes = log_pen_fields (number_at bytes pen_style 2) (i16_at bytes pen_width)

-- META_CREATEPENINDIRECT, 2.3.4.5: the pen's fields, and the colour
abbrev pub create_pen_indirect : List ℕ → Result DecodedValue RecordFault
create_pen_indirect bytes = needs_bytes pen_end bytes (pen_meant None (pen_in bytes) (rgb_at bytes pen_color))

-- META_CREATEFONTINDIRECT and META_CREATEPALETTE, 2.3.4.2 and 2.3.4.3: their contents are ignored
abbrev pub created : ObjectValue → DecodedValue
created object = unnoted (create None object)

-- META_DELETEOBJECT, META_SELECTOBJECT and META_SELECTPALETTE, 2.3.4.7, 2.3.4.10 and 2.3.4.11: the object's index
abbrev pub index_in : List ℕ → Result ℕ RecordFault
index_in bytes = needs_bytes index_end bytes (Ok (number_at bytes object_index 2))

-- a record whose operation is made from the index
abbrev pub index_record : (ℕ → Operation) → List ℕ → Result DecodedValue RecordFault
index_record make bytes = plain make (index_in bytes)
