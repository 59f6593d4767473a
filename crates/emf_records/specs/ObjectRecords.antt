-- What object records mean ([MS-EMF] 2.3.7 and 2.3.8). Each object is made at the index that its record gives.
use Rattle.std.specs.Prelude.{ℕ, ◌==◌, if◌then◌else◌, List, Option, Some, None, Result, Ok, Err}
use Rattle.mapping.specs.declared.geometry.Colour.{Colour}
use Rattle.point_views.specs.Numbers.{number_at, i32_at}
use Rattle.draw_ops.specs.BrushRecords.{brush_meant}
use Rattle.draw_ops.specs.Fields.{needs_bytes, rgb_at}
use Rattle.draw_ops.specs.Meaning.{DecodedValue, plain}
use Rattle.draw_ops.specs.Objects.{ObjectValue}
use Rattle.draw_ops.specs.Operation.{Operation, create}
use Rattle.draw_ops.specs.PenRecords.{log_pen_ex_fields, log_pen_fields, pen_made, pen_meant, pen_notes, pen_of}
use Rattle.draw_ops.specs.Results.{result_map}
use Rattle.draw_ops.specs.declared.record_fault.RecordFault.{RecordFault}
use Rattle.draw_ops.specs.declared.record_fault.RecordFault.TheVariants.{BadValue, Unsupported}
use Rattle.draw_ops.specs.declared.objects.Pen.TheVariants.{Null as NullPen}
use Rattle.draw_ops.specs.declared.pen_records.PenFields.{PenFields}
use Rattle.emf_records.specs.ObjectFields.{index_end, logbrush_color, logbrush_end, logbrush_hatch, logbrush_style, logpen_color, logpen_end, logpen_style, logpen_width, logpenex_brush_style, logpenex_color, logpenex_end, logpenex_style, logpenex_width, object_index}

-- the index of an object in a record
abbrev pub index_at : List ℕ → ℕ
index_at bytes = number_at bytes object_index 4

-- the index of an object, if the record is long enough for it
abbrev pub index_in : List ℕ → Result ℕ RecordFault
index_in bytes = needs_bytes index_end bytes (Ok (index_at bytes))

-- EMR_SELECTOBJECT, EMR_DELETEOBJECT and EMR_SELECTPALETTE: the index
abbrev pub index_record : (ℕ → Operation) → List ℕ → Result DecodedValue RecordFault
index_record make bytes = plain make (index_in bytes)

-- EMR_CREATEPALETTE and EMR_EXTCREATEFONTINDIRECTW: the index; everything else is ignored
abbrev pub create_record : ObjectValue → List ℕ → Result DecodedValue RecordFault
create_record object bytes = plain (λ index. create (Some index) object) (index_in bytes)

-- the fields of the pen of EMR_CREATEPEN
abbrev pub log_pen_in : List ℕ → Option PenFields
log_pen_in bytes = log_pen_fields (number_at bytes logpen_style 4) (i32_at bytes logpen_width)

-- EMR_CREATEPEN: the index, the pen's fields, and the colour
abbrev pub create_pen : List ℕ → Result DecodedValue RecordFault
create_pen bytes = needs_bytes logpen_end bytes (pen_meant (Some (index_at bytes)) (log_pen_in bytes) (rgb_at bytes logpen_color))

-- the brush of EMR_CREATEBRUSHINDIRECT: its style, its colour and its hatch
abbrev log_brush_decoded : List ℕ → Result DecodedValue RecordFault
log_brush_decoded bytes =
    brush_meant (Some (index_at bytes)) (number_at bytes logbrush_style 4) (rgb_at bytes logbrush_color) (number_at bytes logbrush_hatch 4)

-- EMR_CREATEBRUSHINDIRECT: the index and the brush
abbrev pub create_brush_indirect : List ℕ → Result DecodedValue RecordFault
create_brush_indirect bytes = needs_bytes logbrush_end bytes (log_brush_decoded bytes)

-- a pen with these fields, for whose lines a brush with this style is used: 0 is solid, and 1 draws nothing
abbrev pub ext_pen_of : ℕ → PenFields → ℕ → Result Colour RecordFault → Result DecodedValue RecordFault
ext_pen_of index fields brush_style colour =
    if brush_style == 0 then result_map (pen_made (Some index) (pen_notes fields)) (pen_of fields colour)
    else (if brush_style == 1 then Ok (pen_made (Some index) (pen_notes fields) NullPen) else Err (Unsupported 95))

-- the same pen, if the standard has the pen's style
abbrev pub ext_pen_decoded : ℕ → Option PenFields → ℕ → Result Colour RecordFault → Result DecodedValue RecordFault
ext_pen_decoded index None brush_style colour = Err BadValue
ext_pen_decoded index (Some fields) brush_style colour = ext_pen_of index fields brush_style colour

-- the fields of the pen of EMR_EXTCREATEPEN
abbrev pub log_pen_ex_in : List ℕ → Option PenFields
log_pen_ex_in bytes = log_pen_ex_fields (number_at bytes logpenex_style 4) (number_at bytes logpenex_width 4)

-- EMR_EXTCREATEPEN: the index, the pen's fields, the brush's style and the colour; the bitmap, the hatch and the
-- entries are ignored
abbrev pub ext_create_pen : List ℕ → Result DecodedValue RecordFault
ext_create_pen bytes =
    needs_bytes logpenex_end bytes
    (ext_pen_decoded (index_at bytes) (log_pen_ex_in bytes) (number_at bytes logpenex_brush_style 4) (rgb_at bytes logpenex_color))
