-- What a line tells has no line feed in it: names, what is asked for, and the whole line.
use Rattle.std.proofs.Common.{ℕ, ◌||◌, Bool, true, false, List, [], ◌++◌, length, codes, decimal, Option, Some, None, Ok, refl}
use Rattle.std.specs.List.{flat_map}
use Rattle.mapping.specs.MapMode.{map_mode_code}
use Rattle.mapping.specs.declared.geometry.Point.{Point}
use Rattle.draw_ops.specs.Blits.{BlitValue, SourceValue}
use Rattle.draw_ops.specs.Content.{StepValue}
use Rattle.draw_ops.specs.FaultTable.{fault_row}
use Rattle.draw_ops.specs.Hatch.{hatch_code}
use Rattle.draw_ops.specs.NoteKinds.{is_noted}
use Rattle.draw_ops.specs.NoteTable.{note_row_of}
use Rattle.draw_ops.specs.Objects.{BrushValue, ObjectValue, solid_brush, null_brush, hatched_brush, tile_brush, pen_object, brush_object, font_object, palette_object}
use Rattle.draw_ops.specs.Operation.{Operation, restore, set_background_mode, set_map_mode, set_raster_op, set_fill_mode, set_background_colour, set_window_origin, set_window_extent, set_viewport_origin, set_viewport_extent, offset_window_origin, offset_viewport_origin, exclude_clip, intersect_clip, move_to, line_to, pixel, rectangle, polyline, polygon, polyline_to, blit, create, select, select_palette, delete}
use Rattle.draw_ops.specs.RasterOp.{raster_op_code}
use Rattle.draw_ops.specs.Records.{Record}
use Rattle.draw_ops.specs.Settings.{background_mode_code, fill_mode_code}
use Rattle.draw_ops.specs.declared.fault.Fault.TheVariants.{Record as InRecord}
use Rattle.draw_ops.specs.declared.note.Note.{Note}
use Rattle.draw_ops.specs.declared.note.Note.TheVariants.{PlaceableChecksum, PlaceableFields, SizeField, AfterEnd, DashedPen, WidePen, Isotropic, EmfPlus, Skipped}
use Rattle.draw_ops.specs.declared.objects.Pen.{Pen}
use Rattle.draw_ops.specs.declared.objects.Pen.TheVariants.{Null as NullPen, Solid as SolidPen}
use Rattle.draw_ops.specs.declared.record_fault.RecordFault.{RecordFault}
use Rattle.draw_ops.specs.declared.record_fault.RecordFault.TheVariants.{NoEnd}
use Rattle.meta_headers.specs.declared.opened.FileFormat.{FileFormat}
use Rattle.meta_headers.specs.declared.opened.FileFormat.TheVariants.{Placeable, Plain as PlainFormat, Emf}
use Rattle.listing.specs.Asked.{asked_text, lists_text}
use Rattle.listing.specs.EmfNames.{emf_names}
use Rattle.listing.specs.Line.{action_text, head_of, kind_name, kind_text, decoded_text, rejected_text, step_text}
use Rattle.listing.specs.ListingLaws.{IsOneLine}
use Rattle.listing.specs.NoteTexts.{note_text, notes_text, text_where}
use Rattle.listing.specs.ObjectTexts.{blit_text, brush_text, extent_text, index_text, object_text, pen_text, source_text}
use Rattle.listing.specs.Parts.{colour_text, point_text, dimensions_text}
use Rattle.listing.specs.WmfNames.{wmf_names}
use Rattle.listing.proofs.PlainTexts.{Plain, colour_plain, decimal_plain, four_plain, named_plain, one_line, plain_append, plain_between, plain_either, point_plain, rect_plain, dimensions_plain, signed_plain}

-- names of faults and of notes
fault_plain : (fault : RecordFault) → Plain (fault_row (InRecord fault)).name
fault_plain NoEnd = refl
fault_plain fault = refl

rejected_plain : (fault : RecordFault) → Plain (rejected_text (InRecord fault))
rejected_plain fault = fault_plain fault

note_name_plain : (note : Note) → Plain (note_row_of note).name
note_name_plain Skipped = refl
note_name_plain note = refl

where_plain : (b : Bool) (name : List ℕ) → Plain name → Plain (text_where b name)
where_plain true name h = h
where_plain false name h = refl

note_plain : (notes : List ℕ) (note : Note) → Plain (note_text notes note)
unfolding note_text
note_plain notes note = where_plain (is_noted notes note) (note_row_of note).name (note_name_plain note)

after_notes : (notes before : List ℕ) (note : Note) → Plain before → Plain (before ++ note_text notes note)
after_notes notes before note h = plain_append before (note_text notes note) h (note_plain notes note)

notes_plain : (notes : List ℕ) → Plain (notes_text notes)
notes_plain notes =
    let one = note_text notes PlaceableChecksum in
    let two = one ++ note_text notes PlaceableFields in
    let three = two ++ note_text notes SizeField in
    let four = three ++ note_text notes AfterEnd in
    let five = four ++ note_text notes DashedPen in
    let six = five ++ note_text notes WidePen in
    let seven = six ++ note_text notes Isotropic in
    let eight = seven ++ note_text notes EmfPlus in
    let to_four = after_notes notes three AfterEnd
    (after_notes notes two SizeField (after_notes notes one PlaceableFields (note_plain notes PlaceableChecksum))) in
    let to_eight = after_notes notes seven EmfPlus
    (after_notes notes six Isotropic (after_notes notes five WidePen (after_notes notes four DashedPen to_four))) in
    after_notes notes eight Skipped to_eight

-- objects and blits
pen_plain : (pen : Pen) → Plain (pen_text pen)
pen_plain NullPen = refl
pen_plain (SolidPen width colour) = plain_between (colour_text colour) (codes " width ") (decimal width) (colour_plain colour) refl (decimal_plain width)

brush_plain : (brush : BrushValue) → Plain (brush_text brush)
brush_plain (solid_brush colour) = colour_plain colour
brush_plain null_brush = refl
brush_plain (hatched_brush hatch colour) =
    plain_between (decimal (hatch_code hatch)) (codes " ") (colour_text colour) (decimal_plain (hatch_code hatch)) refl (colour_plain colour)
brush_plain (tile_brush picture) = dimensions_plain picture.width picture.height

object_plain : (object : ObjectValue) → Plain (object_text object)
object_plain (pen_object pen) = pen_plain pen
object_plain (brush_object brush) = brush_plain brush
object_plain font_object = refl
object_plain palette_object = refl

index_plain : (index : Option ℕ) (object : ObjectValue) → Plain (index_text index ++ object_text object)
index_plain None object = object_plain object
index_plain (Some index) object =
    plain_append (decimal index ++ codes " ") (object_text object) (plain_append (decimal index) (codes " ") (decimal_plain index) refl) (object_plain object)

extent_plain : (corner extent : Point) → Plain (extent_text corner extent)
unfolding extent_text
extent_plain corner extent = plain_between (point_text corner) (codes " extent ") (point_text extent) (point_plain corner) refl (point_plain extent)

source_plain : (source : Option SourceValue) → Plain (source_text source)
source_plain None = refl
source_plain (Some source) =
    plain_between (dimensions_text source.picture.width source.picture.height) (codes " from ") (extent_text source.corner source.extent)
    (dimensions_plain source.picture.width source.picture.height) refl (extent_plain source.corner source.extent)

blit_plain : (asked : BlitValue) → Plain (blit_text asked)
blit_plain asked =
    plain_append (extent_text asked.corner asked.extent ++ codes " table " ++ decimal asked.table) (source_text asked.source)
    (plain_between (extent_text asked.corner asked.extent) (codes " table ") (decimal asked.table) (extent_plain asked.corner asked.extent) refl (decimal_plain asked.table))
    (source_plain asked.source)

-- what is asked for
lists_plain : (lists : List (List Point)) → Plain (lists_text lists)
lists_plain lists =
    let points = length (flat_map (λ (list : List Point). list) lists) in
    plain_between (decimal (length lists)) (codes ", points ") (decimal points) (decimal_plain (length lists)) refl (decimal_plain points)

asked_plain : (operation : Operation) → Plain (asked_text operation)
asked_plain (restore number) = signed_plain number
asked_plain (set_background_mode mode) = decimal_plain (background_mode_code mode)
asked_plain (set_map_mode mode) = decimal_plain (map_mode_code mode)
asked_plain (set_raster_op op) = decimal_plain (raster_op_code op)
asked_plain (set_fill_mode mode) = decimal_plain (fill_mode_code mode)
asked_plain (set_background_colour colour) = colour_plain colour
asked_plain (set_window_origin origin) = point_plain origin
asked_plain (set_window_extent extent) = point_plain extent
asked_plain (set_viewport_origin origin) = point_plain origin
asked_plain (set_viewport_extent extent) = point_plain extent
asked_plain (offset_window_origin offset) = point_plain offset
asked_plain (offset_viewport_origin offset) = point_plain offset
asked_plain (exclude_clip rect) = rect_plain rect
asked_plain (intersect_clip rect) = rect_plain rect
asked_plain (move_to point) = point_plain point
asked_plain (line_to point) = point_plain point
asked_plain (pixel point colour) = plain_between (point_text point) (codes " ") (colour_text colour) (point_plain point) refl (colour_plain colour)
asked_plain (rectangle rect edges) = rect_plain rect
asked_plain (polyline lists) = lists_plain lists
asked_plain (polygon lists) = lists_plain lists
asked_plain (polyline_to points) = decimal_plain (length points)
asked_plain (blit asked) = blit_plain asked
asked_plain (create index object) = index_plain index object
asked_plain (select index) = decimal_plain index
asked_plain (select_palette index) = decimal_plain index
asked_plain (delete index) = decimal_plain index
asked_plain operation = refl

-- what is told of a record that isn't read
kind_plain : (format : FileFormat) (kind : ℕ) → Plain (kind_text format kind)
kind_plain Placeable kind = four_plain kind
kind_plain PlainFormat kind = four_plain kind
kind_plain Emf kind = decimal_plain kind

name_plain : (format : FileFormat) (kind : ℕ) → Plain (kind_name format kind)
name_plain Placeable kind = named_plain wmf_names kind refl
name_plain PlainFormat kind = named_plain wmf_names kind refl
name_plain Emf kind = named_plain emf_names kind refl

after_fields : (before text : List ℕ) → Plain before → Plain text → Plain (before ++ text ++ codes "\t")
after_fields before text p q = plain_between before text (codes "\t") p q refl

head_plain : (format : FileFormat) (number place : ℕ) (r : Record) → Plain (head_of format number place r)
head_plain format number place r =
    let one = decimal number ++ codes "\t" in
    let two = one ++ decimal place ++ codes "\t" in
    let three = two ++ decimal (length r.bytes) ++ codes "\t" in
    let four = three ++ kind_text format r.kind ++ codes "\t" in
    let to_two = after_fields one (decimal place) (after_fields [] (decimal number) refl (decimal_plain number)) (decimal_plain place) in
    let to_four = after_fields three (kind_text format r.kind) (after_fields two (decimal (length r.bytes)) to_two (decimal_plain (length r.bytes))) (kind_plain format r.kind) in
    after_fields four (kind_name format r.kind) to_four (name_plain format r.kind)

-- what is told of a step
action_plain : (notes : List ℕ) → Plain (action_text notes)
action_plain notes = plain_either (is_noted notes Skipped || is_noted notes EmfPlus) (codes "noted") (codes "played") refl refl

step_plain : (run : Option RecordFault) (step : StepValue) → Plain (step_text run step)
step_plain (Some fault) step = rejected_plain fault
step_plain None step =
    plain_append (action_text step.notes ++ codes "\t" ++ asked_text step.operation) (notes_text step.notes)
    (plain_between (action_text step.notes) (codes "\t") (asked_text step.operation) (action_plain step.notes) refl (asked_plain step.operation))
    (notes_plain step.notes)

-- the line of a record that has a meaning
pub line_plain : (format : FileFormat) (run : Option RecordFault) (number place : ℕ) (r : Record) (step : StepValue) → IsOneLine (head_of format number place r ++ decoded_text run (Ok step))
line_plain format run number place r step =
    one_line (head_of format number place r ++ step_text run step)
    (plain_append (head_of format number place r) (step_text run step) (head_plain format number place r) (step_plain run step))
