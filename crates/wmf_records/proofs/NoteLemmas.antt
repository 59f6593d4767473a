-- No record of WMF is noted to contain EMF+.
use Rattle.std.proofs.Common.{◌≡◌, ℕ, Bool, true, false, if◌then◌else◌, List, Option, Some, None, Result, Ok, Err, refl}
use Rattle.std.specs.Prelude.{IfOk, ◌==◌, ◌&&◌, length, nat_le, nat_lt}
use Rattle.draw_ops.specs.BitmapRecords.{blit_meant, pattern_brush_meant}
use Rattle.draw_ops.specs.Blits.{SourceValue}
use Rattle.draw_ops.specs.Fields.{reversed_box_at, yx_at}
use Rattle.draw_ops.specs.Meaning.{DecodedValue, noting, plain, unnoted}
use Rattle.draw_ops.specs.Modes.{map_mode_meant}
use Rattle.draw_ops.specs.NoteKinds.{is_noted}
use Rattle.draw_ops.specs.Operation.{Operation, exclude_clip, intersect_clip, line_to, no_effect, rectangle, restore, set_map_mode}
use Rattle.draw_ops.specs.PenRecords.{pen_made, pen_meant, pen_notes, pen_of}
use Rattle.draw_ops.specs.Records.{Record}
use Rattle.draw_ops.specs.Results.{result_map}
use Rattle.mapping.specs.MapMode.{map_mode_of}
use Rattle.mapping.specs.declared.geometry.Colour.{Colour}
use Rattle.mapping.specs.declared.map_mode.MapMode.{MapMode}
use Rattle.mapping.specs.declared.map_mode.MapMode.TheVariants.{Text, Isotropic, Anisotropic}
use Rattle.draw_ops.specs.declared.operation.RectangleEdges.TheVariants.{HalfOpen}
use Rattle.point_views.specs.Numbers.{i16_at, number_at}
use Rattle.draw_ops.specs.declared.note.Note.TheVariants.{EmfPlus, Isotropic as NoteIsotropic, Skipped as NoteSkipped}
use Rattle.draw_ops.specs.declared.objects.Pen.{Pen}
use Rattle.draw_ops.specs.declared.pen_records.PenFields.{PenFields}
use Rattle.draw_ops.specs.declared.pen_records.PenStyle.{PenStyle}
use Rattle.draw_ops.specs.declared.pen_records.PenStyle.TheVariants.{Solid, Dashed, Null}
use Rattle.draw_ops.specs.declared.record_fault.RecordFault.TheVariants.{BadParams, BadValue, MetricMode, UnknownRecord}
use Rattle.draw_ops.specs.declared.record_fault.RecordFault.{RecordFault}
use Rattle.wmf_records.specs.BitmapRecords.{blit_to}
use Rattle.wmf_records.specs.Kinds.{wmf_entry_of}
use Rattle.wmf_records.specs.NoteLaw.{NeverEmfPlus}
use Rattle.wmf_records.specs.Wmf.{wmf_record, wmf_record_if}
use Rattle.wmf_records.specs.declared.entry.WmfEntry.{WmfEntry}
use Rattle.wmf_records.specs.declared.entry.WmfEntry.TheVariants.{DibBitBlt, DibStretchBlt, StretchDib, Eof, LineTo, PatBlt, Polyline, Polygon, PolyPolygon, Rectangle, SetPixel, CreateBrushIndirect, CreateFontIndirect, CreatePalette, CreatePenIndirect, DeleteObject, DibCreatePatternBrush, SelectObject, SelectPalette, ExcludeClipRect, IntersectClipRect, MoveTo, OffsetViewportOrg, OffsetWindowOrg, RestoreDc, SaveDc, SetBkColor, SetBkMode, SetLayout, SetMapMode, SetPolyFillMode, SetRop2, SetViewportExt, SetViewportOrg, SetWindowExt, SetWindowOrg, Skipped, Rejected}

-- what a record means isn't noted so
record IsQuiet (result : Result DecodedValue RecordFault) : Type 0 where
  is : IfOk result (λ decoded. is_noted decoded.notes EmfPlus ≡ false)

without : (operation : Operation) → IsQuiet (Ok (unnoted operation))
without operation = record { is = refl }

rejected : (fault : RecordFault) → IsQuiet (Err fault)
rejected fault = record { is = tt }

skipped : IsQuiet (Ok (noting NoteSkipped no_effect))
skipped = record { is = refl }

one_of : (test : Bool) (one other : Result DecodedValue RecordFault) → IsQuiet one → IsQuiet other → IsQuiet (if test then one else other)
one_of true one other p q = p
one_of false one other p q = q

-- with enough bytes a record means what it means
under : (test : Bool) (value : Result DecodedValue RecordFault) → IsQuiet value → IsQuiet (if test then Err BadParams else value)
under test value quiet = one_of test (Err BadParams) value (rejected BadParams) quiet

from_plain : {T : Type 0} (make : T → Operation) (value : Result T RecordFault) → IsQuiet (plain make value)
from_plain make (Ok x) = without (make x)
from_plain make (Err fault) = rejected fault

blits : (bytes : List ℕ) (place : ℕ) (source : Result (Option SourceValue) RecordFault) → IsQuiet (blit_to bytes place source)
unfolding blit_to blit_meant
blits bytes place source = from_plain _ source

-- a pen may be noted to be wide or dashed
pen_noted : (style : PenStyle) (width : ℕ) (is_wide : Bool) → is_noted (pen_notes (record { style = style; width = width; is_wide = is_wide })) EmfPlus ≡ false
pen_noted Solid width true = refl
pen_noted Solid width false = refl
pen_noted Dashed width true = refl
pen_noted Dashed width false = refl
pen_noted Null width is_wide = refl

pen_quiet : (at : Option ℕ) (notes : List ℕ) (pen : Result Pen RecordFault) → is_noted notes EmfPlus ≡ false → IsQuiet (result_map (pen_made at notes) pen)
pen_quiet at notes (Ok pen) quiet = record { is = quiet }
pen_quiet at notes (Err fault) quiet = rejected fault

pens : (at : Option ℕ) (fields : Option PenFields) (colour : Result Colour RecordFault) → IsQuiet (pen_meant at fields colour)
pens at None colour = rejected BadValue
pens at (Some fields) colour = pen_quiet at (pen_notes fields) (pen_of fields colour) (pen_noted fields.style fields.width fields.is_wide)

-- a map mode may be noted to be isotropic
isotropic : IsQuiet (Ok (noting NoteIsotropic (set_map_mode Isotropic)))
isotropic = record { is = refl }

modes : (code : ℕ) → IsQuiet (map_mode_meant code)
modes code = by_mode (map_mode_of code) refl
  where
    by_mode : (found : Option MapMode) → map_mode_of code ≡ found → IsQuiet (map_mode_meant code)
    by_mode None e = rw e (one_of _ _ _ (rejected _) (rejected _))
    by_mode (Some Text) e = rw e (one_of _ _ _ (rejected _) (without _))
    by_mode (Some Isotropic) e = rw e (one_of _ _ _ (rejected _) isotropic)
    by_mode (Some Anisotropic) e = rw e (one_of _ _ _ (rejected _) (without _))

quiet : (entry : WmfEntry) (function : ℕ) (bytes : List ℕ) → IsQuiet (wmf_record entry function bytes)
unfolding wmf_record pattern_brush_meant
quiet DibBitBlt function bytes = one_of _ _ _ (blits bytes 16 (Ok None)) (under _ _ (blits bytes 14 _))
quiet DibStretchBlt function bytes = one_of _ _ _ (blits bytes 20 (Ok None)) (under _ _ (blits bytes 18 _))
quiet StretchDib function bytes = under _ _ (blits bytes 20 _)
quiet Eof function bytes = without _
quiet LineTo function bytes = under _ _ (without _)
quiet PatBlt function bytes = under _ _ (blits bytes 10 (Ok None))
quiet Polyline function bytes = from_plain _ _
quiet Polygon function bytes = from_plain _ _
quiet PolyPolygon function bytes = under _ _ (from_plain _ _)
quiet Rectangle function bytes = under _ _ (without _)
quiet SetPixel function bytes = under _ _ (from_plain _ _)
quiet CreateBrushIndirect function bytes = under _ _ (from_plain _ _)
quiet CreateFontIndirect function bytes = without _
quiet CreatePalette function bytes = without _
quiet CreatePenIndirect function bytes = under _ _ (pens None _ _)
quiet DeleteObject function bytes = from_plain _ _
quiet DibCreatePatternBrush function bytes = under _ _ (from_plain _ _)
quiet SelectObject function bytes = from_plain _ _
quiet SelectPalette function bytes = from_plain _ _
quiet ExcludeClipRect function bytes = under _ _ (without _)
quiet IntersectClipRect function bytes = under _ _ (without _)
quiet MoveTo function bytes = from_plain _ _
quiet OffsetViewportOrg function bytes = from_plain _ _
quiet OffsetWindowOrg function bytes = from_plain _ _
quiet RestoreDc function bytes = under _ _ (without _)
quiet SaveDc function bytes = without _
quiet SetBkColor function bytes = under _ _ (from_plain _ _)
quiet SetBkMode function bytes = under _ _ (from_plain _ _)
quiet SetLayout function bytes = under _ _ (one_of _ _ _ skipped (rejected _))
quiet SetMapMode function bytes = under _ _ (modes (number_at bytes 6 2))
quiet SetPolyFillMode function bytes = under _ _ (from_plain _ _)
quiet SetRop2 function bytes = under _ _ (from_plain _ _)
quiet SetViewportExt function bytes = from_plain _ _
quiet SetViewportOrg function bytes = from_plain _ _
quiet SetWindowExt function bytes = from_plain _ _
quiet SetWindowOrg function bytes = from_plain _ _
quiet Skipped function bytes = skipped
quiet Rejected function bytes = rejected _

pub never_emf_plus : NeverEmfPlus
never_emf_plus number r = (by_entry (wmf_entry_of r.kind)).is
  where
    by_entry : (entry : Option WmfEntry) → IsQuiet (wmf_record_if entry r)
    by_entry None = rejected (UnknownRecord r.kind)
    by_entry (Some entry) = quiet entry r.kind r.bytes
