-- What each record of EMF means ([MS-EMF] 2.3).
use Rattle.std.specs.Prelude.{ℕ, zero, suc, List, Option, Some, None, Result, Ok, Err}
use Rattle.point_views.specs.declared.numbers.NumberWidth.TheVariants.{Long, Short}
use Rattle.draw_ops.specs.Meaning.{Meaning, DecodedValue, noting, unnoted}
use Rattle.draw_ops.specs.Objects.{font_object, palette_object}
use Rattle.draw_ops.specs.Operation.{no_effect, save, move_to, set_viewport_extent, set_viewport_origin, set_window_extent, set_window_origin, select, select_palette, delete, begin_path, end_path, close_figure, abort_path, fill_path, stroke_path, stroke_and_fill_path}
use Rattle.draw_ops.specs.Records.{Record}
use Rattle.draw_ops.specs.declared.record_fault.RecordFault.{RecordFault}
use Rattle.draw_ops.specs.declared.record_fault.RecordFault.TheVariants.{UnknownRecord, Unsupported}
use Rattle.draw_ops.specs.declared.note.Note.TheVariants.{Skipped as NoteSkipped}
use Rattle.emf_records.specs.BitmapRecords.{bit_blt, create_dib_pattern_brush_pt, stretch_blt, stretch_di_bits}
use Rattle.emf_records.specs.DrawingRecords.{line_to_record, poly_polygon_record, poly_polyline_record, polygon_record, polyline_record, polyline_to_record, rectangle_record, set_pixel_v}
use Rattle.emf_records.specs.Kinds.{emf_entry_of}
use Rattle.emf_records.specs.ObjectRecords.{create_brush_indirect, create_pen, create_record, ext_create_pen, index_record}
use Rattle.emf_records.specs.StateRecords.{comment, exclude_clip_rect, ext_select_clip_rgn, intersect_clip_rect, point_record, restore_dc, set_bk_color, set_bk_mode, set_layout, set_map_mode_record, set_poly_fill_mode, set_rop2}
use Rattle.emf_records.specs.TransformRecords.{modify_world_transform, set_world_transform}
use Rattle.emf_records.specs.declared.entry.EmfEntry.{EmfEntry}
use Rattle.emf_records.specs.declared.entry.EmfEntry.TheVariants.{BitBlt, StretchBlt, StretchDiBits, ExcludeClipRect, IntersectClipRect, ExtSelectClipRgn, Comment, Header, Eof, Polygon, Polyline, PolylineTo, PolyPolyline, PolyPolygon, SetPixelV, Rectangle, LineTo, FillPath, StrokeAndFillPath, StrokePath, Polygon16, Polyline16, PolylineTo16, PolyPolyline16, PolyPolygon16, SelectObject, CreatePen, CreateBrushIndirect, DeleteObject, SelectPalette, CreateDibPatternBrushPt, CreatePalette, ExtCreateFontIndirectW, ExtCreatePen, BeginPath, EndPath, CloseFigure, AbortPath, SetWindowExtEx, SetWindowOrgEx, SetViewportExtEx, SetViewportOrgEx, SetMapMode, SetBkMode, SetPolyFillMode, SetRop2, SetBkColor, MoveToEx, SaveDc, RestoreDc, SetLayout, SetWorldTransform, ModifyWorldTransform, Skipped, Rejected}

-- EMR_HEADER has no effect as the first record of the file, and isn't supported after it
abbrev pub header_record : ℕ → Result DecodedValue RecordFault
header_record zero = Ok (unnoted no_effect)
header_record (suc n) = Err (Unsupported 1)

-- what a record means, by its entry, its number in the file, its type and its bytes
unfoldable pub emf_record : EmfEntry → ℕ → ℕ → List ℕ → Result DecodedValue RecordFault
emf_record BitBlt number record_type bytes = bit_blt bytes
emf_record StretchBlt number record_type bytes = stretch_blt bytes
emf_record StretchDiBits number record_type bytes = stretch_di_bits bytes
emf_record ExcludeClipRect number record_type bytes = exclude_clip_rect bytes
emf_record IntersectClipRect number record_type bytes = intersect_clip_rect bytes
emf_record ExtSelectClipRgn number record_type bytes = ext_select_clip_rgn bytes
emf_record Comment number record_type bytes = comment bytes
emf_record Header number record_type bytes = header_record number
emf_record Eof number record_type bytes = Ok (unnoted no_effect)
emf_record Polygon number record_type bytes = polygon_record Long bytes
emf_record Polyline number record_type bytes = polyline_record Long bytes
emf_record PolylineTo number record_type bytes = polyline_to_record Long bytes
emf_record PolyPolyline number record_type bytes = poly_polyline_record Long bytes
emf_record PolyPolygon number record_type bytes = poly_polygon_record Long bytes
emf_record SetPixelV number record_type bytes = set_pixel_v bytes
emf_record Rectangle number record_type bytes = rectangle_record bytes
emf_record LineTo number record_type bytes = line_to_record bytes
emf_record FillPath number record_type bytes = Ok (unnoted fill_path)
emf_record StrokeAndFillPath number record_type bytes = Ok (unnoted stroke_and_fill_path)
emf_record StrokePath number record_type bytes = Ok (unnoted stroke_path)
emf_record Polygon16 number record_type bytes = polygon_record Short bytes
emf_record Polyline16 number record_type bytes = polyline_record Short bytes
emf_record PolylineTo16 number record_type bytes = polyline_to_record Short bytes
emf_record PolyPolyline16 number record_type bytes = poly_polyline_record Short bytes
emf_record PolyPolygon16 number record_type bytes = poly_polygon_record Short bytes
emf_record SelectObject number record_type bytes = index_record select bytes
emf_record CreatePen number record_type bytes = create_pen bytes
emf_record CreateBrushIndirect number record_type bytes = create_brush_indirect bytes
emf_record DeleteObject number record_type bytes = index_record delete bytes
emf_record SelectPalette number record_type bytes = index_record select_palette bytes
emf_record CreateDibPatternBrushPt number record_type bytes = create_dib_pattern_brush_pt bytes
emf_record CreatePalette number record_type bytes = create_record palette_object bytes
emf_record ExtCreateFontIndirectW number record_type bytes = create_record font_object bytes
emf_record ExtCreatePen number record_type bytes = ext_create_pen bytes
emf_record BeginPath number record_type bytes = Ok (unnoted begin_path)
emf_record EndPath number record_type bytes = Ok (unnoted end_path)
emf_record CloseFigure number record_type bytes = Ok (unnoted close_figure)
emf_record AbortPath number record_type bytes = Ok (unnoted abort_path)
emf_record SetWindowExtEx number record_type bytes = point_record set_window_extent bytes
emf_record SetWindowOrgEx number record_type bytes = point_record set_window_origin bytes
emf_record SetViewportExtEx number record_type bytes = point_record set_viewport_extent bytes
emf_record SetViewportOrgEx number record_type bytes = point_record set_viewport_origin bytes
emf_record SetMapMode number record_type bytes = set_map_mode_record bytes
emf_record SetBkMode number record_type bytes = set_bk_mode bytes
emf_record SetPolyFillMode number record_type bytes = set_poly_fill_mode bytes
emf_record SetRop2 number record_type bytes = set_rop2 bytes
emf_record SetBkColor number record_type bytes = set_bk_color bytes
emf_record MoveToEx number record_type bytes = point_record move_to bytes
emf_record SaveDc number record_type bytes = Ok (unnoted save)
emf_record RestoreDc number record_type bytes = restore_dc bytes
emf_record SetLayout number record_type bytes = set_layout bytes
emf_record SetWorldTransform number record_type bytes = set_world_transform bytes
emf_record ModifyWorldTransform number record_type bytes = modify_world_transform bytes
emf_record Skipped number record_type bytes = Ok (noting NoteSkipped no_effect)
emf_record Rejected number record_type bytes = Err (Unsupported record_type)

-- what a record means; a type that the standard doesn't have is unknown
abbrev pub emf_record_if : Option EmfEntry → ℕ → Record → Result DecodedValue RecordFault
emf_record_if None number r = Err (UnknownRecord r.kind)
emf_record_if (Some entry) number r = emf_record entry number r.kind r.bytes

-- what each record of EMF means, by its type, and for a header by its position
abbrev pub emf_meaning : Meaning
emf_meaning number r = emf_record_if (emf_entry_of r.kind) number r
