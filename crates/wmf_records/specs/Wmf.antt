-- What each record of WMF means ([MS-WMF] 2.3).
use Rattle.std.specs.Prelude.{ℕ, List, Option, Some, None, Result, Ok, Err}
use Rattle.draw_ops.specs.Meaning.{Meaning, DecodedValue, noting, unnoted}
use Rattle.draw_ops.specs.Objects.{font_object, palette_object}
use Rattle.draw_ops.specs.Operation.{no_effect, save, move_to, offset_viewport_origin, offset_window_origin, set_viewport_extent, set_viewport_origin, set_window_extent, set_window_origin, select, select_palette, delete}
use Rattle.draw_ops.specs.Records.{Record}
use Rattle.draw_ops.specs.declared.record_fault.RecordFault.{RecordFault}
use Rattle.draw_ops.specs.declared.record_fault.RecordFault.TheVariants.{UnknownRecord, Unsupported}
use Rattle.draw_ops.specs.declared.note.Note.TheVariants.{Skipped as NoteSkipped}
use Rattle.wmf_records.specs.BitmapRecords.{dib_bit_blt, dib_create_pattern_brush, dib_stretch_blt, pat_blt, stretch_dib}
use Rattle.wmf_records.specs.DrawingRecords.{line_to_record, poly_polygon_record, polygon_record, polyline_record, rectangle_record, set_pixel}
use Rattle.wmf_records.specs.Kinds.{wmf_entry_of}
use Rattle.wmf_records.specs.ObjectRecords.{create_brush_indirect, create_pen_indirect, created, index_record}
use Rattle.wmf_records.specs.StateRecords.{exclude_clip_rect, intersect_clip_rect, point_record, restore_dc, set_bk_color, set_bk_mode, set_layout, set_map_mode_record, set_poly_fill_mode, set_rop2}
use Rattle.wmf_records.specs.declared.entry.WmfEntry.{WmfEntry}
use Rattle.wmf_records.specs.declared.entry.WmfEntry.TheVariants.{DibBitBlt, DibStretchBlt, StretchDib, Eof, LineTo, PatBlt, Polyline, Polygon, PolyPolygon, Rectangle, SetPixel, CreateBrushIndirect, CreateFontIndirect, CreatePalette, CreatePenIndirect, DeleteObject, DibCreatePatternBrush, SelectObject, SelectPalette, ExcludeClipRect, IntersectClipRect, MoveTo, OffsetViewportOrg, OffsetWindowOrg, RestoreDc, SaveDc, SetBkColor, SetBkMode, SetLayout, SetMapMode, SetPolyFillMode, SetRop2, SetViewportExt, SetViewportOrg, SetWindowExt, SetWindowOrg, Skipped, Rejected}

-- what a record means, by its entry, its function and its bytes
unfoldable pub wmf_record : WmfEntry → ℕ → List ℕ → Result DecodedValue RecordFault
wmf_record DibBitBlt function bytes = dib_bit_blt bytes
wmf_record DibStretchBlt function bytes = dib_stretch_blt bytes
wmf_record StretchDib function bytes = stretch_dib bytes
wmf_record Eof function bytes = Ok (unnoted no_effect)
wmf_record LineTo function bytes = line_to_record bytes
wmf_record PatBlt function bytes = pat_blt bytes
wmf_record Polyline function bytes = polyline_record bytes
wmf_record Polygon function bytes = polygon_record bytes
wmf_record PolyPolygon function bytes = poly_polygon_record bytes
wmf_record Rectangle function bytes = rectangle_record bytes
wmf_record SetPixel function bytes = set_pixel bytes
wmf_record CreateBrushIndirect function bytes = create_brush_indirect bytes
wmf_record CreateFontIndirect function bytes = Ok (created font_object)
wmf_record CreatePalette function bytes = Ok (created palette_object)
wmf_record CreatePenIndirect function bytes = create_pen_indirect bytes
wmf_record DeleteObject function bytes = index_record delete bytes
wmf_record DibCreatePatternBrush function bytes = dib_create_pattern_brush bytes
wmf_record SelectObject function bytes = index_record select bytes
wmf_record SelectPalette function bytes = index_record select_palette bytes
wmf_record ExcludeClipRect function bytes = exclude_clip_rect bytes
wmf_record IntersectClipRect function bytes = intersect_clip_rect bytes
wmf_record MoveTo function bytes = point_record move_to bytes
wmf_record OffsetViewportOrg function bytes = point_record offset_viewport_origin bytes
wmf_record OffsetWindowOrg function bytes = point_record offset_window_origin bytes
wmf_record RestoreDc function bytes = restore_dc bytes
wmf_record SaveDc function bytes = Ok (unnoted save)
wmf_record SetBkColor function bytes = set_bk_color bytes
wmf_record SetBkMode function bytes = set_bk_mode bytes
wmf_record SetLayout function bytes = set_layout bytes
wmf_record SetMapMode function bytes = set_map_mode_record bytes
wmf_record SetPolyFillMode function bytes = set_poly_fill_mode bytes
wmf_record SetRop2 function bytes = set_rop2 bytes
wmf_record SetViewportExt function bytes = point_record set_viewport_extent bytes
wmf_record SetViewportOrg function bytes = point_record set_viewport_origin bytes
wmf_record SetWindowExt function bytes = point_record set_window_extent bytes
wmf_record SetWindowOrg function bytes = point_record set_window_origin bytes
wmf_record Skipped function bytes = Ok (noting NoteSkipped no_effect)
wmf_record Rejected function bytes = Err (Unsupported function)

-- what a record means; a function that the standard doesn't have is unknown
abbrev pub wmf_record_if : Option WmfEntry → Record → Result DecodedValue RecordFault
wmf_record_if None r = Err (UnknownRecord r.kind)
wmf_record_if (Some entry) r = wmf_record entry r.kind r.bytes

-- what each record of WMF means, by its function, wherever it is in the file
abbrev pub wmf_meaning : Meaning
wmf_meaning number r = wmf_record_if (wmf_entry_of r.kind) r
