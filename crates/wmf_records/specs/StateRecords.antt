-- What state records mean ([MS-WMF] 2.3.5).
use Rattle.std.specs.Prelude.{ℕ, ◌==◌, if◌then◌else◌, List, Result, Ok, Err}
use Rattle.mapping.specs.declared.geometry.Point.{Point}
use Rattle.point_views.specs.Numbers.{number_at, i16_at}
use Rattle.draw_ops.specs.Fields.{needs_bytes, rgb_at, reversed_box_at, yx_at}
use Rattle.draw_ops.specs.Meaning.{DecodedValue, noting, plain, unnoted}
use Rattle.draw_ops.specs.Modes.{background_mode_decoded, fill_mode_decoded, map_mode_meant, raster_op_decoded}
use Rattle.draw_ops.specs.Operation.{Operation, no_effect, exclude_clip, intersect_clip, restore, set_background_colour}
use Rattle.draw_ops.specs.declared.record_fault.RecordFault.{RecordFault}
use Rattle.draw_ops.specs.declared.record_fault.RecordFault.TheVariants.{Unsupported}
use Rattle.draw_ops.specs.declared.note.Note.TheVariants.{Skipped as NoteSkipped}

-- META_EXCLUDECLIPRECT and META_INTERSECTCLIPRECT, 2.3.5.2 and 2.3.5.3: bottom, right, top and left
abbrev pub exclude_clip_rect : List ℕ → Result DecodedValue RecordFault
exclude_clip_rect bytes = needs_bytes 14 bytes (Ok (unnoted (exclude_clip (reversed_box_at bytes 6))))

-- META_INTERSECTCLIPRECT: the same box, to be kept instead of cut out
abbrev pub intersect_clip_rect : List ℕ → Result DecodedValue RecordFault
intersect_clip_rect bytes = needs_bytes 14 bytes (Ok (unnoted (intersect_clip (reversed_box_at bytes 6))))

-- the origin, extent, offset or position of a record: y and x
abbrev pub point_in : List ℕ → Result Point RecordFault
point_in bytes = needs_bytes 10 bytes (Ok (yx_at bytes 6))

-- a record whose operation is made from the point
abbrev pub point_record : (Point → Operation) → List ℕ → Result DecodedValue RecordFault
point_record make bytes = plain make (point_in bytes)

-- META_RESTOREDC, 2.3.5.10: which saved state
abbrev pub restore_dc : List ℕ → Result DecodedValue RecordFault
restore_dc bytes = needs_bytes 8 bytes (Ok (unnoted (restore (i16_at bytes 6))))

-- META_SETBKCOLOR, 2.3.5.14: the colour
abbrev pub set_bk_color : List ℕ → Result DecodedValue RecordFault
set_bk_color bytes = needs_bytes 10 bytes (plain set_background_colour (rgb_at bytes 6))

-- META_SETBKMODE, META_SETMAPMODE, META_SETPOLYFILLMODE and META_SETROP2, 2.3.5.15, 2.3.5.17, 2.3.5.20 and 2.3.5.22:
-- the mode
abbrev pub set_bk_mode : List ℕ → Result DecodedValue RecordFault
set_bk_mode bytes = needs_bytes 8 bytes (background_mode_decoded (number_at bytes 6 2))

-- META_SETMAPMODE: the map mode
abbrev pub set_map_mode_record : List ℕ → Result DecodedValue RecordFault
set_map_mode_record bytes = needs_bytes 8 bytes (map_mode_meant (number_at bytes 6 2))

-- META_SETPOLYFILLMODE: the fill mode
abbrev pub set_poly_fill_mode : List ℕ → Result DecodedValue RecordFault
set_poly_fill_mode bytes = needs_bytes 8 bytes (fill_mode_decoded (number_at bytes 6 2))

-- META_SETROP2: the binary raster operation
abbrev pub set_rop2 : List ℕ → Result DecodedValue RecordFault
set_rop2 bytes = needs_bytes 8 bytes (raster_op_decoded (number_at bytes 6 2))

-- META_SETLAYOUT, 2.3.5.16: only the layout from left to right, 0, is supported, and it has no effect
abbrev pub set_layout : List ℕ → Result DecodedValue RecordFault
set_layout bytes =
    needs_bytes 8 bytes (if number_at bytes 6 2 == 0 then Ok (noting NoteSkipped no_effect) else Err (Unsupported 0x0149))
