-- What clipping, comment and state records mean ([MS-EMF] 2.3.2, 2.3.3 and 2.3.11).
use Rattle.std.specs.Prelude.{ℕ, ◌==◌, ◌&&◌, nat_le, if◌then◌else◌, List, length, Result, Ok, Err}
use Rattle.mapping.specs.declared.geometry.Point.{Point}
use Rattle.point_views.specs.Numbers.{number_at, i32_at}
use Rattle.draw_ops.specs.Fields.{box_at, needs_bytes, rgb_at, xy_at}
use Rattle.draw_ops.specs.Meaning.{DecodedValue, noting, plain, unnoted}
use Rattle.draw_ops.specs.Modes.{background_mode_decoded, fill_mode_decoded, map_mode_meant, raster_op_decoded}
use Rattle.draw_ops.specs.Operation.{Operation, no_effect, exclude_clip, intersect_clip, remove_clip, restore, set_background_colour}
use Rattle.draw_ops.specs.declared.record_fault.RecordFault.{RecordFault}
use Rattle.draw_ops.specs.declared.record_fault.RecordFault.TheVariants.{Unsupported}
use Rattle.draw_ops.specs.declared.note.Note.TheVariants.{EmfPlus, Skipped as NoteSkipped}

-- EMR_EXCLUDECLIPRECT and EMR_INTERSECTCLIPRECT: left, top, right and bottom
abbrev pub exclude_clip_rect : List ℕ → Result DecodedValue RecordFault
exclude_clip_rect bytes = needs_bytes 24 bytes (Ok (unnoted (exclude_clip (box_at bytes 8))))

-- EMR_INTERSECTCLIPRECT: the same box, to be kept instead of cut out
abbrev pub intersect_clip_rect : List ℕ → Result DecodedValue RecordFault
intersect_clip_rect bytes = needs_bytes 24 bytes (Ok (unnoted (intersect_clip (box_at bytes 8))))

-- EMR_EXTSELECTCLIPRGN: the size of a region's data, and the mode; without data and with the mode 5, the clip is
-- removed
abbrev pub ext_select_clip_rgn : List ℕ → Result DecodedValue RecordFault
ext_select_clip_rgn bytes =
    needs_bytes 16 bytes (if number_at bytes 8 4 == 0 && number_at bytes 12 4 == 5 then Ok (unnoted remove_clip) else Err (Unsupported 75))

-- EMR_COMMENT: the comment's length and the comment; it is an EMF+ comment if it begins with `EMF+` ([MS-EMF] 2.3.3.2),
-- whatever its length says (ours)
abbrev pub comment : List ℕ → Result DecodedValue RecordFault
comment bytes =
    if nat_le 16 (length bytes) && number_at bytes 12 4 == 0x2b464d45 then Ok (noting EmfPlus no_effect) else Ok (noting NoteSkipped no_effect)

-- the origin, extent or position of a record: x and y
abbrev pub point_in : List ℕ → Result Point RecordFault
point_in bytes = needs_bytes 16 bytes (Ok (xy_at bytes 8))

-- a record whose operation is made from the point
abbrev pub point_record : (Point → Operation) → List ℕ → Result DecodedValue RecordFault
point_record make bytes = plain make (point_in bytes)

-- EMR_RESTOREDC: which saved state
abbrev pub restore_dc : List ℕ → Result DecodedValue RecordFault
restore_dc bytes = needs_bytes 12 bytes (Ok (unnoted (restore (i32_at bytes 8))))

-- EMR_SETBKCOLOR: the colour
abbrev pub set_bk_color : List ℕ → Result DecodedValue RecordFault
set_bk_color bytes = needs_bytes 12 bytes (plain set_background_colour (rgb_at bytes 8))

-- EMR_SETBKMODE, EMR_SETMAPMODE, EMR_SETPOLYFILLMODE and EMR_SETROP2: the mode
abbrev pub set_bk_mode : List ℕ → Result DecodedValue RecordFault
set_bk_mode bytes = needs_bytes 12 bytes (background_mode_decoded (number_at bytes 8 4))

-- EMR_SETMAPMODE: the map mode
abbrev pub set_map_mode_record : List ℕ → Result DecodedValue RecordFault
set_map_mode_record bytes = needs_bytes 12 bytes (map_mode_meant (number_at bytes 8 4))

-- EMR_SETPOLYFILLMODE: the fill mode
abbrev pub set_poly_fill_mode : List ℕ → Result DecodedValue RecordFault
set_poly_fill_mode bytes = needs_bytes 12 bytes (fill_mode_decoded (number_at bytes 8 4))

-- EMR_SETROP2: the binary raster operation
abbrev pub set_rop2 : List ℕ → Result DecodedValue RecordFault
set_rop2 bytes = needs_bytes 12 bytes (raster_op_decoded (number_at bytes 8 4))

-- EMR_SETLAYOUT: only the layout from left to right, 0, is supported, and it has no effect
abbrev pub set_layout : List ℕ → Result DecodedValue RecordFault
set_layout bytes = needs_bytes 12 bytes (if number_at bytes 8 4 == 0 then Ok (unnoted no_effect) else Err (Unsupported 115))
