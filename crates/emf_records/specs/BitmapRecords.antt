-- What records with bitmaps mean ([MS-EMF] 2.3.1 and 2.3.7.4).
use Rattle.std.specs.Prelude.{ℕ, ◌+◌, Bool, ◌&&◌, ◌==◌, nat_le, if◌then◌else◌, List, length, slice_range, Option, Some, None, Result, Ok, Err}
use Rattle.dib_views.specs.Pictures.{Dib}
use Rattle.mapping.specs.declared.geometry.Point.{Point}
use Rattle.point_views.specs.Numbers.{number_at}
use Rattle.draw_ops.specs.BitmapRecords.{blit_meant, dib_in, needs_rgb, pattern_brush_meant, source_as_stored, source_from_top}
use Rattle.draw_ops.specs.Blits.{SourceValue}
use Rattle.draw_ops.specs.Fields.{needs_bytes, xy_at}
use Rattle.draw_ops.specs.Meaning.{DecodedValue}
use Rattle.draw_ops.specs.declared.record_fault.RecordFault.{RecordFault}
use Rattle.draw_ops.specs.declared.record_fault.RecordFault.TheVariants.{BadParams, Unsupported}
use Rattle.emf_records.specs.TransformRecords.{is_identity_at}

-- the end of the part of a record whose offset and size are at a position
abbrev pub part_end : List ℕ → ℕ → ℕ
part_end bytes place = number_at bytes place 4 + number_at bytes (place + 4) 4

-- the part ends within the record; this applies to an empty part too
abbrev pub has_part : List ℕ → ℕ → Bool
has_part bytes place = nat_le (part_end bytes place) (length bytes)

-- the bytes of the part
abbrev pub part_at : List ℕ → ℕ → List ℕ
part_at bytes place = slice_range bytes (number_at bytes place 4) (part_end bytes place)

-- two parts end within the record; their offsets and sizes are at a position, eight bytes for each
unfoldable pub has_parts : List ℕ → ℕ → Bool
has_parts bytes place = has_part bytes place && has_part bytes (place + 8)

-- a record that lacks one of these parts has bad parameters
abbrev pub needs_parts : {T : Type 0} → List ℕ → ℕ → Result T RecordFault → Result T RecordFault
needs_parts bytes place value = if has_parts bytes place then value else Err BadParams

-- the bitmap with a usage, whose header and table are the first of two parts and whose rows are the second; the offsets
-- and sizes of both are at a position
unfoldable pub dib_of_parts : ℕ → List ℕ → ℕ → Result Dib RecordFault
dib_of_parts usage bytes place = needs_rgb usage (dib_in (part_at bytes place) (part_at bytes (place + 8)))

-- the same bitmap, if both parts are in the record
unfoldable pub dib_by_parts : ℕ → List ℕ → ℕ → Result Dib RecordFault
dib_by_parts usage bytes place = needs_parts bytes place (dib_of_parts usage bytes place)

-- a record isn't supported if the transform of its bitmap, at an offset, isn't the identity
abbrev pub needs_identity : {T : Type 0} → ℕ → List ℕ → ℕ → Result T RecordFault → Result T RecordFault
needs_identity record_type bytes place value = if is_identity_at bytes place then value else Err (Unsupported record_type)

-- the bitmap of EMR_BITBLT or EMR_STRETCHBLT, or the first fault of its parts, its transform, its usage, and itself
unfoldable pub block_dib : ℕ → List ℕ → Result Dib RecordFault
block_dib record_type bytes = needs_parts bytes 84 (needs_identity record_type bytes 52 (dib_of_parts (number_at bytes 80 4) bytes 84))

-- the source of EMR_BITBLT or EMR_STRETCHBLT, with the given extent; without a header there is no bitmap, and its other
-- fields are ignored
unfoldable pub block_source : ℕ → Point → List ℕ → Result (Option SourceValue) RecordFault
block_source record_type extent bytes =
    if number_at bytes 88 4 == 0 then Ok None else source_from_top (xy_at bytes 44) extent (block_dib record_type bytes)

-- the blit of EMR_BITBLT or EMR_STRETCHBLT
unfoldable pub block_blit : List ℕ → Result (Option SourceValue) RecordFault → Result DecodedValue RecordFault
block_blit bytes source = blit_meant (xy_at bytes 24) (xy_at bytes 32) (number_at bytes 40 4) source

-- EMR_BITBLT, 2.3.1.2: the bounds, x, y, width and height, the raster operation, x and y of the source, the transform,
-- an ignored colour, the usage, and the parts of the header and the rows; the source is as wide and as high as the
-- rectangle
abbrev pub bit_blt : List ℕ → Result DecodedValue RecordFault
bit_blt bytes = needs_bytes 100 bytes (block_blit bytes (block_source 76 (xy_at bytes 32) bytes))

-- EMR_STRETCHBLT, 2.3.1.6: the same, followed by width and height of the source
abbrev pub stretch_blt : List ℕ → Result DecodedValue RecordFault
stretch_blt bytes = needs_bytes 108 bytes (block_blit bytes (block_source 77 (xy_at bytes 100) bytes))

-- the source of EMR_STRETCHDIBITS; without a header there is no bitmap, and its other fields are ignored
unfoldable pub stretch_source : List ℕ → Result (Option SourceValue) RecordFault
stretch_source bytes =
    if number_at bytes 52 4 == 0 then Ok None else source_as_stored (xy_at bytes 32) (xy_at bytes 40) (dib_by_parts (number_at bytes 64 4) bytes 48)

-- EMR_STRETCHDIBITS, 2.3.1.7: the bounds, x and y, x, y, width and height of the source, the parts of the header and
-- the rows, the usage, the raster operation, width and height
abbrev pub stretch_di_bits : List ℕ → Result DecodedValue RecordFault
stretch_di_bits bytes = needs_bytes 80 bytes (blit_meant (xy_at bytes 24) (xy_at bytes 72) (number_at bytes 68 4) (stretch_source bytes))

-- EMR_CREATEDIBPATTERNBRUSHPT, 2.3.7.4: the index, the usage, and the parts of the header and the rows
abbrev pub create_dib_pattern_brush_pt : List ℕ → Result DecodedValue RecordFault
create_dib_pattern_brush_pt bytes =
    needs_bytes 32 bytes (pattern_brush_meant (Some (number_at bytes 8 4)) (dib_by_parts (number_at bytes 12 4) bytes 16))
