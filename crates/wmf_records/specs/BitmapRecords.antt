-- What records with bitmaps mean, and records that paint as those do ([MS-WMF] 2.3.1, 2.3.3.12 and 2.3.4.8).
use Rattle.std.specs.Prelude.{ℕ, ◌+◌, ◌*◌, ◌/◌, Bool, ◌==◌, if◌then◌else◌, List, length, Option, None, Result, Ok}
use Rattle.dib_views.specs.Pictures.{Dib}
use Rattle.point_views.specs.Numbers.{number_at}
use Rattle.draw_ops.specs.BitmapRecords.{blit_meant, dib_at, needs_rgb, pattern_brush_meant, source_as_stored, source_from_top}
use Rattle.draw_ops.specs.Blits.{SourceValue}
use Rattle.draw_ops.specs.Fields.{needs_bytes, yx_at}
use Rattle.draw_ops.specs.Meaning.{DecodedValue}
use Rattle.draw_ops.specs.declared.record_fault.RecordFault.{RecordFault}

-- the blit of a record that begins with its raster operation, and has height, width, y and x at an offset
unfoldable pub blit_to : List ℕ → ℕ → Result (Option SourceValue) RecordFault → Result DecodedValue RecordFault
blit_to bytes place source = blit_meant (yx_at bytes (place + 4)) (yx_at bytes place) (number_at bytes 6 4) source

-- META_PATBLT, 2.3.3.12: the raster operation, height and width, y and x; it has no source
abbrev pub pat_blt : List ℕ → Result DecodedValue RecordFault
pat_blt bytes = needs_bytes 18 bytes (blit_to bytes 10 (Ok None))

-- a record whose bitmap is optional has none exactly if its size in words is the high byte of its function plus 3
abbrev pub is_without_bitmap : ℕ → List ℕ → Bool
is_without_bitmap function bytes = length bytes == 2 * (function / 0x100 + 3)

-- META_DIBBITBLT with a bitmap, 2.3.1.2.1: the raster operation, y and x of the source, height and width of both, y and
-- x, the bitmap
abbrev pub dib_bit_blt_with : List ℕ → Result DecodedValue RecordFault
dib_bit_blt_with bytes =
    needs_bytes 22 bytes (blit_to bytes 14 (source_from_top (yx_at bytes 10) (yx_at bytes 14) (dib_at bytes 22)))

-- META_DIBBITBLT without a bitmap, 2.3.1.2.2, which has 24 bytes: two ignored bytes come before the height
abbrev pub dib_bit_blt_without : List ℕ → Result DecodedValue RecordFault
dib_bit_blt_without bytes = blit_to bytes 16 (Ok None)

-- META_DIBBITBLT, 2.3.1.2
abbrev pub dib_bit_blt : List ℕ → Result DecodedValue RecordFault
dib_bit_blt bytes = if is_without_bitmap 0x0940 bytes then dib_bit_blt_without bytes else dib_bit_blt_with bytes

-- META_DIBSTRETCHBLT with a bitmap, 2.3.1.3.1: the raster operation, height, width, y and x of the source, height,
-- width, y and x, the bitmap
abbrev pub dib_stretch_blt_with : List ℕ → Result DecodedValue RecordFault
dib_stretch_blt_with bytes =
    needs_bytes 26 bytes (blit_to bytes 18 (source_from_top (yx_at bytes 14) (yx_at bytes 10) (dib_at bytes 26)))

-- META_DIBSTRETCHBLT without a bitmap, 2.3.1.3.2, which has 28 bytes: two ignored bytes come before the height
abbrev pub dib_stretch_blt_without : List ℕ → Result DecodedValue RecordFault
dib_stretch_blt_without bytes = blit_to bytes 20 (Ok None)

-- META_DIBSTRETCHBLT, 2.3.1.3
abbrev pub dib_stretch_blt : List ℕ → Result DecodedValue RecordFault
dib_stretch_blt bytes = if is_without_bitmap 0x0b41 bytes then dib_stretch_blt_without bytes else dib_stretch_blt_with bytes

-- META_STRETCHDIB, 2.3.1.6: the raster operation, the usage, height, width, y and x of the source, height, width, y and
-- x, the bitmap
abbrev pub stretch_dib : List ℕ → Result DecodedValue RecordFault
stretch_dib bytes =
    needs_bytes 28 bytes
    (blit_to bytes 20 (source_as_stored (yx_at bytes 16) (yx_at bytes 12) (needs_rgb (number_at bytes 10 2) (dib_at bytes 28))))

-- the bitmap of META_DIBCREATEPATTERNBRUSH; for the style 3 the usage is ignored
abbrev pub pattern_dib : List ℕ → Result Dib RecordFault
pattern_dib bytes = if number_at bytes 6 2 == 3 then dib_at bytes 10 else needs_rgb (number_at bytes 8 2) (dib_at bytes 10)

-- META_DIBCREATEPATTERNBRUSH, 2.3.4.8: the style, the usage, the bitmap
abbrev pub dib_create_pattern_brush : List ℕ → Result DecodedValue RecordFault
dib_create_pattern_brush bytes = needs_bytes 10 bytes (pattern_brush_meant None (pattern_dib bytes))
