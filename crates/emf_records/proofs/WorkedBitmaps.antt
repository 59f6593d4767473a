-- The records with bitmaps on worked values.
use Rattle.std.proofs.Common.{◌≡◌, ℕ, ℤ, pos, negsuc, List, [], ◌∷◌, ◌++◌, replicate, Some, None, Ok, Err, refl}
use Rattle.dib_views.specs.Pictures.{Picture}
use Rattle.mapping.specs.declared.geometry.Point.{Point}
use Rattle.draw_ops.specs.BitmapRecords.{blit_meant, dib_in, pattern_brush_meant, source_as_stored, source_from_top}
use Rattle.draw_ops.specs.Blits.{top, bottom}
use Rattle.draw_ops.specs.Meaning.{unnoted}
use Rattle.draw_ops.specs.Objects.{brush_object, tile_brush}
use Rattle.draw_ops.specs.Operation.{blit, create}
use Rattle.draw_ops.specs.Records.{Record}
use Rattle.draw_ops.specs.declared.record_fault.RecordFault.TheVariants.{BadDib, BadParams, CompressedDib, PaletteColour, ShortDib, Unsupported}
use Rattle.emf_records.specs.BitmapRecords.{block_blit, block_dib, block_source, dib_by_parts, dib_of_parts, has_parts, stretch_source}
use Rattle.emf_records.specs.Emf.{emf_meaning, emf_record}
use Rattle.emf_records.specs.TransformRecords.{is_identity_at}

abbrev at : ℤ → ℤ → Point
at x y = record { x = x; y = y }

-- a number below 256, in two bytes and in four
abbrev word : ℕ → List ℕ
word n = n ∷ 0 ∷ []

abbrev long : ℕ → List ℕ
long n = n ∷ 0 ∷ 0 ∷ 0 ∷ []

-- -1 in four bytes, which without a sign is the greatest number
abbrev greatest : List ℕ
greatest = 255 ∷ 255 ∷ 255 ∷ 255 ∷ []

-- a bitmap's header by its size, its height, the bits of a pixel and the compression; the width is 1
abbrev header : ℕ → List ℕ → ℕ → ℕ → List ℕ
header size height bits compression = long size ++ long 1 ++ height ++ word 1 ++ word bits ++ long compression ++ replicate 20 0

-- the row of one red pixel of 24 bits
abbrev red_row : List ℕ
red_row = 0 ∷ 0 ∷ 255 ∷ 0 ∷ []

-- the picture of that pixel
abbrev red : Picture
red = record { width = 1; height = 1; rows = (record { r = 255; g = 0; b = 0 } ∷ []) ∷ [] }

-- its header, where its bottom row is stored first
abbrev info : List ℕ
info = header 40 (long 1) 24 0

-- a record of a type, the head's eight bytes and the bounds being any
abbrev emf : ℕ → List ℕ → Record
emf kind params = record { kind = kind; bytes = replicate 24 0 ++ params }

-- the numbers of raster operations: PATINVERT and SRCCOPY
abbrev pat_invert : List ℕ
pat_invert = 0x49 ∷ 0 ∷ 0x5a ∷ 0 ∷ []

abbrev src_copy : List ℕ
src_copy = 0x20 ∷ 0 ∷ 0xcc ∷ 0 ∷ []

-- the transform that changes nothing, and one that isn't it
abbrev one : List ℕ
one = 0 ∷ 0 ∷ 0x80 ∷ 0x3f ∷ []

abbrev identity : List ℕ
identity = one ++ long 0 ++ long 0 ++ one ++ long 0 ++ long 0

abbrev nowhere : List ℕ
nowhere = replicate 24 0

-- EMR_BITBLT and EMR_STRETCHBLT up to the transform: x 1, y 2, width 3, height 4, the number, x 5 and y 6 of the source
abbrev block : List ℕ → List ℕ → List ℕ
block code transform = long 1 ++ long 2 ++ long 3 ++ long 4 ++ code ++ long 5 ++ long 6 ++ transform ++ replicate 4 9

-- the usage, and where the header and the rows are
abbrev parts : ℕ → List ℕ → List ℕ → List ℕ → List ℕ → List ℕ
parts usage info_offset info_size bits_offset bits_size = long usage ++ info_offset ++ info_size ++ bits_offset ++ bits_size

-- EMR_BITBLT without a header has no bitmap, and neither transform nor usage nor offsets are looked at; it has to be whole
block_without : emf_meaning 1 (emf 76 (block pat_invert nowhere ++ parts 9 greatest (long 0) greatest greatest)) ≡ Ok (unnoted (blit (record { corner = at (pos 1) (pos 2); extent = at (pos 3) (pos 4); table = 0x5a; source = None })))
unfolding emf_record block_blit has_parts dib_of_parts dib_by_parts block_dib block_source stretch_source is_identity_at dib_in source_from_top source_as_stored blit_meant pattern_brush_meant
block_without = refl

short_block_without : emf_meaning 1 (emf 76 (block pat_invert nowhere ++ long 9 ++ greatest ++ long 0 ++ greatest)) ≡ Err BadParams
unfolding emf_record block_blit has_parts dib_of_parts dib_by_parts block_dib block_source stretch_source is_identity_at dib_in source_from_top source_as_stored blit_meant pattern_brush_meant
short_block_without = refl

-- with one: the header behind the fields, and the row behind the header; the source is as wide and as high
block_with : emf_meaning 1 (emf 76 (block src_copy identity ++ parts 0 (long 100) (long 40) (long 140) (long 4) ++ info ++ red_row)) ≡ Ok (unnoted (blit (record { corner = at (pos 1) (pos 2); extent = at (pos 3) (pos 4); table = 0xcc; source = Some (record { picture = red; corner = at (pos 5) (pos 6); extent = at (pos 3) (pos 4); counted = top }) })))
unfolding emf_record block_blit has_parts dib_of_parts dib_by_parts block_dib block_source stretch_source is_identity_at dib_in source_from_top source_as_stored blit_meant pattern_brush_meant
block_with = refl

-- the parts may stand in any order, and the record may end where one ends
block_with_its_row_first : emf_meaning 1 (emf 76 (block src_copy identity ++ parts 0 (long 104) (long 40) (long 100) (long 4) ++ red_row ++ info)) ≡ Ok (unnoted (blit (record { corner = at (pos 1) (pos 2); extent = at (pos 3) (pos 4); table = 0xcc; source = Some (record { picture = red; corner = at (pos 5) (pos 6); extent = at (pos 3) (pos 4); counted = top }) })))
unfolding emf_record block_blit has_parts dib_of_parts dib_by_parts block_dib block_source stretch_source is_identity_at dib_in source_from_top source_as_stored blit_meant pattern_brush_meant
block_with_its_row_first = refl

-- its faults in order: a part that isn't in the record, a transform, a usage, and then those of the bitmap
block_of_transform : emf_meaning 1 (emf 76 (block src_copy nowhere ++ parts 1 (long 100) (long 13) (long 100) (long 0) ++ header 12 (long 1) 24 0 ++ red_row)) ≡ Err (Unsupported 76)
unfolding emf_record block_blit has_parts dib_of_parts dib_by_parts block_dib block_source stretch_source is_identity_at dib_in source_from_top source_as_stored blit_meant pattern_brush_meant
block_of_transform = refl

block_of_header_outside : emf_meaning 1 (emf 76 (block src_copy nowhere ++ parts 1 (long 100) (long 45) (long 140) (long 4) ++ header 12 (long 1) 24 0 ++ red_row)) ≡ Err BadParams
unfolding emf_record block_blit has_parts dib_of_parts dib_by_parts block_dib block_source stretch_source is_identity_at dib_in source_from_top source_as_stored blit_meant pattern_brush_meant
block_of_header_outside = refl

block_of_rows_outside : emf_meaning 1 (emf 76 (block src_copy nowhere ++ parts 1 (long 100) (long 40) (long 140) (long 5) ++ header 12 (long 1) 24 0 ++ red_row)) ≡ Err BadParams
unfolding emf_record block_blit has_parts dib_of_parts dib_by_parts block_dib block_source stretch_source is_identity_at dib_in source_from_top source_as_stored blit_meant pattern_brush_meant
block_of_rows_outside = refl

block_of_palette : emf_meaning 1 (emf 76 (block src_copy identity ++ parts 1 (long 100) (long 40) (long 140) (long 4) ++ header 12 (long 1) 24 0 ++ red_row)) ≡ Err PaletteColour
unfolding emf_record block_blit has_parts dib_of_parts dib_by_parts block_dib block_source stretch_source is_identity_at dib_in source_from_top source_as_stored blit_meant pattern_brush_meant
block_of_palette = refl

block_of_another_header : emf_meaning 1 (emf 76 (block src_copy identity ++ parts 0 (long 100) (long 40) (long 140) (long 4) ++ header 12 (long 1) 24 1 ++ red_row)) ≡ Err BadDib
unfolding emf_record block_blit has_parts dib_of_parts dib_by_parts block_dib block_source stretch_source is_identity_at dib_in source_from_top source_as_stored blit_meant pattern_brush_meant
block_of_another_header = refl

block_of_packed_rows : emf_meaning 1 (emf 76 (block src_copy identity ++ parts 0 (long 100) (long 40) (long 140) (long 4) ++ header 40 (long 1) 24 1 ++ red_row)) ≡ Err CompressedDib
unfolding emf_record block_blit has_parts dib_of_parts dib_by_parts block_dib block_source stretch_source is_identity_at dib_in source_from_top source_as_stored blit_meant pattern_brush_meant
block_of_packed_rows = refl

block_of_short_rows : emf_meaning 1 (emf 76 (block src_copy identity ++ parts 0 (long 100) (long 40) (long 140) (long 3) ++ info ++ red_row)) ≡ Err ShortDib
unfolding emf_record block_blit has_parts dib_of_parts dib_by_parts block_dib block_source stretch_source is_identity_at dib_in source_from_top source_as_stored blit_meant pattern_brush_meant
block_of_short_rows = refl

-- also where the raster operation needs no source
block_that_needs_none : emf_meaning 1 (emf 76 (block pat_invert identity ++ parts 0 (long 100) (long 40) (long 140) (long 3) ++ info ++ red_row)) ≡ Err ShortDib
unfolding emf_record block_blit has_parts dib_of_parts dib_by_parts block_dib block_source stretch_source is_identity_at dib_in source_from_top source_as_stored blit_meant pattern_brush_meant
block_that_needs_none = refl

-- the greatest offset and 1 don't come round to 0, and an empty part outside the record isn't in it
block_of_header_past_all : emf_meaning 1 (emf 76 (block src_copy identity ++ parts 0 greatest (long 1) (long 140) (long 4) ++ info ++ red_row)) ≡ Err BadParams
unfolding emf_record block_blit has_parts dib_of_parts dib_by_parts block_dib block_source stretch_source is_identity_at dib_in source_from_top source_as_stored blit_meant pattern_brush_meant
block_of_header_past_all = refl

block_of_rows_past_all : emf_meaning 1 (emf 76 (block src_copy identity ++ parts 0 (long 100) (long 40) greatest (long 1) ++ info ++ red_row)) ≡ Err BadParams
unfolding emf_record block_blit has_parts dib_of_parts dib_by_parts block_dib block_source stretch_source is_identity_at dib_in source_from_top source_as_stored blit_meant pattern_brush_meant
block_of_rows_past_all = refl

block_of_no_rows_outside : emf_meaning 1 (emf 76 (block src_copy identity ++ parts 0 (long 100) (long 40) (long 145) (long 0) ++ info ++ red_row)) ≡ Err BadParams
unfolding emf_record block_blit has_parts dib_of_parts dib_by_parts block_dib block_source stretch_source is_identity_at dib_in source_from_top source_as_stored blit_meant pattern_brush_meant
block_of_no_rows_outside = refl

block_of_no_rows_at_the_end : emf_meaning 1 (emf 76 (block src_copy identity ++ parts 0 (long 100) (long 40) (long 144) (long 0) ++ info ++ red_row)) ≡ Err ShortDib
unfolding emf_record block_blit has_parts dib_of_parts dib_by_parts block_dib block_source stretch_source is_identity_at dib_in source_from_top source_as_stored blit_meant pattern_brush_meant
block_of_no_rows_at_the_end = refl

-- EMR_STRETCHBLT without a header, and without the last of its fields; with one: width 7 and height 8 of the source
stretch_without : emf_meaning 1 (emf 77 (block pat_invert nowhere ++ parts 9 greatest (long 0) greatest greatest ++ long 7 ++ long 8)) ≡ Ok (unnoted (blit (record { corner = at (pos 1) (pos 2); extent = at (pos 3) (pos 4); table = 0x5a; source = None })))
unfolding emf_record block_blit has_parts dib_of_parts dib_by_parts block_dib block_source stretch_source is_identity_at dib_in source_from_top source_as_stored blit_meant pattern_brush_meant
stretch_without = refl

short_stretch_without : emf_meaning 1 (emf 77 (block pat_invert nowhere ++ parts 9 greatest (long 0) greatest greatest ++ long 7)) ≡ Err BadParams
unfolding emf_record block_blit has_parts dib_of_parts dib_by_parts block_dib block_source stretch_source is_identity_at dib_in source_from_top source_as_stored blit_meant pattern_brush_meant
short_stretch_without = refl

stretch_with : emf_meaning 1 (emf 77 (block src_copy identity ++ parts 0 (long 108) (long 40) (long 148) (long 4) ++ long 7 ++ greatest ++ info ++ red_row)) ≡ Ok (unnoted (blit (record { corner = at (pos 1) (pos 2); extent = at (pos 3) (pos 4); table = 0xcc; source = Some (record { picture = red; corner = at (pos 5) (pos 6); extent = at (pos 7) (negsuc 0); counted = top }) })))
unfolding emf_record block_blit has_parts dib_of_parts dib_by_parts block_dib block_source stretch_source is_identity_at dib_in source_from_top source_as_stored blit_meant pattern_brush_meant
stretch_with = refl

-- its faults in order
stretch_of_header_outside : emf_meaning 1 (emf 77 (block src_copy nowhere ++ parts 1 (long 109) (long 44) (long 148) (long 4) ++ long 7 ++ long 8 ++ header 12 (long 1) 24 0 ++ red_row)) ≡ Err BadParams
unfolding emf_record block_blit has_parts dib_of_parts dib_by_parts block_dib block_source stretch_source is_identity_at dib_in source_from_top source_as_stored blit_meant pattern_brush_meant
stretch_of_header_outside = refl

stretch_of_rows_past_all : emf_meaning 1 (emf 77 (block src_copy nowhere ++ parts 1 (long 108) (long 40) greatest (long 1) ++ long 7 ++ long 8 ++ header 12 (long 1) 24 0 ++ red_row)) ≡ Err BadParams
unfolding emf_record block_blit has_parts dib_of_parts dib_by_parts block_dib block_source stretch_source is_identity_at dib_in source_from_top source_as_stored blit_meant pattern_brush_meant
stretch_of_rows_past_all = refl

stretch_of_transform : emf_meaning 1 (emf 77 (block src_copy nowhere ++ parts 1 (long 108) (long 40) (long 148) (long 4) ++ long 7 ++ long 8 ++ header 12 (long 1) 24 0 ++ red_row)) ≡ Err (Unsupported 77)
unfolding emf_record block_blit has_parts dib_of_parts dib_by_parts block_dib block_source stretch_source is_identity_at dib_in source_from_top source_as_stored blit_meant pattern_brush_meant
stretch_of_transform = refl

stretch_of_palette : emf_meaning 1 (emf 77 (block src_copy identity ++ parts 1 (long 108) (long 40) (long 148) (long 4) ++ long 7 ++ long 8 ++ header 12 (long 1) 24 0 ++ red_row)) ≡ Err PaletteColour
unfolding emf_record block_blit has_parts dib_of_parts dib_by_parts block_dib block_source stretch_source is_identity_at dib_in source_from_top source_as_stored blit_meant pattern_brush_meant
stretch_of_palette = refl

stretch_of_another_header : emf_meaning 1 (emf 77 (block src_copy identity ++ parts 0 (long 108) (long 40) (long 148) (long 4) ++ long 7 ++ long 8 ++ header 12 (long 1) 24 0 ++ red_row)) ≡ Err BadDib
unfolding emf_record block_blit has_parts dib_of_parts dib_by_parts block_dib block_source stretch_source is_identity_at dib_in source_from_top source_as_stored blit_meant pattern_brush_meant
stretch_of_another_header = refl

-- EMR_STRETCHDIBITS without a header, and without the last of its fields
stretched_without : emf_meaning 1 (emf 81 (long 1 ++ long 2 ++ long 5 ++ long 6 ++ long 7 ++ long 8 ++ greatest ++ long 0 ++ greatest ++ greatest ++ long 9 ++ pat_invert ++ long 3 ++ long 4)) ≡ Ok (unnoted (blit (record { corner = at (pos 1) (pos 2); extent = at (pos 3) (pos 4); table = 0x5a; source = None })))
unfolding emf_record block_blit has_parts dib_of_parts dib_by_parts block_dib block_source stretch_source is_identity_at dib_in source_from_top source_as_stored blit_meant pattern_brush_meant
stretched_without = refl

short_stretched_without : emf_meaning 1 (emf 81 (long 1 ++ long 2 ++ long 5 ++ long 6 ++ long 7 ++ long 8 ++ greatest ++ long 0 ++ greatest ++ greatest ++ long 9 ++ pat_invert ++ long 3)) ≡ Err BadParams
unfolding emf_record block_blit has_parts dib_of_parts dib_by_parts block_dib block_source stretch_source is_identity_at dib_in source_from_top source_as_stored blit_meant pattern_brush_meant
short_stretched_without = refl

-- with one: the rows are counted from the bottom where the bottom row is stored first, and else from the top
stretched : emf_meaning 1 (emf 81 (long 1 ++ long 2 ++ long 5 ++ long 6 ++ long 7 ++ long 8 ++ long 80 ++ long 40 ++ long 120 ++ long 4 ++ long 0 ++ src_copy ++ long 3 ++ long 4 ++ info ++ red_row)) ≡ Ok (unnoted (blit (record { corner = at (pos 1) (pos 2); extent = at (pos 3) (pos 4); table = 0xcc; source = Some (record { picture = red; corner = at (pos 5) (pos 6); extent = at (pos 7) (pos 8); counted = bottom }) })))
unfolding emf_record block_blit has_parts dib_of_parts dib_by_parts block_dib block_source stretch_source is_identity_at dib_in source_from_top source_as_stored blit_meant pattern_brush_meant
stretched = refl

stretched_from_top : emf_meaning 1 (emf 81 (long 1 ++ long 2 ++ long 5 ++ long 6 ++ long 7 ++ long 8 ++ long 80 ++ long 40 ++ long 120 ++ long 4 ++ long 0 ++ src_copy ++ long 3 ++ long 4 ++ header 40 greatest 24 0 ++ red_row)) ≡ Ok (unnoted (blit (record { corner = at (pos 1) (pos 2); extent = at (pos 3) (pos 4); table = 0xcc; source = Some (record { picture = red; corner = at (pos 5) (pos 6); extent = at (pos 7) (pos 8); counted = top }) })))
unfolding emf_record block_blit has_parts dib_of_parts dib_by_parts block_dib block_source stretch_source is_identity_at dib_in source_from_top source_as_stored blit_meant pattern_brush_meant
stretched_from_top = refl

-- its faults in order
stretched_of_header_past_all : emf_meaning 1 (emf 81 (long 1 ++ long 2 ++ long 5 ++ long 6 ++ long 7 ++ long 8 ++ greatest ++ long 1 ++ long 120 ++ long 4 ++ long 1 ++ src_copy ++ long 3 ++ long 4 ++ header 12 (long 1) 24 0 ++ red_row)) ≡ Err BadParams
unfolding emf_record block_blit has_parts dib_of_parts dib_by_parts block_dib block_source stretch_source is_identity_at dib_in source_from_top source_as_stored blit_meant pattern_brush_meant
stretched_of_header_past_all = refl

stretched_of_rows_outside : emf_meaning 1 (emf 81 (long 1 ++ long 2 ++ long 5 ++ long 6 ++ long 7 ++ long 8 ++ long 80 ++ long 40 ++ long 121 ++ long 4 ++ long 1 ++ src_copy ++ long 3 ++ long 4 ++ header 12 (long 1) 24 0 ++ red_row)) ≡ Err BadParams
unfolding emf_record block_blit has_parts dib_of_parts dib_by_parts block_dib block_source stretch_source is_identity_at dib_in source_from_top source_as_stored blit_meant pattern_brush_meant
stretched_of_rows_outside = refl

stretched_of_palette : emf_meaning 1 (emf 81 (long 1 ++ long 2 ++ long 5 ++ long 6 ++ long 7 ++ long 8 ++ long 80 ++ long 40 ++ long 120 ++ long 4 ++ long 1 ++ src_copy ++ long 3 ++ long 4 ++ header 12 (long 1) 24 0 ++ red_row)) ≡ Err PaletteColour
unfolding emf_record block_blit has_parts dib_of_parts dib_by_parts block_dib block_source stretch_source is_identity_at dib_in source_from_top source_as_stored blit_meant pattern_brush_meant
stretched_of_palette = refl

stretched_of_another_header : emf_meaning 1 (emf 81 (long 1 ++ long 2 ++ long 5 ++ long 6 ++ long 7 ++ long 8 ++ long 80 ++ long 40 ++ long 120 ++ long 4 ++ long 0 ++ src_copy ++ long 3 ++ long 4 ++ header 12 (long 1) 24 0 ++ red_row)) ≡ Err BadDib
unfolding emf_record block_blit has_parts dib_of_parts dib_by_parts block_dib block_source stretch_source is_identity_at dib_in source_from_top source_as_stored blit_meant pattern_brush_meant
stretched_of_another_header = refl

stretched_of_packed_rows : emf_meaning 1 (emf 81 (long 1 ++ long 2 ++ long 5 ++ long 6 ++ long 7 ++ long 8 ++ long 80 ++ long 40 ++ long 120 ++ long 4 ++ long 0 ++ pat_invert ++ long 3 ++ long 4 ++ header 40 (long 1) 24 1 ++ red_row)) ≡ Err CompressedDib
unfolding emf_record block_blit has_parts dib_of_parts dib_by_parts block_dib block_source stretch_source is_identity_at dib_in source_from_top source_as_stored blit_meant pattern_brush_meant
stretched_of_packed_rows = refl

stretched_of_short_header : emf_meaning 1 (emf 81 (long 1 ++ long 2 ++ long 5 ++ long 6 ++ long 7 ++ long 8 ++ long 80 ++ long 39 ++ long 120 ++ long 4 ++ long 0 ++ pat_invert ++ long 3 ++ long 4 ++ info ++ red_row)) ≡ Err ShortDib
unfolding emf_record block_blit has_parts dib_of_parts dib_by_parts block_dib block_source stretch_source is_identity_at dib_in source_from_top source_as_stored blit_meant pattern_brush_meant
stretched_of_short_header = refl

-- EMR_CREATEDIBPATTERNBRUSHPT makes a brush at its index, here 5
tiles : emf_meaning 1 (record { kind = 94; bytes = replicate 8 0 ++ long 5 ++ long 0 ++ long 32 ++ long 40 ++ long 72 ++ long 4 ++ info ++ red_row }) ≡ Ok (unnoted (create (Some 5) (brush_object (tile_brush red))))
unfolding emf_record block_blit has_parts dib_of_parts dib_by_parts block_dib block_source stretch_source is_identity_at dib_in source_from_top source_as_stored blit_meant pattern_brush_meant
tiles = refl

-- its faults in order; without a header the offsets are looked at, and then it is short
short_tiles : emf_meaning 1 (record { kind = 94; bytes = replicate 8 0 ++ long 5 ++ long 1 ++ long 32 ++ long 40 ++ long 72 }) ≡ Err BadParams
unfolding emf_record block_blit has_parts dib_of_parts dib_by_parts block_dib block_source stretch_source is_identity_at dib_in source_from_top source_as_stored blit_meant pattern_brush_meant
short_tiles = refl

tiles_of_header_past_all : emf_meaning 1 (record { kind = 94; bytes = replicate 8 0 ++ long 5 ++ long 1 ++ greatest ++ long 1 ++ long 72 ++ long 4 ++ header 12 (long 1) 24 0 ++ red_row }) ≡ Err BadParams
unfolding emf_record block_blit has_parts dib_of_parts dib_by_parts block_dib block_source stretch_source is_identity_at dib_in source_from_top source_as_stored blit_meant pattern_brush_meant
tiles_of_header_past_all = refl

tiles_of_rows_outside : emf_meaning 1 (record { kind = 94; bytes = replicate 8 0 ++ long 5 ++ long 1 ++ long 32 ++ long 0 ++ long 77 ++ long 0 ++ info ++ red_row }) ≡ Err BadParams
unfolding emf_record block_blit has_parts dib_of_parts dib_by_parts block_dib block_source stretch_source is_identity_at dib_in source_from_top source_as_stored blit_meant pattern_brush_meant
tiles_of_rows_outside = refl

tiles_of_palette : emf_meaning 1 (record { kind = 94; bytes = replicate 8 0 ++ long 5 ++ long 1 ++ long 32 ++ long 40 ++ long 72 ++ long 4 ++ header 12 (long 1) 24 0 ++ red_row }) ≡ Err PaletteColour
unfolding emf_record block_blit has_parts dib_of_parts dib_by_parts block_dib block_source stretch_source is_identity_at dib_in source_from_top source_as_stored blit_meant pattern_brush_meant
tiles_of_palette = refl

tiles_of_another_header : emf_meaning 1 (record { kind = 94; bytes = replicate 8 0 ++ long 5 ++ long 0 ++ long 32 ++ long 40 ++ long 72 ++ long 4 ++ header 12 (long 1) 24 0 ++ red_row }) ≡ Err BadDib
unfolding emf_record block_blit has_parts dib_of_parts dib_by_parts block_dib block_source stretch_source is_identity_at dib_in source_from_top source_as_stored blit_meant pattern_brush_meant
tiles_of_another_header = refl

tiles_of_packed_rows : emf_meaning 1 (record { kind = 94; bytes = replicate 8 0 ++ long 5 ++ long 0 ++ long 32 ++ long 40 ++ long 72 ++ long 4 ++ header 40 (long 1) 24 1 ++ red_row }) ≡ Err CompressedDib
unfolding emf_record block_blit has_parts dib_of_parts dib_by_parts block_dib block_source stretch_source is_identity_at dib_in source_from_top source_as_stored blit_meant pattern_brush_meant
tiles_of_packed_rows = refl

tiles_without_header : emf_meaning 1 (record { kind = 94; bytes = replicate 8 0 ++ long 5 ++ long 0 ++ long 32 ++ long 0 ++ long 72 ++ long 4 ++ info ++ red_row }) ≡ Err ShortDib
unfolding emf_record block_blit has_parts dib_of_parts dib_by_parts block_dib block_source stretch_source is_identity_at dib_in source_from_top source_as_stored blit_meant pattern_brush_meant
tiles_without_header = refl
