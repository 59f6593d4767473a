-- The records with bitmaps on worked values.
use Rattle.std.proofs.Common.{◌≡◌, ℕ, ℤ, pos, negsuc, List, [], ◌∷◌, ◌++◌, replicate, Some, None, Ok, Err, refl}
use Rattle.dib_views.specs.Pictures.{Picture}
use Rattle.mapping.specs.declared.geometry.Point.{Point}
use Rattle.draw_ops.specs.BitmapRecords.{blit_meant, dib_at, pattern_brush_meant, source_as_stored, source_from_top}
use Rattle.draw_ops.specs.Blits.{top, bottom}
use Rattle.draw_ops.specs.Meaning.{unnoted}
use Rattle.draw_ops.specs.Objects.{brush_object, tile_brush}
use Rattle.draw_ops.specs.Operation.{blit, create}
use Rattle.draw_ops.specs.Records.{Record}
use Rattle.draw_ops.specs.declared.record_fault.RecordFault.TheVariants.{BadDib, BadParams, CompressedDib, PaletteColour, ShortDib}
use Rattle.wmf_records.specs.BitmapRecords.{blit_to}
use Rattle.wmf_records.specs.Wmf.{wmf_meaning, wmf_record}

abbrev at : ℤ → ℤ → Point
at x y = record { x = x; y = y }

-- a number below 256, in two bytes and in four
abbrev word : ℕ → List ℕ
word n = n ∷ 0 ∷ []

abbrev long : ℕ → List ℕ
long n = n ∷ 0 ∷ 0 ∷ 0 ∷ []

-- -1 in four bytes, which without a sign is the greatest number
abbrev greatest : List ℕ
greatest = 255 ∷ 255 ∷ 255 ∷ 255 ∷ []

-- a bitmap's header by its size, its height, the bits of a pixel and the compression; the width is 1
abbrev header : ℕ → List ℕ → ℕ → ℕ → List ℕ
header size height bits compression = long size ++ long 1 ++ height ++ word 1 ++ word bits ++ long compression ++ replicate 20 0

-- the row of one red pixel of 24 bits
abbrev red_row : List ℕ
red_row = 0 ∷ 0 ∷ 255 ∷ 0 ∷ []

-- the picture of that pixel
abbrev red : Picture
red = record { width = 1; height = 1; rows = (record { r = 255; g = 0; b = 0 } ∷ []) ∷ [] }

-- a packed bitmap of it, whose bottom row is stored first
abbrev dib : List ℕ
dib = header 40 (long 1) 24 0 ++ red_row

-- a record of a function, the head's six bytes being any
abbrev wmf : ℕ → List ℕ → Record
wmf kind params = record { kind = kind; bytes = replicate 6 0 ++ params }

-- the numbers of raster operations: PATINVERT, SRCCOPY and PATCOPY
abbrev pat_invert : List ℕ
pat_invert = 0x49 ∷ 0 ∷ 0x5a ∷ 0 ∷ []

abbrev src_copy : List ℕ
src_copy = 0x20 ∷ 0 ∷ 0xcc ∷ 0 ∷ []

abbrev pat_copy : List ℕ
pat_copy = 0x21 ∷ 0 ∷ 0xf0 ∷ 0 ∷ []

-- META_PATBLT: the number, height 2, width 3, y -1, x 4; and without its last word
pattern : wmf_meaning 0 (wmf 0x061d (pat_invert ++ word 2 ++ word 3 ++ 255 ∷ 255 ∷ [] ++ word 4)) ≡ Ok (unnoted (blit (record { corner = at (pos 4) (negsuc 0); extent = at (pos 3) (pos 2); table = 0x5a; source = None })))
unfolding wmf_record blit_to dib_at source_from_top source_as_stored blit_meant pattern_brush_meant
pattern = refl

short_pattern : wmf_meaning 0 (wmf 0x061d (pat_invert ++ word 2 ++ word 3 ++ 255 ∷ 255 ∷ [])) ≡ Err BadParams
unfolding wmf_record blit_to dib_at source_from_top source_as_stored blit_meant pattern_brush_meant
short_pattern = refl

-- META_DIBBITBLT of 12 words has no bitmap: y 1 and x 2 of the source, a word that isn't read, height 3, width 4, y 5, x 6
block_without : wmf_meaning 0 (wmf 0x0940 (pat_invert ++ word 1 ++ word 2 ++ word 9 ++ word 3 ++ word 4 ++ word 5 ++ word 6)) ≡ Ok (unnoted (blit (record { corner = at (pos 6) (pos 5); extent = at (pos 4) (pos 3); table = 0x5a; source = None })))
unfolding wmf_record blit_to dib_at source_from_top source_as_stored blit_meant pattern_brush_meant
block_without = refl

-- of any other size it has one, in the place of the word: the source is as wide and as high
block_with : wmf_meaning 0 (wmf 0x0940 (src_copy ++ word 1 ++ word 2 ++ word 3 ++ word 4 ++ word 5 ++ word 6 ++ dib)) ≡ Ok (unnoted (blit (record { corner = at (pos 6) (pos 5); extent = at (pos 4) (pos 3); table = 0xcc; source = Some (record { picture = red; corner = at (pos 2) (pos 1); extent = at (pos 4) (pos 3); counted = top }) })))
unfolding wmf_record blit_to dib_at source_from_top source_as_stored blit_meant pattern_brush_meant
block_with = refl

-- a word less, and two less, than without a bitmap; and a word more
block_of_11_words : wmf_meaning 0 (wmf 0x0940 (src_copy ++ replicate 12 0)) ≡ Err ShortDib
unfolding wmf_record blit_to dib_at source_from_top source_as_stored blit_meant pattern_brush_meant
block_of_11_words = refl

block_of_10_words : wmf_meaning 0 (wmf 0x0940 (src_copy ++ replicate 10 0)) ≡ Err BadParams
unfolding wmf_record blit_to dib_at source_from_top source_as_stored blit_meant pattern_brush_meant
block_of_10_words = refl

block_of_13_words : wmf_meaning 0 (wmf 0x0940 (src_copy ++ replicate 16 0)) ≡ Err BadDib
unfolding wmf_record blit_to dib_at source_from_top source_as_stored blit_meant pattern_brush_meant
block_of_13_words = refl

-- the bitmap's faults, also where the raster operation needs no source
block_of_another_header : wmf_meaning 0 (wmf 0x0940 (pat_copy ++ replicate 12 0 ++ header 12 (long 1) 24 0 ++ red_row)) ≡ Err BadDib
unfolding wmf_record blit_to dib_at source_from_top source_as_stored blit_meant pattern_brush_meant
block_of_another_header = refl

block_of_packed_rows : wmf_meaning 0 (wmf 0x0940 (pat_copy ++ replicate 12 0 ++ header 40 (long 1) 24 1 ++ red_row)) ≡ Err CompressedDib
unfolding wmf_record blit_to dib_at source_from_top source_as_stored blit_meant pattern_brush_meant
block_of_packed_rows = refl

block_without_its_row : wmf_meaning 0 (wmf 0x0940 (pat_copy ++ replicate 12 0 ++ header 40 (long 1) 24 0)) ≡ Err ShortDib
unfolding wmf_record blit_to dib_at source_from_top source_as_stored blit_meant pattern_brush_meant
block_without_its_row = refl

-- META_DIBSTRETCHBLT of 14 words: height 7, width 8, y 1 and x 2 of the source, a word that isn't read, height 3, width 4, y 5, x 6
stretch_without : wmf_meaning 0 (wmf 0x0b41 (pat_invert ++ word 7 ++ word 8 ++ word 1 ++ word 2 ++ word 9 ++ word 3 ++ word 4 ++ word 5 ++ word 6)) ≡ Ok (unnoted (blit (record { corner = at (pos 6) (pos 5); extent = at (pos 4) (pos 3); table = 0x5a; source = None })))
unfolding wmf_record blit_to dib_at source_from_top source_as_stored blit_meant pattern_brush_meant
stretch_without = refl

-- of any other size it has a bitmap in the place of the word, whose rows are counted from the top
stretch_with : wmf_meaning 0 (wmf 0x0b41 (src_copy ++ word 7 ++ word 8 ++ word 1 ++ word 2 ++ word 3 ++ word 4 ++ word 5 ++ word 6 ++ dib)) ≡ Ok (unnoted (blit (record { corner = at (pos 6) (pos 5); extent = at (pos 4) (pos 3); table = 0xcc; source = Some (record { picture = red; corner = at (pos 2) (pos 1); extent = at (pos 8) (pos 7); counted = top }) })))
unfolding wmf_record blit_to dib_at source_from_top source_as_stored blit_meant pattern_brush_meant
stretch_with = refl

-- a word less, and two less, than without a bitmap; and a word more
stretch_of_13_words : wmf_meaning 0 (wmf 0x0b41 (src_copy ++ replicate 16 0)) ≡ Err ShortDib
unfolding wmf_record blit_to dib_at source_from_top source_as_stored blit_meant pattern_brush_meant
stretch_of_13_words = refl

stretch_of_12_words : wmf_meaning 0 (wmf 0x0b41 (src_copy ++ replicate 14 0)) ≡ Err BadParams
unfolding wmf_record blit_to dib_at source_from_top source_as_stored blit_meant pattern_brush_meant
stretch_of_12_words = refl

stretch_of_15_words : wmf_meaning 0 (wmf 0x0b41 (src_copy ++ replicate 20 0)) ≡ Err BadDib
unfolding wmf_record blit_to dib_at source_from_top source_as_stored blit_meant pattern_brush_meant
stretch_of_15_words = refl

-- META_STRETCHDIB: usage, height 7, width 8, y 1 and x 2 of the source, height 3, width 4, y 5, x 6; the bottom row is stored first
stretched : wmf_meaning 0 (wmf 0x0f43 (src_copy ++ word 0 ++ word 7 ++ word 8 ++ word 1 ++ word 2 ++ word 3 ++ word 4 ++ word 5 ++ word 6 ++ dib)) ≡ Ok (unnoted (blit (record { corner = at (pos 6) (pos 5); extent = at (pos 4) (pos 3); table = 0xcc; source = Some (record { picture = red; corner = at (pos 2) (pos 1); extent = at (pos 8) (pos 7); counted = bottom }) })))
unfolding wmf_record blit_to dib_at source_from_top source_as_stored blit_meant pattern_brush_meant
stretched = refl

-- the same where the top row is
stretched_from_top : wmf_meaning 0 (wmf 0x0f43 (src_copy ++ word 0 ++ word 7 ++ word 8 ++ word 1 ++ word 2 ++ word 3 ++ word 4 ++ word 5 ++ word 6 ++ header 40 greatest 24 0 ++ red_row)) ≡ Ok (unnoted (blit (record { corner = at (pos 6) (pos 5); extent = at (pos 4) (pos 3); table = 0xcc; source = Some (record { picture = red; corner = at (pos 2) (pos 1); extent = at (pos 8) (pos 7); counted = top }) })))
unfolding wmf_record blit_to dib_at source_from_top source_as_stored blit_meant pattern_brush_meant
stretched_from_top = refl

-- its faults in order: a word is missing, the colours are those of a palette, and then those of the bitmap
short_stretched : wmf_meaning 0 (wmf 0x0f43 (src_copy ++ word 1 ++ replicate 14 0)) ≡ Err BadParams
unfolding wmf_record blit_to dib_at source_from_top source_as_stored blit_meant pattern_brush_meant
short_stretched = refl

stretched_from_palette : wmf_meaning 0 (wmf 0x0f43 (src_copy ++ word 1 ++ replicate 16 0 ++ long 12)) ≡ Err PaletteColour
unfolding wmf_record blit_to dib_at source_from_top source_as_stored blit_meant pattern_brush_meant
stretched_from_palette = refl

stretched_of_another_header : wmf_meaning 0 (wmf 0x0f43 (src_copy ++ word 0 ++ replicate 16 0 ++ long 12)) ≡ Err BadDib
unfolding wmf_record blit_to dib_at source_from_top source_as_stored blit_meant pattern_brush_meant
stretched_of_another_header = refl

stretched_without_bitmap : wmf_meaning 0 (wmf 0x0f43 (src_copy ++ word 0 ++ replicate 16 0)) ≡ Err ShortDib
unfolding wmf_record blit_to dib_at source_from_top source_as_stored blit_meant pattern_brush_meant
stretched_without_bitmap = refl

-- META_DIBCREATEPATTERNBRUSH reads a bitmap whatever the style is; of the style 3 the usage isn't looked at
tiles : wmf_meaning 0 (wmf 0x0142 (word 5 ++ word 0 ++ dib)) ≡ Ok (unnoted (create None (brush_object (tile_brush red))))
unfolding wmf_record blit_to dib_at source_from_top source_as_stored blit_meant pattern_brush_meant
tiles = refl

tiles_of_no_style : wmf_meaning 0 (wmf 0x0142 (word 9 ++ word 0 ++ dib)) ≡ Ok (unnoted (create None (brush_object (tile_brush red))))
unfolding wmf_record blit_to dib_at source_from_top source_as_stored blit_meant pattern_brush_meant
tiles_of_no_style = refl

tiles_of_style_3 : wmf_meaning 0 (wmf 0x0142 (word 3 ++ word 1 ++ dib)) ≡ Ok (unnoted (create None (brush_object (tile_brush red))))
unfolding wmf_record blit_to dib_at source_from_top source_as_stored blit_meant pattern_brush_meant
tiles_of_style_3 = refl

-- its faults in order
short_tiles : wmf_meaning 0 (wmf 0x0142 (word 5)) ≡ Err BadParams
unfolding wmf_record blit_to dib_at source_from_top source_as_stored blit_meant pattern_brush_meant
short_tiles = refl

palette_tiles : wmf_meaning 0 (wmf 0x0142 (word 5 ++ word 1 ++ long 12)) ≡ Err PaletteColour
unfolding wmf_record blit_to dib_at source_from_top source_as_stored blit_meant pattern_brush_meant
palette_tiles = refl

tiles_of_another_header : wmf_meaning 0 (wmf 0x0142 (word 5 ++ word 0 ++ long 12)) ≡ Err BadDib
unfolding wmf_record blit_to dib_at source_from_top source_as_stored blit_meant pattern_brush_meant
tiles_of_another_header = refl

tiles_of_style_3_without_bitmap : wmf_meaning 0 (wmf 0x0142 (word 3 ++ word 1)) ≡ Err ShortDib
unfolding wmf_record blit_to dib_at source_from_top source_as_stored blit_meant pattern_brush_meant
tiles_of_style_3_without_bitmap = refl
