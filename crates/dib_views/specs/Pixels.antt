-- The rows and pixels of a bitmap in bytes.
use Rattle.std.specs.Prelude.{ℕ, ◌+◌, ◌-◌, ◌*◌, ◌/◌, ◌%◌, ◌^◌, ◌≤◌, Bool, ◌&&◌, nat_lt, nat_le, if◌then◌else◌, List, length, slice_index, slice_range, map}
use Rattle.std.specs.List.{range_with_len}
use Rattle.mapping.specs.Colours.{black_colour}
use Rattle.mapping.specs.declared.geometry.Colour.{Colour}
use Rattle.point_views.specs.Numbers.{number_at}
use Rattle.dib_views.specs.declared.shape.BitCount.{BitCount}
use Rattle.dib_views.specs.declared.shape.BitCount.TheVariants.{One, Four, Eight, Sixteen, TwentyFour, ThirtyTwo}
use Rattle.dib_views.specs.declared.shape.DibShape.{DibShape}
use Rattle.dib_views.specs.declared.shape.RowOrder.{RowOrder}
use Rattle.dib_views.specs.declared.shape.RowOrder.TheVariants.{BottomUp, TopDown}
use Rattle.dib_views.specs.Pictures.{Picture}

-- the bits of a pixel
abbrev pub pixel_bits : BitCount → ℕ
pixel_bits One = 1
pixel_bits Four = 4
pixel_bits Eight = 8
pixel_bits Sixteen = 16
pixel_bits TwentyFour = 24
pixel_bits ThirtyTwo = 32

-- the number of bytes in a row: as few as contain its pixels, in a multiple of four
abbrev pub row_size : BitCount → ℕ → ℕ
row_size bits width = (width * pixel_bits bits + 31) / 32 * 4

-- the greatest width or height of a bitmap, in pixels: our own limit
abbrev pub dib_side_limit : ℕ
dib_side_limit = 32768

-- a width or height that a bitmap may have
abbrev pub IsDibSide : ℕ → Type 0
IsDibSide side = (1 ≤ side) × (side ≤ dib_side_limit)

-- whether a bitmap may have this width or height
abbrev pub is_dib_side : ℕ → Bool
is_dib_side side = nat_le 1 side && nat_le side dib_side_limit

-- the index of the stored row that is the picture's row y, counted from the top
abbrev pub stored_row : RowOrder → ℕ → ℕ → ℕ
stored_row BottomUp height y = height - 1 - y
stored_row TopDown height y = y

-- the index of the pixel in column x: the leftmost pixel of a byte has its high bits
abbrev pub index_in_row : BitCount → List ℕ → ℕ → ℕ
index_in_row bits row x = slice_index row (x * pixel_bits bits / 8) / 2 ^ (8 - pixel_bits bits - x * pixel_bits bits % 8) % 2 ^ pixel_bits bits

-- the colour in three bytes at an offset: blue, green, red
abbrev pub colour_at : List ℕ → ℕ → Colour
colour_at bytes place = record { r = slice_index bytes (place + 2); g = slice_index bytes (place + 1); b = slice_index bytes place }

-- the colour of an entry of a table, with four bytes each; black beyond its end, which is our own choice
abbrev pub table_colour : List ℕ → ℕ → Colour
table_colour table index = if nat_lt (4 * index + 3) (length table) then colour_at table (4 * index) else black_colour

-- a component of five bits widened to eight, from 0 (none) to 255 (full); the rule v*8 + v/4 is our own choice
abbrev pub wide_part : ℕ → ℕ
wide_part part = part * 8 + part / 4

-- the colour in a number of 16 bits: five bits per component, red in the highest, blue in the lowest
abbrev pub colour_of_16 : ℕ → Colour
colour_of_16 number = record { r = wide_part (number / 1024 % 32); g = wide_part (number / 32 % 32); b = wide_part (number % 32) }

-- the colour of the pixel in column x of a row, by the bits of a pixel and the colour table
abbrev pub colour_in_row : BitCount → List ℕ → List ℕ → ℕ → Colour
colour_in_row One table row x = table_colour table (index_in_row One row x)
colour_in_row Four table row x = table_colour table (index_in_row Four row x)
colour_in_row Eight table row x = table_colour table (index_in_row Eight row x)
colour_in_row Sixteen table row x = colour_of_16 (number_at row (2 * x) 2)
colour_in_row TwentyFour table row x = colour_at row (3 * x)
colour_in_row ThirtyTwo table row x = colour_at row (4 * x)

-- the colours of a row's pixels, from the left
abbrev pub colours_in_row : BitCount → List ℕ → ℕ → List ℕ → List Colour
colours_in_row bits table width row = map (colour_in_row bits table row) (range_with_len 0 width)

-- a bitmap as it is stored: its shape, and the bytes of its colour table and of its rows
pub record StoredDib : Type 0 where
  pub shape : DibShape
  pub table : List ℕ
  pub rows : List ℕ

-- the number of bytes in all rows
abbrev pub rows_size : DibShape → ℕ
rows_size shape = shape.height * row_size shape.bits shape.width

-- the bytes of the picture's row y, counted from the top
abbrev pub row_bytes : StoredDib → ℕ → List ℕ
row_bytes dib y =
    let size = row_size dib.shape.bits dib.shape.width in
    let row = stored_row dib.shape.order dib.shape.height y in
    slice_range dib.rows (row * size) (row * size + size)

-- the colours of the picture's row y, from the left
abbrev pub row_colours : StoredDib → ℕ → List Colour
row_colours dib y = colours_in_row dib.shape.bits dib.table dib.shape.width (row_bytes dib y)

-- the picture of a stored bitmap
abbrev pub stored_picture : StoredDib → Picture
stored_picture dib = record {
  width = dib.shape.width;
  height = dib.shape.height;
  rows = map (row_colours dib) (range_with_len 0 dib.shape.height);
}
