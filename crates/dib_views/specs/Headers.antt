-- The contents of a bitmap's header: BitmapInfoHeader ([MS-WMF] 2.2.2.3), or one of those that begin with it.
use Rattle.std.specs.Prelude.{ℕ, ◌+◌, ◌*◌, ◌≤◌, ℤ, pos, negsuc, unsigned_abs, int_le, Bool, ◌&&◌, ◌||◌, not, ◌==◌, nat_lt, nat_le, if◌then◌else◌, List, length, Option, Some, None, Result, Ok, Err}
use Rattle.point_views.specs.Numbers.{number_at, i32_at}
use Rattle.dib_views.specs.declared.fault.DibFault.{DibFault}
use Rattle.dib_views.specs.declared.fault.DibFault.TheVariants.{BadDib, CompressedDib, ShortDib}
use Rattle.dib_views.specs.declared.header.DibHead.{DibHead}
use Rattle.dib_views.specs.declared.shape.BitCount.{BitCount}
use Rattle.dib_views.specs.declared.shape.BitCount.TheVariants.{One, Four, Eight, Sixteen, TwentyFour, ThirtyTwo}
use Rattle.dib_views.specs.declared.shape.RowOrder.{RowOrder}
use Rattle.dib_views.specs.declared.shape.RowOrder.TheVariants.{BottomUp, TopDown}
use Rattle.dib_views.specs.Pixels.{IsDibSide, is_dib_side}

-- the fields of a header that are read: its size in bytes, the width and height, the bits of a pixel, the compression,
-- and ClrUsed
pub record DibHeader : Type 0 where
  pub size : ℕ
  pub width : ℤ
  pub height : ℤ
  pub bits : ℕ
  pub compression : ℕ
  pub colours_used : ℕ

-- the header in the first bytes
abbrev pub header_in : List ℕ → DibHeader
header_in bytes = record {
  size = number_at bytes 0 4;
  width = i32_at bytes 4;
  height = i32_at bytes 8;
  bits = number_at bytes 14 2;
  compression = number_at bytes 16 4;
  colours_used = number_at bytes 32 4;
}

-- a header may have this size
abbrev pub is_header_size : ℕ → Bool
is_header_size size = size == 40 || size == 108 || size == 124

-- the bits of a pixel, by the number in the header
abbrev pub bit_count : ℕ → Option BitCount
bit_count number =
    if number == 1 then Some One
    else (if number == 4 then Some Four
    else (if number == 8 then Some Eight
    else (if number == 16 then Some Sixteen
    else (if number == 24 then Some TwentyFour
    else (if number == 32 then Some ThirtyTwo
    else None)))))

-- how many entries of a table a pixel can refer to; 0 if a pixel contains its colour
abbrev pub full_table : BitCount → ℕ
full_table One = 2
full_table Four = 16
full_table Eight = 256
full_table Sixteen = 0
full_table TwentyFour = 0
full_table ThirtyTwo = 0

-- the number of entries in the colour table, from ClrUsed, where 0 means all that pixels can refer to
abbrev pub table_entries : BitCount → ℕ → ℕ
table_entries bits used = if used == 0 then full_table bits else used

-- a table may have this many entries: if pixels refer to them, at most as many as they can refer to
abbrev pub is_table_size : BitCount → ℕ → Bool
is_table_size bits used = full_table bits == 0 || nat_le used (full_table bits)

-- a bitmap may have this width and height: the height may be negative, the width may not
abbrev pub has_dib_dimensions : ℤ → ℤ → Bool
has_dib_dimensions width height = int_le (pos 1) width && is_dib_side (unsigned_abs width) && is_dib_side (unsigned_abs height)

-- the order of the rows: the bottom row is stored first, or, if the height is negative, the top row
abbrev pub row_order : ℤ → RowOrder
row_order (pos height) = BottomUp
row_order (negsuc height) = TopDown

-- the contents of a header with this many bits per pixel; the table follows the header
abbrev pub head_with : DibHeader → BitCount → DibHead
head_with header bits = record {
  table_start = header.size;
  table_end = header.size + 4 * table_entries bits header.colours_used;
  shape = record { width = unsigned_abs header.width; height = unsigned_abs header.height; bits = bits; order = row_order header.height };
}

-- the contents of a header if its size and table are valid
abbrev pub good_head : DibHeader → Option BitCount → Result DibHead DibFault
good_head header None = Err BadDib
good_head header (Some bits) =
    if has_dib_dimensions header.width header.height && is_table_size bits header.colours_used then Ok (head_with header bits) else Err BadDib

-- the size is valid for a bitmap, and the table doesn't end before it begins
pub record IsGoodHead (head : DibHead) : Type 0 where
  pub wide : IsDibSide head.shape.width
  pub high : IsDibSide head.shape.height
  pub order : head.table_start ≤ head.table_end

-- the size field of the header is present and has an unknown value
abbrev pub has_other_size : List ℕ → Bool
has_other_size bytes = nat_le 4 (length bytes) && not (is_header_size (header_in bytes).size)

-- the header is incomplete
abbrev pub is_header_short : List ℕ → Bool
is_header_short bytes = nat_lt (length bytes) 40 || nat_lt (length bytes) (header_in bytes).size

-- the contents of the header in the first bytes, or its first fault: its size, its bytes, the compression, and then the
-- other fields
abbrev pub dib_head : List ℕ → Result DibHead DibFault
dib_head bytes =
    if has_other_size bytes then Err BadDib
    else (if is_header_short bytes then Err ShortDib
    else (if not ((header_in bytes).compression == 0) then Err CompressedDib
    else good_head (header_in bytes) (bit_count (header_in bytes).bits)))
