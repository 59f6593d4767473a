-- Numbers and points in bytes, little-endian.
use Rattle.std.specs.Prelude.{ℕ, ◌*◌, ℤ, List, drop}
use Rattle.std.specs.Int.{w8, w16, w32, cast_signed}
use Rattle.byteorder.specs.Endian.{little_number}
use Rattle.mapping.specs.declared.geometry.Point.{Point}
use Rattle.point_views.specs.declared.numbers.NumberWidth.{NumberWidth}
use Rattle.point_views.specs.declared.numbers.NumberWidth.TheVariants.{Short, Long}

-- the unsigned number of some bytes at an offset, little-endian
abbrev pub number_at : List ℕ → ℕ → ℕ → ℕ
number_at bytes place size = little_number size (drop place bytes)

-- the signed number of one byte at an offset
abbrev pub i8_at : List ℕ → ℕ → ℤ
i8_at bytes place = cast_signed w8 (number_at bytes place 1)

-- the signed number of two bytes at an offset
abbrev pub i16_at : List ℕ → ℕ → ℤ
i16_at bytes place = cast_signed w16 (number_at bytes place 2)

-- the signed number of four bytes at an offset
abbrev pub i32_at : List ℕ → ℕ → ℤ
i32_at bytes place = cast_signed w32 (number_at bytes place 4)

-- the number of bytes of a number
abbrev pub number_size : NumberWidth → ℕ
number_size Short = 2
number_size Long = 4

-- the number of bytes of a point, which is two numbers
abbrev pub point_size : NumberWidth → ℕ
point_size width = 2 * number_size width

-- the unsigned number in the first bytes
abbrev pub unsigned_number : NumberWidth → List ℕ → ℕ
unsigned_number width bytes = number_at bytes 0 (number_size width)

-- the signed number in the first bytes
abbrev pub signed_number : NumberWidth → List ℕ → ℤ
signed_number Short bytes = i16_at bytes 0
signed_number Long bytes = i32_at bytes 0

-- the point in the first bytes: x, then y
abbrev pub first_point : NumberWidth → List ℕ → Point
first_point width bytes = record {
  x = signed_number width bytes;
  y = signed_number width (drop (number_size width) bytes);
}
