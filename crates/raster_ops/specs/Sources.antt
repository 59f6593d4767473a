-- The source colours of blits.
use Rattle.std.specs.Prelude.{ℕ, ◌+◌, ◌-◌, ◌*◌, ◌/◌, ℤ, pos, ◌+ℤ◌, ◌-ℤ◌, Bool, true, false, ◌&&◌, not, nat_lt, int_le, int_lt, unsigned_abs, Option, Some, None}
use Rattle.std.specs.Int.{int_min}
use Rattle.mapping.specs.Colours.{black_colour}
use Rattle.mapping.specs.declared.geometry.Colour.{Colour}
use Rattle.mapping.specs.declared.geometry.Point.{Point}
use Rattle.dib_views.specs.Pictures.{picture_colour}
use Rattle.draw_ops.specs.Blits.{CountedFrom, SourceValue, bottom, top}

-- along one axis: where a box begins and how long it is, the columns or rows of a bitmap that are stretched to it, and
-- whether in reverse order
pub record Reading : Type 0 where
  pub first : ℤ
  pub count : ℕ
  pub near : ℤ
  pub side : ℕ
  pub mirrored : Bool

-- the distance between two numbers
abbrev pub distance : ℤ → ℤ → ℕ
distance v w = unsigned_abs (w -ℤ v)

-- the smaller end of an extent that starts at a number; a negative extent goes downwards
abbrev pub least_end : ℤ → ℤ → ℤ
least_end start extent = int_min start (start +ℤ extent)

-- exactly one of the two is true
abbrev pub exactly_one : Bool → Bool → Bool
exactly_one true second = not second
exactly_one false second = second

-- a source is mirrored if exactly one of the box's extent, from p to q, and the source's extent is negative
abbrev pub is_mirrored : ℤ → ℤ → ℤ → Bool
is_mirrored p q extent = exactly_one (int_lt q p) (int_lt extent (pos 0))

-- a position along the box, or, if mirrored, the position at the same distance from the other end
abbrev pub mirrored_place : Bool → ℕ → ℕ → ℕ
mirrored_place false side place = place
mirrored_place true side place = side - 1 - place

-- which of some columns or rows contains the centre of a position along the box
abbrev pub scaled_place : ℕ → ℕ → ℕ → ℕ
scaled_place count side place = (2 * place + 1) * count / (2 * side)

-- the column or row of the bitmap that the surface's column or row n reads
abbrev pub index_read : Reading → ℕ → ℤ
index_read reading n =
    reading.first +ℤ pos (scaled_place reading.count reading.side (mirrored_place reading.mirrored reading.side (distance reading.near (pos n))))

-- how the box between two coordinates reads an extent of columns or rows
abbrev pub axis_read : ℤ → ℤ → ℤ → ℤ → Reading
axis_read first extent p q = record {
  first = first;
  count = unsigned_abs extent;
  near = int_min p q;
  side = distance p q;
  mirrored = is_mirrored p q extent;
}

-- the topmost row of a rectangle, counted from the top of the bitmap, by where the rectangle's rows are counted from
abbrev first_row_by : CountedFrom → SourceValue → ℤ
first_row_by top source = least_end source.corner.y source.extent.y
first_row_by bottom source = pos source.picture.height -ℤ least_end source.corner.y source.extent.y -ℤ pos (unsigned_abs source.extent.y)

-- the topmost row of a source, counted from the top of the bitmap
abbrev pub first_row : SourceValue → ℤ
first_row source = first_row_by source.counted source

-- how a box between two placed corners reads the columns of a source
abbrev pub columns_read : SourceValue → Point → Point → Reading
columns_read source p q = axis_read (least_end source.corner.x source.extent.x) source.extent.x p.x q.x

-- how a box between two placed corners reads the rows of a source
abbrev pub rows_read : SourceValue → Point → Point → Reading
rows_read source p q = axis_read (first_row source) source.extent.y p.y q.y

-- The source colour of the surface's pixel (x, y), for a box between two placed corners. It means nothing if the source
-- isn't inside the bitmap or the pixel isn't in the box; no operation that depends on the source has such a source.
abbrev pub colour_read : SourceValue → Point → Point → ℕ → ℕ → Colour
colour_read source p q x y =
    picture_colour source.picture (unsigned_abs (index_read (columns_read source p q) x)) (unsigned_abs (index_read (rows_read source p q) y))

-- the source colour of the surface's pixel (x, y), for a box between two placed corners; black if there is no bitmap
abbrev pub source_colour : Option SourceValue → Point → Point → ℕ → ℕ → Colour
source_colour None p q x y = black_colour
source_colour (Some source) p q x y = colour_read source p q x y

-- these columns or rows are those of a bitmap of this width or height
abbrev pub lies_within : ℤ → ℕ → ℕ → Bool
lies_within first count side = int_le (pos 0) first && int_le (first +ℤ pos count) (pos side)

-- an extent of columns or rows isn't 0, and they are those of a bitmap of this width or height
abbrev pub is_axis_inside : ℤ → ℤ → ℕ → Bool
is_axis_inside first extent side = nat_lt 0 (unsigned_abs extent) && lies_within first (unsigned_abs extent) side

-- a source rectangle is not empty and lies inside its bitmap
abbrev pub is_source_inside : SourceValue → Bool
is_source_inside source =
    is_axis_inside (least_end source.corner.x source.extent.x) source.extent.x source.picture.width
    && is_axis_inside (first_row source) source.extent.y source.picture.height

-- there is a bitmap, and its rectangle is not empty and lies inside
abbrev pub is_readable : Option SourceValue → Bool
is_readable None = false
is_readable (Some source) = is_source_inside source
