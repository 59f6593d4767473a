-- How readers read their sources.
use Rattle.std.specs.Prelude.{◌≡◌, ℕ, ℤ, pos, Bool, ◌&&◌, Option, slice_index_or, unsigned_abs}
use Rattle.mapping.specs.Colours.{black_colour}
use Rattle.mapping.specs.declared.geometry.Colour.{Colour}
use Rattle.mapping.specs.declared.geometry.Point.{Point}
use Rattle.dib_views.specs.PictureOf.{picture_of}
use Rattle.dib_views.specs.Pictures.{picture_colour}
use Rattle.dib_views.specs.Rows.{row_colours_of}
use Rattle.dib_views.specs.declared.row.DibRow.{DibRow}
use Rattle.draw_ops.specs.Blits.{SourceValue}
use Rattle.draw_ops.specs.declared.blits.SourceRectangle.{SourceRectangle}
use Rattle.raster_ops.specs.Sources.{Reading, axis_read, index_read, is_axis_inside, least_end, source_colour}
use Rattle.raster_ops.specs.declared.sources.AxisReading.{AxisReading}
use Rattle.raster_ops.specs.declared.sources.SourceReader.{SourceReader}

-- how one axis of a reader reads
abbrev pub reading_of : AxisReading → Reading
reading_of axis =
    record { first = pos axis.first; count = axis.count; near = axis.near; side = axis.side; mirrored = axis.mirrored }

-- a source rectangle with this first row is not empty and lies inside its bitmap
abbrev pub is_inside_from : ℤ → SourceRectangle → Bool
is_inside_from row rectangle =
    is_axis_inside (least_end rectangle.corner.x rectangle.extent.x) rectangle.extent.x (picture_of rectangle.picture).width
    && is_axis_inside row rectangle.extent.y (picture_of rectangle.picture).height

-- how the box between two coordinates reads the columns of a source rectangle
abbrev pub columns_of : SourceRectangle → ℤ → ℤ → Reading
columns_of rectangle p q = axis_read (least_end rectangle.corner.x rectangle.extent.x) rectangle.extent.x p q

-- a reader reads columns as the box between two corners reads those of a source rectangle
abbrev pub ReadsColumns : SourceRectangle → Point → Point → SourceReader → Type 0
ReadsColumns rectangle p q reader = reading_of reader.columns ≡ columns_of rectangle p.x q.x

-- a reader reads rows as the box between two corners reads those of a source rectangle with this first row
abbrev pub ReadsRows : ℤ → SourceRectangle → Point → Point → SourceReader → Type 0
ReadsRows row rectangle p q reader = reading_of reader.rows ≡ axis_read row rectangle.extent.y p.y q.y

-- the colour that the surface's column x reads in a row of a bitmap
abbrev pub colour_in : AxisReading → DibRow → ℕ → Colour
colour_in axis line x = slice_index_or (row_colours_of line) (unsigned_abs (index_read (reading_of axis) x)) black_colour

-- the column of a reader's bitmap that the surface's column x reads
abbrev pub column_read : SourceReader → ℕ → ℕ
column_read reader x = unsigned_abs (index_read (reading_of reader.columns) x)

-- the row of a reader's bitmap that the surface's row y reads
abbrev pub row_read : SourceReader → ℕ → ℕ
row_read reader y = unsigned_abs (index_read (reading_of reader.rows) y)

-- the colour that the surface's column x reads in a row of a reader's bitmap
abbrev pub column_colour : SourceReader → ℕ → ℕ → Colour
column_colour reader row x = picture_colour (picture_of reader.picture) (column_read reader x) row

-- the source colours of a blit's box between two corners are those that the reader reads in its bitmap
abbrev pub ReadsSource : SourceReader → Option SourceValue → Point → Point → Type 0
ReadsSource reader source p q =
    (x y : ℕ) → source_colour source p q x y ≡ picture_colour (picture_of reader.picture) (column_read reader x) (row_read reader y)
