-- What a brush paints in one row.
use Rattle.std.specs.Prelude.{ℕ, ◌%◌, if◌then◌else◌, slice_index_or, List, [], Option, Some, None}
use Rattle.mapping.specs.declared.geometry.Colour.{Colour}
use Rattle.dib_views.specs.Pictures.{Picture}
use Rattle.dib_views.specs.Rows.{row_colours_of}
use Rattle.dib_views.specs.declared.row.DibRow.{DibRow}
use Rattle.mapping.specs.Colours.{black_colour}
use Rattle.mapping.specs.Pixels.{is_cell}
use Rattle.raster_ops.specs.declared.rows.BrushRow.{BrushRow}
use Rattle.raster_ops.specs.declared.rows.BrushRow.TheVariants.{Nothing, Solid, Hatched, Tiled}

-- the colour of a repeated row of a bitmap in column x
abbrev pub repeated_colour : DibRow → ℕ → Colour
repeated_colour row x = slice_index_or (row_colours_of row) (x % row.width) black_colour

-- the row of a repeated bitmap for the surface's row y
abbrev pub repeated_row : Picture → ℕ → List Colour
repeated_row picture y = slice_index_or picture.rows (y % picture.height) []

-- the colour of a brush's row in column x, if it paints there
abbrev pub row_paint : BrushRow → ℕ → Option Colour
row_paint Nothing x = None
row_paint (Solid colour) x = Some colour
row_paint (Hatched cells colour gaps) x = if is_cell cells x then Some colour else gaps
row_paint (Tiled tile) x = Some (repeated_colour tile.row x)
