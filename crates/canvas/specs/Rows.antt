-- The rows of a canvas in one list of colours.
use Rattle.std.specs.Prelude.{ℕ, zero, suc, ◌+◌, ◌*◌, ◌/◌, List, [], ◌++◌, take, drop}
use Rattle.mapping.specs.declared.geometry.Colour.{Colour}

-- the distance from the start of one row to the start of the next: the least odd multiple of 64 that is at least the
-- width
abbrev pub row_stride : ℕ → ℕ
row_stride width = (width + 63) / 128 * 128 + 64

-- The colours of some rows of a width, row by row. Each row begins a stride after the one above, and what lies between
-- rows is left out.
abbrev pub row_colours : ℕ → ℕ → ℕ → List Colour → List Colour
row_colours zero width stride colours = []
row_colours (suc rows) width stride colours = take width colours ++ row_colours rows width stride (drop stride colours)
