-- The colours of one row of a picture.
use Rattle.std.specs.Prelude.{List}
use Rattle.mapping.specs.declared.geometry.Colour.{Colour}
use Rattle.dib_views.specs.declared.row.DibRow.{DibRow}
use Rattle.dib_views.specs.Pixels.{colours_in_row}

-- the colours of a row, from the left
abbrev pub row_colours_of : DibRow → List Colour
row_colours_of row = colours_in_row row.bits row.table.now row.width row.bytes.now
