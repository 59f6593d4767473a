-- How a row operation changes the pixels of its row.
use Rattle.std.specs.Prelude.{ℕ, ◌%◌, List, Bool, true, false, if◌then◌else◌, slice_index_or, Some, None}
use Rattle.mapping.specs.declared.geometry.Colour.{Colour}
use Rattle.mapping.specs.Mixes.{mixed_by}
use Rattle.mapping.specs.Pixels.{is_cell}
use Rattle.canvas.specs.MixRows.{mix_at}
use Rattle.painting.specs.declared.row_op.RowOp.{RowOp}
use Rattle.painting.specs.declared.row_op.RowOp.TheVariants.{Nothing, Full, Pattern, Mixed, Cells, Row, MixRow, MixCells}

-- the result of a column's mix on a colour, from a row of bits to keep and a row of bits to flip
abbrev pub mixed_at : List Colour → List Colour → ℕ → Colour → Colour
mixed_at keeps flips x old = mixed_by (mix_at keeps flips x) old

-- a row operation writes the pixel in column x
abbrev pub is_inked : RowOp → ℕ → Bool
is_inked Nothing x = false
is_inked (Full splat) x = true
is_inked (Pattern colours) x = true
is_inked (Mixed mix) x = true
is_inked (Cells cells mix None) x = is_cell cells x
is_inked (Cells cells mix (Some gaps)) x = true
is_inked (Row colours) x = true
is_inked (MixRow keeps flips) x = true
is_inked (MixCells cells keeps flips) x = is_cell cells x

-- the new colour of a pixel that a row operation writes
abbrev pub inked : RowOp → ℕ → Colour → Colour
inked Nothing x old = old
inked (Full splat) x old = splat.colour
inked (Pattern colours) x old = slice_index_or colours (x % 8) old
inked (Mixed mix) x old = mixed_by mix old
inked (Cells cells mix None) x old = mixed_by mix old
inked (Cells cells mix (Some gaps)) x old = if is_cell cells x then mixed_by mix old else mixed_by gaps old
inked (Row colours) x old = slice_index_or colours.now x old
inked (MixRow keeps flips) x old = mixed_by (mix_at keeps.now flips.now x) old
inked (MixCells cells keeps flips) x old = mixed_by (mix_at keeps.now flips.now x) old

-- the row operation for a row, of eight that repeat
abbrev pub repeated_row_op : List RowOp → ℕ → RowOp
repeated_row_op row_ops y = slice_index_or row_ops (y % 8) Nothing
