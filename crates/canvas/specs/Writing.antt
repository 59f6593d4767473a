-- How a write changes a canvas: which pixels it writes, and the new colour of each.
use Rattle.std.specs.Prelude.{◌≡◌, ◌==◌, ℕ, ◌+◌, ◌-◌, ◌%◌, Bool, ◌&&◌, nat_lt, nat_le, List, length, slice_index_or}
use Rattle.mapping.specs.declared.geometry.Colour.{Colour}
use Rattle.mapping.specs.Pixels.{count_pixels, is_cell, repainted}
use Rattle.mapping.specs.Mixes.{mixed_by}
use Rattle.canvas.specs.CanvasState.{CanvasState}
use Rattle.canvas.specs.MixRows.{mix_at}

-- The pixels of the canvas that pass the test were written, each changed by f, which gets its column, its row and its
-- old colour. Every other pixel and the rows of the canvas are unchanged, and each write is counted.
pub record Repaints (test : ℕ → ℕ → Bool) (f : ℕ → ℕ → Colour → Colour) (old new : CanvasState) : Type 0 where
  pub colours : new.colours ≡ repainted test f old.width old.first old.colours
  pub writes : new.writes ≡ old.writes + count_pixels test old.width old.first old.rows
  pub width : new.width ≡ old.width
  pub first : new.first ≡ old.first
  pub rows : new.rows ≡ old.rows
  pub most : new.most ≡ old.most

-- the pixel is the one in column x of row y
abbrev pub is_at : ℕ → ℕ → ℕ → ℕ → Bool
is_at x y column row = column == x && row == y

-- the pixel lies in row y, in the columns from `from` to before `to`
abbrev pub in_row_span : ℕ → ℕ → ℕ → ℕ → ℕ → Bool
in_row_span y from to column row = row == y && nat_le from column && nat_lt column to

-- the pixel lies in the span, and bit x % 8 of `cells` is set for its column x
abbrev pub in_cells : ℕ → ℕ → ℕ → ℕ → ℕ → ℕ → Bool
in_cells y from to cells column row = in_row_span y from to column row && is_cell cells column

-- the pixel lies in row y, from a column on, in as many columns as there are colours
abbrev pub in_row : ℕ → ℕ → List Colour → ℕ → ℕ → Bool
in_row y from colours column row = in_row_span y from (from + length colours) column row

-- the colour for a pixel's column, from eight repeating ones
abbrev pub put_by_pattern : List Colour → ℕ → ℕ → Colour → Colour
put_by_pattern pattern column row old = slice_index_or pattern (column % 8) old

-- the colour for a pixel's column, from a row that begins at a column
abbrev pub put_by_row : List Colour → ℕ → ℕ → ℕ → Colour → Colour
put_by_row colours from column row old = slice_index_or colours (column - from) old

-- the result, on the old colour, of the mix for a pixel's column, from such a row
abbrev pub mixed_by_row : List Colour → List Colour → ℕ → ℕ → ℕ → Colour → Colour
mixed_by_row keeps flips from column row old = mixed_by (mix_at keeps flips (column - from)) old
