-- The pixels that the lines of a hatch cover.
use Rattle.std.specs.Prelude.{ℕ, ◌==◌, ◌+◌, ◌%◌, Bool, ◌||◌}
use Rattle.draw_ops.specs.declared.hatch.Hatch.{Hatch}
use Rattle.draw_ops.specs.declared.hatch.Hatch.TheVariants.{Horizontal, Vertical, ForwardDiagonal, BackwardDiagonal, Cross, DiagonalCross}

-- the lines of a hatch cover the cell in column x of row y, of 8 by 8
abbrev pub has_cell_at : Hatch → ℕ → ℕ → Bool
has_cell_at Horizontal x y = y == 0
has_cell_at Vertical x y = x == 0
has_cell_at ForwardDiagonal x y = x == y
has_cell_at BackwardDiagonal x y = x + y == 7
has_cell_at Cross x y = y == 0 || x == 0
has_cell_at DiagonalCross x y = x == y || x + y == 7

-- the lines of a hatch cover the surface's pixel (x, y): the cells are repeated from the surface's corner on
abbrev pub has_cell : Hatch → ℕ → ℕ → Bool
has_cell hatch x y = has_cell_at hatch (x % 8) (y % 8)
