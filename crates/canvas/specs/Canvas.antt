-- The fields of a canvas.
use Rattle.std.specs.Prelude.{◌≡◌, ◌+◌, ◌*◌, ◌≤◌, vec_capacity, vec_len}
use Rattle.mapping.specs.Limits.{IsSurfaceSide, surface_side_limit}
use Rattle.canvas.specs.Rows.{row_stride}
use Rattle.canvas.specs.declared.surface.Canvas.TheInside.{Inside}

-- the size is within the limits, the rows are as far apart as their width says, each pixel has its colour, and the
-- capacity is enough for the rows that the canvas was made for
pub record IsCanvas (canvas : Inside) : Type 0 where
  pub wide : IsSurfaceSide canvas.width
  pub apart : canvas.stride ≡ row_stride canvas.width
  pub high : 1 ≤ canvas.rows
  pub high_within : canvas.first + canvas.rows ≤ surface_side_limit
  pub whole : vec_len canvas.colours ≡ canvas.rows * canvas.stride
  pub held : canvas.rows ≤ canvas.most
  pub capacity : canvas.most * canvas.stride ≤ vec_capacity canvas.colours
