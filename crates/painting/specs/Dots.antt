-- The column and row of a point on the surface.
use Rattle.std.specs.Prelude.{ℕ, ℤ, pos, negsuc, ◌&&◌, Option, Some, None}
use Rattle.mapping.specs.Surface.{is_pixel}
use Rattle.mapping.specs.declared.geometry.Colour.{Colour}
use Rattle.mapping.specs.declared.geometry.Point.{Point}
use Rattle.canvas.specs.CanvasState.{CanvasState}
use Rattle.canvas.specs.Writing.{Repaints}
use Rattle.dc_stack.specs.Clip.{ClipValue, in_boxes}

-- two numbers as a column and a row, if neither is negative
abbrev pub naturals : ℤ → ℤ → Option (ℕ × ℕ)
naturals (pos x) (pos y) = Some (x, y)
naturals (pos x) (negsuc y) = None
naturals (negsuc x) y = None

-- the column and row of a point on the surface, if neither is negative
abbrev pub indexes_of : Point → Option (ℕ × ℕ)
indexes_of point = naturals point.x point.y

-- the pixel at a point was written in a colour, if the clip contains it
abbrev pub PutsDot : ClipValue → Point → Colour → CanvasState → CanvasState → Type 0
PutsDot clip point colour old new = Repaints (λ x y. in_boxes clip x y && is_pixel point x y) (λ x y c. colour) old new
