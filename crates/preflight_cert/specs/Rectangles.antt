-- Rectangles on a surface ([MS-WMF] 2.3.3.17, [MS-EMF] 2.3.5.34).
use Rattle.std.specs.Prelude.{pos, ◌+ℤ◌, ◌-ℤ◌, Bool, ◌&&◌, if◌then◌else◌, int_lt, List, [], ◌∷◌}
use Rattle.mapping.specs.declared.geometry.Point.{Point}
use Rattle.mapping.specs.declared.geometry.Rect.{Rect}
use Rattle.mapping.specs.Surface.{Surface, placed_point}
use Rattle.draw_ops.specs.declared.operation.RectangleEdges.{RectangleEdges}
use Rattle.draw_ops.specs.declared.operation.RectangleEdges.TheVariants.{HalfOpen, Inclusive}
use Rattle.mapping.specs.Boxes.{box_between}
use Rattle.span_fill.specs.declared.line.Line.{Line}
use Rattle.preflight_cert.specs.Outlines.{closed_lines}

-- a box with its right and bottom raised by one if they belong to it, so that they are exclusive
abbrev pub raised : RectangleEdges → Rect → Rect
raised HalfOpen box = box
raised Inclusive box = record { l = box.l; t = box.t; r = box.r +ℤ pos 1; b = box.b +ℤ pos 1 }

-- the rectangle between two points of the plane, on a surface
abbrev pub rectangle_on : Surface → Point → Point → RectangleEdges → Rect
rectangle_on s p q edges = raised edges (box_between (placed_point p s) (placed_point q s))

-- a rectangle has a pixel
abbrev pub has_inside : Rect → Bool
has_inside box = int_lt box.l box.r && int_lt box.t box.b

-- the pixels at the corners of a rectangle, clockwise from the top left
abbrev pub corner_pixels : Rect → List Point
corner_pixels box =
    record { x = box.l; y = box.t } ∷ record { x = box.r -ℤ pos 1; y = box.t }
    ∷ record { x = box.r -ℤ pos 1; y = box.b -ℤ pos 1 } ∷ record { x = box.l; y = box.b -ℤ pos 1 } ∷ []

-- the lines along the outermost pixels of a rectangle
abbrev pub rectangle_lines : Rect → List Line
rectangle_lines box = if has_inside box then closed_lines (corner_pixels box) else []
