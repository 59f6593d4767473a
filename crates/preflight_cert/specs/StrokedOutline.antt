-- What a pen strokes: its points on the plane, and its lines on a surface.
use Rattle.std.specs.Prelude.{List, [], ◌∷◌}
use Rattle.mapping.specs.Surface.{Surface}
use Rattle.mapping.specs.declared.geometry.Point.{Point}
use Rattle.draw_ops.specs.declared.operation.RectangleEdges.{RectangleEdges}
use Rattle.dc_stack.specs.Figures.{Figure, points_of_figures}
use Rattle.span_fill.specs.declared.line.Line.{Line}
use Rattle.preflight_cert.specs.FigureLines.{lines_along, placed_figures}
use Rattle.preflight_cert.specs.Rectangles.{rectangle_lines, rectangle_on}

-- an outline: the lines of figures, or those along the outermost pixels of the rectangle between two points
pub data Outline : Type 0 where
  along : List Figure → Outline
  round : Point → Point → RectangleEdges → Outline

-- the points of the plane that define an outline
abbrev pub outline_points : Outline → List Point
outline_points (along figures) = points_of_figures figures
outline_points (round p q edges) = p ∷ q ∷ []

-- the lines of an outline, on a surface
abbrev pub outline_lines : Outline → Surface → List Line
outline_lines (along figures) s = lines_along (placed_figures s figures)
outline_lines (round p q edges) s = rectangle_lines (rectangle_on s p q edges)
