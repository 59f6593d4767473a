-- The shape of a layer: which pixels it may write.
use Rattle.std.specs.Prelude.{ℕ, Bool, List, map}
use Rattle.mapping.specs.declared.geometry.Point.{Point}
use Rattle.mapping.specs.Nibs.{nib_of}
use Rattle.mapping.specs.Plane.{MapNumbers}
use Rattle.mapping.specs.Surface.{Surface, is_pixel, placed_point}
use Rattle.mapping.specs.declared.nib.Nib.{Nib}
use Rattle.draw_ops.specs.declared.operation.RectangleEdges.{RectangleEdges}
use Rattle.draw_ops.specs.declared.settings.FillMode.{FillMode}
use Rattle.draw_ops.specs.declared.settings.FillMode.TheVariants.{Alternate, Winding}
use Rattle.dc_stack.specs.Boxes.{placed_list}
use Rattle.mapping.specs.PixelBoxes.{in_box}
use Rattle.dc_stack.specs.Figures.{Figure}
use Rattle.span_fill.specs.Fill.{in_fill}
use Rattle.span_fill.specs.WideStrokes.{in_wide_stroke, one_pixel}
use Rattle.span_fill.specs.declared.fill_rule.FillRule.{FillRule}
use Rattle.span_fill.specs.declared.fill_rule.FillRule.TheVariants.{EvenOdd, NonZero}
use Rattle.preflight_cert.specs.FigureLines.{lines_along, placed_figures}
use Rattle.preflight_cert.specs.Rectangles.{rectangle_on}
use Rattle.preflight_cert.specs.StrokedOutline.{Outline, outline_lines}

-- a shape, by points of the plane: the pixel of a point, the inside of figures or of a rectangle, or the stroke of a
-- pen with a width along an outline, by a page map
pub data Shape : Type 0 where
  pixel_under : Point → Shape
  inside_figures : FillMode → List Figure → Shape
  inside_rectangle : Point → Point → RectangleEdges → Shape
  stroke_of : ℕ → MapNumbers → Outline → Shape

-- the fill rule of a fill mode ([MS-WMF] 2.1.1.25)
abbrev pub fill_rule_of : FillMode → FillRule
fill_rule_of Alternate = EvenOdd
fill_rule_of Winding = NonZero

-- points of lists, on a surface
abbrev pub placed_lists : Surface → List (List Point) → List (List Point)
placed_lists s lists = map (placed_list s) lists

-- the shape contains the pixel (x, y)
abbrev pub in_shape : Shape → Surface → ℕ → ℕ → Bool
in_shape (pixel_under point) s x y = is_pixel (placed_point point s) x y
in_shape (inside_figures mode figures) s x y = in_fill (fill_rule_of mode) (lines_along (placed_figures s figures)) x y
in_shape (inside_rectangle p q edges) s x y = in_box (rectangle_on s p q edges) x y
in_shape (stroke_of width map outline) s x y = in_wide_stroke (nib_of width map s) (outline_lines outline s) x y

-- the nib of a shape; one pixel for all but a stroke
abbrev pub shape_nib : Shape → Surface → Nib
shape_nib (pixel_under point) s = one_pixel
shape_nib (inside_figures mode figures) s = one_pixel
shape_nib (inside_rectangle p q edges) s = one_pixel
shape_nib (stroke_of width map outline) s = nib_of width map s
