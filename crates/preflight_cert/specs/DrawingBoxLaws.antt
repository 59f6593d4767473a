-- What a box of the plane that contains a drawing's points says about its pixels.
use Rattle.std.specs.Prelude.{◌≡◌, ◌≤◌, ℕ, ◌≤ℤ◌, true, List, [], ◌∷◌}
use Rattle.std.specs.List.{All}
use Rattle.mapping.specs.Boxes.{HasPoint}
use Rattle.mapping.specs.Nibs.{CoversNib}
use Rattle.mapping.specs.PlacingLaws.{IsNoLarger, ShowsFrame}
use Rattle.mapping.specs.Surface.{Surface}
use Rattle.mapping.specs.declared.geometry.Point.{Point}
use Rattle.mapping.specs.declared.geometry.Rect.{Rect}
use Rattle.mapping.specs.declared.nib.Nib.{Nib}
use Rattle.dc_stack.specs.Clip.{placed_box}
use Rattle.dc_stack.specs.Drawing.{Drawing, drawing_nib, drawing_points}
use Rattle.dc_stack.specs.Figures.{Figure, points_of_figures}
use Rattle.preflight_cert.specs.Budget.{drawing_cells}
use Rattle.preflight_cert.specs.Layer.{layers_of}
use Rattle.mapping.specs.PixelBoxes.{BoxHasPixel}
use Rattle.preflight_cert.specs.Shape.{Shape, in_shape, inside_figures, inside_rectangle, pixel_under, shape_nib, stroke_of}
use Rattle.preflight_cert.specs.StrokedOutline.{outline_points}
use Rattle.span_fill.specs.WideStrokes.{widened}
use Rattle.preflight_cert.specs.Writes.{writes_of_layers}

-- the points of the plane that define a shape
abbrev pub shape_points : Shape → List Point
shape_points (pixel_under point) = point ∷ []
shape_points (inside_figures mode figures) = points_of_figures figures
shape_points (inside_rectangle p q edges) = p ∷ q ∷ []
shape_points (stroke_of width map outline) = outline_points outline

-- a figure is closed
abbrev pub IsClosedFigure : Figure → Type 0
IsClosedFigure figure = figure.is_closed ≡ true

-- a shape that is the inside of figures is that of closed ones, as for each layer
abbrev pub IsClosedShape : Shape → Type 0
IsClosedShape (pixel_under point) = Unit
IsClosedShape (inside_figures mode figures) = All IsClosedFigure figures
IsClosedShape (inside_rectangle p q edges) = Unit
IsClosedShape (stroke_of width map outline) = Unit

-- a box of the plane isn't empty, and the box, placed on the surface and widened by a nib, contains the pixel
pub record Reaches (nib : Nib) (box : Rect) (s : Surface) (x y : ℕ) : Type 0 where
  pub wide : box.l ≤ℤ box.r
  pub high : box.t ≤ℤ box.b
  pub pixel : BoxHasPixel (widened nib (placed_box s box)) x y

-- Take a box of the plane that contains the points of a shape. Unless the shape is the inside of open figures, all its
-- pixels lie in that box, placed on the surface and widened by the shape's nib. So a drawing writes at most the budget
-- of its layers, by such a box and by a nib at least as large as the drawing's, on this surface and on each that is no
-- larger.
pub record DrawingBoxLaws : Type 0 where
  pub shape :
      (shape : Shape) (box : Rect) (s : Surface) (x y : ℕ) → ShowsFrame s → IsClosedShape shape → All (HasPoint box) (shape_points shape)
      → in_shape shape s x y ≡ true → Reaches (shape_nib shape s) box s x y
  pub drawing :
      (drawing : Drawing) (nib : Nib) (box : Rect) (smaller larger : Surface) → ShowsFrame larger → IsNoLarger smaller larger
      → CoversNib nib (drawing_nib drawing larger)
      → All (HasPoint box) (drawing_points drawing)
      → writes_of_layers (layers_of drawing) smaller 0 smaller.height ≤ drawing_cells drawing nib box larger
