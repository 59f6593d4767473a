-- Drawings as lists of layers.
use Rattle.std.specs.Prelude.{ℕ, if◌then◌else◌, List, [], ◌∷◌, ◌++◌, Option, Some, None}
use Rattle.mapping.specs.Colours.{black_colour}
use Rattle.mapping.specs.declared.geometry.Point.{Point}
use Rattle.draw_ops.specs.Blits.{SourceValue}
use Rattle.dc_stack.specs.Clip.{ClipValue}
use Rattle.dc_stack.specs.Drawing.{Drawing, MarkValue, Tools, blit_between, dot, figures_painted, rectangle_between}
use Rattle.dc_stack.specs.Figures.{Figure}
use Rattle.dc_stack.specs.declared.draw.Painting.{Painting}
use Rattle.dc_stack.specs.declared.draw.Painting.TheVariants.{Fill, Stroke, StrokeAndFill}
use Rattle.draw_ops.specs.Objects.{BrushValue, hatched_brush, null_brush, solid_brush, tile_brush}
use Rattle.draw_ops.specs.declared.objects.Pen.{Pen}
use Rattle.draw_ops.specs.declared.objects.Pen.TheVariants.{Null, Solid}
use Rattle.draw_ops.specs.declared.operation.RectangleEdges.TheVariants.{HalfOpen}
use Rattle.raster_ops.specs.TernaryOps.{uses_pattern}
use Rattle.preflight_cert.specs.Mixing.{Mixing, binary, copied, ternary}
use Rattle.preflight_cert.specs.Paint.{Paint, brushed, solid}
use Rattle.preflight_cert.specs.FigureLines.{all_closed}
use Rattle.preflight_cert.specs.Shape.{Shape, inside_figures, inside_rectangle, pixel_under, stroke_of}
use Rattle.preflight_cert.specs.StrokedOutline.{Outline, along, round}

-- a layer: which pixels, in which paint, combined how, within which clip
pub record Layer : Type 0 where
  pub shape : Shape
  pub paint : Paint
  pub mixing : Mixing
  pub clip : ClipValue

-- a layer of paint with the current raster operation
abbrev pub layer_now : Shape → Paint → Tools → Layer
layer_now shape paint tools = record { shape = shape; paint = paint; mixing = binary tools.modes.raster_op; clip = tools.clip }

-- a layer along an outline in the pen's colour; none for a null pen
abbrev pub stroked_with : Pen → Outline → Tools → List Layer
stroked_with Null outline tools = []
stroked_with (Solid width colour) outline tools = layer_now (stroke_of width tools.map outline) (solid colour) tools ∷ []

-- the paint of a brush, with the current background
abbrev pub brushed_now : BrushValue → Tools → Paint
brushed_now brush tools = brushed brush tools.modes.background_mode tools.modes.background_colour

-- a layer of the brush's paint; none for a null brush
abbrev pub filled_with : BrushValue → Shape → Tools → List Layer
filled_with null_brush shape tools = []
filled_with (solid_brush colour) shape tools = layer_now shape (brushed_now (solid_brush colour) tools) tools ∷ []
filled_with (hatched_brush hatch colour) shape tools = layer_now shape (brushed_now (hatched_brush hatch colour) tools) tools ∷ []
filled_with (tile_brush picture) shape tools = layer_now shape (brushed_now (tile_brush picture) tools) tools ∷ []

-- a layer stroked by the current pen; none if it draws nothing
abbrev pub stroked : Outline → Tools → List Layer
stroked outline tools = stroked_with tools.pen outline tools

-- a layer filled by the current brush; none if it paints nothing
abbrev pub filled : Shape → Tools → List Layer
filled shape tools = filled_with tools.brush shape tools

-- the layers that fill figures; all figures are then closed
abbrev pub figures_filled : Painting → List Figure → Tools → List Layer
figures_filled Fill figures tools = filled (inside_figures tools.modes.fill_mode (all_closed figures)) tools
figures_filled Stroke figures tools = []
figures_filled StrokeAndFill figures tools = filled (inside_figures tools.modes.fill_mode (all_closed figures)) tools

-- the layers that stroke figures; all figures are closed if they are filled too
abbrev pub figures_stroked : Painting → List Figure → Tools → List Layer
figures_stroked Fill figures tools = []
figures_stroked Stroke figures tools = stroked (along figures) tools
figures_stroked StrokeAndFill figures tools = stroked (along (all_closed figures)) tools

-- the layers that fill a mark
abbrev pub fills_of : MarkValue → Tools → List Layer
fills_of (dot point colour) tools = []
fills_of (figures_painted painting figures) tools = figures_filled painting figures tools
fills_of (rectangle_between p q edges) tools = filled (inside_rectangle p q edges) tools
fills_of (blit_between p q table source) tools = []

-- the layers that stroke a mark
abbrev pub strokes_of : MarkValue → Tools → List Layer
strokes_of (dot point colour) tools = []
strokes_of (figures_painted painting figures) tools = figures_stroked painting figures tools
strokes_of (rectangle_between p q edges) tools = stroked (round p q edges) tools
strokes_of (blit_between p q table source) tools = []

-- the paint of a blit: that of the brush if the operation depends on the pattern, otherwise a colour that isn't used
abbrev pub blit_paint : ℕ → Tools → Paint
blit_paint table tools = if uses_pattern table then brushed_now tools.brush tools else solid black_colour

-- the layer of a blit: a box that includes its left and top edges and excludes its right and bottom ones
abbrev pub blit_layer : Point → Point → ℕ → Option SourceValue → Tools → Layer
blit_layer p q table source tools =
    record { shape = inside_rectangle p q HalfOpen; paint = blit_paint table tools; mixing = ternary table source p q; clip = tools.clip }

-- the layers of a mark that is neither filled nor stroked: a dot is a pixel in its own colour, whatever the raster
-- operation, and a blit is a box
abbrev pub plain_layers_of : MarkValue → Tools → List Layer
plain_layers_of (dot point colour) tools = record { shape = pixel_under point; paint = solid colour; mixing = copied; clip = tools.clip } ∷ []
plain_layers_of (figures_painted painting figures) tools = []
plain_layers_of (rectangle_between p q edges) tools = []
plain_layers_of (blit_between p q table source) tools = blit_layer p q table source tools ∷ []

-- the layers of a drawing, in order: the fill, a dot or blit, and then the stroke
abbrev pub layers_of : Drawing → List Layer
layers_of drawing =
    fills_of drawing.mark drawing.tools ++ (plain_layers_of drawing.mark drawing.tools ++ strokes_of drawing.mark drawing.tools)

-- the layers of a drawing, if there is one
abbrev pub layers_if_drawn : Option Drawing → List Layer
layers_if_drawn None = []
layers_if_drawn (Some drawing) = layers_of drawing
