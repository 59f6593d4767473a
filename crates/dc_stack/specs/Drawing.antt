-- What an operation draws, by points of the plane.
use Rattle.std.specs.Prelude.{ℕ, Bool, true, false, if◌then◌else◌, List, [], ◌∷◌, length, Option, Some, None}
use Rattle.std.specs.List.{flat_map}
use Rattle.std.specs.Option.{option_map}
use Rattle.mapping.specs.declared.geometry.Colour.{Colour}
use Rattle.mapping.specs.declared.geometry.Point.{Point}
use Rattle.mapping.specs.declared.geometry.Rect.{Rect}
use Rattle.mapping.specs.Nibs.{nib_of}
use Rattle.mapping.specs.Plane.{MapNumbers}
use Rattle.mapping.specs.Surface.{Surface}
use Rattle.mapping.specs.declared.nib.Nib.{Nib}
use Rattle.draw_ops.specs.declared.objects.Pen.{Pen}
use Rattle.draw_ops.specs.declared.objects.Pen.TheVariants.{Null, Solid}
use Rattle.draw_ops.specs.declared.operation.RectangleEdges.{RectangleEdges}
use Rattle.draw_ops.specs.Blits.{SourceValue}
use Rattle.draw_ops.specs.Objects.{BrushValue}
use Rattle.draw_ops.specs.Operation.{Operation, no_effect, save, restore, set_background_mode, set_map_mode, set_raster_op, set_fill_mode, set_background_colour, set_window_origin, set_window_extent, set_viewport_origin, set_viewport_extent, offset_window_origin, offset_viewport_origin, exclude_clip, intersect_clip, remove_clip, move_to, line_to, pixel, rectangle, polyline, polygon, polyline_to, blit, create, select, select_palette, delete, begin_path, end_path, close_figure, abort_path, fill_path, stroke_path, stroke_and_fill_path}
use Rattle.dc_stack.specs.Clip.{ClipValue}
use Rattle.dc_stack.specs.Figures.{Figure, figures_of_lists, points_of_figures}
use Rattle.dc_stack.specs.Mapped.{opposite_corner, left_top, mapped_lists, mapped_point, right_bottom}
use Rattle.dc_stack.specs.Path.{figures_to_paint, unless_open}
use Rattle.dc_stack.specs.State.{DcValue, State}
use Rattle.dc_stack.specs.declared.draw.Painting.{Painting}
use Rattle.dc_stack.specs.declared.draw.Painting.TheVariants.{Fill, Stroke, StrokeAndFill}
use Rattle.dc_stack.specs.declared.modes.Modes.{Modes}

-- What a drawing marks on the plane: a point in a colour; the insides or the lines of figures, or both; the rectangle
-- between two corners, in any order; or the box between two corners, to each of whose pixels a ternary raster operation
-- is applied.
pub data MarkValue : Type 0 where
  dot : Point → Colour → MarkValue
  figures_painted : Painting → List Figure → MarkValue
  rectangle_between : Point → Point → RectangleEdges → MarkValue
  blit_between : Point → Point → ℕ → Option SourceValue → MarkValue

-- lists of points that are painted
abbrev pub lists_painted : Painting → List (List Point) → MarkValue
lists_painted painting lists = figures_painted painting (figures_of_lists lists)

-- what a drawing uses: the pen, the brush, the modes, the clip, and the page map
pub record Tools : Type 0 where
  pub pen : Pen
  pub brush : BrushValue
  pub modes : Modes
  pub clip : ClipValue
  pub map : MapNumbers

-- the current tools
abbrev pub tools_of : DcValue → Tools
tools_of dc = record {
  pen = dc.selected.pen.object;
  brush = dc.selected.brush.object;
  modes = dc.modes;
  clip = dc.clip;
  map = dc.map;
}

-- a drawing: its mark, and the tools that were current
pub record Drawing : Type 0 where
  pub mark : MarkValue
  pub tools : Tools

-- the lines of figures are painted, and not only their inside
abbrev pub paints_lines : Painting → Bool
paints_lines Fill = false
paints_lines Stroke = true
paints_lines StrokeAndFill = true

-- a mark is stroked
abbrev pub is_stroked : MarkValue → Bool
is_stroked (dot point colour) = false
is_stroked (figures_painted painting figures) = paints_lines painting
is_stroked (rectangle_between p q edges) = true
is_stroked (blit_between p q table source) = false

-- the width of a pen, in page units
abbrev pub pen_width : Pen → ℕ
pen_width Null = 0
pen_width (Solid width colour) = width

-- the width of a drawing's stroke, in page units; 0 if it has none
abbrev pub stroke_width : Drawing → ℕ
stroke_width drawing = if is_stroked drawing.mark then pen_width drawing.tools.pen else 0

-- the nib of a drawing on a surface, by its page map
abbrev pub drawing_nib : Drawing → Surface → Nib
drawing_nib drawing s = nib_of (stroke_width drawing) drawing.tools.map s

-- the drawing of a mark, with the current tools
abbrev pub drawing_now : MarkValue → State → Option Drawing
drawing_now mark state = Some (record { mark = mark; tools = tools_of state.dc })

-- lines from a point through others, if there are others
abbrev pub going_on : Point → List Point → List (List Point)
going_on start [] = []
going_on start (point ∷ points) = (start ∷ point ∷ points) ∷ []

-- the mark of lines from the current position through points of the page
abbrev pub lines_mark : List Point → State → MarkValue
lines_mark points state = lists_painted Stroke (mapped_lists state.dc.map (going_on state.dc.position points))

-- the mark of lists of points of the page
abbrev pub lists_mark : Painting → List (List Point) → State → MarkValue
lists_mark painting lists state = lists_painted painting (mapped_lists state.dc.map lists)

-- the mark of a rectangle of the page
abbrev pub rectangle_mark : Rect → RectangleEdges → State → MarkValue
rectangle_mark corners edges state = rectangle_between (left_top state.dc.map corners) (right_bottom state.dc.map corners) edges

-- the drawing of a mark if no path is open; an open path is added to instead
abbrev drawing_unless_open : MarkValue → State → Option Drawing
drawing_unless_open mark state = unless_open state.path (drawing_now mark state)

-- the painting of the figures of a finished path
abbrev painting_now : Painting → State → Option Drawing
painting_now painting state =
    option_map (λ (figures : List Figure). record { mark = figures_painted painting figures; tools = tools_of state.dc }) (figures_to_paint state.path)

-- the drawing of an operation, if it draws
abbrev pub drawing_of : Operation → State → Option Drawing
drawing_of no_effect state = None
drawing_of save state = None
drawing_of (restore which) state = None
drawing_of (set_background_mode mode) state = None
drawing_of (set_map_mode mode) state = None
drawing_of (set_raster_op op) state = None
drawing_of (set_fill_mode mode) state = None
drawing_of (set_background_colour colour) state = None
drawing_of (set_window_origin origin) state = None
drawing_of (set_window_extent extent) state = None
drawing_of (set_viewport_origin origin) state = None
drawing_of (set_viewport_extent extent) state = None
drawing_of (offset_window_origin offset) state = None
drawing_of (offset_viewport_origin offset) state = None
drawing_of (exclude_clip corners) state = None
drawing_of (intersect_clip corners) state = None
drawing_of remove_clip state = None
drawing_of (move_to point) state = None
drawing_of (line_to point) state = drawing_unless_open (lines_mark (point ∷ []) state) state
drawing_of (pixel point colour) state = drawing_now (dot (mapped_point state.dc.map point) colour) state
drawing_of (rectangle corners edges) state = drawing_unless_open (rectangle_mark corners edges state) state
drawing_of (polyline lists) state = drawing_unless_open (lists_mark Stroke lists state) state
drawing_of (polygon lists) state = drawing_unless_open (lists_mark StrokeAndFill lists state) state
drawing_of (polyline_to points) state = drawing_unless_open (lines_mark points state) state
drawing_of (blit asked) state =
    drawing_now (blit_between (mapped_point state.dc.map asked.corner) (mapped_point state.dc.map (opposite_corner asked)) asked.table asked.source) state
drawing_of (create at object) state = None
drawing_of (select index) state = None
drawing_of (select_palette index) state = None
drawing_of (delete index) state = None
drawing_of begin_path state = None
drawing_of end_path state = None
drawing_of close_figure state = None
drawing_of abort_path state = None
drawing_of fill_path state = painting_now Fill state
drawing_of stroke_path state = painting_now Stroke state
drawing_of stroke_and_fill_path state = painting_now StrokeAndFill state

-- the points of some lists, list after list
abbrev pub points_of_lists : List (List Point) → List Point
points_of_lists lists = flat_map (λ list. list) lists

-- the points of a mark; for a rectangle and for a blit's box, the two corners
abbrev pub mark_points : MarkValue → List Point
mark_points (dot point colour) = point ∷ []
mark_points (figures_painted painting figures) = points_of_figures figures
mark_points (rectangle_between p q edges) = p ∷ q ∷ []
mark_points (blit_between p q table source) = p ∷ q ∷ []

-- the points of a drawing
abbrev pub drawing_points : Drawing → List Point
drawing_points drawing = mark_points drawing.mark

-- the number of points for which a mark needs memory: a dot and a blit need none, a rectangle has four corners
abbrev pub mark_edges : MarkValue → ℕ
mark_edges (dot point colour) = 0
mark_edges (figures_painted painting figures) = length (points_of_figures figures)
mark_edges (rectangle_between p q edges) = 4
mark_edges (blit_between p q table source) = 0

-- the number of points for which a drawing needs memory, if there is one
abbrev pub drawing_edges : Option Drawing → ℕ
drawing_edges None = 0
drawing_edges (Some drawing) = mark_edges drawing.mark

-- the most points of one drawing
unfoldable pub edge_limit : ℕ
edge_limit = 1048576
