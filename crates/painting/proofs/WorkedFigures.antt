-- Small paths worked by hand: the lines of their figures.
use Rattle.std.proofs.Common.{◌≡◌, ◌≢◌, ℤ, pos, Bool, true, false, List, [], ◌∷◌, refl, arith}
use Rattle.mapping.specs.Surface.{Surface}
use Rattle.mapping.specs.declared.geometry.Point.{Point}
use Rattle.mapping.specs.declared.map_mode.MapMode.TheVariants.{Text}
use Rattle.mapping.specs.declared.page_axis.PageAxis.{PageAxis}
use Rattle.mapping.specs.declared.page_map.PageMap.{PageMap}
use Rattle.dc_stack.specs.Figures.{Figure, all_figures}
use Rattle.dc_stack.specs.Pieces.{figures_of}
use Rattle.dc_stack.specs.declared.piece.FigureEnd.{FigureEnd}
use Rattle.dc_stack.specs.declared.piece.FigureEnd.TheVariants.{Open as LeftOpen, Ended, Closed as Joined}
use Rattle.dc_stack.specs.declared.piece.Verb.{Verb}
use Rattle.dc_stack.specs.declared.piece.Verb.TheVariants.{GoesOn, Polygons}
use Rattle.dc_stack.specs.declared.piece.Piece.{Piece}
use Rattle.dc_stack.specs.declared.piece.PiecePoints.{PiecePoints}
use Rattle.dc_stack.specs.declared.piece.PiecePoints.TheVariants.{Point as OnePoint, Corners}
use Rattle.span_fill.specs.declared.line.Line.{Line}
use Rattle.painting.specs.FigureEnds.{lines_of_figures}
use Rattle.preflight_cert.specs.FigureLines.{placed_figures}
use Rattle.preflight_cert.specs.Outlines.{line_from}
use Rattle.painting.specs.declared.list_lines.Ends.{Ends}
use Rattle.painting.specs.declared.list_lines.Ends.TheVariants.{Open, Closed}

abbrev at : ℤ → ℤ → Point
at x y = record { x = x; y = y }

abbrev a : Point
a = at (pos 0) (pos 0)

abbrev b : Point
b = at (pos 3) (pos 0)

abbrev c : Point
c = at (pos 3) (pos 3)

abbrev figure : Bool → List Point → Figure
figure is_closed points = record { points = points; is_closed = is_closed }

-- a surface that shows a frame of its own size, and one of half the size
abbrev whole : Surface
whole = record { width = 4; height = 4; frame_width = 4; frame_height = 4 }

abbrev half : Surface
half = record { width = 2; height = 2; frame_width = 4; frame_height = 4 }

open_figure : lines_of_figures Open (figure false (a ∷ b ∷ c ∷ []) ∷ []) ≡ line_from a b ∷ line_from b c ∷ []
open_figure = refl

-- a fill closes it
filled_figure : lines_of_figures Closed (figure false (a ∷ b ∷ c ∷ []) ∷ []) ≡ line_from a b ∷ line_from b c ∷ line_from c a ∷ []
filled_figure = refl

closed_figure : lines_of_figures Open (figure true (a ∷ b ∷ c ∷ []) ∷ []) ≡ line_from a b ∷ line_from b c ∷ line_from c a ∷ []
closed_figure = refl

-- a figure of one point has a line if it is closed, from the point to itself
closed_point : lines_of_figures Open (figure true (a ∷ []) ∷ figure false (b ∷ []) ∷ []) ≡ line_from a a ∷ []
closed_point = refl

figure_on_half : lines_of_figures Open (placed_figures half (figure false (a ∷ c ∷ []) ∷ [])) ≡ line_from (at (pos 0) (pos 0)) (at (pos 1) (pos 1)) ∷ []
figure_on_half = refl

has_extent : pos 1 ≢ pos 0
has_extent e = cc

-- a map that moves the origin of the page to a column, without scaling
abbrev axis : ℤ → PageAxis
axis origin = record {
  window_origin = pos 0;
  window_extent = pos 1;
  viewport_origin = origin;
  viewport_extent = pos 1;
  corner = pos 0;
  window_has_extent = has_extent;
}

abbrev map_at : ℤ → PageMap
map_at column = record {
  mode = Text;
  one_to_one = true;
  parts = 1;
  x = axis column;
  y = axis (pos 0);
  some_parts = omega arith;
  few_parts = omega arith;
  tested = refl;
}

abbrev piece : PiecePoints → ℤ → Verb → FigureEnd → Piece
piece points column verb end = record { points = points; map = map_at column; verb = verb; end = end }

abbrev lines_of : Ends → List Piece → List Line
lines_of ends pieces = lines_of_figures ends (placed_figures whole (all_figures (figures_of pieces)))

-- a figure continues through pieces, each of which has its own map
goes_on : lines_of Open (piece (OnePoint a) (pos 0) GoesOn LeftOpen ∷ piece (OnePoint a) (pos 3) GoesOn LeftOpen ∷ piece (OnePoint c) (pos 0) GoesOn Joined ∷ []) ≡ line_from a b ∷ line_from b c ∷ line_from c a ∷ []
goes_on = refl

-- a figure that has ended isn't continued, and only a fill closes it
abbrev two_figures : List Piece
two_figures = piece (OnePoint a) (pos 0) GoesOn LeftOpen ∷ piece (OnePoint b) (pos 0) GoesOn Ended ∷ piece (OnePoint c) (pos 0) GoesOn LeftOpen ∷ piece (OnePoint a) (pos 0) GoesOn LeftOpen ∷ []

stroked_figures : lines_of Open two_figures ≡ line_from a b ∷ line_from c a ∷ []
stroked_figures = refl

filled_figures : lines_of Closed two_figures ≡ line_from a b ∷ line_from b a ∷ line_from c a ∷ line_from a c ∷ []
filled_figures = refl

-- a box has its corners clockwise from the top left, whichever two the page has
box : lines_of Open (piece (OnePoint b) (pos 0) GoesOn LeftOpen ∷ piece (Corners (record { l = pos 3; t = pos 3; r = pos 0; b = pos 0 })) (pos 0) Polygons LeftOpen ∷ []) ≡ line_from a b ∷ line_from b c ∷ line_from c (at (pos 0) (pos 3)) ∷ line_from (at (pos 0) (pos 3)) a ∷ []
box = refl
