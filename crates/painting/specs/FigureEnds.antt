-- The lines of figures. Either all figures are closed, or only those that are marked closed.
use Rattle.std.specs.Prelude.{Bool, true, false, IsTrue, List, Option, Some, None}
use Rattle.std.specs.List.{flat_map, list_all}
use Rattle.mapping.specs.Surface.{Surface, lands_within_limits}
use Rattle.dc_stack.specs.Figures.{Figure, points_of_figures}
use Rattle.dc_stack.specs.declared.draw.Painting.{Painting}
use Rattle.dc_stack.specs.declared.draw.Painting.TheVariants.{Fill, Stroke, StrokeAndFill}
use Rattle.preflight_cert.specs.FigureLines.{placed_figures}
use Rattle.span_fill.specs.declared.line.Line.{Line}
use Rattle.painting.specs.PlacedLines.{lines_between}
use Rattle.painting.specs.declared.list_lines.Ends.{Ends}
use Rattle.painting.specs.declared.list_lines.Ends.TheVariants.{Open, Closed}

-- a figure's last point is joined to its first if the figure is closed or if all figures are
abbrev pub figure_ends : Ends → Bool → Ends
figure_ends Closed is_closed = Closed
figure_ends Open true = Closed
figure_ends Open false = Open

-- the lines of a figure. Either all figures are closed, or only those that are marked closed
abbrev pub lines_of_figure : Ends → Figure → List Line
lines_of_figure ends figure = lines_between (figure_ends ends figure.is_closed) figure.points

-- the lines of figures, one figure after another
abbrev pub lines_of_figures : Ends → List Figure → List Line
lines_of_figures ends figures = flat_map (lines_of_figure ends) figures

-- how stroked figures end: closed only if marked so, but all closed if the painting fills them too; nothing if it
-- doesn't stroke
abbrev pub stroked_ends : Painting → Option Ends
stroked_ends Fill = None
stroked_ends Stroke = Some Open
stroked_ends StrokeAndFill = Some Closed

-- all points of some figures on the plane land within the limits
abbrev pub FiguresLand : Surface → List Figure → Type 0
FiguresLand s figures = IsTrue (list_all (λ p. lands_within_limits p s) (points_of_figures figures))

-- the lines of some figures on the surface
abbrev pub landed_lines : Surface → Ends → List Figure → List Line
landed_lines s ends figures = lines_of_figures ends (placed_figures s figures)
