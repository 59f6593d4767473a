-- The lines of figures, on a surface.
use Rattle.std.specs.Prelude.{true, if◌then◌else◌, List, map}
use Rattle.std.specs.List.{flat_map}
use Rattle.mapping.specs.Surface.{Surface}
use Rattle.dc_stack.specs.Boxes.{placed_list}
use Rattle.dc_stack.specs.Figures.{Figure}
use Rattle.span_fill.specs.declared.line.Line.{Line}
use Rattle.preflight_cert.specs.Outlines.{closed_lines, open_lines}

-- a figure, on a surface
abbrev pub placed_figure : Surface → Figure → Figure
placed_figure s figure = record { points = placed_list s figure.points; is_closed = figure.is_closed }

-- several figures, on a surface
abbrev pub placed_figures : Surface → List Figure → List Figure
placed_figures s figures = map (placed_figure s) figures

-- figures, each closed
abbrev pub all_closed : List Figure → List Figure
all_closed figures = map (λ (figure : Figure). record { points = figure.points; is_closed = true }) figures

-- the lines from point to point of a figure, and from its last point back to its first if it is closed
abbrev pub figure_lines : Figure → List Line
figure_lines figure = if figure.is_closed then closed_lines figure.points else open_lines figure.points

-- the lines of figures, one figure after another
abbrev pub lines_along : List Figure → List Line
lines_along figures = flat_map figure_lines figures
