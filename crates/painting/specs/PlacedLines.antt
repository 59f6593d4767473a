-- The lines of lists of page points, on the surface.
use Rattle.std.specs.Prelude.{List, map, IsTrue}
use Rattle.std.specs.List.{All, flat_map}
use Rattle.mapping.specs.declared.geometry.Point.{Point}
use Rattle.dc_stack.specs.Projected.{is_projected, projected}
use Rattle.dc_stack.specs.declared.projection.Projection.{Projection}
use Rattle.span_fill.specs.declared.line.Line.{Line}
use Rattle.preflight_cert.specs.Outlines.{closed_lines, open_lines}
use Rattle.painting.specs.declared.list_lines.Ends.{Ends}
use Rattle.painting.specs.declared.list_lines.Ends.TheVariants.{Open, Closed}

-- all of the points land within the limits
abbrev pub AllLand : Projection → List Point → Type 0
AllLand by points = All (λ point. IsTrue (is_projected by point)) points

-- all points of all lists land within the limits
abbrev pub AllListsLand : Projection → List (List Point) → Type 0
AllListsLand by lists = All (AllLand by) lists

-- page points, on the surface
abbrev pub projected_list : Projection → List Point → List Point
projected_list by points = map (projected by) points

-- the lines of a list
abbrev pub lines_between : Ends → List Point → List Line
lines_between Open points = open_lines points
lines_between Closed points = closed_lines points

-- the lines of a list of page points
abbrev pub lines_of_list : Projection → Ends → List Point → List Line
lines_of_list by ends points = lines_between ends (projected_list by points)

-- the lines of several lists of page points
abbrev pub lines_of_lists : Projection → Ends → List (List Point) → List Line
lines_of_lists by ends lists = flat_map (lines_of_list by ends) lists
