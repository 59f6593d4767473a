-- The remaining lines of lists of points.
use Rattle.std.specs.Prelude.{List, [], ◌++◌, Option, Some, None}
use Rattle.mapping.specs.declared.geometry.Point.{Point}
use Rattle.point_views.specs.Points.{points_of}
use Rattle.point_views.specs.Polys.{lists_of}
use Rattle.span_fill.specs.declared.line.Line.{Line}
use Rattle.preflight_cert.specs.Outlines.{lines_after, lines_round}
use Rattle.painting.specs.PlacedLines.{lines_of_lists, projected_list}
use Rattle.painting.specs.declared.list_lines.Cursor.{Cursor}
use Rattle.painting.specs.declared.list_lines.Ends.{Ends}
use Rattle.painting.specs.declared.list_lines.Ends.TheVariants.{Open, Closed}
use Rattle.painting.specs.declared.list_lines.ListLines.{ListLines}
use Rattle.painting.specs.declared.placed_lines.PlacedLines.{PlacedLines}

-- the lines from a cursor through the remaining points on the surface
abbrev pub lines_from_cursor : Ends → Cursor → List Point → List Line
lines_from_cursor Open cursor points = lines_after cursor.last points
lines_from_cursor Closed cursor points = lines_round cursor.first cursor.last points

-- the lines from a cursor, if there is one; there are none after the last line
abbrev pub lines_if_on : Ends → Option Cursor → List Point → List Line
lines_if_on ends None points = []
lines_if_on ends (Some cursor) points = lines_from_cursor ends cursor points

-- the remaining lines of a list
abbrev pub lines_left : ListLines → List Line
lines_left lines = lines_if_on lines.ends lines.cursor (projected_list lines.by (points_of lines.points))

-- the remaining lines of the current list, and those of the lists after it
abbrev pub lines_to_come : PlacedLines → List Line
lines_to_come lines = lines_left lines.current ++ lines_of_lists lines.current.by lines.current.ends (lists_of lines.lists)
