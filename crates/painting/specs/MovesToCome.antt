-- The remaining moves through pieces, and the lines that they draw.
use Rattle.std.specs.Prelude.{List, [], ◌∷◌, ◌++◌, map, Option, Some, None}
use Rattle.mapping.specs.PlaceOf.{surface_of}
use Rattle.mapping.specs.declared.geometry.Point.{Point}
use Rattle.point_views.specs.Points.{points_of}
use Rattle.point_views.specs.Polys.{lists_of}
use Rattle.dc_stack.specs.declared.piece.FigureEnd.{FigureEnd}
use Rattle.span_fill.specs.declared.line.Line.{Line}
use Rattle.painting.specs.FewPoints.{few_points}
use Rattle.painting.specs.Moves.{Drawn, drawn, lines_of_moves, moves_of_lists, moves_of_pieces, nothing}
use Rattle.painting.specs.PlacedLines.{projected_list}
use Rattle.painting.specs.declared.list_lines.Cursor.{Cursor}
use Rattle.painting.specs.declared.moves.ListMoves.{ListMoves}
use Rattle.painting.specs.declared.moves.ListPoints.{ListPoints}
use Rattle.painting.specs.declared.moves.ListPoints.TheVariants.{Page, Placed}
use Rattle.painting.specs.declared.moves.Move.{Move}
use Rattle.painting.specs.declared.moves.Move.TheVariants.{To, End}
use Rattle.painting.specs.declared.moves.PagePoints.{PagePoints}
use Rattle.painting.specs.declared.moves.PlacedPoints.{PlacedPoints}
use Rattle.painting.specs.declared.path_moves.PathMoves.{PathMoves}
use Rattle.painting.specs.declared.path_moves.PieceMoves.{PieceMoves}
use Rattle.painting.specs.declared.piece_lines.FigureLines.{FigureLines}

-- the remaining page points, on the surface
abbrev pub page_points_left : PagePoints → List Point
page_points_left list = projected_list list.by (points_of list.points)

-- the remaining points of a surface
abbrev pub placed_points_left : PlacedPoints → List Point
placed_points_left list = few_points list.points

-- the remaining points of a list
abbrev pub points_left : ListPoints → List Point
points_left (Page list) = page_points_left list
points_left (Placed list) = placed_points_left list

-- the end of the open figure, if it hasn't been returned yet
abbrev pub end_left : Option FigureEnd → List Move
end_left None = []
end_left (Some end) = End end ∷ []

-- the remaining moves through a list
abbrev pub list_moves_left : ListMoves → List Move
list_moves_left list = end_left list.before ++ (map To (points_left list.points) ++ end_left list.after)

-- the remaining moves through a piece
abbrev pub piece_moves_left : PieceMoves → List Move
piece_moves_left piece =
    list_moves_left piece.list ++ (moves_of_lists piece.verb (map (projected_list piece.by) (lists_of piece.lists)) ++ end_left piece.end)

-- the remaining moves through the current piece, if there is one
abbrev pub moves_of_current : Option PieceMoves → List Move
moves_of_current None = []
moves_of_current (Some moves) = piece_moves_left moves

-- the remaining moves through the current piece and the pieces after it
abbrev pub path_moves_left : PathMoves → List Move
path_moves_left path = moves_of_current path.current ++ moves_of_pieces (surface_of path.place) path.pieces.now

-- the open figure
abbrev pub drawn_of : Option Cursor → Drawn
drawn_of None = nothing
drawn_of (Some cursor) = drawn cursor.first cursor.last

-- the remaining lines of figures
abbrev pub figure_lines_left : FigureLines → List Line
figure_lines_left lines = lines_of_moves lines.ends (drawn_of lines.cursor) (path_moves_left lines.moves)
