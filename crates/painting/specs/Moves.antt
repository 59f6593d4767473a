-- Moves through the points of pieces, on the surface, one after another.
use Rattle.std.specs.Prelude.{List, [], ◌∷◌, ◌++◌, map}
use Rattle.std.specs.List.{flat_map}
use Rattle.mapping.specs.PageMap.{map_numbers}
use Rattle.mapping.specs.Surface.{Surface}
use Rattle.mapping.specs.declared.geometry.Point.{Point}
use Rattle.dc_stack.specs.Pieces.{plane_lists}
use Rattle.dc_stack.specs.declared.piece.FigureEnd.{FigureEnd}
use Rattle.dc_stack.specs.declared.piece.FigureEnd.TheVariants.{Open as LeftOpen, Ended, Closed as Joined}
use Rattle.dc_stack.specs.declared.piece.Verb.{Verb}
use Rattle.dc_stack.specs.declared.piece.Verb.TheVariants.{GoesOn, Polylines, Polygons}
use Rattle.dc_stack.specs.declared.piece.Piece.{Piece}
use Rattle.span_fill.specs.Lines.{IsNearPoint}
use Rattle.span_fill.specs.declared.line.Line.{Line}
use Rattle.preflight_cert.specs.Outlines.{line_from}
use Rattle.preflight_cert.specs.Shape.{placed_lists}
use Rattle.painting.specs.declared.list_lines.Ends.{Ends}
use Rattle.painting.specs.declared.list_lines.Ends.TheVariants.{Open, Closed}
use Rattle.painting.specs.declared.moves.Move.{Move}
use Rattle.painting.specs.declared.moves.Move.TheVariants.{To, End}

-- the coordinates of a move's point are within the limits of lines
abbrev pub IsNearMove : Move → Type 0
IsNearMove (To point) = IsNearPoint point
IsNearMove (End end) = Unit {0}

-- how the open figure ends before a list of points, and after it
abbrev pub end_before : Verb → FigureEnd
end_before GoesOn = LeftOpen
end_before Polylines = Ended
end_before Polygons = Ended

abbrev pub end_after : Verb → FigureEnd
end_after GoesOn = LeftOpen
end_after Polylines = LeftOpen
end_after Polygons = Joined

-- the moves through the points of a list; there are none if it has no point
abbrev pub moves_of_list : Verb → List Point → List Move
moves_of_list verb [] = []
moves_of_list verb (p ∷ ps) = End (end_before verb) ∷ (map To (p ∷ ps) ++ End (end_after verb) ∷ [])

-- the moves through several lists, one list after another
abbrev pub moves_of_lists : Verb → List (List Point) → List Move
moves_of_lists verb lists = flat_map (moves_of_list verb) lists

-- the moves through the points of a piece
abbrev pub moves_of_piece : Surface → Piece → List Move
moves_of_piece s piece = moves_of_lists piece.verb (placed_lists s (plane_lists (map_numbers piece.map) piece.points)) ++ End piece.end ∷ []

-- the moves through the points of several pieces
abbrev pub moves_of_pieces : Surface → List Piece → List Move
moves_of_pieces s pieces = flat_map (moves_of_piece s) pieces

-- the open figure: none, or its first and its latest point
pub data Drawn : Type 0 where
  nothing : Drawn
  drawn : Point → Point → Drawn

-- the line back to the first point, drawn if the figure is joined, or if it ends and all figures are closed
abbrev pub lines_at_end : Ends → FigureEnd → Drawn → List Line
lines_at_end ends end nothing = []
lines_at_end ends LeftOpen (drawn first last) = []
lines_at_end Open Ended (drawn first last) = []
lines_at_end Closed Ended (drawn first last) = line_from last first ∷ []
lines_at_end ends Joined (drawn first last) = line_from last first ∷ []

-- the line that a move draws, if it draws one
abbrev pub lines_of_move : Ends → Move → Drawn → List Line
lines_of_move ends (To point) nothing = []
lines_of_move ends (To point) (drawn first last) = line_from last point ∷ []
lines_of_move ends (End end) figure = lines_at_end ends end figure

-- the open figure after a move
abbrev pub after_move : Move → Drawn → Drawn
after_move (To point) nothing = drawn point point
after_move (To point) (drawn first last) = drawn first point
after_move (End LeftOpen) figure = figure
after_move (End Ended) figure = nothing
after_move (End Joined) figure = nothing

-- the lines of a sequence of moves; after the last move the open figure ends
abbrev pub lines_of_moves : Ends → Drawn → List Move → List Line
lines_of_moves ends figure [] = lines_at_end ends Ended figure
lines_of_moves ends figure (move ∷ moves) = lines_of_move ends move figure ++ lines_of_moves ends (after_move move figure) moves
