-- Paths worked by hand: what operations do to one, which figures it has, and their faults.
use Rattle.std.proofs.Common.{◌≡◌, ℕ, ◌+◌, ◌^◌, pos, negsuc, true, false, List, [], ◌∷◌, Option, Some, None, option_map, refl}
use Rattle.mapping.specs.Limits.{place_limit, plane_limit}
use Rattle.mapping.specs.declared.geometry.Point.{Point}
use Rattle.mapping.specs.declared.map_mode.MapMode.TheVariants.{Anisotropic}
use Rattle.draw_ops.specs.Operation.{Operation, abort_path, begin_path, close_figure, end_path, fill_path, line_to, move_to, pixel, polygon, polyline, polyline_to, rectangle, restore, save, set_map_mode, set_window_extent, stroke_and_fill_path, stroke_path}
use Rattle.draw_ops.specs.declared.record_fault.RecordFault.TheVariants.{OffPlane, PathState, TooManyPieces}
use Rattle.draw_ops.specs.declared.operation.RectangleEdges.TheVariants.{Inclusive}
use Rattle.mapping.specs.Colours.{black_colour}
use Rattle.dc_stack.specs.Drawing.{MarkValue, dot, drawing_of, edge_limit, figures_painted}
use Rattle.dc_stack.specs.declared.draw.Painting.TheVariants.{Fill, Stroke, StrokeAndFill}
use Rattle.dc_stack.specs.Figures.{Figure, Figures, no_figures}
use Rattle.dc_stack.specs.Needs.{needs_of}
use Rattle.dc_stack.specs.OperationFault.{fault_of}
use Rattle.dc_stack.specs.Path.{Path, finished_path, no_path, open_path, piece_limit}
use Rattle.dc_stack.specs.State.{State, with_path}
use Rattle.dc_stack.proofs.WorkedStart.{at, box, fault_after, four, played, start}

-- three points, and one past the plane's right side
abbrev p : Point
p = at (pos 1) (pos 2)

abbrev q : Point
q = at (pos 3) (pos 0)

abbrev r : Point
r = at (negsuc 0) (pos 5)

abbrev far : Point
far = at (pos (2 ^ 30 + 1)) (pos 0)

abbrev origin : Point
origin = at (pos 0) (pos 0)

-- figures that are done, and the points of the open one
abbrev figures : List Figure → List Point → Figures
figures done current = record { done = done; current = current }

abbrev apart : List Point → Figure
apart points = record { points = points; is_closed = false }

abbrev closed : List Point → Figure
closed points = record { points = points; is_closed = true }

-- the path behind operations
abbrev path_after : List Operation → Path
path_after operations = (played operations start).path

-- the mark of an operation behind others
abbrev mark_after : List Operation → Operation → Option MarkValue
mark_after before operation = option_map (λ drawing. drawing.mark) (drawing_of operation (played before start))

-- BEGINPATH opens a path without figures, also in place of one that is finished
begun : path_after (begin_path ∷ []) ≡ open_path no_figures 0
begun = refl

begun_again : path_after (begin_path ∷ line_to p ∷ end_path ∷ begin_path ∷ []) ≡ open_path no_figures 0
begun_again = refl

-- the first line begins a figure at the position, which is a piece more
first_line : path_after (begin_path ∷ line_to p ∷ []) ≡ open_path (figures [] (origin ∷ p ∷ [])) 2
first_line = refl

-- the next goes on with it, wherever the position is
next_line : path_after (begin_path ∷ move_to p ∷ line_to q ∷ line_to r ∷ []) ≡ open_path (figures [] (p ∷ q ∷ r ∷ [])) 3
next_line = refl

-- POLYLINETO does so with all its points, and is one piece
next_lines : path_after (begin_path ∷ line_to p ∷ polyline_to (q ∷ r ∷ []) ∷ []) ≡ open_path (figures [] (origin ∷ p ∷ q ∷ r ∷ [])) 3
next_lines = refl

-- without a point it does nothing
no_lines : path_after (begin_path ∷ polyline_to [] ∷ []) ≡ open_path no_figures 0
no_lines = refl

-- a move ends the figure, and the next line begins another where it moved to
moved : path_after (begin_path ∷ line_to p ∷ move_to q ∷ line_to r ∷ []) ≡ open_path (figures (apart (origin ∷ p ∷ []) ∷ []) (q ∷ r ∷ [])) 4
moved = refl

-- CLOSEFIGURE closes the open figure: the next line begins one at the position, which is where the last line ended
closed_figure : path_after (begin_path ∷ line_to p ∷ close_figure ∷ line_to q ∷ []) ≡ open_path (figures (closed (origin ∷ p ∷ []) ∷ []) (p ∷ q ∷ [])) 4
closed_figure = refl

-- and does nothing where none is open
closed_twice : path_after (begin_path ∷ line_to p ∷ close_figure ∷ close_figure ∷ []) ≡ open_path (figures (closed (origin ∷ p ∷ []) ∷ []) []) 2
closed_twice = refl

closed_after_move : path_after (begin_path ∷ line_to p ∷ move_to q ∷ close_figure ∷ []) ≡ open_path (figures (apart (origin ∷ p ∷ []) ∷ []) []) 2
closed_after_move = refl

-- a polyline is a figure of its own, with which lines go on: the position isn't looked at
after_polyline : path_after (begin_path ∷ polyline ((p ∷ q ∷ []) ∷ []) ∷ line_to r ∷ []) ≡ open_path (figures [] (p ∷ q ∷ r ∷ [])) 2
after_polyline = refl

-- of several lists the last with a point is open, and empty ones add nothing
last_polyline : path_after (begin_path ∷ polyline ((p ∷ []) ∷ [] ∷ (q ∷ []) ∷ [] ∷ []) ∷ line_to r ∷ []) ≡ open_path (figures (apart (p ∷ []) ∷ []) (q ∷ r ∷ [])) 2
last_polyline = refl

-- without a point in any of them nothing changes, and no figure ends
no_points : path_after (begin_path ∷ line_to p ∷ polyline ([] ∷ []) ∷ polygon ([] ∷ [] ∷ []) ∷ line_to q ∷ []) ≡ open_path (figures [] (origin ∷ p ∷ q ∷ [])) 3
no_points = refl

-- polygons end the open figure, and are closed
after_polygon : path_after (begin_path ∷ line_to p ∷ polygon ((q ∷ r ∷ []) ∷ (r ∷ []) ∷ []) ∷ line_to q ∷ []) ≡ open_path (figures (apart (origin ∷ p ∷ []) ∷ closed (q ∷ r ∷ []) ∷ closed (r ∷ []) ∷ []) (p ∷ q ∷ [])) 5
after_polygon = refl

-- so is a rectangle, by its corners put in order, whose right and bottom aren't raised
with_rectangle : path_after (begin_path ∷ rectangle (box (pos 3) (pos 4) (pos 1) (pos 2)) Inclusive ∷ []) ≡ open_path (figures (closed (at (pos 1) (pos 2) ∷ at (pos 3) (pos 2) ∷ at (pos 3) (pos 4) ∷ at (pos 1) (pos 4) ∷ []) ∷ []) []) 1
with_rectangle = refl

-- points are on the plane by the page map of the moment when they are added
scaled : path_after (begin_path ∷ set_map_mode Anisotropic ∷ line_to p ∷ set_window_extent (at (pos 1) (negsuc 0)) ∷ line_to p ∷ []) ≡ open_path (figures [] (origin ∷ p ∷ at (pos 1) (negsuc 1) ∷ [])) 3
scaled = refl

-- what is open stays open where the path ends
ended : path_after (begin_path ∷ line_to p ∷ end_path ∷ []) ≡ finished_path (apart (origin ∷ p ∷ []) ∷ [])
ended = refl

-- ABORTPATH drops an open path and a finished one, and there may be none
aborted : path_after (begin_path ∷ line_to p ∷ abort_path ∷ abort_path ∷ []) ≡ no_path
aborted = refl

aborted_after_end : path_after (begin_path ∷ end_path ∷ abort_path ∷ []) ≡ no_path
aborted_after_end = refl

-- what is saved and restored has no path
restored : path_after (save ∷ begin_path ∷ line_to p ∷ restore (negsuc 0) ∷ []) ≡ open_path (figures [] (origin ∷ p ∷ [])) 2
restored = refl

-- and the position that comes back isn't that of the figure, which goes on
restored_within : path_after (begin_path ∷ save ∷ line_to p ∷ restore (negsuc 0) ∷ line_to q ∷ []) ≡ open_path (figures [] (origin ∷ p ∷ q ∷ [])) 3
restored_within = refl

-- lines, polylines, polygons and rectangles don't draw while a path is open, and pixels do
line_draws_nothing : mark_after (begin_path ∷ []) (line_to p) ≡ None
line_draws_nothing = refl

rectangle_draws_nothing : mark_after (begin_path ∷ []) (rectangle (box (pos 0) (pos 0) (pos 1) (pos 1)) Inclusive) ≡ None
rectangle_draws_nothing = refl

pixel_draws : mark_after (begin_path ∷ []) (pixel p black_colour) ≡ Some (dot p black_colour)
pixel_draws = refl

-- an open figure, and one that is closed, painted in each way: filling closes both
abbrev waiting : List Operation
waiting = begin_path ∷ polygon ((p ∷ q ∷ r ∷ []) ∷ []) ∷ polyline ((q ∷ r ∷ []) ∷ []) ∷ end_path ∷ []

filled : mark_after waiting fill_path ≡ Some (figures_painted Fill (closed (p ∷ q ∷ r ∷ []) ∷ apart (q ∷ r ∷ []) ∷ []))
filled = refl

stroked_path : mark_after waiting stroke_path ≡ Some (figures_painted Stroke (closed (p ∷ q ∷ r ∷ []) ∷ apart (q ∷ r ∷ []) ∷ []))
stroked_path = refl

stroked_and_filled : mark_after waiting stroke_and_fill_path ≡ Some (figures_painted StrokeAndFill (closed (p ∷ q ∷ r ∷ []) ∷ apart (q ∷ r ∷ []) ∷ []))
stroked_and_filled = refl

-- a painting drops the path
dropped : path_after (begin_path ∷ end_path ∷ fill_path ∷ []) ≡ no_path
dropped = refl

-- an open path isn't opened again
open_twice : fault_after (begin_path ∷ []) begin_path ≡ Some PathState
open_twice = refl

-- only an open one is ended, and its figures closed
end_of_none : fault_after [] end_path ≡ Some PathState
end_of_none = refl

end_of_finished : fault_after (begin_path ∷ end_path ∷ []) end_path ≡ Some PathState
end_of_finished = refl

close_of_none : fault_after [] close_figure ≡ Some PathState
close_of_none = refl

close_of_finished : fault_after (begin_path ∷ end_path ∷ []) close_figure ≡ Some PathState
close_of_finished = refl

-- and only a finished one is painted, once
fill_of_none : fault_after [] fill_path ≡ Some PathState
fill_of_none = refl

fill_of_open : fault_after (begin_path ∷ []) fill_path ≡ Some PathState
fill_of_open = refl

fill_of_painted : fault_after (begin_path ∷ end_path ∷ stroke_path ∷ []) fill_path ≡ Some PathState
fill_of_painted = refl

-- a path without figures too
fill_of_empty : fault_after (begin_path ∷ close_figure ∷ end_path ∷ []) fill_path ≡ None
unfolding edge_limit
fill_of_empty = refl

-- a point is off the plane where it is added
line_off : fault_after (begin_path ∷ []) (line_to far) ≡ Some OffPlane
unfolding edge_limit piece_limit place_limit plane_limit
line_off = refl

-- so is a position where a figure begins
line_from_far : fault_after (begin_path ∷ move_to far ∷ []) (line_to p) ≡ Some OffPlane
unfolding edge_limit piece_limit place_limit plane_limit
line_from_far = refl

-- and where a figure goes on, the position isn't looked at
line_past_far : fault_after (begin_path ∷ move_to far ∷ polyline ((p ∷ []) ∷ []) ∷ []) (line_to q) ≡ None
unfolding edge_limit piece_limit place_limit plane_limit
line_past_far = refl

-- so many pieces, with a figure open or not
abbrev at_pieces : List Point → ℕ → State
at_pieces current count = with_path (open_path (figures [] current) count) start

-- 65,536 pieces are accepted, and no more
last_piece : fault_of (line_to q) (at_pieces (p ∷ []) 65535) four ≡ None
unfolding edge_limit piece_limit place_limit plane_limit
last_piece = refl

piece_past_last : fault_of (line_to q) (at_pieces (p ∷ []) 65536) four ≡ Some TooManyPieces
unfolding edge_limit piece_limit
piece_past_last = refl

-- a figure that begins wants two
two_past_last : fault_of (line_to q) (at_pieces [] 65535) four ≡ Some TooManyPieces
unfolding edge_limit piece_limit
two_past_last = refl

-- before being off the plane is looked at
far_past_last : fault_of (polyline ((far ∷ []) ∷ [])) (at_pieces [] 65536) four ≡ Some TooManyPieces
unfolding edge_limit piece_limit
far_past_last = refl

-- what adds nothing has no fault there
nothing_past_last : fault_of (polyline ([] ∷ [])) (at_pieces [] 65536) four ≡ None
unfolding edge_limit piece_limit
nothing_past_last = refl

-- needs are the pieces of the open path, and the points of a painting
line_needs : needs_of (line_to p) (at_pieces [] 5) ≡ record { depth = 0; slots = 0; edges = 0; pieces = 7 }
line_needs = refl

fill_needs : needs_of fill_path (played waiting start) ≡ record { depth = 0; slots = 0; edges = 5; pieces = 0 }
fill_needs = refl
