-- What operations draw, on worked values: the marks, the tools, the points they need room for, the state behind them, and their faults.
use Rattle.std.proofs.Common.{◌≡◌, ◌+◌, ◌^◌, pos, negsuc, List, [], ◌∷◌, Option, Some, None, refl}
use Rattle.std.specs.Option.{option_map}
use Rattle.draw_ops.specs.Objects.{null_brush, pen_object, brush_object}
use Rattle.draw_ops.specs.Operation.{Operation, create, intersect_clip, line_to, move_to, pixel, polygon, polyline, polyline_to, rectangle, select, set_map_mode, set_viewport_extent, set_window_extent, set_window_origin}
use Rattle.draw_ops.specs.declared.record_fault.RecordFault.TheVariants.{OffPlane}
use Rattle.draw_ops.specs.declared.objects.Pen.TheVariants.{Null}
use Rattle.draw_ops.specs.declared.operation.RectangleEdges.TheVariants.{HalfOpen, Inclusive}
use Rattle.mapping.specs.Colours.{white_colour}
use Rattle.mapping.specs.Limits.{place_limit, plane_limit}
use Rattle.mapping.specs.declared.geometry.Point.{Point}
use Rattle.mapping.specs.declared.map_mode.MapMode.TheVariants.{Anisotropic}
use Rattle.dc_stack.specs.Drawing.{MarkValue, Tools, dot, drawing_of, edge_limit, lists_painted, rectangle_between, tools_of}
use Rattle.dc_stack.specs.declared.draw.Painting.TheVariants.{Stroke, StrokeAndFill}
use Rattle.dc_stack.specs.Needs.{needs_of, no_needs, points_needed}
use Rattle.dc_stack.specs.Next.{next}
use Rattle.dc_stack.specs.OperationFault.{fault_of}
use Rattle.dc_stack.specs.Path.{piece_limit}
use Rattle.dc_stack.specs.State.{with_position}
use Rattle.dc_stack.proofs.WorkedStart.{at, box, fault_after, half, played, start}

-- the mark of an operation behind others
abbrev mark_after : List Operation → Operation → Option MarkValue
mark_after before operation = option_map (λ drawing. drawing.mark) (drawing_of operation (played before start))

-- and the tools that it is drawn with
abbrev tools_after : List Operation → Operation → Option Tools
tools_after before operation = option_map (λ drawing. drawing.tools) (drawing_of operation (played before start))

-- three points
abbrev p : Point
p = at (pos 1) (pos 2)

abbrev q : Point
q = at (pos 3) (pos 0)

abbrev r : Point
r = at (negsuc 0) (pos 5)

-- a point past the plane's right side
abbrev far : Point
far = at (pos (2 ^ 30 + 1)) (pos 0)

-- the window's origin is moved, and the viewport has twice the window's width and its height turned
abbrev scaled : List Operation
scaled =
    set_map_mode Anisotropic ∷ set_window_origin (at (pos 1) (pos 1)) ∷ set_window_extent (at (pos 2) (pos 2)) ∷ set_viewport_extent (at (pos 4) (negsuc 1)) ∷ []

-- LINETO draws a line from the position to its point
line_mark : mark_after (move_to p ∷ []) (line_to q) ≡ Some (lists_painted Stroke ((p ∷ q ∷ []) ∷ []))
line_mark = refl

-- at first that is from the origin
first_line_mark : mark_after [] (line_to q) ≡ Some (lists_painted Stroke ((at (pos 0) (pos 0) ∷ q ∷ []) ∷ []))
first_line_mark = refl

-- the next goes on from there
next_line_mark : mark_after (move_to p ∷ line_to q ∷ []) (line_to r) ≡ Some (lists_painted Stroke ((q ∷ r ∷ []) ∷ []))
next_line_mark = refl

-- both ends are where the map puts them at the line, and not where it did at MOVETO
scaled_line_mark : mark_after (move_to p ∷ scaled) (line_to q) ≡ Some (lists_painted Stroke ((at (pos 0) (negsuc 0) ∷ at (pos 4) (pos 1) ∷ []) ∷ []))
scaled_line_mark = refl

-- it needs room for two points
line_needs : needs_of (line_to q) start ≡ points_needed 2
line_needs = refl

-- and moves the position to its point, in page units
line_moves : next (line_to p) start ≡ with_position p start
line_moves = refl

scaled_line_moves : next (line_to p) (played scaled start) ≡ with_position p (played scaled start)
scaled_line_moves = refl

-- a position off the plane has no fault
far_position : fault_after [] (move_to far) ≡ None
far_position = refl

-- and a line from it has one
line_from_far : fault_after (move_to far ∷ []) (line_to p) ≡ Some OffPlane
unfolding place_limit plane_limit piece_limit edge_limit
line_from_far = refl

-- as a line to such a point has
line_to_far : fault_after (move_to p ∷ []) (line_to far) ≡ Some OffPlane
unfolding place_limit plane_limit piece_limit edge_limit
line_to_far = refl

-- the line before has none
line_on_plane : fault_after (move_to p ∷ []) (line_to q) ≡ None
unfolding place_limit plane_limit piece_limit edge_limit
line_on_plane = refl

-- POLYLINE draws each list
polyline_mark : mark_after (move_to r ∷ []) (polyline ((p ∷ q ∷ []) ∷ (q ∷ r ∷ p ∷ []) ∷ [])) ≡ Some (lists_painted Stroke ((p ∷ q ∷ []) ∷ (q ∷ r ∷ p ∷ []) ∷ []))
polyline_mark = refl

-- where the map puts its points
scaled_polyline_mark : mark_after scaled (polyline ((p ∷ q ∷ []) ∷ (r ∷ []) ∷ [])) ≡ Some (lists_painted Stroke ((at (pos 0) (negsuc 0) ∷ at (pos 4) (pos 1) ∷ []) ∷ (at (negsuc 3) (negsuc 3) ∷ []) ∷ []))
scaled_polyline_mark = refl

-- it needs room for the points of all lists
polyline_needs : needs_of (polyline ((p ∷ q ∷ []) ∷ (q ∷ r ∷ p ∷ []) ∷ [])) start ≡ points_needed 5
polyline_needs = refl

-- and leaves the position
polyline_stays : next (polyline ((p ∷ q ∷ []) ∷ [])) (played (move_to r ∷ []) start) ≡ played (move_to r ∷ []) start
polyline_stays = refl

-- which may be off the plane
polyline_after_far : fault_after (move_to far ∷ []) (polyline ((p ∷ q ∷ []) ∷ [])) ≡ None
unfolding place_limit plane_limit edge_limit piece_limit
polyline_after_far = refl

-- the last point of the last list may not
polyline_to_far : fault_after [] (polyline ((p ∷ q ∷ []) ∷ (q ∷ far ∷ []) ∷ [])) ≡ Some OffPlane
unfolding place_limit plane_limit edge_limit piece_limit
polyline_to_far = refl

-- no list is drawn as none, without a fault
no_polyline_mark : mark_after [] (polyline []) ≡ Some (lists_painted Stroke [])
no_polyline_mark = refl

no_polyline_needs : needs_of (polyline []) start ≡ no_needs
no_polyline_needs = refl

-- POLYLINETO draws lines from the position through its points
through_mark : mark_after (move_to p ∷ []) (polyline_to (q ∷ r ∷ [])) ≡ Some (lists_painted Stroke ((p ∷ q ∷ r ∷ []) ∷ []))
through_mark = refl

-- through one point it draws LINETO's line
through_one : drawing_of (polyline_to (q ∷ [])) (played (move_to p ∷ []) start) ≡ drawing_of (line_to q) (played (move_to p ∷ []) start)
through_one = refl

-- it needs room for its points and the position
through_needs : needs_of (polyline_to (q ∷ r ∷ [])) start ≡ points_needed 3
through_needs = refl

-- and moves the position to the last
through_moves : next (polyline_to (p ∷ q ∷ [])) start ≡ with_position q start
through_moves = refl

-- from off the plane it has a fault, as to there
through_from_far : fault_after (move_to far ∷ []) (polyline_to (q ∷ r ∷ [])) ≡ Some OffPlane
unfolding place_limit plane_limit edge_limit piece_limit
through_from_far = refl

through_to_far : fault_after [] (polyline_to (q ∷ far ∷ [])) ≡ Some OffPlane
unfolding place_limit plane_limit edge_limit piece_limit
through_to_far = refl

-- without points it draws no line
no_through_mark : mark_after (move_to p ∷ []) (polyline_to []) ≡ Some (lists_painted Stroke [])
no_through_mark = refl

-- needs nothing
no_through_needs : needs_of (polyline_to []) start ≡ no_needs
no_through_needs = refl

-- leaves the position
no_through_moves : next (polyline_to []) (played (move_to p ∷ []) start) ≡ played (move_to p ∷ []) start
no_through_moves = refl

-- and has no fault even from off the plane
no_through_from_far : fault_after (move_to far ∷ []) (polyline_to []) ≡ None
unfolding edge_limit piece_limit
no_through_from_far = refl

-- POLYGON draws each list as a polygon
polygon_mark : mark_after [] (polygon ((p ∷ q ∷ r ∷ []) ∷ (q ∷ r ∷ p ∷ []) ∷ [])) ≡ Some (lists_painted StrokeAndFill ((p ∷ q ∷ r ∷ []) ∷ (q ∷ r ∷ p ∷ []) ∷ []))
polygon_mark = refl

-- its last point needn't be its first, and needs no room if it isn't there
polygon_needs : needs_of (polygon ((p ∷ q ∷ r ∷ []) ∷ (q ∷ r ∷ p ∷ []) ∷ [])) start ≡ points_needed 6
polygon_needs = refl

-- it leaves the position
polygon_stays : next (polygon ((p ∷ q ∷ r ∷ []) ∷ [])) start ≡ start
polygon_stays = refl

-- a point that lands past the limit of placed coordinates is off the plane
polygon_past_the_limit : fault_after [] (polygon ((p ∷ q ∷ at (pos 0) (pos (2 ^ 28 + 1)) ∷ []) ∷ [])) ≡ Some OffPlane
unfolding place_limit plane_limit edge_limit piece_limit
polygon_past_the_limit = refl

-- and isn't on half the frame's size
polygon_on_half : fault_of (polygon ((p ∷ q ∷ at (pos 0) (pos (2 ^ 28 + 1)) ∷ []) ∷ [])) start half ≡ None
unfolding place_limit plane_limit edge_limit piece_limit
polygon_on_half = refl

-- RECTANGLE draws the rectangle between its left top and its right bottom
rectangle_mark : mark_after [] (rectangle (box (pos 1) (pos 2) (pos 3) (pos 4)) HalfOpen) ≡ Some (rectangle_between (at (pos 1) (pos 2)) (at (pos 3) (pos 4)) HalfOpen)
rectangle_mark = refl

-- also where the right bottom comes first
flipped_rectangle_mark : mark_after [] (rectangle (box (pos 3) (pos 4) (pos 1) (pos 2)) Inclusive) ≡ Some (rectangle_between (at (pos 3) (pos 4)) (at (pos 1) (pos 2)) Inclusive)
flipped_rectangle_mark = refl

-- where the map puts them
scaled_rectangle_mark : mark_after scaled (rectangle (box (pos 1) (pos 2) (pos 3) (pos 0)) HalfOpen) ≡ Some (rectangle_between (at (pos 0) (negsuc 0)) (at (pos 4) (pos 1)) HalfOpen)
scaled_rectangle_mark = refl

-- it needs room for four corners
rectangle_needs : needs_of (rectangle (box (pos 1) (pos 2) (pos 3) (pos 4)) HalfOpen) start ≡ points_needed 4
rectangle_needs = refl

-- and leaves the position
rectangle_stays : next (rectangle (box (pos 1) (pos 2) (pos 3) (pos 4)) HalfOpen) start ≡ start
rectangle_stays = refl

-- its right bottom may not be off the plane
rectangle_to_far : fault_after [] (rectangle (box (pos 1) (pos 2) (pos 3) (pos (2 ^ 30 + 1))) HalfOpen) ≡ Some OffPlane
unfolding place_limit plane_limit piece_limit edge_limit
rectangle_to_far = refl

-- a pixel is marked where the map puts it
pixel_mark : mark_after scaled (pixel q white_colour) ≡ Some (dot (at (pos 4) (pos 1)) white_colour)
pixel_mark = refl

-- a drawing has the tools of its moment
start_tools : tools_after [] (line_to q) ≡ Some (tools_of start.dc)
start_tools = refl

-- a pen and a brush that were selected, and the clip
abbrev with_tools : List Operation
with_tools =
    create None (pen_object Null) ∷ create None (brush_object null_brush) ∷ select 0 ∷ select 1 ∷ intersect_clip (box (pos 0) (pos 0) (pos 2) (pos 2)) ∷ []

selected_tools : tools_after with_tools (polygon ((p ∷ q ∷ r ∷ []) ∷ [])) ≡ Some (record { pen = Null; brush = null_brush; modes = start.dc.modes; clip = record { kept = Some (box (pos 0) (pos 0) (pos 2) (pos 2)); cuts = [] }; map = start.dc.map })
selected_tools = refl

-- MOVETO draws nothing, and needs nothing
move_mark : mark_after [] (move_to p) ≡ None
move_mark = refl

move_needs : needs_of (move_to p) start ≡ no_needs
move_needs = refl
