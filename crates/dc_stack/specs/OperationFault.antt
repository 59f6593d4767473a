-- The fault of an operation, in two parts: what is wrong in the state, and where its points land on a surface.
use Rattle.std.specs.Prelude.{ℕ, Bool, if◌then◌else◌, List, [], ◌∷◌, ◌++◌, length, nat_le, nat_lt, Option, Some, None}
use Rattle.std.specs.List.{list_all}
use Rattle.std.specs.Option.{option_or}
use Rattle.mapping.specs.declared.geometry.Point.{Point}
use Rattle.mapping.specs.declared.geometry.Rect.{Rect}
use Rattle.mapping.specs.Nibs.{is_nib}
use Rattle.mapping.specs.declared.nib.Nib.{Nib}
use Rattle.mapping.specs.MapSettings.{is_page_point, offset_by, sets_zero_extent, viewport_origin_of, window_origin_of}
use Rattle.mapping.specs.Surface.{Surface, lands_within_limits}
use Rattle.draw_ops.specs.Blits.{SourceValue}
use Rattle.draw_ops.specs.declared.record_fault.RecordFault.{RecordFault}
use Rattle.draw_ops.specs.declared.record_fault.RecordFault.TheVariants.{NibTooWide, OffPlane, SourceMissing, SourceOutside, TooManyCuts, TooManyEdges, ZeroExtent}
use Rattle.draw_ops.specs.Operation.{Operation, no_effect, save, restore, set_background_mode, set_map_mode, set_raster_op, set_fill_mode, set_background_colour, set_window_origin, set_window_extent, set_viewport_origin, set_viewport_extent, offset_window_origin, offset_viewport_origin, exclude_clip, intersect_clip, remove_clip, move_to, line_to, pixel, rectangle, polyline, polygon, polyline_to, blit, create, select, select_palette, delete, begin_path, end_path, close_figure, abort_path, fill_path, stroke_path, stroke_and_fill_path}
use Rattle.object_tables.specs.Table.{create_fault}
use Rattle.raster_ops.specs.Sources.{is_source_inside}
use Rattle.raster_ops.specs.TernaryOps.{uses_source}
use Rattle.dc_stack.specs.Clip.{ClipValue, cut_limit}
use Rattle.dc_stack.specs.Drawing.{Drawing, drawing_edges, drawing_nib, drawing_of, drawing_points, edge_limit, points_of_lists}
use Rattle.dc_stack.specs.Figures.{points_gone_on}
use Rattle.dc_stack.specs.Mapped.{mapped_corners, mapped_list, mapped_lists, mapped_point}
use Rattle.dc_stack.specs.Next.{next}
use Rattle.dc_stack.specs.Path.{begin_fault, finished_fault, open_fault, piece_count, pieces_fault, points_if_open}
use Rattle.dc_stack.specs.SavedStates.{restore_fault, save_fault, saved_place}
use Rattle.dc_stack.specs.Selecting.{delete_fault, named_object, object_fault, palette_fault}
use Rattle.dc_stack.specs.State.{State}

-- an extent of 0 would be set
abbrev pub zero_fault : Point → State → Option RecordFault
zero_fault extent state = if sets_zero_extent extent state.dc.map then Some ZeroExtent else None

-- an origin would no longer fit 32 bits
abbrev pub origin_fault : Point → Option RecordFault
origin_fault origin = if is_page_point origin then None else Some OffPlane

-- there would be more boxes cut out than allowed
abbrev pub cut_fault : ClipValue → Option RecordFault
cut_fault clip = if nat_lt (length clip.cuts) cut_limit then None else Some TooManyCuts

-- a drawing has more points than allowed
abbrev pub edges_fault : Option Drawing → Option RecordFault
edges_fault drawing = if nat_le (drawing_edges drawing) edge_limit then None else Some TooManyEdges

-- an open path would have more pieces than allowed, or else the drawing has more points than allowed
abbrev added_or_drawn_fault : Operation → State → Option RecordFault
added_or_drawn_fault operation state = option_or (pieces_fault (piece_count (next operation state).path)) (edges_fault (drawing_of operation state))

-- no path is finished, or else the painting has more points than allowed
abbrev painting_fault : Operation → State → Option RecordFault
painting_fault operation state = option_or (finished_fault state.path) (edges_fault (drawing_of operation state))

-- there is no bitmap, or its rectangle is empty or doesn't lie inside
abbrev pub reading_fault : Option SourceValue → Option RecordFault
reading_fault None = Some SourceMissing
reading_fault (Some source) = if is_source_inside source then None else Some SourceOutside

-- the fault of the source, if a ternary raster operation depends on it
abbrev pub source_fault : ℕ → Option SourceValue → Option RecordFault
source_fault table source = if uses_source table then reading_fault source else None

-- the fault that doesn't depend on the surface
abbrev pub plain_fault : Operation → State → Option RecordFault
plain_fault no_effect state = None
plain_fault save state = save_fault state
plain_fault (restore which) state = restore_fault (saved_place which (length state.saved))
plain_fault (set_background_mode mode) state = None
plain_fault (set_map_mode mode) state = None
plain_fault (set_raster_op op) state = None
plain_fault (set_fill_mode mode) state = None
plain_fault (set_background_colour colour) state = None
plain_fault (set_window_origin origin) state = None
plain_fault (set_window_extent extent) state = zero_fault extent state
plain_fault (set_viewport_origin origin) state = None
plain_fault (set_viewport_extent extent) state = zero_fault extent state
plain_fault (offset_window_origin offset) state = origin_fault (offset_by offset (window_origin_of state.dc.map))
plain_fault (offset_viewport_origin offset) state = origin_fault (offset_by offset (viewport_origin_of state.dc.map))
plain_fault (exclude_clip corners) state = cut_fault state.dc.clip
plain_fault (intersect_clip corners) state = None
plain_fault remove_clip state = None
plain_fault (move_to point) state = None
plain_fault (line_to point) state = added_or_drawn_fault (line_to point) state
plain_fault (pixel point colour) state = None
plain_fault (rectangle corners edges) state = added_or_drawn_fault (rectangle corners edges) state
plain_fault (polyline lists) state = added_or_drawn_fault (polyline lists) state
plain_fault (polygon lists) state = added_or_drawn_fault (polygon lists) state
plain_fault (polyline_to points) state = added_or_drawn_fault (polyline_to points) state
plain_fault (blit asked) state = source_fault asked.table asked.source
plain_fault (create at object) state = create_fault state.table_kind at state.slots
plain_fault (select index) state = object_fault (named_object index state.slots)
plain_fault (select_palette index) state = palette_fault (named_object index state.slots)
plain_fault (delete index) state = delete_fault index state
plain_fault begin_path state = begin_fault state.path
plain_fault end_path state = open_fault state.path
plain_fault close_figure state = open_fault state.path
plain_fault abort_path state = None
plain_fault fill_path state = painting_fault fill_path state
plain_fault stroke_path state = painting_fault stroke_path state
plain_fault stroke_and_fill_path state = painting_fault stroke_and_fill_path state

-- the points of a drawing, if there is one
abbrev pub points_drawn : Option Drawing → List Point
points_drawn None = []
points_drawn (Some drawing) = drawing_points drawing

-- the points that lines from the current position through points of the page add to an open path
abbrev line_points_added : List Point → State → List Point
line_points_added points state =
    points_if_open state.path (λ figures. points_gone_on (mapped_point state.dc.map state.dc.position) figures.current (mapped_list state.dc.map points))

-- the points that lists add to an open path
abbrev list_points_added : List (List Point) → State → List Point
list_points_added lists state = points_if_open state.path (λ figures. points_of_lists (mapped_lists state.dc.map lists))

-- the corners of a rectangle that is added to an open path
abbrev corners_added : Rect → State → List Point
corners_added corners state = points_if_open state.path (λ figures. mapped_corners state.dc.map corners)

-- the points of the plane that an operation places and doesn't draw: corners of the clip, and additions to a path
abbrev points_kept : Operation → State → List Point
points_kept no_effect state = []
points_kept save state = []
points_kept (restore which) state = []
points_kept (set_background_mode mode) state = []
points_kept (set_map_mode mode) state = []
points_kept (set_raster_op op) state = []
points_kept (set_fill_mode mode) state = []
points_kept (set_background_colour colour) state = []
points_kept (set_window_origin origin) state = []
points_kept (set_window_extent extent) state = []
points_kept (set_viewport_origin origin) state = []
points_kept (set_viewport_extent extent) state = []
points_kept (offset_window_origin offset) state = []
points_kept (offset_viewport_origin offset) state = []
points_kept (exclude_clip corners) state = mapped_corners state.dc.map corners
points_kept (intersect_clip corners) state = mapped_corners state.dc.map corners
points_kept remove_clip state = []
points_kept (move_to point) state = []
points_kept (line_to point) state = line_points_added (point ∷ []) state
points_kept (pixel point colour) state = []
points_kept (rectangle corners edges) state = corners_added corners state
points_kept (polyline lists) state = list_points_added lists state
points_kept (polygon lists) state = list_points_added lists state
points_kept (polyline_to points) state = line_points_added points state
points_kept (blit asked) state = []
points_kept (create at object) state = []
points_kept (select index) state = []
points_kept (select_palette index) state = []
points_kept (delete index) state = []
points_kept begin_path state = []
points_kept end_path state = []
points_kept close_figure state = []
points_kept abort_path state = []
points_kept fill_path state = []
points_kept stroke_path state = []
points_kept stroke_and_fill_path state = []

-- the points of the plane that an operation places on the surface
abbrev pub plane_points : Operation → State → List Point
plane_points operation state = points_kept operation state ++ points_drawn (drawing_of operation state)

-- all of these points lie on the plane and land within the limits
abbrev pub all_land_within : List Point → Surface → Bool
all_land_within points s = list_all (λ point. lands_within_limits point s) points

-- off the plane, if one of the points doesn't lie on the plane or doesn't land within the limits
abbrev pub off_plane_fault : List Point → Surface → Option RecordFault
off_plane_fault points s = if all_land_within points s then None else Some OffPlane

-- the fault of adding points to a path that then has this many pieces: more pieces than allowed, or else points off the
-- plane
abbrev pub addition_fault : ℕ → List Point → Surface → Option RecordFault
addition_fault count points s = option_or (pieces_fault count) (off_plane_fault points s)

-- a nib has more columns or rows than allowed
abbrev pub wide_fault : Nib → Option RecordFault
wide_fault nib = if is_nib nib then None else Some NibTooWide

-- the nib of a drawing, if there is one, has more columns or rows than allowed
abbrev pub nib_fault : Option Drawing → Surface → Option RecordFault
nib_fault None s = None
nib_fault (Some drawing) s = wide_fault (drawing_nib drawing s)

-- the fault of a drawing and of its points: more points than allowed, or else points off the plane, or else a nib that
-- is too wide
abbrev pub drawn_fault : Option Drawing → List Point → Surface → Option RecordFault
drawn_fault drawing points s = option_or (edges_fault drawing) (option_or (off_plane_fault points s) (nib_fault drawing s))

-- more points than one drawing may have, or else points off the plane
abbrev pub points_fault : List Point → Surface → Option RecordFault
points_fault points s = option_or (if nat_le (length points) edge_limit then None else Some TooManyEdges) (off_plane_fault points s)

-- the fault that depends on the surface, and comes last: points off the plane, or else a nib that is too wide
abbrev pub place_fault : Operation → State → Surface → Option RecordFault
place_fault operation state s = option_or (off_plane_fault (plane_points operation state) s) (nib_fault (drawing_of operation state) s)

-- the first fault of an operation
abbrev pub fault_of : Operation → State → Surface → Option RecordFault
fault_of operation state s = option_or (plain_fault operation state) (place_fault operation state s)
