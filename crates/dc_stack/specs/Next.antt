-- How an operation changes the playing state.
use Rattle.std.specs.Prelude.{List, [], ◌∷◌, length}
use Rattle.mapping.specs.declared.geometry.Point.{Point}
use Rattle.mapping.specs.MapSettings.{with_mode, with_offset_viewport_origin, with_offset_window_origin, with_viewport_extent, with_viewport_origin, with_window_extent, with_window_origin}
use Rattle.draw_ops.specs.Operation.{Operation, no_effect, save, restore, set_background_mode, set_map_mode, set_raster_op, set_fill_mode, set_background_colour, set_window_origin, set_window_extent, set_viewport_origin, set_viewport_extent, offset_window_origin, offset_viewport_origin, exclude_clip, intersect_clip, remove_clip, move_to, line_to, pixel, rectangle, polyline, polygon, polyline_to, blit, create, select, select_palette, delete, begin_path, end_path, close_figure, abort_path, fill_path, stroke_path, stroke_and_fill_path}
use Rattle.object_tables.specs.Slots.{with_object}
use Rattle.object_tables.specs.Table.{created_index}
use Rattle.dc_stack.specs.Clip.{unclipped, with_cut, with_kept}
use Rattle.dc_stack.specs.Deleting.{after_deleting}
use Rattle.dc_stack.specs.Modes.{with_background_colour, with_background_mode, with_fill_mode, with_raster_op}
use Rattle.dc_stack.specs.Figures.{box_corners, no_figures}
use Rattle.dc_stack.specs.Mapped.{mapped_box, mapped_list, mapped_lists, mapped_point}
use Rattle.dc_stack.specs.Path.{after_closing, after_ending, after_lines, after_moving, after_polygons, after_polylines, no_path, open_path}
use Rattle.dc_stack.specs.SavedStates.{after_restoring, after_saving, saved_place}
use Rattle.dc_stack.specs.Selecting.{after_selecting, named_object}
use Rattle.dc_stack.specs.State.{State, with_clip, with_map, with_modes, with_path, with_position, with_selected, with_slots}

-- the end of lines from a point through others
abbrev pub end_of : Point → List Point → Point
end_of start [] = start
end_of start (point ∷ points) = end_of point points

-- lines from the current position through points of the page: the last point is the new position, and an open path
-- continues
abbrev after_drawing_lines : List Point → State → State
after_drawing_lines points state =
    with_position (end_of state.dc.position points)
    (with_path (after_lines (mapped_point state.dc.map state.dc.position) (mapped_list state.dc.map points) state.path) state)

-- The state after an operation that has no fault. Lines, polylines, polygons and rectangles are added to the path if
-- one is open.
abbrev pub next : Operation → State → State
next no_effect state = state
next save state = after_saving state
next (restore which) state = after_restoring (saved_place which (length state.saved)) state
next (set_background_mode mode) state = with_modes (with_background_mode mode state.dc.modes) state
next (set_map_mode mode) state = with_map (with_mode mode state.dc.map) state
next (set_raster_op op) state = with_modes (with_raster_op op state.dc.modes) state
next (set_fill_mode mode) state = with_modes (with_fill_mode mode state.dc.modes) state
next (set_background_colour colour) state = with_modes (with_background_colour colour state.dc.modes) state
next (set_window_origin origin) state = with_map (with_window_origin origin state.dc.map) state
next (set_window_extent extent) state = with_map (with_window_extent extent state.dc.map) state
next (set_viewport_origin origin) state = with_map (with_viewport_origin origin state.dc.map) state
next (set_viewport_extent extent) state = with_map (with_viewport_extent extent state.dc.map) state
next (offset_window_origin offset) state = with_map (with_offset_window_origin offset state.dc.map) state
next (offset_viewport_origin offset) state = with_map (with_offset_viewport_origin offset state.dc.map) state
next (exclude_clip corners) state = with_clip (with_cut (mapped_box state.dc.map corners) state.dc.clip) state
next (intersect_clip corners) state = with_clip (with_kept (mapped_box state.dc.map corners) state.dc.clip) state
next remove_clip state = with_clip unclipped state
next (move_to point) state = with_position point (with_path (after_moving state.path) state)
next (line_to point) state = after_drawing_lines (point ∷ []) state
next (pixel point colour) state = state
next (rectangle corners edges) state = with_path (after_polygons (box_corners (mapped_box state.dc.map corners) ∷ []) state.path) state
next (polyline lists) state = with_path (after_polylines (mapped_lists state.dc.map lists) state.path) state
next (polygon lists) state = with_path (after_polygons (mapped_lists state.dc.map lists) state.path) state
next (polyline_to points) state = after_drawing_lines points state
next (blit asked) state = state
next (create at object) state = with_slots (with_object (created_index state.table_kind at state.slots) object state.slots) state
next (select index) state = with_selected (after_selecting index (named_object index state.slots) state.dc.selected) state
next (select_palette index) state = with_selected (after_selecting index (named_object index state.slots) state.dc.selected) state
next (delete index) state = after_deleting index state
next begin_path state = with_path (open_path no_figures 0) state
next end_path state = with_path (after_ending state.path) state
next close_figure state = with_path (after_closing state.path) state
next abort_path state = with_path no_path state
next fill_path state = with_path no_path state
next stroke_path state = with_path no_path state
next stroke_and_fill_path state = with_path no_path state
