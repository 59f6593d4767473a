-- The memory needs of a run: the most saved states at a time, the slots up to the greatest index of an object, and the
-- most points of one drawing and pieces of a path.
use Rattle.std.specs.Prelude.{ℕ, suc, length, max}
use Rattle.draw_ops.specs.Operation.{Operation, no_effect, save, restore, set_background_mode, set_map_mode, set_raster_op, set_fill_mode, set_background_colour, set_window_origin, set_window_extent, set_viewport_origin, set_viewport_extent, offset_window_origin, offset_viewport_origin, exclude_clip, intersect_clip, remove_clip, move_to, line_to, pixel, rectangle, polyline, polygon, polyline_to, blit, create, select, select_palette, delete, begin_path, end_path, close_figure, abort_path, fill_path, stroke_path, stroke_and_fill_path}
use Rattle.object_tables.specs.Table.{created_index}
use Rattle.dc_stack.specs.Drawing.{drawing_edges, drawing_of}
use Rattle.dc_stack.specs.Next.{next}
use Rattle.dc_stack.specs.Path.{piece_count}
use Rattle.dc_stack.specs.State.{State}
use Rattle.dc_stack.specs.declared.needs.Needs.{Needs}

-- no needs
abbrev pub no_needs : Needs
no_needs = record { depth = 0; slots = 0; edges = 0; pieces = 0 }

-- the maximum of each need
abbrev pub greater_needs : Needs → Needs → Needs
greater_needs a b = record {
  depth = max a.depth b.depth;
  slots = max a.slots b.slots;
  edges = max a.edges b.edges;
  pieces = max a.pieces b.pieces;
}

-- the number of saved states after a save
abbrev pub depth_needed : ℕ → Needs
depth_needed depth = record { depth = depth; slots = 0; edges = 0; pieces = 0 }

-- the number of slots up to the index of a new object
abbrev pub slots_needed : ℕ → Needs
slots_needed index = record { depth = 0; slots = suc index; edges = 0; pieces = 0 }

-- the number of points of a drawing
abbrev pub points_needed : ℕ → Needs
points_needed count = record { depth = 0; slots = 0; edges = count; pieces = 0 }

-- the number of pieces of a path
abbrev pub pieces_needed : ℕ → Needs
pieces_needed pieces = record { depth = 0; slots = 0; edges = 0; pieces = pieces }

-- the number of points of the operation's drawing, if it draws, and the number of pieces of an open path afterwards
abbrev pub drawing_needs : Operation → State → Needs
drawing_needs operation state = record {
  depth = 0;
  slots = 0;
  edges = drawing_edges (drawing_of operation state);
  pieces = piece_count (next operation state).path;
}

-- the needs of one operation
abbrev pub needs_of : Operation → State → Needs
needs_of no_effect state = no_needs
needs_of save state = depth_needed (suc (length state.saved))
needs_of (restore which) state = no_needs
needs_of (set_background_mode mode) state = no_needs
needs_of (set_map_mode mode) state = no_needs
needs_of (set_raster_op op) state = no_needs
needs_of (set_fill_mode mode) state = no_needs
needs_of (set_background_colour colour) state = no_needs
needs_of (set_window_origin origin) state = no_needs
needs_of (set_window_extent extent) state = no_needs
needs_of (set_viewport_origin origin) state = no_needs
needs_of (set_viewport_extent extent) state = no_needs
needs_of (offset_window_origin offset) state = no_needs
needs_of (offset_viewport_origin offset) state = no_needs
needs_of (exclude_clip corners) state = no_needs
needs_of (intersect_clip corners) state = no_needs
needs_of remove_clip state = no_needs
needs_of (move_to point) state = no_needs
needs_of (line_to point) state = drawing_needs (line_to point) state
needs_of (pixel point colour) state = no_needs
needs_of (rectangle corners edges) state = drawing_needs (rectangle corners edges) state
needs_of (polyline lists) state = drawing_needs (polyline lists) state
needs_of (polygon lists) state = drawing_needs (polygon lists) state
needs_of (polyline_to points) state = drawing_needs (polyline_to points) state
needs_of (blit asked) state = no_needs
needs_of (create at object) state = slots_needed (created_index state.table_kind at state.slots)
needs_of (select index) state = no_needs
needs_of (select_palette index) state = no_needs
needs_of (delete index) state = no_needs
needs_of begin_path state = no_needs
needs_of end_path state = no_needs
needs_of close_figure state = no_needs
needs_of abort_path state = no_needs
needs_of fill_path state = drawing_needs fill_path state
needs_of stroke_path state = drawing_needs stroke_path state
needs_of stroke_and_fill_path state = drawing_needs stroke_and_fill_path state
