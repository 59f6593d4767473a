-- The objects stay in order, step by step.
use Rattle.std.proofs.Common.{ℕ, List, [], ◌∷◌, length, Option, Some, None}
use Rattle.draw_ops.specs.Content.{StepValue}
use Rattle.draw_ops.specs.Operation.{Operation, no_effect, save, restore, set_background_mode, set_map_mode, set_raster_op, set_fill_mode, set_background_colour, set_window_origin, set_window_extent, set_viewport_origin, set_viewport_extent, offset_window_origin, offset_viewport_origin, exclude_clip, intersect_clip, remove_clip, move_to, line_to, pixel, rectangle, polyline, polygon, polyline_to, blit, create, select, select_palette, delete, begin_path, end_path, close_figure, abort_path, fill_path, stroke_path, stroke_and_fill_path}
use Rattle.object_tables.specs.OrderLaws.{OrderLaws}
use Rattle.object_tables.specs.Slots.{IsInOrder}
use Rattle.object_tables.specs.Table.{created_index}
use Rattle.dc_stack.specs.Next.{next}
use Rattle.dc_stack.specs.SavedStates.{after_restoring, saved_place}
use Rattle.dc_stack.specs.State.{State, start_of}
use Rattle.preflight_cert.specs.After.{state_after}
use Rattle.preflight_cert.specs.ObjectOrder.{ObjectsAreInOrder}

-- a saved state has no objects of its own
restored : (place : Option ℕ) (state : State) → IsInOrder state.slots → IsInOrder (after_restoring place state).slots
restored None state h = h
restored (Some place) state h = h

next_in_order : OrderLaws → (operation : Operation) (state : State) → IsInOrder state.slots → IsInOrder (next operation state).slots
next_in_order laws no_effect state h = h
next_in_order laws save state h = h
next_in_order laws (restore which) state h = restored (saved_place which (length state.saved)) state h
next_in_order laws (set_background_mode mode) state h = h
next_in_order laws (set_map_mode mode) state h = h
next_in_order laws (set_raster_op op) state h = h
next_in_order laws (set_fill_mode mode) state h = h
next_in_order laws (set_background_colour colour) state h = h
next_in_order laws (set_window_origin origin) state h = h
next_in_order laws (set_window_extent extent) state h = h
next_in_order laws (set_viewport_origin origin) state h = h
next_in_order laws (set_viewport_extent extent) state h = h
next_in_order laws (offset_window_origin offset) state h = h
next_in_order laws (offset_viewport_origin offset) state h = h
next_in_order laws (exclude_clip corners) state h = h
next_in_order laws (intersect_clip corners) state h = h
next_in_order laws remove_clip state h = h
next_in_order laws (move_to point) state h = h
next_in_order laws (line_to point) state h = h
next_in_order laws (pixel point colour) state h = h
next_in_order laws (rectangle corners edges) state h = h
next_in_order laws (polyline lists) state h = h
next_in_order laws (polygon lists) state h = h
next_in_order laws (polyline_to points) state h = h
next_in_order laws (blit asked) state h = h
next_in_order laws (create at object) state h = laws.with_one (created_index state.table_kind at state.slots) object state.slots h
next_in_order laws (select index) state h = h
next_in_order laws (select_palette index) state h = h
next_in_order laws (delete index) state h = laws.without_one index state.slots h
next_in_order laws begin_path state h = h
next_in_order laws end_path state h = h
next_in_order laws close_figure state h = h
next_in_order laws abort_path state h = h
next_in_order laws fill_path state h = h
next_in_order laws stroke_path state h = h
next_in_order laws stroke_and_fill_path state h = h

after_in_order : OrderLaws → (steps : List StepValue) (state : State) → IsInOrder state.slots → IsInOrder (state_after steps state).slots
after_in_order laws [] state h = h
after_in_order laws (step ∷ steps) state h = after_in_order laws steps (next step.operation state) (next_in_order laws step.operation state h)

pub objects_in_order : OrderLaws → ObjectsAreInOrder
objects_in_order laws steps o = after_in_order laws steps (start_of o) laws.none
