-- What one operation needs, operation by operation.
use Rattle.std.proofs.Common.{◌≡◌, ℕ, ◌<◌, ◌≤◌, Bool, true, false, length, Option, Some, None, refl, arith}
use Rattle.std.specs.Option.{option_or}
use Rattle.std.specs.Prelude.{nat_le, nat_lt}
use Rattle.std.proofs.lemmas.Bool.{leb-true, ltb-true}
use Rattle.draw_ops.specs.Operation.{Operation, no_effect, save, restore, set_background_mode, set_map_mode, set_raster_op, set_fill_mode, set_background_colour, set_window_origin, set_window_extent, set_viewport_origin, set_viewport_extent, offset_window_origin, offset_viewport_origin, exclude_clip, intersect_clip, remove_clip, move_to, line_to, pixel, rectangle, polyline, polygon, polyline_to, blit, create, select, select_palette, delete, begin_path, end_path, close_figure, abort_path, fill_path, stroke_path, stroke_and_fill_path}
use Rattle.draw_ops.specs.declared.record_fault.RecordFault.TheVariants.{DepthLimit, TooManyEdges, TooManyPieces}
use Rattle.object_tables.specs.Table.{CreatedIndexIsBelowBound, TableKind}
use Rattle.dc_stack.specs.Drawing.{drawing_edges, drawing_of, edge_limit}
use Rattle.dc_stack.specs.Figures.{with_current_done}
use Rattle.dc_stack.specs.Needs.{drawing_needs, needs_of, no_needs}
use Rattle.dc_stack.specs.Next.{next}
use Rattle.dc_stack.specs.OperationFault.{edges_fault, plain_fault}
use Rattle.dc_stack.specs.Path.{Path, after_ending, finished_fault, finished_path, no_path, open_path, piece_count, piece_limit, pieces_fault, with_figures}
use Rattle.dc_stack.specs.SavedStates.{after_restoring, depth_limit, saved_place}
use Rattle.dc_stack.specs.State.{State}
use Rattle.preflight_cert.specs.NeedLaws.{AreWithin, most_needs}
use Rattle.preflight_cert.proofs.StopLemmas.{none_first, none_second, passed}

-- what an operation needs of points are those of its drawing
pub needed_edges : (operation : Operation) (state : State) → drawing_edges (drawing_of operation state) ≡ (needs_of operation state).edges
needed_edges no_effect state = refl
needed_edges save state = refl
needed_edges (restore which) state = refl
needed_edges (set_background_mode mode) state = refl
needed_edges (set_map_mode mode) state = refl
needed_edges (set_raster_op op) state = refl
needed_edges (set_fill_mode mode) state = refl
needed_edges (set_background_colour colour) state = refl
needed_edges (set_window_origin origin) state = refl
needed_edges (set_window_extent extent) state = refl
needed_edges (set_viewport_origin origin) state = refl
needed_edges (set_viewport_extent extent) state = refl
needed_edges (offset_window_origin offset) state = refl
needed_edges (offset_viewport_origin offset) state = refl
needed_edges (exclude_clip corners) state = refl
needed_edges (intersect_clip corners) state = refl
needed_edges remove_clip state = refl
needed_edges (move_to point) state = refl
needed_edges (line_to point) state = refl
needed_edges (pixel point colour) state = refl
needed_edges (rectangle corners edges) state = refl
needed_edges (polyline lists) state = refl
needed_edges (polygon lists) state = refl
needed_edges (polyline_to points) state = refl
needed_edges (blit asked) state = refl
needed_edges (create at object) state = refl
needed_edges (select index) state = refl
needed_edges (select_palette index) state = refl
needed_edges (delete index) state = refl
needed_edges begin_path state = refl
needed_edges end_path state = refl
needed_edges close_figure state = refl
needed_edges abort_path state = refl
needed_edges fill_path state = refl
needed_edges stroke_path state = refl
needed_edges stroke_and_fill_path state = refl

pub nothing_within : (kind : TableKind) → AreWithin no_needs (most_needs kind)
nothing_within kind = record { depth = omega arith; slots = omega arith; edges = omega arith; pieces = omega arith }

few_edges : (operation : Operation) (state : State) → edges_fault (drawing_of operation state) ≡ None → drawing_edges (drawing_of operation state) ≤ edge_limit
few_edges operation state h = leb-true _ _ (passed (nat_le (drawing_edges (drawing_of operation state)) edge_limit) TooManyEdges h)

few_pieces : (count : ℕ) → pieces_fault count ≡ None → count ≤ piece_limit
few_pieces count h = leb-true _ _ (passed (nat_le count piece_limit) TooManyPieces h)

-- lines are drawn, or added to a path
drawn_within : (operation : Operation) (state : State) → option_or (pieces_fault (piece_count (next operation state).path)) (edges_fault (drawing_of operation state)) ≡ None
    → AreWithin (drawing_needs operation state) (most_needs state.table_kind)
drawn_within operation state h =
    let edges = few_edges operation state (none_second (pieces_fault (piece_count (next operation state).path)) _ h) in
    let pieces = few_pieces (piece_count (next operation state).path) (none_first _ (edges_fault (drawing_of operation state)) h) in
    record { depth = omega arith; slots = omega arith; edges = omega (arith, edges); pieces = omega (arith, pieces) }

-- a path is painted, and none is left
painted_within : (operation : Operation) (state : State) → piece_count (next operation state).path ≤ piece_limit → option_or (finished_fault state.path) (edges_fault (drawing_of operation state)) ≡ None
    → AreWithin (drawing_needs operation state) (most_needs state.table_kind)
painted_within operation state few h =
    let edges = few_edges operation state (none_second (finished_fault state.path) _ h) in
    record { depth = omega arith; slots = omega arith; edges = omega (arith, edges); pieces = omega (arith, few) }

-- one operation
pub within : CreatedIndexIsBelowBound → (operation : Operation) (state : State) → plain_fault operation state ≡ None → AreWithin (needs_of operation state) (most_needs state.table_kind)
within laws no_effect state h = nothing_within state.table_kind
within laws save state h = let few = ltb-true (length state.saved) depth_limit (passed (nat_lt (length state.saved) depth_limit) DepthLimit h) in record { depth = omega (arith, few); slots = omega arith; edges = omega arith; pieces = omega arith }
within laws (restore which) state h = nothing_within state.table_kind
within laws (set_background_mode mode) state h = nothing_within state.table_kind
within laws (set_map_mode mode) state h = nothing_within state.table_kind
within laws (set_raster_op op) state h = nothing_within state.table_kind
within laws (set_fill_mode mode) state h = nothing_within state.table_kind
within laws (set_background_colour colour) state h = nothing_within state.table_kind
within laws (set_window_origin origin) state h = nothing_within state.table_kind
within laws (set_window_extent extent) state h = nothing_within state.table_kind
within laws (set_viewport_origin origin) state h = nothing_within state.table_kind
within laws (set_viewport_extent extent) state h = nothing_within state.table_kind
within laws (offset_window_origin offset) state h = nothing_within state.table_kind
within laws (offset_viewport_origin offset) state h = nothing_within state.table_kind
within laws (exclude_clip corners) state h = nothing_within state.table_kind
within laws (intersect_clip corners) state h = nothing_within state.table_kind
within laws remove_clip state h = nothing_within state.table_kind
within laws (move_to point) state h = nothing_within state.table_kind
within laws (line_to point) state h = drawn_within (line_to point) state h
within laws (pixel point colour) state h = nothing_within state.table_kind
within laws (rectangle corners edges) state h = drawn_within (rectangle corners edges) state h
within laws (polyline lists) state h = drawn_within (polyline lists) state h
within laws (polygon lists) state h = drawn_within (polygon lists) state h
within laws (polyline_to points) state h = drawn_within (polyline_to points) state h
within laws (blit asked) state h = nothing_within state.table_kind
within laws (create at object) state h = let below = laws state.table_kind at state.slots h in record { depth = omega arith; slots = omega (arith, below); edges = omega arith; pieces = omega arith }
within laws (select index) state h = nothing_within state.table_kind
within laws (select_palette index) state h = nothing_within state.table_kind
within laws (delete index) state h = nothing_within state.table_kind
within laws begin_path state h = nothing_within state.table_kind
within laws end_path state h = nothing_within state.table_kind
within laws close_figure state h = nothing_within state.table_kind
within laws abort_path state h = nothing_within state.table_kind
within laws fill_path state h = painted_within fill_path state (omega arith) h
within laws stroke_path state h = painted_within stroke_path state (omega arith) h
within laws stroke_and_fill_path state h = painted_within stroke_and_fill_path state (omega arith) h

-- the kind of table stays
restored_kind : (place : Option ℕ) (state : State) → (after_restoring place state).table_kind ≡ state.table_kind
restored_kind None state = refl
restored_kind (Some place) state = refl

pub same_kind : (operation : Operation) (state : State) → (next operation state).table_kind ≡ state.table_kind
same_kind no_effect state = refl
same_kind save state = refl
same_kind (restore which) state = restored_kind (saved_place which (length state.saved)) state
same_kind (set_background_mode mode) state = refl
same_kind (set_map_mode mode) state = refl
same_kind (set_raster_op op) state = refl
same_kind (set_fill_mode mode) state = refl
same_kind (set_background_colour colour) state = refl
same_kind (set_window_origin origin) state = refl
same_kind (set_window_extent extent) state = refl
same_kind (set_viewport_origin origin) state = refl
same_kind (set_viewport_extent extent) state = refl
same_kind (offset_window_origin offset) state = refl
same_kind (offset_viewport_origin offset) state = refl
same_kind (exclude_clip corners) state = refl
same_kind (intersect_clip corners) state = refl
same_kind remove_clip state = refl
same_kind (move_to point) state = refl
same_kind (line_to point) state = refl
same_kind (pixel point colour) state = refl
same_kind (rectangle corners edges) state = refl
same_kind (polyline lists) state = refl
same_kind (polygon lists) state = refl
same_kind (polyline_to points) state = refl
same_kind (blit asked) state = refl
same_kind (create at object) state = refl
same_kind (select index) state = refl
same_kind (select_palette index) state = refl
same_kind (delete index) state = refl
same_kind begin_path state = refl
same_kind end_path state = refl
same_kind close_figure state = refl
same_kind abort_path state = refl
same_kind fill_path state = refl
same_kind stroke_path state = refl
same_kind stroke_and_fill_path state = refl

-- these leave the count of a path's pieces as it is, or make it less
same_count : (path : Path) → piece_count path < piece_count path → ⊥
same_count path h = omega arith

none_of_moving : (path : Path) (is_closed : Bool) → piece_count path < piece_count (with_figures (with_current_done is_closed) (λ figures. 0) path) → ⊥
none_of_moving no_path is_closed h = omega arith
none_of_moving (open_path figures count) is_closed h = omega arith
none_of_moving (finished_path figures) is_closed h = omega arith

none_of_ending : (path : Path) → piece_count path < piece_count (after_ending path) → ⊥
none_of_ending no_path h = omega arith
none_of_ending (open_path figures count) h = omega arith
none_of_ending (finished_path figures) h = omega arith

no_place : (place : Option ℕ) (state : State) → (after_restoring place state).path ≡ state.path
no_place None state = refl
no_place (Some place) state = refl

-- what an operation adds to a path is among its needs
pub added_needed : (operation : Operation) (state : State) → piece_count state.path < piece_count (next operation state).path → piece_count (next operation state).path ≤ (needs_of operation state).pieces
added_needed no_effect state adds = absurd (same_count state.path adds)
added_needed save state adds = absurd (same_count state.path adds)
added_needed (restore which) state adds = absurd (same_count state.path (rw (no_place (saved_place which (length state.saved)) state) at adds))
added_needed (set_background_mode mode) state adds = absurd (same_count state.path adds)
added_needed (set_map_mode mode) state adds = absurd (same_count state.path adds)
added_needed (set_raster_op op) state adds = absurd (same_count state.path adds)
added_needed (set_fill_mode mode) state adds = absurd (same_count state.path adds)
added_needed (set_background_colour colour) state adds = absurd (same_count state.path adds)
added_needed (set_window_origin origin) state adds = absurd (same_count state.path adds)
added_needed (set_window_extent extent) state adds = absurd (same_count state.path adds)
added_needed (set_viewport_origin origin) state adds = absurd (same_count state.path adds)
added_needed (set_viewport_extent extent) state adds = absurd (same_count state.path adds)
added_needed (offset_window_origin offset) state adds = absurd (same_count state.path adds)
added_needed (offset_viewport_origin offset) state adds = absurd (same_count state.path adds)
added_needed (exclude_clip corners) state adds = absurd (same_count state.path adds)
added_needed (intersect_clip corners) state adds = absurd (same_count state.path adds)
added_needed remove_clip state adds = absurd (same_count state.path adds)
added_needed (move_to point) state adds = absurd (none_of_moving state.path false adds)
added_needed (line_to point) state adds = omega arith
added_needed (pixel point colour) state adds = absurd (same_count state.path adds)
added_needed (rectangle corners edges) state adds = omega arith
added_needed (polyline lists) state adds = omega arith
added_needed (polygon lists) state adds = omega arith
added_needed (polyline_to points) state adds = omega arith
added_needed (blit asked) state adds = absurd (same_count state.path adds)
added_needed (create at object) state adds = absurd (same_count state.path adds)
added_needed (select index) state adds = absurd (same_count state.path adds)
added_needed (select_palette index) state adds = absurd (same_count state.path adds)
added_needed (delete index) state adds = absurd (same_count state.path adds)
added_needed begin_path state adds = absurd (omega (arith, adds))
added_needed end_path state adds = absurd (none_of_ending state.path adds)
added_needed close_figure state adds = absurd (none_of_moving state.path true adds)
added_needed abort_path state adds = absurd (omega (arith, adds))
added_needed fill_path state adds = absurd (omega (arith, adds))
added_needed stroke_path state adds = absurd (omega (arith, adds))
added_needed stroke_and_fill_path state adds = absurd (omega (arith, adds))
