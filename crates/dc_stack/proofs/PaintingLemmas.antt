-- Paintings of a path that waits for it.
use Rattle.std.proofs.Common.{◌≡◌, ℕ, ℤ, ◌<◌, ◌≤◌, Bool, true, ◌&&◌, nat_le, if◌then◌else◌, List, [], ◌∷◌, length, Option, Some, None, inl, refl, ap, subst, sym, ◌∙◌}
use Rattle.std.proofs.lemmas.Bool.{and_from, and_parts, le-leb, lt-leb}
use Rattle.std.proofs.lemmas.List.Elements.{All-head, All-tail}
use Rattle.std.proofs.lemmas.List.Folds.{list_all-append}
use Rattle.std.specs.List.{flat_map, list_all}
use Rattle.std.specs.Option.{option_map, option_or}
use Rattle.mapping.specs.Limits.{is_within, place_limit, plane_limit}
use Rattle.mapping.specs.PageMap.{map_numbers}
use Rattle.mapping.specs.Plane.{MapNumbers}
use Rattle.mapping.specs.Surface.{Surface, lands_within_limits, placed}
use Rattle.mapping.specs.declared.geometry.Point.{Point}
use Rattle.mapping.specs.declared.geometry.Rect.{Rect}
use Rattle.draw_ops.specs.declared.fault.Fault.{Fault}
use Rattle.draw_ops.specs.declared.fault.Fault.TheVariants.{Record}
use Rattle.draw_ops.specs.declared.record_fault.RecordFault.{RecordFault}
use Rattle.draw_ops.specs.declared.record_fault.RecordFault.TheVariants.{TooManyEdges}
use Rattle.point_views.specs.PartedPoints.{parts_of}
use Rattle.point_views.specs.Points.{points_of}
use Rattle.dc_stack.specs.Drawing.{drawing_of, edge_limit, figures_painted, points_of_lists, tools_of}
use Rattle.dc_stack.specs.Extents.{IsExtent}
use Rattle.dc_stack.specs.Figures.{Figure, all_figures, box_corners, points_of_figures}
use Rattle.dc_stack.specs.GatheredPath.{gathered_points, path_in}
use Rattle.dc_stack.specs.MachineState.{HasPlayed, IsUnchanged, HasRejected, MachineState, Outcome, painting_operation}
use Rattle.dc_stack.specs.DrawsApart.{mark_fault}
use Rattle.dc_stack.specs.Marking.{HasMarked, HasNotMarked, mark_nib}
use Rattle.dc_stack.specs.Mapped.{left_top, mapped_box, mapped_corners, mapped_list, right_bottom}
use Rattle.dc_stack.specs.Needs.{greater_needs, needs_of, points_needed}
use Rattle.dc_stack.specs.Next.{next}
use Rattle.dc_stack.specs.OperationFault.{fault_of, off_plane_fault, plane_points as placed_points, wide_fault}
use Rattle.dc_stack.specs.Path.{finished_path, no_path}
use Rattle.dc_stack.specs.Pieces.{AllLandOn, LandsOn, figures_of, page_points, plane_lists}
use Rattle.dc_stack.specs.State.{State, with_path}
use Rattle.dc_stack.specs.declared.draw.FigurePoints.TheVariants.{Path}
use Rattle.dc_stack.specs.declared.draw.Mark.TheVariants.{Figures}
use Rattle.dc_stack.specs.declared.draw.Painting.{Painting}
use Rattle.dc_stack.specs.declared.draw.Painting.TheVariants.{Fill, Stroke, StrokeAndFill}
use Rattle.dc_stack.specs.declared.path.PathPhase.{PathPhase}
use Rattle.dc_stack.specs.declared.path.PathPhase.TheVariants.{NoPath, BetweenFigures, InFigure, Finished, Painted}
use Rattle.dc_stack.specs.declared.piece.Piece.{Piece}
use Rattle.dc_stack.specs.declared.piece.PiecePoints.{PiecePoints}
use Rattle.dc_stack.specs.declared.piece.PiecePoints.TheVariants.{Point as OnePoint, List as OneList, Lists, Corners}
use Rattle.mapping.specs.Nibs.{nib_from}
use Rattle.dc_stack.proofs.FaultOrder.{none_of_both}
use Rattle.dc_stack.proofs.CornerLemmas.{of_greater, of_lesser}
use Rattle.dc_stack.proofs.FigureLemmas.{plane_points, points_gathered}
use Rattle.dc_stack.proofs.PlaneBoxLemmas.{least_of_extent}
use Rattle.dc_stack.proofs.ListLemmas.{mapped_joined}

module _ (state : State) (figures : List Figure) (at : state.path ≡ finished_path figures) where
  painting_drawn : (painting : Painting) → drawing_of (painting_operation painting) state ≡ Some (record { mark = figures_painted painting figures; tools = tools_of state.dc })
  painting_drawn Fill = rw at refl
  painting_drawn Stroke = rw at refl
  painting_drawn StrokeAndFill = rw at refl

  painting_next : (painting : Painting) → next (painting_operation painting) state ≡ with_path no_path state
  painting_next Fill = refl
  painting_next Stroke = refl
  painting_next StrokeAndFill = refl

  painting_fault : (painting : Painting) (s : Surface) → fault_of (painting_operation painting) state s ≡ mark_fault (figures_painted painting figures) state s
  painting_fault Fill s = rw at refl
  painting_fault Stroke s = rw at refl
  painting_fault StrokeAndFill s = rw at refl

  painting_needs : (painting : Painting) → needs_of (painting_operation painting) state ≡ points_needed (length (points_of_figures figures))
  painting_needs Fill = rw at refl
  painting_needs Stroke = rw at refl
  painting_needs StrokeAndFill = rw at refl

  painting_points : (painting : Painting) → placed_points (painting_operation painting) state ≡ points_of_figures figures
  painting_points Fill = rw at refl
  painting_points Stroke = rw at refl
  painting_points StrokeAndFill = rw at refl

-- the points of pieces on the plane land, where those of the page do
module _ (s : Surface) where
  abbrev all_lands : List Point → Bool
  all_lands points = list_all (λ point. lands_within_limits point s) points

  -- a coordinate is one of the plane, and lands within the limits
  record ColumnLands (v : ℤ) : Type 0 where
    plane : is_within plane_limit v ≡ true
    place : is_within place_limit (placed v s.width s.frame_width) ≡ true

  record RowLands (v : ℤ) : Type 0 where
    plane : is_within plane_limit v ≡ true
    place : is_within place_limit (placed v s.height s.frame_height) ≡ true

  column_lands : (p : Point) → lands_within_limits p s ≡ true → ColumnLands p.x
  column_lands p h =
      let parts = and_parts (is_within plane_limit p.x && is_within plane_limit p.y) (is_within place_limit (placed p.x s.width s.frame_width) && is_within place_limit (placed p.y s.height s.frame_height)) h in
      record {
        plane = (and_parts (is_within plane_limit p.x) (is_within plane_limit p.y) parts.0).0;
        place = (and_parts (is_within place_limit (placed p.x s.width s.frame_width)) (is_within place_limit (placed p.y s.height s.frame_height)) parts.1).0;
      }

  row_lands : (p : Point) → lands_within_limits p s ≡ true → RowLands p.y
  row_lands p h =
      let parts = and_parts (is_within plane_limit p.x && is_within plane_limit p.y) (is_within place_limit (placed p.x s.width s.frame_width) && is_within place_limit (placed p.y s.height s.frame_height)) h in
      record {
        plane = (and_parts (is_within plane_limit p.x) (is_within plane_limit p.y) parts.0).1;
        place = (and_parts (is_within place_limit (placed p.x s.width s.frame_width)) (is_within place_limit (placed p.y s.height s.frame_height)) parts.1).1;
      }

  both_land : (x y : ℤ) → ColumnLands x → RowLands y → lands_within_limits (record { x = x; y = y }) s ≡ true
  both_land x y column row =
      and_from (is_within plane_limit x && is_within plane_limit y) (is_within place_limit (placed x s.width s.frame_width) && is_within place_limit (placed y s.height s.frame_height))
      (and_from (is_within plane_limit x) (is_within plane_limit y) column.plane row.plane)
      (and_from (is_within place_limit (placed x s.width s.frame_width)) (is_within place_limit (placed y s.height s.frame_height)) column.place row.place)

  all_of : (p : Point) (ps : List Point) → lands_within_limits p s ≡ true → all_lands ps ≡ true → all_lands (p ∷ ps) ≡ true
  all_of p ps h k = and_from (lands_within_limits p s) (all_lands ps) h k

  corners_land : (m : MapNumbers) (corners : Rect) → all_lands (mapped_corners m corners) ≡ true → all_lands (box_corners (mapped_box m corners)) ≡ true
  corners_land m corners h =
      let p = left_top m corners in
      let q = right_bottom m corners in
      let first = and_parts (lands_within_limits p s) (all_lands (q ∷ [])) h in
      let second = and_parts (lands_within_limits q s) true first.1 in
      let l = of_lesser ColumnLands p.x q.x (column_lands p first.0) (column_lands q second.0) in
      let r = of_greater ColumnLands p.x q.x (column_lands p first.0) (column_lands q second.0) in
      let t = of_lesser RowLands p.y q.y (row_lands p first.0) (row_lands q second.0) in
      let b = of_greater RowLands p.y q.y (row_lands p first.0) (row_lands q second.0) in
      let box = mapped_box m corners in
      let left_top_corner : Point = record { x = box.l; y = box.t } in
      let right_top_corner : Point = record { x = box.r; y = box.t } in
      let right_bottom_corner : Point = record { x = box.r; y = box.b } in
      let left_bottom_corner : Point = record { x = box.l; y = box.b } in
      all_of left_top_corner (right_top_corner ∷ right_bottom_corner ∷ left_bottom_corner ∷ []) (both_land box.l box.t l t)
      (all_of right_top_corner (right_bottom_corner ∷ left_bottom_corner ∷ []) (both_land box.r box.t r t)
      (all_of right_bottom_corner (left_bottom_corner ∷ []) (both_land box.r box.b r b)
      (all_of left_bottom_corner [] (both_land box.l box.b l b) refl)))

  points_land : (m : MapNumbers) (points : PiecePoints) → all_lands (mapped_list m (page_points points)) ≡ true → all_lands (points_of_lists (plane_lists m points)) ≡ true
  points_land m (OnePoint point) h = h
  points_land m (OneList points) h = ap all_lands (mapped_joined m (points_of points ∷ [])) ∙ h
  points_land m (Lists parted) h = ap all_lands (mapped_joined m (parts_of parted)) ∙ h
  points_land m (Corners corners) h = corners_land m corners h

  pieces_land : (pieces : List Piece) → AllLandOn s pieces → all_lands (flat_map plane_points pieces) ≡ true
  pieces_land [] h = refl
  pieces_land (piece ∷ pieces) h =
      list_all-append (λ point. lands_within_limits point s) (plane_points piece) (flat_map plane_points pieces)
      ∙ and_from (all_lands (plane_points piece)) (all_lands (flat_map plane_points pieces))
      (points_land (map_numbers piece.map) piece.points (All-head (LandsOn s) piece pieces h)) (pieces_land pieces (All-tail (LandsOn s) piece pieces h))

  pub gathered_lands : (pieces : List Piece) → AllLandOn s pieces → all_lands (gathered_points pieces) ≡ true
  gathered_lands pieces h = ap all_lands (points_gathered pieces) ∙ pieces_land pieces h

-- a finished path is painted
module _ (old new : MachineState) (painting : Painting) (extent : Option Rect) (edges : ℕ) (figures : List Figure) (at : old.state.path ≡ finished_path figures) (counted : edges ≡ length (points_of_figures figures)) (few : length (points_of_figures figures) ≤ edge_limit) (boxed : IsExtent extent (points_of_figures figures)) where
  fault_then : fault_of (painting_operation painting) old.state old.surface ≡ option_or (off_plane_fault (points_of_figures figures) old.surface) (wide_fault (mark_nib (Figures painting Path) old old.surface))
  fault_then =
      painting_fault old.state figures at painting old.surface
      ∙ rw (le-leb (length (points_of_figures figures)) edge_limit few) refl

  -- whose figures are those of the pieces that are lent
  pub plays_painting : (mid : MachineState) (reported : Outcome) (pieces : List Piece) → all_figures (figures_of pieces) ≡ figures → new.state ≡ with_path no_path old.state → new.painted ≡ pieces → new.needs ≡ mid.needs → AllLandOn old.surface pieces → HasMarked (Figures painting Path) extent edges old mid reported → HasPlayed (painting_operation painting) old new reported
  plays_painting mid reported pieces same state borrowed needs land h =
      rw h.reports (record {
        stepped = record {
          no_fault = fault_then ∙ none_of_both (off_plane_fault (points_of_figures figures) old.surface) (wide_fault (mark_nib (Figures painting Path) old old.surface)) (sym (h.lands (points_of_figures figures) boxed)) (rw (nib_from (mark_nib (Figures painting Path) old old.surface) h.allowed) refl);
          state = state ∙ sym (painting_next old.state figures at painting);
          needs = needs ∙ h.needs ∙ ap (λ n. greater_needs old.needs (points_needed n)) counted ∙ ap (greater_needs old.needs) (sym (painting_needs old.state figures at painting));
        };
        drawn = rw (borrowed, same, state) (sym (painting_drawn old.state figures at painting));
        placed = rw borrowed (record {
          ready = land;
          counted = rw same counted;
          least = rw same (least_of_extent extent (points_of_figures figures) boxed);
          within = gathered_lands old.surface pieces land;
          few = rw same few;
        });
        nib = record { is = rw state refl; allowed = h.allowed };
        extent = subst (IsExtent extent) (sym (painting_points old.state figures at painting)) boxed;
        figures = λ e. rw (borrowed, at, same) refl;
      })

  -- or its points don't land, or its nib is too wide
  pub rejects_marking : (fault : Fault) → HasNotMarked (Figures painting Path) extent old new fault → HasRejected (painting_operation painting) old new fault
  rejects_marking fault h = record {
    rejected = inl (ap (option_map Record) fault_then ∙ h.rejected (points_of_figures figures) boxed);
    kept = h.kept;
  }

-- the figures of a finished path are those of its pieces
pub finished_figures : (phase : PathPhase) (pieces : List Piece) (figures : List Figure) → path_in phase pieces ≡ finished_path figures → all_figures (figures_of pieces) ≡ figures
finished_figures NoPath pieces figures h = cc
finished_figures BetweenFigures pieces figures h = cc
finished_figures InFigure pieces figures h = cc
finished_figures Finished pieces figures h = cc
finished_figures Painted pieces figures h = cc

-- or has more points than it may
pub rejects_painting : (old new : MachineState) (painting : Painting) (pieces : List Piece) → old.state.path ≡ finished_path (all_figures (figures_of pieces)) → edge_limit < length (gathered_points pieces) → IsUnchanged old new → HasRejected (painting_operation painting) old new (Record TooManyEdges)
rejects_painting old new painting pieces at many kept =
    let figures = all_figures (figures_of pieces) in
    let found : fault_of (painting_operation painting) old.state old.surface ≡ Some TooManyEdges =
    painting_fault old.state figures at painting old.surface ∙ rw (lt-leb (length (gathered_points pieces)) edge_limit many) refl in
    record {
      rejected = inl (ap (option_map Record) found);
      kept = kept;
    }
