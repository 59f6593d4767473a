-- The points of a path land on each surface on which a run comes to its painting, since each did where it was added.
use Rattle.std.proofs.Common.{◌≡◌, ℕ, ℤ, Bool, true, false, ◌&&◌, if◌then◌else◌, List, [], ◌∷◌, ◌++◌, length, Option, Some, None, refl, ap, sym, ◌∙◌}
use Rattle.std.proofs.lemmas.Bool.{and_from, and_parts}
use Rattle.std.proofs.lemmas.Grind.{flat_map-append}
use Rattle.std.proofs.lemmas.List.{append-nil}
use Rattle.std.proofs.lemmas.List.Folds.{list_all-append}
use Rattle.std.specs.Option.{option_or}
use Rattle.mapping.specs.Limits.{is_within, place_limit, plane_limit}
use Rattle.mapping.specs.Plane.{MapNumbers}
use Rattle.mapping.specs.Surface.{Surface, lands_within_limits, placed}
use Rattle.mapping.specs.declared.geometry.Point.{Point}
use Rattle.mapping.specs.declared.geometry.Rect.{Rect}
use Rattle.draw_ops.specs.Operation.{Operation, abort_path, begin_path, close_figure, end_path, fill_path, line_to, move_to, polygon, polyline, polyline_to, rectangle, restore, stroke_and_fill_path, stroke_path}
use Rattle.draw_ops.specs.declared.record_fault.RecordFault.{RecordFault}
use Rattle.draw_ops.specs.declared.record_fault.RecordFault.TheVariants.{OffPlane}
use Rattle.dc_stack.specs.Drawing.{Drawing, drawing_of, points_of_lists}
use Rattle.dc_stack.specs.Figures.{Figure, Figures, all_figures, box_corners, figure_of, points_gone_on, points_of_figures, with_current_done, with_lines, with_polygon, with_polygons, with_polyline, with_polylines}
use Rattle.dc_stack.specs.MachineState.{GoesOn, HasStepped, IsUnchanged, MachineState}
use Rattle.dc_stack.specs.Mapped.{left_top, mapped_box, mapped_corners, mapped_list, mapped_lists, mapped_point, right_bottom}
use Rattle.dc_stack.specs.Next.{next}
use Rattle.dc_stack.specs.OperationFault.{all_land_within, fault_of, nib_fault, plain_fault, plane_points, points_drawn}
use Rattle.dc_stack.specs.Path.{Path, after_closing, after_ending, after_lines, after_moving, after_polygons, after_polylines, finished_path, no_path, open_path, points_if_open}
use Rattle.dc_stack.specs.SavedStates.{after_restoring, saved_place}
use Rattle.dc_stack.specs.State.{State}
use Rattle.dc_stack.proofs.CornerLemmas.{of_greater, of_lesser}
use Rattle.listing.specs.DryRunState.{IsLanded, PathLands}

module _ (s : Surface) where
  abbrev Land : List Point → Type 0
  Land points = all_land_within points s ≡ true

  joined : (xs ys : List Point) → Land xs → Land ys → Land (xs ++ ys)
  joined xs ys p q =
      list_all-append (λ (point : Point). lands_within_limits point s) xs ys ∙ and_from (all_land_within xs s) (all_land_within ys s) p q

  parted : (xs ys : List Point) → Land (xs ++ ys) → Land xs × Land ys
  parted xs ys h =
      and_parts (all_land_within xs s) (all_land_within ys s) (sym (list_all-append (λ (point : Point). lands_within_limits point s) xs ys) ∙ h)

  -- a coordinate is one of the plane, and lands within the limits
  record ColumnLands (v : ℤ) : Type 0 where
    plane : is_within plane_limit v ≡ true
    place : is_within place_limit (placed v s.width s.frame_width) ≡ true

  record RowLands (v : ℤ) : Type 0 where
    plane : is_within plane_limit v ≡ true
    place : is_within place_limit (placed v s.height s.frame_height) ≡ true

  -- by the four tests of a point
  column_lands : (p : Point) → lands_within_limits p s ≡ true → ColumnLands p.x
  column_lands p h =
      let on = is_within plane_limit p.x && is_within plane_limit p.y in
      let fits = is_within place_limit (placed p.x s.width s.frame_width) && is_within place_limit (placed p.y s.height s.frame_height) in
      let parts = and_parts on fits h in
      record {
        plane = (and_parts (is_within plane_limit p.x) (is_within plane_limit p.y) parts.0).0;
        place = (and_parts (is_within place_limit (placed p.x s.width s.frame_width)) (is_within place_limit (placed p.y s.height s.frame_height)) parts.1).0;
      }

  row_lands : (p : Point) → lands_within_limits p s ≡ true → RowLands p.y
  row_lands p h =
      let on = is_within plane_limit p.x && is_within plane_limit p.y in
      let fits = is_within place_limit (placed p.x s.width s.frame_width) && is_within place_limit (placed p.y s.height s.frame_height) in
      let parts = and_parts on fits h in
      record {
        plane = (and_parts (is_within plane_limit p.x) (is_within plane_limit p.y) parts.0).1;
        place = (and_parts (is_within place_limit (placed p.x s.width s.frame_width)) (is_within place_limit (placed p.y s.height s.frame_height)) parts.1).1;
      }

  both_land : (x y : ℤ) → ColumnLands x → RowLands y → lands_within_limits (record { x = x; y = y }) s ≡ true
  both_land x y column row =
      and_from (is_within plane_limit x && is_within plane_limit y)
      (is_within place_limit (placed x s.width s.frame_width) && is_within place_limit (placed y s.height s.frame_height))
      (and_from (is_within plane_limit x) (is_within plane_limit y) column.plane row.plane)
      (and_from (is_within place_limit (placed x s.width s.frame_width)) (is_within place_limit (placed y s.height s.frame_height)) column.place row.place)

  one_more : (p : Point) (ps : List Point) → lands_within_limits p s ≡ true → Land ps → Land (p ∷ ps)
  one_more p ps h k = and_from (lands_within_limits p s) (all_land_within ps s) h k

  -- where two corners of a box land, all four do
  corners_land : (m : MapNumbers) (corners : Rect) → Land (mapped_corners m corners) → Land (box_corners (mapped_box m corners))
  corners_land m corners h =
      let p = left_top m corners in
      let q = right_bottom m corners in
      let first = and_parts (lands_within_limits p s) (all_land_within (q ∷ []) s) h in
      let second = and_parts (lands_within_limits q s) true first.1 in
      let l = of_lesser ColumnLands p.x q.x (column_lands p first.0) (column_lands q second.0) in
      let r = of_greater ColumnLands p.x q.x (column_lands p first.0) (column_lands q second.0) in
      let t = of_lesser RowLands p.y q.y (row_lands p first.0) (row_lands q second.0) in
      let b = of_greater RowLands p.y q.y (row_lands p first.0) (row_lands q second.0) in
      let box = mapped_box m corners in
      let right_top : Point = record { x = box.r; y = box.t } in
      let right_low : Point = record { x = box.r; y = box.b } in
      let left_low : Point = record { x = box.l; y = box.b } in
      one_more (record { x = box.l; y = box.t }) (right_top ∷ right_low ∷ left_low ∷ []) (both_land box.l box.t l t)
      (one_more right_top (right_low ∷ left_low ∷ []) (both_land box.r box.t r t)
      (one_more right_low (left_low ∷ []) (both_land box.r box.b r b) (one_more left_low [] (both_land box.l box.b l b) refl)))

  -- the points of figures
  abbrev FiguresLand : Figures → Type 0
  FiguresLand f = Land (points_of_figures (all_figures f))

  figure_points : (is_closed : Bool) (points : List Point) → points_of_figures (figure_of is_closed points) ≡ points
  figure_points is_closed [] = refl
  figure_points is_closed (p ∷ ps) = append-nil (p ∷ ps)

  points_with : (done : List Figure) (is_closed : Bool) (points : List Point) → points_of_figures (done ++ figure_of is_closed points) ≡ points_of_figures done ++ points
  points_with done is_closed points =
      flat_map-append (λ (figure : Figure). figure.points) done (figure_of is_closed points)
      ∙ ap (λ (more : List Point). points_of_figures done ++ more) (figure_points is_closed points)

  land_with : (done : List Figure) (is_closed : Bool) (points : List Point) → Land (points_of_figures done) → Land points → Land (points_of_figures (done ++ figure_of is_closed points))
  land_with done is_closed points p q =
      ap (λ (all : List Point). all_land_within all s) (points_with done is_closed points) ∙ joined (points_of_figures done) points p q

  figure_parts : (f : Figures) → FiguresLand f → Land (points_of_figures f.done) × Land f.current
  figure_parts f h =
      parted (points_of_figures f.done) f.current (ap (λ (all : List Point). all_land_within all s) (sym (points_with f.done false f.current)) ∙ h)

  -- what is added to figures
  current_done : (is_closed : Bool) (f : Figures) → FiguresLand f → FiguresLand (with_current_done is_closed f)
  current_done is_closed f h =
      let parts = figure_parts f h in
      land_with (f.done ++ figure_of is_closed f.current) false [] (land_with f.done is_closed f.current parts.0 parts.1) refl

  lines_added : (start : Point) (points : List Point) (f : Figures) → FiguresLand f → Land (points_gone_on start f.current points) → FiguresLand (with_lines start points f)
  lines_added start points f h k =
      let parts = figure_parts f h in
      land_with f.done false (f.current ++ points_gone_on start f.current points) parts.0 (joined f.current (points_gone_on start f.current points) parts.1 k)

  polyline_added : (points : List Point) (f : Figures) → FiguresLand f → Land points → FiguresLand (with_polyline points f)
  polyline_added [] f h k = h
  polyline_added (p ∷ ps) f h k = land_with (all_figures f) false (p ∷ ps) h k

  polygon_added : (points : List Point) (f : Figures) → FiguresLand f → Land points → FiguresLand (with_polygon points f)
  polygon_added [] f h k = h
  polygon_added (p ∷ ps) f h k = land_with (all_figures f ++ figure_of true (p ∷ ps)) false [] (land_with (all_figures f) true (p ∷ ps) h k) refl

  polylines_added : (lists : List (List Point)) (f : Figures) → FiguresLand f → Land (points_of_lists lists) → FiguresLand (with_polylines lists f)
  polylines_added [] f h k = h
  polylines_added (list ∷ lists) f h k =
      let parts = parted list (points_of_lists lists) k in
      polylines_added lists (with_polyline list f) (polyline_added list f h parts.0) parts.1

  polygons_added : (lists : List (List Point)) (f : Figures) → FiguresLand f → Land (points_of_lists lists) → FiguresLand (with_polygons lists f)
  polygons_added [] f h k = h
  polygons_added (list ∷ lists) f h k =
      let parts = parted list (points_of_lists lists) k in
      polygons_added lists (with_polygon list f) (polygon_added list f h parts.0) parts.1

  -- what becomes of a path
  moved : (path : Path) → PathLands path s → PathLands (after_moving path) s
  moved no_path h = h
  moved (open_path figures pieces) h = current_done false figures h
  moved (finished_path figures) h = h

  closed : (path : Path) → PathLands path s → PathLands (after_closing path) s
  closed no_path h = h
  closed (open_path figures pieces) h = current_done true figures h
  closed (finished_path figures) h = h

  ended : (path : Path) → PathLands path s → PathLands (after_ending path) s
  ended no_path h = h
  ended (open_path figures pieces) h = h
  ended (finished_path figures) h = h

  with_lines_added : (start : Point) (points : List Point) (path : Path) → PathLands path s → Land (points_if_open path (λ (figures : Figures). points_gone_on start figures.current points)) → PathLands (after_lines start points path) s
  with_lines_added start points no_path h k = h
  with_lines_added start points (open_path figures pieces) h k = lines_added start points figures h k
  with_lines_added start points (finished_path figures) h k = h

  with_polylines_added : (lists : List (List Point)) (path : Path) → PathLands path s → Land (points_if_open path (λ (figures : Figures). points_of_lists lists)) → PathLands (after_polylines lists path) s
  with_polylines_added lists no_path h k = h
  with_polylines_added lists (open_path figures pieces) h k = polylines_added lists figures h k
  with_polylines_added lists (finished_path figures) h k = h

  with_polygons_added : (lists : List (List Point)) (path : Path) → PathLands path s → Land (points_if_open path (λ (figures : Figures). points_of_lists lists)) → PathLands (after_polygons lists path) s
  with_polygons_added lists no_path h k = h
  with_polygons_added lists (open_path figures pieces) h k = polygons_added lists figures h k
  with_polygons_added lists (finished_path figures) h k = h

  with_corners_added : (m : MapNumbers) (corners : Rect) (path : Path) → PathLands path s → Land (points_if_open path (λ (figures : Figures). mapped_corners m corners)) → PathLands (after_polygons (box_corners (mapped_box m corners) ∷ []) path) s
  with_corners_added m corners no_path h k = h
  with_corners_added m corners (open_path figures pieces) h k = polygon_added (box_corners (mapped_box m corners)) figures h (corners_land m corners k)
  with_corners_added m corners (finished_path figures) h k = h

  restored : (place : Option ℕ) (state : State) → PathLands state.path s → PathLands (after_restoring place state).path s
  restored None state h = h
  restored (Some place) state h = h

  -- what an operation adds to the path lands where all its points do
  of_added : (added : List Point) (drawing : Option Drawing) → Land (added ++ points_drawn drawing) → Land added
  of_added added drawing h = (parted added (points_drawn drawing) h).0

  -- an operation whose points land leaves a path whose points do
  kept : (operation : Operation) (state : State) → PathLands state.path s → Land (plane_points operation state) → PathLands (next operation state).path s
  kept (restore which) state h k = restored (saved_place which (length state.saved)) state h
  kept (move_to point) state h k = moved state.path h
  kept (line_to point) state h k =
      let start = mapped_point state.dc.map state.dc.position in
      let through = mapped_list state.dc.map (point ∷ []) in
      with_lines_added start through state.path h
      (of_added (points_if_open state.path (λ (figures : Figures). points_gone_on start figures.current through)) (drawing_of (line_to point) state) k)
  kept (rectangle corners edges) state h k =
      with_corners_added state.dc.map corners state.path h
      (of_added (points_if_open state.path (λ (figures : Figures). mapped_corners state.dc.map corners)) (drawing_of (rectangle corners edges) state) k)
  kept (polyline lists) state h k =
      let mapped = mapped_lists state.dc.map lists in
      with_polylines_added mapped state.path h
      (of_added (points_if_open state.path (λ (figures : Figures). points_of_lists mapped)) (drawing_of (polyline lists) state) k)
  kept (polygon lists) state h k =
      let mapped = mapped_lists state.dc.map lists in
      with_polygons_added mapped state.path h
      (of_added (points_if_open state.path (λ (figures : Figures). points_of_lists mapped)) (drawing_of (polygon lists) state) k)
  kept (polyline_to points) state h k =
      let start = mapped_point state.dc.map state.dc.position in
      let through = mapped_list state.dc.map points in
      with_lines_added start through state.path h
      (of_added (points_if_open state.path (λ (figures : Figures). points_gone_on start figures.current through)) (drawing_of (polyline_to points) state) k)
  kept begin_path state h k = refl
  kept end_path state h k = ended state.path h
  kept close_figure state h k = closed state.path h
  kept abort_path state h k = refl
  kept fill_path state h k = refl
  kept stroke_path state h k = refl
  kept stroke_and_fill_path state h k = refl
  kept operation state h k = h

  -- as those of one without a fault do
  placed_none : (plain nib : Option RecordFault) (lands : Bool) → option_or plain (option_or (if lands then None else Some OffPlane) nib) ≡ None → lands ≡ true
  placed_none (Some f) nib lands h = cc
  placed_none None nib true h = refl
  placed_none None nib false h = cc

  pub lands_after : (operation : Operation) (state : State) → PathLands state.path s → fault_of operation state s ≡ None → PathLands (next operation state).path s
  lands_after operation state h none =
      kept operation state h
      (placed_none (plain_fault operation state) (nib_fault (drawing_of operation state) s) (all_land_within (plane_points operation state) s) none)

-- so a machine that played an operation has a path whose points land still
pub stays_landed : (operation : Operation) (old new : MachineState) → HasStepped operation old new → GoesOn old new → IsLanded old → IsLanded new
stays_landed operation old new stepped goes_on landed =
    rw (stepped.state, goes_on.surface) (lands_after old.surface operation old.state landed stepped.no_fault)

pub unchanged_landed : (old new : MachineState) → IsUnchanged old new → GoesOn old new → IsLanded old → IsLanded new
unchanged_landed old new same goes_on landed = rw (same.state, goes_on.surface) landed
