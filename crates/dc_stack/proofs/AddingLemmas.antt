-- What adding to an open path does to a machine.
use Rattle.std.proofs.Common.{◌≡◌, ◌≢◌, ◌⊎◌, ℕ, ◌+◌, ◌<◌, ◌≤◌, true, false, List, [], ◌∷◌, ◌++◌, length, Option, Some, None, Result, Ok, Err, inl, inr, arith, refl, ap, subst, sym, ◌∙◌}
use Rattle.std.proofs.lemmas.Bool.{le-leb}
use Rattle.std.proofs.lemmas.List.{append-nil}
use Rattle.std.specs.Option.{option_map, option_or}
use Rattle.mapping.specs.Plane.{MapNumbers}
use Rattle.mapping.specs.Surface.{Surface}
use Rattle.mapping.specs.declared.geometry.Point.{Point}
use Rattle.mapping.specs.declared.geometry.Rect.{Rect}
use Rattle.draw_ops.specs.declared.fault.Fault.{Fault}
use Rattle.draw_ops.specs.declared.fault.Fault.TheVariants.{Record}
use Rattle.draw_ops.specs.declared.record_fault.RecordFault.{RecordFault}
use Rattle.point_views.specs.PartedPoints.{parts_of}
use Rattle.point_views.specs.Points.{points_of}
use Rattle.draw_ops.specs.Operation.{Operation, line_to, polygon, polyline, polyline_to, rectangle}
use Rattle.draw_ops.specs.declared.operation.RectangleEdges.{RectangleEdges}
use Rattle.dc_stack.specs.Adding.{Adds, AddsLines, AddsLists, HasNotAdded, adding_fault}
use Rattle.dc_stack.specs.Drawing.{Drawing, drawing_now, drawing_of, edge_limit, lines_mark, lists_mark, points_of_lists, rectangle_mark}
use Rattle.dc_stack.specs.Extents.{IsExtent}
use Rattle.dc_stack.specs.Figures.{Figures, box_corners, points_gone_on}
use Rattle.dc_stack.specs.GatheredPath.{WantsPieceCapacity, after_lists, path_in}
use Rattle.dc_stack.specs.MachineState.{IsUnchanged, MachineState, Plays, undrawn}
use Rattle.dc_stack.specs.Mapped.{mapped_box, mapped_corners, mapped_list, mapped_lists, mapped_point}
use Rattle.dc_stack.specs.Needs.{drawing_needs, greater_needs, needs_of, pieces_needed}
use Rattle.dc_stack.specs.Next.{end_of, next}
use Rattle.dc_stack.specs.OperationFault.{edges_fault, fault_of, nib_fault, off_plane_fault, place_fault, plain_fault, plane_points, points_drawn}
use Rattle.dc_stack.specs.Path.{Path, after_lines, after_polygons, after_polylines, finished_path, is_open, no_path, open_path, piece_count, piece_limit, pieces_fault, pieces_of_lines, points_if_open, unless_open}
use Rattle.dc_stack.specs.Pieces.{page_points, plane_lists, with_lists}
use Rattle.dc_stack.specs.State.{State, with_path, with_position}
use Rattle.dc_stack.specs.declared.draw.Painting.TheVariants.{Stroke, StrokeAndFill}
use Rattle.dc_stack.specs.declared.path.PathPhase.{PathPhase}
use Rattle.dc_stack.specs.declared.path.PathPhase.TheVariants.{NoPath, BetweenFigures, InFigure, Finished, Painted}
use Rattle.dc_stack.specs.declared.piece.Verb.{Verb}
use Rattle.dc_stack.specs.declared.piece.Verb.TheVariants.{GoesOn, Polylines, Polygons}
use Rattle.dc_stack.specs.declared.piece.Piece.{Piece}
use Rattle.dc_stack.specs.declared.piece.PiecePoints.{PiecePoints}
use Rattle.dc_stack.specs.declared.piece.PiecePoints.TheVariants.{Point as OnePoint, List as OneList, Lists, Corners}
use Rattle.dc_stack.proofs.FaultOrder.{or_none}
use Rattle.dc_stack.proofs.AdditionLemmas.{no_polygons, no_polylines, one_piece, some_mapped}
use Rattle.dc_stack.proofs.ListLemmas.{mapped_joined}

-- points of the page are some on the plane, and none are none
pub some_on_plane : (m : MapNumbers) (points : PiecePoints) → page_points points ≢ [] → points_of_lists (plane_lists m points) ≢ []
some_on_plane m (OnePoint point) h = λ e. cc
some_on_plane m (OneList points) h = λ e. some_mapped m (page_points (OneList points)) h (sym (mapped_joined m (points_of points ∷ [])) ∙ e)
some_on_plane m (Lists parted) h = λ e. some_mapped m (page_points (Lists parted)) h (sym (mapped_joined m (parts_of parted)) ∙ e)
some_on_plane m (Corners corners) h = λ e. cc

pub none_on_plane : (m : MapNumbers) (points : PiecePoints) → page_points points ≡ [] → points_of_lists (plane_lists m points) ≡ []
none_on_plane m (OnePoint point) h = cc
none_on_plane m (OneList points) h = mapped_joined m (points_of points ∷ []) ∙ ap (mapped_list m) h
none_on_plane m (Lists parted) h = mapped_joined m (parts_of parted) ∙ ap (mapped_list m) h
none_on_plane m (Corners corners) h = cc

-- without a point a path stays as it is
same_open : (f g : Figures) (n k : ℕ) → f ≡ g → k ≡ n → open_path f k ≡ open_path g n
same_open f g n k e h = rw (e, h) refl

pub nothing_gone_on : (start : Point) (path : Path) → after_lines start [] path ≡ path
nothing_gone_on start no_path = refl
nothing_gone_on start (open_path figures n) =
    same_open _ figures n (n + 0) (ap (λ (points : List Point). record { done = figures.done; current = points }) (append-nil figures.current)) (omega arith)
nothing_gone_on start (finished_path figures) = refl

unchanged_lists : (verb : Verb) (lists : List (List Point)) (f : Figures) → verb ≢ GoesOn → points_of_lists lists ≡ [] → with_lists verb lists f ≡ f
unchanged_lists GoesOn lists f own h = absurd (own refl)
unchanged_lists Polylines lists f own h = no_polylines lists f h
unchanged_lists Polygons lists f own h = no_polygons lists f h

pub nothing_listed : (verb : Verb) (lists : List (List Point)) (path : Path) → verb ≢ GoesOn → points_of_lists lists ≡ [] → after_lists verb lists path ≡ path
nothing_listed verb lists no_path own h = refl
nothing_listed verb lists (open_path figures n) own h =
    same_open (with_lists verb lists figures) figures n _ (unchanged_lists verb lists figures own h) (rw h (omega arith))
nothing_listed verb lists (finished_path figures) own h = refl

-- and has no fault
pub no_fault_of_none : (path : Path) (points : List Point) (s : Surface) → piece_count path ≤ piece_limit → points ≡ [] → option_or (pieces_fault (piece_count path)) (off_plane_fault points s) ≡ None
no_fault_of_none path points s few none = rw (le-leb (piece_count path) piece_limit few, none) refl

pub none_added : (start : Point) (points : List Point) (path : Path) → points ≡ [] → points_if_open path (λ figures. points_gone_on start figures.current points) ≡ []
none_added start points no_path h = refl
none_added start points (open_path figures n) h = rw h refl
none_added start points (finished_path figures) h = refl

-- with a point it has more pieces
pub lines_add : (start : Point) (points : List Point) (path : Path) → is_open path ≡ true → points ≢ [] → piece_count path < piece_count (after_lines start points path)
lines_add start points no_path at some = cc
lines_add start [] (open_path figures n) at some = absurd (some refl)
lines_add start (p ∷ ps) (open_path figures n) at some = by_current figures.current
  where
    by_current : (current : List Point) → n < n + pieces_of_lines current (p ∷ ps)
    by_current [] = omega arith
    by_current (q ∷ qs) = omega arith
lines_add start points (finished_path figures) at some = cc

pub lists_count : (verb : Verb) (lists : List (List Point)) (path : Path) → is_open path ≡ true → points_of_lists lists ≢ [] → piece_count (after_lists verb lists path) ≡ piece_count path + 1
lists_count verb lists no_path at some = cc
lists_count verb lists (open_path figures n) at some = ap (λ (k : ℕ). n + k) (one_piece (points_of_lists lists) some)
lists_count verb lists (finished_path figures) at some = cc

-- a refused addition, where room that is wanted is for pieces that are added
pub not_added : (after : Path) (first : Option RecordFault) (old new : MachineState) (fault : Fault) (Lacks : Type 0) → (option_map Record first ≡ Some fault) ⊎ WantsPieceCapacity first fault Lacks → (Lacks → old.capacity.pieces < piece_count after) → piece_count old.state.path < piece_count after → IsUnchanged old new → HasNotAdded after first old new fault
not_added after first old new fault Lacks answer lacks adds kept = record {
  rejected = elim answer [
    | inl e ↦ inl e
    | inr wants ↦ inr (record { no_fault = wants.no_fault; memory = wants.memory; lacks = (adds, lacks wants.lacks) })
  ];
  kept = kept;
}

-- the pieces of an open path are counted
pub pieces_counted : (phase : PathPhase) (pieces : List Piece) → is_open (path_in phase pieces) ≡ true → piece_count (path_in phase pieces) ≡ length pieces
pieces_counted NoPath pieces h = cc
pieces_counted BetweenFigures pieces h = refl
pieces_counted InFigure pieces h = refl
pieces_counted Finished pieces h = cc
pieces_counted Painted pieces h = cc

-- what is added to an open path in place of a drawing
module _ (path : Path) (at : is_open path ≡ true) where
  kept_points : (points : List Point) → points_if_open path (λ figures. points) ≡ points
  kept_points points = by_path path at
    where
      by_path : (p : Path) → is_open p ≡ true → points_if_open p (λ figures. points) ≡ points
      by_path no_path h = cc
      by_path (open_path figures n) h = refl
      by_path (finished_path figures) h = cc

  nothing_drawn : (drawing : Option Drawing) → unless_open path drawing ≡ None
  nothing_drawn drawing = rw at refl

  -- of a drawing that isn't made there are no points
  undrawn_points : (points : List Point) (drawing : Option Drawing) → points ++ points_drawn (unless_open path drawing) ≡ points
  undrawn_points points drawing = rw at (append-nil points)

  undrawn_fault : (count : ℕ) (points : List Point) (drawing : Option Drawing) (s : Surface) → option_or (option_or (pieces_fault count) (edges_fault (unless_open path drawing))) (option_or (off_plane_fault (points ++ points_drawn (unless_open path drawing)) s) (nib_fault (unless_open path drawing) s)) ≡ option_or (pieces_fault count) (off_plane_fault points s)
  undrawn_fault count points drawing s = rw (at, le-leb 0 edge_limit (omega arith), or_none (pieces_fault count), append-nil points, or_none (off_plane_fault points s)) refl

-- an operation that adds points is played
pub plays_added : (operation : Operation) (after : Path) (points : List Point) (position : Point) (old : MachineState) (result : Result (Option Rect) Fault) (new : MachineState) → next operation old.state ≡ with_position position (with_path after old.state) → needs_of operation old.state ≡ pieces_needed (piece_count after) → drawing_of operation old.state ≡ None → fault_of operation old.state old.surface ≡ adding_fault after points old.surface → plane_points operation old.state ≡ points → Adds after points position old result new → Plays operation old (undrawn result) new
plays_added operation after points position old (Ok extent) new state needs drawing fault placed h = record {
  stepped = record {
    no_fault = fault ∙ h.no_fault;
    state = h.state ∙ sym state;
    needs = h.needs ∙ ap (greater_needs old.needs) (sym needs);
  };
  drawn = sym drawing;
  placed = tt;
  nib = tt;
  extent = subst (IsExtent extent) (sym placed) h.extent;
  figures = λ (e : false ≡ true). cc;
}
plays_added operation after points position old (Err e) new state needs drawing fault placed h = record {
  rejected = elim h.rejected [
    | inl first ↦ inl (ap (option_map Record) fault ∙ first)
    | inr wants ↦ inr (record {
      no_fault = fault ∙ wants.no_fault;
      memory = wants.memory;
      lacks = inr (inr (record { adds = rw state wants.lacks.0; full = rw state wants.lacks.1 }));
    })
  ];
  kept = h.kept;
}

module _ (old new : MachineState) (at : is_open old.state.path ≡ true) (result : Result (Option Rect) Fault) where
  -- more pieces than a path may have, or more points than a drawing
  abbrev count_fault : Path → Option Drawing → Option RecordFault
  count_fault after drawing = option_or (pieces_fault (piece_count after)) (edges_fault (unless_open old.state.path drawing))

  -- points are added by the figures of the path
  pub plays_kept : (operation : Operation) (after : Path) (kept : Figures → List Point) (position : Point) (drawing : Option Drawing) → next operation old.state ≡ with_position position (with_path after old.state) → needs_of operation old.state ≡ drawing_needs operation old.state → drawing_of operation old.state ≡ unless_open old.state.path drawing → plain_fault operation old.state ≡ option_or (pieces_fault (piece_count (next operation old.state).path)) (edges_fault (drawing_of operation old.state)) → plane_points operation old.state ≡ points_if_open old.state.path kept ++ points_drawn (drawing_of operation old.state) → Adds after (points_if_open old.state.path kept) position old result new → Plays operation old (undrawn result) new
  plays_kept operation after kept position drawing next_is needs draws plain placed h =
      let points = points_if_open old.state.path kept in
      let none = draws ∙ nothing_drawn old.state.path at drawing in
      let count = ap (λ (s : State). piece_count s.path) next_is in
      plays_added operation after points position old result new next_is
      (needs ∙ rw (none, count) refl)
      none
      (ap (λ fault. option_or fault (place_fault operation old.state old.surface)) (plain ∙ rw (count, draws) refl)
      ∙ ap (λ ps. option_or (count_fault after drawing) (option_or (off_plane_fault ps old.surface) (nib_fault (drawing_of operation old.state) old.surface))) (placed ∙ rw draws refl)
      ∙ ap (λ d. option_or (count_fault after drawing) (option_or (off_plane_fault (points ++ points_drawn (unless_open old.state.path drawing)) old.surface) (nib_fault d old.surface))) draws
      ∙ undrawn_fault old.state.path at (piece_count after) points drawing old.surface)
      (placed ∙ rw draws (undrawn_points old.state.path at points drawing))
      h

  -- lines from the position through points, and lines to one
  pub plays_lines : (points : List Point) → AddsLines points (end_of old.state.dc.position points) old result new → Plays (polyline_to points) old (undrawn result) new
  plays_lines points h =
      let start = mapped_point old.state.dc.map old.state.dc.position in
      let through = mapped_list old.state.dc.map points in
      plays_kept (polyline_to points) (after_lines start through old.state.path) (λ figures. points_gone_on start figures.current through) (end_of old.state.dc.position points) (drawing_now (lines_mark points old.state) old.state)
      refl refl refl refl refl h

  pub plays_line : (point : Point) → AddsLines (point ∷ []) point old result new → Plays (line_to point) old (undrawn result) new
  plays_line point h =
      let start = mapped_point old.state.dc.map old.state.dc.position in
      let through = mapped_list old.state.dc.map (point ∷ []) in
      plays_kept (line_to point) (after_lines start through old.state.path) (λ figures. points_gone_on start figures.current through) point (drawing_now (lines_mark (point ∷ []) old.state) old.state)
      refl refl refl refl refl h

  -- lists, and the corners of a rectangle
  module _ (points : PiecePoints) (lists : List (List Point)) (plane : plane_lists old.state.dc.map points ≡ mapped_lists old.state.dc.map lists) (page : page_points points ≡ points_of_lists lists) where
    abbrev on_plane : List (List Point)
    on_plane = mapped_lists old.state.dc.map lists

    listed : points_if_open old.state.path (λ figures. points_of_lists on_plane) ≡ mapped_list old.state.dc.map (page_points points)
    listed = kept_points old.state.path at (points_of_lists on_plane) ∙ mapped_joined old.state.dc.map lists ∙ ap (mapped_list old.state.dc.map) (sym page)

    pub plays_polylines : AddsLists Polylines points old result new → Plays (polyline lists) old (undrawn result) new
    plays_polylines h =
        plays_kept (polyline lists) (after_polylines on_plane old.state.path) (λ figures. points_of_lists on_plane) old.state.dc.position (drawing_now (lists_mark Stroke lists old.state) old.state)
        refl refl refl refl refl (rw listed (rw plane at h))

    pub plays_polygons : AddsLists Polygons points old result new → Plays (polygon lists) old (undrawn result) new
    plays_polygons h =
        plays_kept (polygon lists) (after_polygons on_plane old.state.path) (λ figures. points_of_lists on_plane) old.state.dc.position (drawing_now (lists_mark StrokeAndFill lists old.state) old.state)
        refl refl refl refl refl (rw listed (rw plane at h))

  pub plays_rectangle : (corners : Rect) (edges : RectangleEdges) → AddsLists Polygons (Corners corners) old result new → Plays (rectangle corners edges) old (undrawn result) new
  plays_rectangle corners edges h =
      let map = old.state.dc.map in
      plays_kept (rectangle corners edges) (after_polygons (box_corners (mapped_box map corners) ∷ []) old.state.path) (λ figures. mapped_corners map corners) old.state.dc.position (drawing_now (rectangle_mark corners edges old.state) old.state)
      refl refl refl refl refl (rw (kept_points old.state.path at (mapped_corners map corners)) h)
