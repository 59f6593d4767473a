-- Drawings that are made, and operations that draw while no path is open.
use Rattle.std.proofs.Common.{◌≡◌, ℕ, suc, ◌<◌, ◌≤◌, Bool, true, false, cond, List, [], ◌∷◌, ◌++◌, length, Option, Some, None, Result, Ok, Err, inl, arith, refl, ap, subst, sym, ◌∙◌}
use Rattle.std.proofs.lemmas.Bool.{le-leb}
use Rattle.std.specs.Option.{option_map, option_or}
use Rattle.mapping.specs.PageMap.{map_numbers}
use Rattle.mapping.specs.Plane.{MapNumbers}
use Rattle.mapping.specs.declared.geometry.Point.{Point}
use Rattle.mapping.specs.declared.geometry.Rect.{Rect}
use Rattle.mapping.specs.declared.page_map.PageMap.{PageMap}
use Rattle.point_views.specs.Points.{points_of}
use Rattle.point_views.specs.declared.points.Points.{Points}
use Rattle.draw_ops.specs.Operation.{Operation, line_to, polygon, polyline, polyline_to, rectangle}
use Rattle.draw_ops.specs.declared.operation.RectangleEdges.{RectangleEdges}
use Rattle.draw_ops.specs.declared.fault.Fault.{Fault}
use Rattle.draw_ops.specs.declared.fault.Fault.TheVariants.{Record}
use Rattle.draw_ops.specs.declared.record_fault.RecordFault.{RecordFault}
use Rattle.dc_stack.specs.Drawing.{MarkValue, drawing_nib, drawing_now, drawing_of, edge_limit, going_on, is_stroked, lines_mark, lists_mark, lists_painted, mark_edges, mark_points, pen_width, points_of_lists, rectangle_mark, tools_of}
use Rattle.dc_stack.specs.Draws.{IsReady, borrows_path, mark_value_of, strokes}
use Rattle.dc_stack.specs.DrawsApart.{DrawsApart, DrawsHere, DrawsLines, HasNotDrawn, mark_fault}
use Rattle.dc_stack.specs.Extents.{IsExtent}
use Rattle.dc_stack.specs.Figures.{Figures, box_corners, points_gone_on, with_lines, with_polygons, with_polylines}
use Rattle.dc_stack.specs.MachineState.{IsUnchanged, MachineState, Outcome, Plays}
use Rattle.dc_stack.specs.Mapped.{mapped_box, mapped_corners, mapped_list, mapped_lists, mapped_point}
use Rattle.dc_stack.specs.Marking.{Marks, mark_nib}
use Rattle.dc_stack.specs.Needs.{drawing_needs, greater_needs, needs_of, points_needed}
use Rattle.dc_stack.specs.Next.{end_of, next}
use Rattle.dc_stack.specs.OperationFault.{edges_fault, fault_of, nib_fault, off_plane_fault, plain_fault, plane_points, points_drawn, points_fault, wide_fault}
use Rattle.dc_stack.specs.Path.{Path, finished_path, is_open, no_path, open_path, piece_count, piece_for, piece_limit, pieces_fault, pieces_of_lines, points_if_open, unless_open, with_figures}
use Rattle.dc_stack.specs.Placing.{plane_list}
use Rattle.dc_stack.specs.State.{State, with_path, with_position}
use Rattle.dc_stack.specs.declared.draw.FigurePoints.TheVariants.{Through}
use Rattle.dc_stack.specs.declared.draw.Mark.{Mark}
use Rattle.dc_stack.specs.declared.draw.Mark.TheVariants.{Blit, Dot, Figures as FiguresMark, Line, Rectangle}
use Rattle.dc_stack.specs.declared.draw.Painting.{Painting}
use Rattle.dc_stack.specs.declared.draw.Painting.TheVariants.{Stroke, StrokeAndFill}
use Rattle.dc_stack.specs.declared.piece.Piece.{Piece}
use Rattle.mapping.specs.Nibs.{nib_from, nib_of}
use Rattle.mapping.specs.Surface.{Surface}
use Rattle.dc_stack.proofs.FaultOrder.{none_of_both, points_first}
use Rattle.dc_stack.proofs.LandingLemmas.{all_land}
use Rattle.dc_stack.proofs.ListLemmas.{points_listed, through, through_count, through_joined}
use Rattle.dc_stack.proofs.PlaneBoxLemmas.{least_of_extent}

-- a mark of the code is stroked where its value is
strokes_value : (pieces : List Piece) (mark : Mark) → strokes mark ≡ is_stroked (mark_value_of pieces mark)
strokes_value pieces (Dot at colour) = refl
strokes_value pieces (Line from to) = refl
strokes_value pieces (FiguresMark painting points) = refl
strokes_value pieces (Rectangle first second edges) = refl
strokes_value pieces (Blit blit) = refl

-- so its nib is that of the drawing
pub nib_of_mark :
    (pieces : List Piece) (mark : Mark) (value : MarkValue) (m : MachineState) (s : Surface) → mark_value_of pieces mark ≡ value
    → mark_nib mark m s ≡ drawing_nib (record { mark = value; tools = tools_of m.state.dc }) s
nib_of_mark pieces mark value m s valued =
    ap (λ (b : Bool). nib_of (cond b (pen_width m.state.dc.selected.pen.object) 0) m.state.dc.map s)
    (strokes_value pieces mark ∙ ap is_stroked valued)

-- a mark that isn't of a path, the box of whose points is known
module _ (mark : Mark) (value : MarkValue) (extent : Option Rect) (edges : ℕ) (valued : (pieces : List Piece) → mark_value_of pieces mark ≡ value) (apart : borrows_path mark ≡ false) (counted : edges ≡ mark_edges value) (few : edges ≤ edge_limit) (boxed : IsExtent extent (mark_points value)) where
  few_edges : mark_edges value ≤ edge_limit
  few_edges = subst (λ n. n ≤ edge_limit) counted few

  -- neither its points nor its nib have a fault
  fault_then : (m : MachineState) → mark_fault value m.state m.surface ≡ option_or (off_plane_fault (mark_points value) m.surface) (wide_fault (mark_nib mark m m.surface))
  fault_then m =
      rw (le-leb (mark_edges value) edge_limit few_edges)
      (ap (λ nib. option_or (off_plane_fault (mark_points value) m.surface) (wide_fault nib)) (sym (nib_of_mark [] mark value m m.surface (valued []))))

  pub draws_marked : (old new : MachineState) (result : Result Outcome Fault) → IsReady old.surface new.painted mark → Marks mark extent edges old result new → DrawsApart value old.state.dc.position old result new
  draws_marked old new (Ok reported) ready h =
      let points = mark_points value in
      rw h.reports (record {
        no_fault = fault_then old ∙ none_of_both (off_plane_fault points old.surface) (wide_fault (mark_nib mark old old.surface)) (sym (h.lands points boxed)) (rw (nib_from (mark_nib mark old old.surface) h.allowed) refl);
        state = h.state;
        needs = h.needs ∙ ap (λ n. greater_needs old.needs (points_needed n)) counted;
        drawn = rw (valued new.painted, h.state) refl;
        placed = record {
          ready = ready;
          counted = rw (valued new.painted) counted;
          least = rw (valued new.painted) (least_of_extent extent points boxed);
          within = rw (valued new.painted) (all_land old.surface points (h.lands points boxed));
          few = rw (valued new.painted) few_edges;
        };
        nib = record {
          is = rw h.state (nib_of_mark new.painted mark (mark_value_of new.painted mark) old old.surface refl);
          allowed = h.allowed;
        };
        apart = apart;
        extent = boxed;
      })
  draws_marked old new (Err fault) ready h = record {
    rejected = ap (option_map Record) (fault_then old) ∙ h.rejected (mark_points value) boxed;
    kept = h.kept;
  }

-- so is a figure from a point through others
pub draws_through : (map : PageMap) (start from : Point) (points : Points) (extent : Option Rect) (count : ℕ) (old new : MachineState) (result : Result Outcome Fault) → 0 < length (points_of points) → from ≡ mapped_point (map_numbers map) start → count ≡ suc (length (points_of points)) → count ≤ edge_limit → IsExtent extent (plane_list map (start ∷ points_of points)) → Marks (FiguresMark Stroke (Through from points map)) extent count old result new → DrawsApart (lists_painted Stroke (mapped_lists (map_numbers map) (going_on start (points_of points)))) old.state.dc.position old result new
draws_through map start from points extent count old new result some at counted few boxed h =
    let m = map_numbers map in
    let through_points = points_of points in
    let lists = mapped_lists m (going_on start through_points) in
    let same : from ∷ mapped_list m through_points ≡ mapped_list m (start ∷ through_points) = ap (λ p. p ∷ mapped_list m through_points) at in
    let one = ap (λ list. list ∷ []) same ∙ sym (through m start through_points some) in
    let listed = points_listed lists in
    draws_marked (FiguresMark Stroke (Through from points map)) (lists_painted Stroke lists) extent count (λ pieces. ap (lists_painted Stroke) one) refl
    (counted ∙ through_count m start through_points some ∙ sym (ap length listed)) few
    (subst (IsExtent extent) (sym (listed ∙ through_joined m start through_points some)) boxed) old new result tt h

-- a mark isn't drawn whose points have a fault
rejects_points : (mark : MarkValue) (old new : MachineState) (fault : RecordFault) → option_or (edges_fault (drawing_now mark old.state)) (off_plane_fault (mark_points mark) old.surface) ≡ Some fault → IsUnchanged old new → HasNotDrawn mark old new (Record fault)
rejects_points mark old new fault found unchanged =
    let drawing = drawing_now mark old.state in
    record {
      rejected = ap (option_map Record) (points_first fault (edges_fault drawing) (off_plane_fault (mark_points mark) old.surface) (nib_fault drawing old.surface) found);
      kept = unchanged;
    }

pub rejects_off : (mark : MarkValue) (old new : MachineState) (fault : RecordFault) → mark_edges mark ≤ edge_limit → Some fault ≡ off_plane_fault (mark_points mark) old.surface → IsUnchanged old new → HasNotDrawn mark old new (Record fault)
rejects_off mark old new fault few off = rejects_points mark old new fault (rw (le-leb (mark_edges mark) edge_limit few) (sym off))

pub rejects_lists : (painting : Painting) (lists : List (List Point)) (old new : MachineState) (fault : RecordFault) → points_fault (points_of_lists lists) old.surface ≡ Some fault → IsUnchanged old new → HasNotDrawn (lists_painted painting lists) old new (Record fault)
rejects_lists painting lists old new fault h =
    rejects_points (lists_painted painting lists) old new fault (ap (λ ps. points_fault ps old.surface) (points_listed lists) ∙ h)

-- an operation that draws a mark, and moves the position at most
module _ (operation : Operation) (mark : MarkValue) (position : Point) (old new : MachineState) (after : next operation old.state ≡ with_position position old.state) (needed : needs_of operation old.state ≡ points_needed (mark_edges mark)) (drawing : drawing_of operation old.state ≡ drawing_now mark old.state) (fault : fault_of operation old.state old.surface ≡ mark_fault mark old.state old.surface) (points : plane_points operation old.state ≡ mark_points mark) where
  pub plays_drawn : (result : Result Outcome Fault) → DrawsApart mark position old result new → Plays operation old result new
  plays_drawn (Ok reported) h = record {
    stepped = record {
      no_fault = fault ∙ h.no_fault;
      state = h.state ∙ sym after;
      needs = h.needs ∙ ap (greater_needs old.needs) (sym needed);
    };
    drawn = h.drawn ∙ sym drawing;
    placed = h.placed;
    nib = h.nib;
    extent = subst (IsExtent reported.extent) (sym points) h.extent;
    figures = λ e. absurd (no_path_painted (sym e ∙ h.apart));
  }
    where
      no_path_painted : true ≡ false → ⊥
      no_path_painted e = cc
  plays_drawn (Err found) h = record { rejected = inl (ap (option_map Record) fault ∙ h.rejected); kept = h.kept }

-- a path that isn't open stays as it is, and nothing is added to it
stays_closed : (path : Path) → is_open path ≡ false → (change : Figures → Figures) (more : Figures → ℕ) → with_figures change more path ≡ path
stays_closed no_path h change more = refl
stays_closed (open_path figures n) h change more = cc
stays_closed (finished_path figures) h change more = refl

none_if_closed : (path : Path) → is_open path ≡ false → (kept : Figures → List Point) → points_if_open path kept ≡ []
none_if_closed no_path h kept = refl
none_if_closed (open_path figures n) h kept = cc
none_if_closed (finished_path figures) h kept = refl

uncounted : (path : Path) → is_open path ≡ false → piece_count path ≡ 0
uncounted no_path h = refl
uncounted (open_path figures n) h = cc
uncounted (finished_path figures) h = refl

-- an operation that draws a mark where no path is open, and adds to an open one
module _ (operation : Operation) (mark : MarkValue) (position : Point) (old new : MachineState) (closed : is_open old.state.path ≡ false) (change : Figures → Figures) (more : Figures → ℕ) (kept : Figures → List Point) (after : next operation old.state ≡ with_position position (with_path (with_figures change more old.state.path) old.state)) (needed : needs_of operation old.state ≡ drawing_needs operation old.state) (drawing : drawing_of operation old.state ≡ unless_open old.state.path (drawing_now mark old.state)) (plain : plain_fault operation old.state ≡ option_or (pieces_fault (piece_count (next operation old.state).path)) (edges_fault (drawing_of operation old.state))) (points : plane_points operation old.state ≡ points_if_open old.state.path kept ++ points_drawn (drawing_of operation old.state)) where
  next_closed : next operation old.state ≡ with_position position old.state
  next_closed = after ∙ ap (λ path. with_position position (with_path path old.state)) (stays_closed old.state.path closed change more)

  drawing_closed : drawing_of operation old.state ≡ drawing_now mark old.state
  drawing_closed = drawing ∙ ap (λ (b : Bool). cond b None (drawing_now mark old.state)) closed

  count_closed : piece_count (next operation old.state).path ≡ 0
  count_closed = ap (λ (state : State). piece_count state.path) next_closed ∙ uncounted old.state.path closed

  needs_closed : needs_of operation old.state ≡ points_needed (mark_edges mark)
  needs_closed = needed ∙ rw (drawing_closed, count_closed) refl

  points_closed : plane_points operation old.state ≡ mark_points mark
  points_closed = points ∙ rw (none_if_closed old.state.path closed kept, drawing_closed) refl

  fault_closed : fault_of operation old.state old.surface ≡ mark_fault mark old.state old.surface
  fault_closed = rw (points_closed, plain, count_closed, le-leb 0 piece_limit (omega arith), drawing_closed) refl

  pub plays_closed : (result : Result Outcome Fault) → DrawsApart mark position old result new → Plays operation old result new
  plays_closed = plays_drawn operation mark position old new next_closed needs_closed drawing_closed fault_closed points_closed

-- operations that draw so
module _ (old new : MachineState) (closed : is_open old.state.path ≡ false) (result : Result Outcome Fault) where
  abbrev map : MapNumbers
  map = old.state.dc.map

  pub plays_lines_apart : (points : List Point) → DrawsLines points old result new → Plays (polyline_to points) old result new
  plays_lines_apart points =
      let start = mapped_point map old.state.dc.position in
      let through = mapped_list map points in
      plays_closed (polyline_to points) (lines_mark points old.state) (end_of old.state.dc.position points) old new closed (with_lines start through) (λ figures. pieces_of_lines figures.current through) (λ figures. points_gone_on start figures.current through) refl refl refl refl refl result

  pub plays_line_apart : (point : Point) → DrawsLines (point ∷ []) old result new → Plays (line_to point) old result new
  plays_line_apart point =
      let start = mapped_point map old.state.dc.position in
      let through = mapped_list map (point ∷ []) in
      plays_closed (line_to point) (lines_mark (point ∷ []) old.state) (end_of old.state.dc.position (point ∷ [])) old new closed (with_lines start through) (λ figures. pieces_of_lines figures.current through) (λ figures. points_gone_on start figures.current through) refl refl refl refl refl result

  pub plays_rectangle_apart : (corners : Rect) (edges : RectangleEdges) → DrawsHere (rectangle_mark corners edges) old result new → Plays (rectangle corners edges) old result new
  plays_rectangle_apart corners edges =
      let lists = box_corners (mapped_box map corners) ∷ [] in
      plays_closed (rectangle corners edges) (rectangle_mark corners edges old.state) old.state.dc.position old new closed (with_polygons lists) (λ figures. piece_for (points_of_lists lists)) (λ figures. mapped_corners map corners) refl refl refl refl refl result

  pub plays_polylines_apart : (lists : List (List Point)) → DrawsHere (lists_mark Stroke lists) old result new → Plays (polyline lists) old result new
  plays_polylines_apart lists =
      let on_plane = mapped_lists map lists in
      plays_closed (polyline lists) (lists_mark Stroke lists old.state) old.state.dc.position old new closed (with_polylines on_plane) (λ figures. piece_for (points_of_lists on_plane)) (λ figures. points_of_lists on_plane) refl refl refl refl refl result

  pub plays_polygons_apart : (lists : List (List Point)) → DrawsHere (lists_mark StrokeAndFill lists) old result new → Plays (polygon lists) old result new
  plays_polygons_apart lists =
      let on_plane = mapped_lists map lists in
      plays_closed (polygon lists) (lists_mark StrokeAndFill lists old.state) old.state.dc.position old new closed (with_polygons on_plane) (λ figures. piece_for (points_of_lists on_plane)) (λ figures. points_of_lists on_plane) refl refl refl refl refl result
