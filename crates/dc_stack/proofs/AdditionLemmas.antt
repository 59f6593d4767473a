-- What pieces that are added do to an open path.
use Rattle.std.proofs.Common.{◌≡◌, ◌≢◌, ◌⊎◌, ℕ, ◌+◌, ◌<◌, ◌≤◌, true, List, [], ◌∷◌, ◌++◌, length, Option, Result, Ok, Err, inl, inr, arith, refl, ap, subst, sym, ◌∙◌}
use Rattle.draw_ops.specs.declared.fault.Fault.TheVariants.{Record}
use Rattle.std.specs.Prelude.{OnOk}
use Rattle.std.specs.Option.{option_map}
use Rattle.std.proofs.lemmas.List.{append_assoc, length-append}
use Rattle.mapping.specs.PageMap.{map_numbers}
use Rattle.mapping.specs.Plane.{MapNumbers}
use Rattle.mapping.specs.Surface.{Surface}
use Rattle.mapping.specs.declared.geometry.Point.{Point}
use Rattle.mapping.specs.declared.geometry.Rect.{Rect}
use Rattle.mapping.specs.declared.page_map.PageMap.{PageMap}
use Rattle.draw_ops.specs.declared.fault.Fault.{Fault}
use Rattle.draw_ops.specs.declared.record_fault.RecordFault.{RecordFault}
use Rattle.dc_stack.specs.Drawing.{points_of_lists}
use Rattle.dc_stack.specs.Extents.{IsExtent}
use Rattle.dc_stack.specs.Figures.{Figures, no_figures, points_gone_on, with_polygon, with_polygons, with_polyline, with_polylines}
use Rattle.dc_stack.specs.GatheredPath.{AnswersAddition, IsGathered, after_lists, is_open_phase, open_piece, path_in, path_of, phase_after}
use Rattle.dc_stack.specs.Mapped.{mapped_list, mapped_point}
use Rattle.dc_stack.specs.OperationFault.{addition_fault}
use Rattle.dc_stack.specs.Path.{Path, after_lines, open_path, piece_count, piece_for, piece_limit, pieces_of_lines, points_if_open}
use Rattle.dc_stack.specs.Pieces.{figures_of, gone_on, page_points, plane_lists, with_end, with_lists, with_piece}
use Rattle.dc_stack.specs.declared.piece.FigureEnd.{FigureEnd}
use Rattle.dc_stack.specs.declared.piece.FigureEnd.TheVariants.{Open}
use Rattle.dc_stack.specs.declared.path.GatheredPath.{GatheredPath}
use Rattle.dc_stack.specs.declared.path.PathPhase.{PathPhase}
use Rattle.dc_stack.specs.declared.path.PathPhase.TheVariants.{NoPath, BetweenFigures, InFigure, Finished, Painted}
use Rattle.dc_stack.specs.declared.piece.Verb.{Verb}
use Rattle.dc_stack.specs.declared.piece.Verb.TheVariants.{GoesOn, Polylines, Polygons}
use Rattle.dc_stack.specs.declared.piece.Piece.{Piece}
use Rattle.dc_stack.specs.declared.piece.PiecePoints.{PiecePoints}
use Rattle.dc_stack.specs.declared.piece.PiecePoints.TheVariants.{Point as OnePoint}
use Rattle.dc_stack.proofs.FigureLemmas.{piece_after}

-- what follows from two facts of an accepted answer
pub of_ok : {T E A B C : Type 0} (r : Result T E) → (A → B → C) → OnOk r A → OnOk r B → OnOk r C
of_ok (Ok x) f a b = f a b
of_ok (Err e) f a b = tt

pub of_three : {T E A B C D : Type 0} (r : Result T E) → (A → B → C → D) → OnOk r A → OnOk r B → OnOk r C → OnOk r D
of_three (Ok x) f a b c = f a b c
of_three (Err e) f a b c = tt

-- the same points, the same fault and the same want of room are the same answer
pub same_answer : (r : Result (Option Rect) Fault) (ps qs : List Point) (f g : Option RecordFault) (L M : Type 0) → ps ≡ qs → f ≡ g → (L → M) → AnswersAddition r ps f L → AnswersAddition r qs g M
same_answer (Ok extent) ps qs f g L M same e lacks h = record { no_fault = sym e ∙ h.no_fault; extent = subst (IsExtent extent) same h.extent }
same_answer (Err fault) ps qs f g L M same e lacks h = elim h [
  | inl first ↦ inl (ap (option_map Record) (sym e) ∙ first)
  | inr wants ↦ inr (record { no_fault = sym e ∙ wants.no_fault; memory = wants.memory; lacks = lacks wants.lacks })
]

-- an open path, by its phase
pub opened : (phase : PathPhase) (pieces : List Piece) → is_open_phase phase ≡ true → path_in phase pieces ≡ open_path (figures_of pieces) (length pieces)
opened NoPath pieces h = cc
opened BetweenFigures pieces h = refl
opened InFigure pieces h = refl
opened Finished pieces h = cc
opened Painted pieces h = cc

pub stays_open : (verb : Verb) → is_open_phase (phase_after verb) ≡ true
stays_open GoesOn = refl
stays_open Polylines = refl
stays_open Polygons = refl

-- points of the page are some on the plane
pub some_mapped : (m : MapNumbers) (points : List Point) → points ≢ [] → mapped_list m points ≢ []
some_mapped m [] h = λ e. h refl
some_mapped m (p ∷ ps) h = λ e. cc

-- lists without a point in all of them add nothing
first_empty : (list rest : List Point) → list ++ rest ≡ [] → list ≡ []
first_empty [] rest h = refl
first_empty (p ∷ ps) rest h = cc

rest_empty : (list rest : List Point) → list ++ rest ≡ [] → rest ≡ []
rest_empty [] rest h = h
rest_empty (p ∷ ps) rest h = cc

no_polyline : (list : List Point) (f : Figures) → list ≡ [] → with_polyline list f ≡ f
no_polyline [] f h = refl
no_polyline (p ∷ ps) f h = cc

no_polygon : (list : List Point) (f : Figures) → list ≡ [] → with_polygon list f ≡ f
no_polygon [] f h = refl
no_polygon (p ∷ ps) f h = cc

pub no_polylines : (lists : List (List Point)) (f : Figures) → points_of_lists lists ≡ [] → with_polylines lists f ≡ f
no_polylines [] f h = refl
no_polylines (list ∷ lists) f h =
    ap (with_polylines lists) (no_polyline list f (first_empty list (points_of_lists lists) h)) ∙ no_polylines lists f (rest_empty list (points_of_lists lists) h)

pub no_polygons : (lists : List (List Point)) (f : Figures) → points_of_lists lists ≡ [] → with_polygons lists f ≡ f
no_polygons [] f h = refl
no_polygons (list ∷ lists) f h =
    ap (with_polygons lists) (no_polygon list f (first_empty list (points_of_lists lists) h)) ∙ no_polygons lists f (rest_empty list (points_of_lists lists) h)

-- there are points, or none
some_or_none : (points : List Point) → (points ≡ []) ⊎ (points ≢ [])
some_or_none [] = inl refl
some_or_none (p ∷ ps) = inr (λ e. cc)

-- behind polylines with a point a figure is open
polyline_opens : (list : List Point) (f : Figures) → list ≢ [] → (with_polyline list f).current ≢ []
polyline_opens [] f h = λ e. h refl
polyline_opens (p ∷ ps) f h = λ e. cc

list_has : (list rest : List Point) → list ++ rest ≢ [] → rest ≡ [] → list ≢ []
list_has list rest h none = λ e. h (ap (λ (ps : List Point). ps ++ rest) e ∙ none)

polylines_open : (lists : List (List Point)) (f : Figures) → points_of_lists lists ≢ [] → (with_polylines lists f).current ≢ []
polylines_open [] f h = λ e. h refl
polylines_open (list ∷ lists) f h = elim (some_or_none (points_of_lists lists)) [
  | inl none ↦
      let opens = polyline_opens list f (list_has list (points_of_lists lists) h none) in
      subst (λ (g : Figures). g.current ≢ []) (sym (no_polylines lists (with_polyline list f) none)) opens
  | inr some ↦ polylines_open lists (with_polyline list f) some
]

-- and behind polygons none is
polygon_closes : (list : List Point) (f : Figures) → list ≢ [] → (with_polygon list f).current ≡ []
polygon_closes [] f h = absurd (h refl)
polygon_closes (p ∷ ps) f h = refl

polygons_close : (lists : List (List Point)) (f : Figures) → points_of_lists lists ≢ [] → (with_polygons lists f).current ≡ []
polygons_close [] f h = absurd (h refl)
polygons_close (list ∷ lists) f h = elim (some_or_none (points_of_lists lists)) [
  | inl none ↦
      ap (λ (g : Figures). g.current) (no_polygons lists (with_polygon list f) none)
      ∙ polygon_closes list f (list_has list (points_of_lists lists) h none)
  | inr some ↦ polygons_close lists (with_polygon list f) some
]

-- a figure that goes on has points
goes_on_open : (points : List Point) (f : Figures) → points ≢ [] → (gone_on points f).current ≢ []
goes_on_open points f h = λ e. h (rest_empty f.current points e)

pub leaves_open : (verb : Verb) (lists : List (List Point)) (f : Figures) → points_of_lists lists ≢ [] → phase_after verb ≡ InFigure → (with_lists verb lists f).current ≢ []
leaves_open GoesOn lists f h e = goes_on_open (points_of_lists lists) f h
leaves_open Polylines lists f h e = polylines_open lists f h
leaves_open Polygons lists f h e = cc

pub leaves_none : (verb : Verb) (lists : List (List Point)) (f : Figures) → points_of_lists lists ≢ [] → phase_after verb ≡ BetweenFigures → (with_lists verb lists f).current ≡ []
leaves_none GoesOn lists f h e = cc
leaves_none Polylines lists f h e = cc
leaves_none Polygons lists f h e = polygons_close lists f h

-- points are one piece
pub one_piece : (points : List Point) → points ≢ [] → piece_for points ≡ 1
one_piece [] h = absurd (h refl)
one_piece (p ∷ ps) h = refl

-- lines through points, of which there is one, from a position
module _ (start : Point) (ps : List Point) (some : ps ≢ []) where
  going_on : (current : List Point) → current ≢ [] → points_gone_on start current ps ≡ ps
  going_on current h = by_points current ps h some
    where
      by_points : (qs rs : List Point) → qs ≢ [] → rs ≢ [] → points_gone_on start qs rs ≡ rs
      by_points [] rs h k = absurd (h refl)
      by_points (q ∷ qs) [] h k = absurd (k refl)
      by_points (q ∷ qs) (r ∷ rs) h k = refl

  one_more : (current : List Point) → current ≢ [] → pieces_of_lines current ps ≡ 1
  one_more current h = by_points current ps h some
    where
      by_points : (qs rs : List Point) → qs ≢ [] → rs ≢ [] → pieces_of_lines qs rs ≡ 1
      by_points [] rs h k = absurd (h refl)
      by_points (q ∷ qs) [] h k = absurd (k refl)
      by_points (q ∷ qs) (r ∷ rs) h k = refl

  beginning : (current : List Point) → current ≡ [] → points_gone_on start current ps ≡ start ∷ ps
  beginning current h = ap (λ (qs : List Point). points_gone_on start qs ps) h ∙ by_points ps some
    where
      by_points : (rs : List Point) → rs ≢ [] → points_gone_on start [] rs ≡ start ∷ rs
      by_points [] k = absurd (k refl)
      by_points (r ∷ rs) k = refl

  two_more : (current : List Point) → current ≡ [] → pieces_of_lines current ps ≡ 2
  two_more current h = ap (λ (qs : List Point). pieces_of_lines qs ps) h ∙ by_points ps some
    where
      by_points : (rs : List Point) → rs ≢ [] → pieces_of_lines [] rs ≡ 2
      by_points [] k = absurd (k refl)
      by_points (r ∷ rs) k = refl

  -- what they do to an open path: they go on with its open figure, or begin one
  module _ (path : Path) (f : Figures) (n : ℕ) (at : path ≡ open_path f n) where
    pub path_gone_on : f.current ≢ [] → after_lines start ps path ≡ open_path (gone_on ps f) (n + 1)
    path_gone_on h = ap (after_lines start ps) at ∙ rw (going_on f.current h, one_more f.current h) refl

    pub path_begun : f.current ≡ [] → after_lines start ps path ≡ open_path (gone_on ps (gone_on (start ∷ []) f)) (n + 2)
    path_begun h =
        ap (after_lines start ps) at
        ∙ rw (beginning f.current h, two_more f.current h, append_assoc f.current (start ∷ []) ps) refl

    -- which points they add
    pub points_gone : f.current ≢ [] → ps ≡ points_if_open path (λ figures. points_gone_on start figures.current ps)
    points_gone h = rw (at, going_on f.current h) refl

    pub points_begun : f.current ≡ [] → start ∷ ps ≡ points_if_open path (λ figures. points_gone_on start figures.current ps)
    points_begun h = rw (at, beginning f.current h) refl

    -- and the first fault
    pub fault_gone_on : (s : Surface) → f.current ≢ [] → addition_fault (n + 1) ps s ≡ addition_fault (piece_count (after_lines start ps path)) (points_if_open path (λ figures. points_gone_on start figures.current ps)) s
    fault_gone_on s h = rw (path_gone_on h, at, going_on f.current h) refl

    pub fault_begun : (s : Surface) → f.current ≡ [] → addition_fault (n + 2) (start ∷ ps) s ≡ addition_fault (piece_count (after_lines start ps path)) (points_if_open path (λ figures. points_gone_on start figures.current ps)) s
    fault_begun s h = rw (path_begun h, at, beginning f.current h) refl

    pub count_gone_on : f.current ≢ [] → piece_count (after_lines start ps path) ≡ n + 1
    count_gone_on h = ap piece_count (path_gone_on h)

    pub count_begun : f.current ≡ [] → piece_count (after_lines start ps path) ≡ n + 2
    count_begun h = ap piece_count (path_begun h)

-- a piece more
pub one_longer : (pieces : List Piece) (piece : Piece) → length (pieces ++ piece ∷ []) ≡ length pieces + 1
one_longer pieces piece = length-append pieces (piece ∷ [])

pub figures_after : (pieces : List Piece) (piece : Piece) → figures_of (pieces ++ piece ∷ []) ≡ with_piece piece (figures_of pieces)
figures_after pieces piece = piece_after pieces piece no_figures

-- a path with a piece of lists more
module _ (old new : GatheredPath) (piece : Piece) (items : new.pieces.items ≡ old.pieces.items ++ piece ∷ []) (phase : new.phase ≡ phase_after piece.verb) (some : points_of_lists (plane_lists (map_numbers piece.map) piece.points) ≢ []) (stays : piece.end ≡ Open) where
  pub figures_with : figures_of new.pieces.items ≡ with_lists piece.verb (plane_lists (map_numbers piece.map) piece.points) (figures_of old.pieces.items)
  figures_with =
      ap figures_of items ∙ figures_after old.pieces.items piece
      ∙ ap (λ (end : FigureEnd). with_end end (with_lists piece.verb (plane_lists (map_numbers piece.map) piece.points) (figures_of old.pieces.items))) stays

  pub count_with : length new.pieces.items ≡ length old.pieces.items + 1
  count_with = ap length items ∙ one_longer old.pieces.items piece

  pub path_now : path_of new ≡ open_path (with_lists piece.verb (plane_lists (map_numbers piece.map) piece.points) (figures_of old.pieces.items)) (length old.pieces.items + 1)
  path_now =
      opened new.phase new.pieces.items (ap is_open_phase phase ∙ stays_open piece.verb)
      ∙ ap (λ (f : Figures). open_path f (length new.pieces.items)) figures_with
      ∙ ap (λ (n : ℕ). open_path (with_lists piece.verb (plane_lists (map_numbers piece.map) piece.points) (figures_of old.pieces.items)) n) count_with

  pub path_with : is_open_phase old.phase ≡ true → path_of new ≡ after_lists piece.verb (plane_lists (map_numbers piece.map) piece.points) (path_of old)
  path_with begun =
      let lists = plane_lists (map_numbers piece.map) piece.points in
      path_now
      ∙ ap (λ (n : ℕ). open_path (with_lists piece.verb lists (figures_of old.pieces.items)) (length old.pieces.items + n)) (sym (one_piece (points_of_lists lists) some))
      ∙ ap (after_lists piece.verb lists) (sym (opened old.phase old.pieces.items begun))

  pub gathered_with : length new.pieces.items ≤ piece_limit → IsGathered new
  gathered_with few =
      let lists = plane_lists (map_numbers piece.map) piece.points in
      record {
        between = λ e. ap (λ (f : Figures). f.current) figures_with ∙ leaves_none piece.verb lists (figures_of old.pieces.items) some (sym phase ∙ e);
        within = λ e. subst (λ (f : Figures). f.current ≢ []) (sym figures_with) (leaves_open piece.verb lists (figures_of old.pieces.items) some (sym phase ∙ e));
        few = few;
      }

-- lines through points of the page, of which there is one
module _ (old new : GatheredPath) (start : Point) (points : PiecePoints) (map : PageMap) (some : page_points points ≢ []) (same : points_of_lists (plane_lists (map_numbers map) points) ≡ mapped_list (map_numbers map) (page_points points)) (whole : IsGathered old) where
  abbrev through : List Point
  through = mapped_list (map_numbers map) (page_points points)

  abbrev before : Figures
  before = figures_of old.pieces.items

  abbrev count : ℕ
  count = length old.pieces.items

  abbrev added : List Point
  added = points_if_open (path_of old) (λ figures. points_gone_on start figures.current through)

  some_through : through ≢ []
  some_through = some_mapped (map_numbers map) (page_points points) some

  some_joined : points_of_lists (plane_lists (map_numbers map) points) ≢ []
  some_joined = λ e. some_through (sym same ∙ e)

  within : old.phase ≡ InFigure → path_of old ≡ open_path before count
  within at = opened old.phase old.pieces.items (ap is_open_phase at)

  between : old.phase ≡ BetweenFigures → path_of old ≡ open_path before count
  between at = opened old.phase old.pieces.items (ap is_open_phase at)

  -- in a figure they are one piece
  module _ (at : old.phase ≡ InFigure) where
    pub answer_within : (r : Result (Option Rect) Fault) (s : Surface) (capacity : ℕ) → AnswersAddition r through (addition_fault (count + 1) through s) (capacity < count + 1) → AnswersAddition r added (addition_fault (piece_count (after_lines start through (path_of old))) added s) (capacity < piece_count (after_lines start through (path_of old)))
    answer_within r s capacity h =
        same_answer r _ _ _ _ _ _ (points_gone start through some_through (path_of old) before count (within at) (whole.within at)) (fault_gone_on start through some_through (path_of old) before count (within at) s (whole.within at))
        (λ (lacks : capacity < count + 1). subst (λ (n : ℕ). capacity < n) (sym (count_gone_on start through some_through (path_of old) before count (within at) (whole.within at))) lacks) h

    module _ (items : new.pieces.items ≡ old.pieces.items ++ open_piece points map GoesOn ∷ []) (phase : new.phase ≡ InFigure) where
      pub path_within : path_of new ≡ after_lines start through (path_of old)
      path_within =
          path_now old new (open_piece points map GoesOn) items phase some_joined refl
          ∙ ap (λ (ps : List Point). open_path (gone_on ps before) (count + 1)) same
          ∙ sym (path_gone_on start through some_through (path_of old) before count (within at) (whole.within at))

      pub gathered_within : length new.pieces.items ≤ piece_limit → IsGathered new
      gathered_within few = gathered_with old new (open_piece points map GoesOn) items phase some_joined refl few

  -- and where none is open, two
  module _ (at : old.phase ≡ BetweenFigures) where
    pub answer_between : (r : Result (Option Rect) Fault) (s : Surface) (capacity : ℕ) → AnswersAddition r (start ∷ through) (addition_fault (count + 2) (start ∷ through) s) (capacity < count + 2) → AnswersAddition r added (addition_fault (piece_count (after_lines start through (path_of old))) added s) (capacity < piece_count (after_lines start through (path_of old)))
    answer_between r s capacity h =
        same_answer r _ _ _ _ _ _ (points_begun start through some_through (path_of old) before count (between at) (whole.between at)) (fault_begun start through some_through (path_of old) before count (between at) s (whole.between at))
        (λ (lacks : capacity < count + 2). subst (λ (n : ℕ). capacity < n) (sym (count_begun start through some_through (path_of old) before count (between at) (whole.between at))) lacks) h

    module _ (position : Point) (here : start ≡ mapped_point (map_numbers map) position) (items : new.pieces.items ≡ old.pieces.items ++ open_piece (OnePoint position) map GoesOn ∷ [] ++ open_piece points map GoesOn ∷ []) (phase : new.phase ≡ InFigure) where
      figures_begun : figures_of new.pieces.items ≡ gone_on through (gone_on (start ∷ []) before)
      figures_begun =
          ap figures_of items
          ∙ figures_after (old.pieces.items ++ open_piece (OnePoint position) map GoesOn ∷ []) (open_piece points map GoesOn)
          ∙ ap (with_piece (open_piece points map GoesOn)) (figures_after old.pieces.items (open_piece (OnePoint position) map GoesOn))
          ∙ ap (λ (ps : List Point). gone_on ps (gone_on (mapped_point (map_numbers map) position ∷ []) before)) same
          ∙ ap (λ (p : Point). gone_on through (gone_on (p ∷ []) before)) (sym here)

      two_longer : length new.pieces.items ≡ count + 2
      two_longer =
          let one = one_longer old.pieces.items (open_piece (OnePoint position) map GoesOn) in
          let other = one_longer (old.pieces.items ++ open_piece (OnePoint position) map GoesOn ∷ []) (open_piece points map GoesOn) in
          let all = ap length items in
          omega (arith, one, other, all)

      pub path_between : path_of new ≡ after_lines start through (path_of old)
      path_between =
          opened new.phase new.pieces.items (ap is_open_phase phase)
          ∙ ap (λ (f : Figures). open_path f (length new.pieces.items)) figures_begun
          ∙ ap (λ (n : ℕ). open_path (gone_on through (gone_on (start ∷ []) before)) n) two_longer
          ∙ sym (path_begun start through some_through (path_of old) before count (between at) (whole.between at))

      pub gathered_between : length new.pieces.items ≤ piece_limit → IsGathered new
      gathered_between few = record {
        between = λ e. absurd (in_one_phase (sym phase ∙ e));
        within = λ e. subst (λ (f : Figures). f.current ≢ []) (sym figures_begun) (goes_on_open through (gone_on (start ∷ []) before) some_through);
        few = few;
      }
        where
          in_one_phase : InFigure ≡ BetweenFigures → ⊥
          in_one_phase e = cc
