-- Figures, and the points that they have.
use Rattle.std.proofs.Common.{◌≡◌, ◌≢◌, Bool, true, false, List, [], ◌∷◌, ◌++◌, refl, ap, sym, ◌∙◌}
use Rattle.std.proofs.lemmas.Grind.{flat_map-append}
use Rattle.std.proofs.lemmas.List.{append-nil, append_assoc}
use Rattle.std.proofs.lemmas.List.Elements.{All-cons, All-head, All-nil, All-tail}
use Rattle.std.specs.List.{All, flat_map}
use Rattle.mapping.specs.PageMap.{map_numbers}
use Rattle.mapping.specs.declared.geometry.Point.{Point}
use Rattle.dc_stack.specs.Drawing.{points_of_lists}
use Rattle.dc_stack.specs.Figures.{Figure, Figures, all_figures, figure_of, no_figures, points_of_figures, with_current_done, with_polygon, with_polygons, with_polyline, with_polylines}
use Rattle.dc_stack.specs.GatheredPath.{gathered_points}
use Rattle.dc_stack.specs.Pieces.{figures_of, gone_on, plane_lists, with_end, with_lists, with_piece, with_pieces}
use Rattle.dc_stack.specs.declared.piece.FigureEnd.{FigureEnd}
use Rattle.dc_stack.specs.declared.piece.FigureEnd.TheVariants.{Open, Ended, Closed}
use Rattle.dc_stack.specs.declared.piece.Verb.{Verb}
use Rattle.dc_stack.specs.declared.piece.Verb.TheVariants.{GoesOn, Polylines, Polygons}
use Rattle.dc_stack.specs.declared.piece.Piece.{Piece}

-- what a piece behind others adds
pub piece_after : (pieces : List Piece) (piece : Piece) (f : Figures) → with_pieces (pieces ++ piece ∷ []) f ≡ with_piece piece (with_pieces pieces f)
piece_after [] piece f = refl
piece_after (first ∷ pieces) piece f = piece_after pieces piece (with_piece first f)

-- the same piece with another end
abbrev pub ended_piece : FigureEnd → Piece → Piece
ended_piece end piece = record { points = piece.points; map = piece.map; verb = piece.verb; end = end }

-- where a figure is open behind the last piece, the piece leaves it open
piece_ends : (piece : Piece) (end : FigureEnd) (f : Figures) → (with_piece piece f).current ≢ [] → with_piece (ended_piece end piece) f ≡ with_end end (with_piece piece f)
piece_ends piece end f = by_end piece.end (with_lists piece.verb (plane_lists (map_numbers piece.map) piece.points) f)
  where
    by_end : (before : FigureEnd) (g : Figures) → (with_end before g).current ≢ [] → with_end end g ≡ with_end end (with_end before g)
    by_end Open g h = refl
    by_end Ended g h = absurd (h refl)
    by_end Closed g h = absurd (h refl)

pub last_ends : (pieces : List Piece) (piece : Piece) (end : FigureEnd) → (figures_of (pieces ++ piece ∷ [])).current ≢ [] → figures_of (pieces ++ ended_piece end piece ∷ []) ≡ with_end end (figures_of (pieces ++ piece ∷ []))
last_ends pieces piece end h =
    let before = piece_after pieces piece no_figures in
    piece_after pieces (ended_piece end piece) no_figures
    ∙ piece_ends piece end (figures_of pieces) (λ none. h (ap (λ (f : Figures). f.current) before ∙ none))
    ∙ ap (with_end end) (sym before)

-- without a piece no figure is open
pub none_gathered : (pieces : List Piece) → pieces ≡ [] → (figures_of pieces).current ≡ []
none_gathered [] h = refl
none_gathered (piece ∷ pieces) h = cc

-- the points of a figure are its points
figure_points : (is_closed : Bool) (points : List Point) → points_of_figures (figure_of is_closed points) ≡ points
figure_points is_closed [] = refl
figure_points is_closed (p ∷ ps) = append-nil (p ∷ ps)

figures_points : (figures others : List Figure) → points_of_figures (figures ++ others) ≡ points_of_figures figures ++ points_of_figures others
figures_points figures others = flat_map-append (λ (figure : Figure). figure.points) figures others

-- those of all figures are those that are done, and then those of the open one
all_points : (f : Figures) → points_of_figures (all_figures f) ≡ points_of_figures f.done ++ f.current
all_points f = figures_points f.done (figure_of false f.current) ∙ ap (λ (ps : List Point). points_of_figures f.done ++ ps) (figure_points false f.current)

-- whatever becomes of the open figure
done_points : (is_closed : Bool) (f : Figures) → points_of_figures (all_figures (with_current_done is_closed f)) ≡ points_of_figures (all_figures f)
done_points is_closed f =
    all_points (with_current_done is_closed f)
    ∙ append-nil (points_of_figures (f.done ++ figure_of is_closed f.current))
    ∙ figures_points f.done (figure_of is_closed f.current)
    ∙ ap (λ (ps : List Point). points_of_figures f.done ++ ps) (figure_points is_closed f.current)
    ∙ sym (all_points f)

pub end_keeps_points : (end : FigureEnd) (f : Figures) → points_of_figures (all_figures (with_end end f)) ≡ points_of_figures (all_figures f)
end_keeps_points Open f = refl
end_keeps_points Ended f = done_points false f
end_keeps_points Closed f = done_points true f

-- what is added comes behind
gone_on_points : (points : List Point) (f : Figures) → points_of_figures (all_figures (gone_on points f)) ≡ points_of_figures (all_figures f) ++ points
gone_on_points points f =
    all_points (gone_on points f)
    ∙ sym (append_assoc (points_of_figures f.done) f.current points)
    ∙ ap (λ (ps : List Point). ps ++ points) (sym (all_points f))

polyline_points : (list : List Point) (f : Figures) → points_of_figures (all_figures (with_polyline list f)) ≡ points_of_figures (all_figures f) ++ list
polyline_points [] f = sym (append-nil (points_of_figures (all_figures f)))
polyline_points (p ∷ ps) f = all_points (with_polyline (p ∷ ps) f)

polygon_points : (list : List Point) (f : Figures) → points_of_figures (all_figures (with_polygon list f)) ≡ points_of_figures (all_figures f) ++ list
polygon_points [] f = sym (append-nil (points_of_figures (all_figures f)))
polygon_points (p ∷ ps) f =
    all_points (with_polygon (p ∷ ps) f)
    ∙ append-nil (points_of_figures (all_figures f ++ figure_of true (p ∷ ps)))
    ∙ figures_points (all_figures f) (figure_of true (p ∷ ps))
    ∙ ap (λ (ps : List Point). points_of_figures (all_figures f) ++ ps) (figure_points true (p ∷ ps))

-- list by list
one_more : (all list : List Point) (lists : List (List Point)) → (all ++ list) ++ points_of_lists lists ≡ all ++ points_of_lists (list ∷ lists)
one_more all list lists = append_assoc all list (points_of_lists lists)

polylines_points : (lists : List (List Point)) (f : Figures) → points_of_figures (all_figures (with_polylines lists f)) ≡ points_of_figures (all_figures f) ++ points_of_lists lists
polylines_points [] f = sym (append-nil (points_of_figures (all_figures f)))
polylines_points (list ∷ lists) f =
    polylines_points lists (with_polyline list f)
    ∙ ap (λ (ps : List Point). ps ++ points_of_lists lists) (polyline_points list f)
    ∙ one_more (points_of_figures (all_figures f)) list lists

polygons_points : (lists : List (List Point)) (f : Figures) → points_of_figures (all_figures (with_polygons lists f)) ≡ points_of_figures (all_figures f) ++ points_of_lists lists
polygons_points [] f = sym (append-nil (points_of_figures (all_figures f)))
polygons_points (list ∷ lists) f =
    polygons_points lists (with_polygon list f)
    ∙ ap (λ (ps : List Point). ps ++ points_of_lists lists) (polygon_points list f)
    ∙ one_more (points_of_figures (all_figures f)) list lists

lists_points : (verb : Verb) (lists : List (List Point)) (f : Figures) → points_of_figures (all_figures (with_lists verb lists f)) ≡ points_of_figures (all_figures f) ++ points_of_lists lists
lists_points GoesOn lists f = gone_on_points (points_of_lists lists) f
lists_points Polylines lists f = polylines_points lists f
lists_points Polygons lists f = polygons_points lists f

-- piece by piece
abbrev pub plane_points : Piece → List Point
plane_points piece = points_of_lists (plane_lists (map_numbers piece.map) piece.points)

points_with : (piece : Piece) (f : Figures) → points_of_figures (all_figures (with_piece piece f)) ≡ points_of_figures (all_figures f) ++ plane_points piece
points_with piece f =
    end_keeps_points piece.end (with_lists piece.verb (plane_lists (map_numbers piece.map) piece.points) f)
    ∙ lists_points piece.verb (plane_lists (map_numbers piece.map) piece.points) f

pub points_after : (pieces : List Piece) (piece : Piece) → gathered_points (pieces ++ piece ∷ []) ≡ gathered_points pieces ++ plane_points piece
points_after pieces piece =
    ap (λ (f : Figures). points_of_figures (all_figures f)) (piece_after pieces piece no_figures) ∙ points_with piece (figures_of pieces)

-- so the points of figures are those of the pieces
points_of_pieces : (pieces : List Piece) (f : Figures) → points_of_figures (all_figures (with_pieces pieces f)) ≡ points_of_figures (all_figures f) ++ flat_map plane_points pieces
points_of_pieces [] f = sym (append-nil (points_of_figures (all_figures f)))
points_of_pieces (piece ∷ pieces) f =
    points_of_pieces pieces (with_piece piece f)
    ∙ ap (λ (ps : List Point). ps ++ flat_map plane_points pieces) (points_with piece f)
    ∙ append_assoc (points_of_figures (all_figures f)) (plane_points piece) (flat_map plane_points pieces)

pub points_gathered : (pieces : List Piece) → gathered_points pieces ≡ flat_map plane_points pieces
points_gathered pieces = points_of_pieces pieces no_figures

-- a fact of all of a list but its last, which is exchanged for one that has it too
pub last_exchanged : {X : Type 0} (P : X → Type 0) (xs : List X) (x y : X) → (P x → P y) → All P (xs ++ x ∷ []) → All P (xs ++ y ∷ [])
last_exchanged P [] x y f h = All-cons P y [] (f (All-head P x [] h)) (All-nil P)
last_exchanged P (z ∷ xs) x y f h =
    All-cons P z (xs ++ y ∷ []) (All-head P z (xs ++ x ∷ []) h) (last_exchanged P xs x y f (All-tail P z (xs ++ x ∷ []) h))
