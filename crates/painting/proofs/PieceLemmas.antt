-- Where the points of a piece land, and which of them are placed at once.
use Rattle.std.proofs.Common.{◌≡◌, ◌-◌, ◌≤◌, ℤ, ◌≤ℤ◌, Bool, true, List, [], ◌∷◌, ◌++◌, length, drop, get_or, map, take, arith, refl, ap, subst, sym, ◌∙◌}
use Rattle.std.proofs.Math.Seq.{take-length}
use Rattle.std.proofs.lemmas.Bool.{and_parts}
use Rattle.std.proofs.lemmas.Int.{by_lt_z, ints}
use Rattle.std.proofs.lemmas.List.{append-nil, map-append}
use Rattle.std.proofs.lemmas.List.Elements.{All-cons, All-head, All-nil, All-rest, All-tail}
use Rattle.std.proofs.lemmas.List.Folds.{list_all-append}
use Rattle.std.specs.Bool.{IsTrue}
use Rattle.std.specs.Int.{int_max, int_min}
use Rattle.std.specs.List.{flat_map, list_all}
use Rattle.mapping.specs.PageMap.{map_numbers}
use Rattle.mapping.specs.PlaceOf.{surface_of}
use Rattle.mapping.specs.PlacingLaws.{PlacingLaws, ShowsFrame}
use Rattle.mapping.specs.Surface.{FitsPlace, Surface, lands_within_limits, placed, placed_point}
use Rattle.mapping.specs.declared.geometry.Point.{Point}
use Rattle.mapping.specs.declared.geometry.Rect.{Rect}
use Rattle.mapping.specs.declared.page_map.PageMap.{PageMap}
use Rattle.point_views.specs.PartedPoints.{parts_of}
use Rattle.point_views.specs.Points.{points_of}
use Rattle.dc_stack.specs.Boxes.{placed_list}
use Rattle.dc_stack.specs.Clip.{placed_box}
use Rattle.mapping.specs.Boxes.{box_between, left_top_of, right_bottom_of}
use Rattle.dc_stack.specs.Figures.{box_corners}
use Rattle.dc_stack.specs.Mapped.{mapped_list, mapped_lists, mapped_point}
use Rattle.dc_stack.specs.Pieces.{AllLandOn, LandsOn, page_lists, page_points, plane_lists}
use Rattle.dc_stack.specs.Projected.{is_projected, projected}
use Rattle.dc_stack.specs.declared.piece.Verb.{Verb}
use Rattle.dc_stack.specs.declared.piece.Piece.{Piece}
use Rattle.dc_stack.specs.declared.piece.PiecePoints.{PiecePoints}
use Rattle.dc_stack.specs.declared.piece.PiecePoints.TheVariants.{Point as OnePoint, List as OneList, Lists, Corners}
use Rattle.dc_stack.specs.declared.projection.Projection.{Projection}
use Rattle.painting.specs.Moves.{moves_of_list, moves_of_lists}
use Rattle.painting.specs.PieceParts.{page_part, placed_part}
use Rattle.painting.specs.PlacedLines.{AllLand, AllListsLand, projected_list}
use Rattle.preflight_cert.specs.Shape.{placed_lists}
use Rattle.painting.specs.declared.moves.Move.{Move}
use Rattle.painting.proofs.LandingLemmas.{landed_fits, list_lands}
use Rattle.painting.proofs.OutlineLemmas.{placed_list_of}

-- what preserves order preserves the minimum and the maximum
min_kept : (f : ℤ → ℤ) → ((v w : ℤ) → v ≤ℤ w → f v ≤ℤ f w) → (v w : ℤ) → int_min (f v) (f w) ≡ f (int_min v w)
min_kept f keeps v w = by_lt_z w v
    (λ b. let there : f w ≤ℤ f v = keeps w v (grind (arith, ints)) in let least : int_min v w ≡ w = grind (arith, ints) in rw least (grind (arith, ints)))
    (λ b. let there : f v ≤ℤ f w = keeps v w b in let least : int_min v w ≡ v = grind (arith, ints) in rw least (grind (arith, ints)))

max_kept : (f : ℤ → ℤ) → ((v w : ℤ) → v ≤ℤ w → f v ≤ℤ f w) → (v w : ℤ) → int_max (f v) (f w) ≡ f (int_max v w)
max_kept f keeps v w = by_lt_z w v
    (λ b. let there : f w ≤ℤ f v = keeps w v (grind (arith, ints)) in let most : int_max v w ≡ v = grind (arith, ints) in rw most (grind (arith, ints)))
    (λ b. let there : f v ≤ℤ f w = keeps v w b in let most : int_max v w ≡ w = grind (arith, ints) in rw most (grind (arith, ints)))

module _ (laws : PlacingLaws) (s : Surface) (shows : ShowsFrame s) where
  columns : (v w : ℤ) → v ≤ℤ w → placed v s.width s.frame_width ≤ℤ placed w s.width s.frame_width
  columns v w h = laws.keeps_order s.width s.frame_width v w shows.wide h

  rows : (v w : ℤ) → v ≤ℤ w → placed v s.height s.frame_height ≤ℤ placed w s.height s.frame_height
  rows v w h = laws.keeps_order s.height s.frame_height v w shows.high h

  -- the box between placed corners
  placed_between : (p q : Point) → box_between (placed_point p s) (placed_point q s) ≡ placed_box s (box_between p q)
  placed_between p q =
      rw (min_kept (λ v. placed v s.width s.frame_width) columns p.x q.x, min_kept (λ v. placed v s.height s.frame_height) rows p.y q.y, max_kept (λ v. placed v s.width s.frame_width) columns p.x q.x, max_kept (λ v. placed v s.height s.frame_height) rows p.y q.y) refl

  -- its corners are those of the box, on the surface
  pub placed_corners : (p q : Point) → placed_list s (box_corners (box_between p q)) ≡ box_corners (box_between (placed_point p s) (placed_point q s))
  placed_corners p q = ap box_corners (sym (placed_between p q))

module _ (by : Projection) where
  -- a point of the page that lands within the limits fits there
  pub projected_fits : (p : Point) → IsTrue (is_projected by p) → FitsPlace (projected by p)
  projected_fits p t = landed_fits (surface_of by.place) (mapped_point (map_numbers by.map) p) t

  -- lists of the page land where their lists of the plane do
  pub lists_placed : (ls : List (List Point)) → placed_lists (surface_of by.place) (mapped_lists (map_numbers by.map) ls) ≡ map (projected_list by) ls
  lists_placed [] = refl
  lists_placed (l ∷ ls) =
      ap (λ (first : List Point). first ∷ placed_lists (surface_of by.place) (mapped_lists (map_numbers by.map) ls)) (sym (placed_list_of by l))
      ∙ ap (λ (rest : List (List Point)). projected_list by l ∷ rest) (lists_placed ls)

  -- lists land if all their points do
  lists_land : (ls : List (List Point)) → list_all (λ p. lands_within_limits p (surface_of by.place)) (mapped_list (map_numbers by.map) (flat_map (λ list. list) ls)) ≡ true → AllListsLand by ls
  lists_land [] t = All-nil (AllLand by)
  lists_land (l ∷ ls) t =
      let m = map_numbers by.map in
      let first = mapped_list m l in
      let others = mapped_list m (flat_map (λ list. list) ls) in
      let test : Point → Bool = λ p. lands_within_limits p (surface_of by.place) in
      let all : list_all test (first ++ others) ≡ true = ap (list_all test) (sym (map-append (mapped_point m) l (flat_map (λ list. list) ls))) ∙ t in
      let parts = and_parts (list_all test first) (list_all test others) (sym (list_all-append test first others) ∙ all) in
      All-cons (AllLand by) l ls (list_lands by (surface_of by.place) refl l parts.0) (lists_land ls parts.1)

  -- the lists of a piece, with those of the page that are placed one by one
  pub page_part_lands : (points : PiecePoints) → AllListsLand by (page_lists points) → AllListsLand by (page_part points)
  page_part_lands (OnePoint point) h = All-nil (AllLand by)
  page_part_lands (OneList points) h = h
  page_part_lands (Lists parted) h = h
  page_part_lands (Corners corners) h = All-nil (AllLand by)

  pub point_lands : (points : PiecePoints) (p : Point) → points ≡ OnePoint p → AllListsLand by (page_lists points) → IsTrue (is_projected by p)
  point_lands points p e h =
      let all : AllListsLand by ((p ∷ []) ∷ []) = subst (λ (q : PiecePoints). AllListsLand by (page_lists q)) e h in
      All-head (λ q. IsTrue (is_projected by q)) p [] (All-head (AllLand by) (p ∷ []) [] all)

  pub corners_land : (points : PiecePoints) (corners : Rect) → points ≡ Corners corners → AllListsLand by (page_lists points) → IsTrue (is_projected by (left_top_of corners)) × IsTrue (is_projected by (right_bottom_of corners))
  corners_land points corners e h =
      let first = left_top_of corners in
      let second = right_bottom_of corners in
      let all : AllListsLand by ((first ∷ second ∷ []) ∷ []) = subst (λ (q : PiecePoints). AllListsLand by (page_lists q)) e h in
      let both = All-head (AllLand by) (first ∷ second ∷ []) [] all in
      let P : Point → Type 0 = λ q. IsTrue (is_projected by q) in
      (All-head P first (second ∷ []) both, All-head P second [] (All-tail P first (second ∷ []) both))

  -- the moves through a piece are those through the part that is placed at once and through the lists
  pub in_parts : PlacingLaws → (verb : Verb) (points : PiecePoints) (after : List Move) → moves_of_list verb (placed_part by points) ++ (moves_of_lists verb (map (projected_list by) (page_part points)) ++ after) ≡ moves_of_lists verb (placed_lists (surface_of by.place) (plane_lists (map_numbers by.map) points)) ++ after
  in_parts laws verb (OnePoint point) after = ap (λ (moves : List Move). moves ++ after) (sym (append-nil (moves_of_list verb (projected by point ∷ []))))
  in_parts laws verb (OneList points) after =
      ap (λ (lists : List (List Point)). moves_of_lists verb lists ++ after) (sym (lists_placed (points_of points ∷ [])))
  in_parts laws verb (Lists parted) after =
      ap (λ (lists : List (List Point)). moves_of_lists verb lists ++ after) (sym (lists_placed (parts_of parted)))
  in_parts laws verb (Corners corners) after =
      let m = map_numbers by.map in
      let shows : ShowsFrame (surface_of by.place) = record { wide = by.place.frame.wide; high = by.place.frame.high } in
      let there = placed_corners laws (surface_of by.place) shows (mapped_point m (left_top_of corners)) (mapped_point m (right_bottom_of corners)) in
      ap (λ (moves : List Move). moves ++ after) (ap (moves_of_list verb) (sym there) ∙ sym (append-nil (moves_of_list verb (placed_list (surface_of by.place) (box_corners (box_between (mapped_point m (left_top_of corners)) (mapped_point m (right_bottom_of corners))))))))

-- the lists of a piece that lands
pub piece_lands : (by : Projection) (piece : Piece) → by.map ≡ piece.map → LandsOn (surface_of by.place) piece → AllListsLand by (page_lists piece.points)
piece_lands by piece e h =
    lists_land by (page_lists piece.points) (subst (λ (map : PageMap). list_all (λ p. lands_within_limits p (surface_of by.place)) (mapped_list (map_numbers map) (page_points piece.points)) ≡ true) (sym e) h)

-- pieces that land, after the first one
pub other_pieces_land : (s : Surface) (piece : Piece) (pieces whole : List Piece) → whole ≡ piece ∷ pieces → AllLandOn s whole → AllLandOn s pieces
other_pieces_land s piece pieces whole e h = All-rest (LandsOn s) piece pieces whole e h

-- the first of some values, and the others
pub first_and_others : {X : Type 0} (xs : List X) (x : X) → 1 ≤ length xs → x ≡ get_or xs 0 x → xs ≡ x ∷ take (length xs - 1) (drop 1 xs)
first_and_others [] x some e = absurd (omega arith)
first_and_others (y ∷ ys) x some e =
    let others : length (y ∷ ys) - 1 ≡ length ys = omega arith in
    let all : take (length (y ∷ ys) - 1) ys ≡ ys = rw (others, take-length ys) refl in
    ap (λ z. z ∷ ys) (sym e) ∙ ap (λ zs. x ∷ zs) (sym all)
