-- The least box around points of the page, on the plane, and what its corners tell of all points.
use Rattle.std.proofs.Common.{◌≡◌, Bool, true, false, ◌&&◌, ℤ, ◌≤ℤ◌, List, [], ◌∷◌, ◌++◌, map, Option, None, Some, arith, refl, ap, subst, sym, ◌∙◌}
use Rattle.std.proofs.lemmas.Bool.{and_from, and_parts}
use Rattle.std.proofs.lemmas.Int.{ints}
use Rattle.std.proofs.lemmas.List.Elements.{All-cons, All-nil}
use Rattle.std.specs.Int.{int_max, int_min}
use Rattle.std.specs.List.{list_all}
use Rattle.mapping.specs.Boxes.{HasPoint, IsBoxOver, IsBoundingBox, IsTight, KeepsBetween, no_box, point_box, box_between, right_bottom_of, mapped_by, left_top_of}
use Rattle.mapping.specs.BoxLaws.{BoxLaws}
use Rattle.mapping.specs.PageMap.{map_numbers}
use Rattle.mapping.specs.LimitTests.{TestsAreLimits}
use Rattle.mapping.specs.Limits.{is_within, plane_limit}
use Rattle.mapping.specs.Plane.{is_on_plane, plane_coordinate}
use Rattle.mapping.specs.PlacingLaws.{ShowsFrame}
use Rattle.mapping.specs.Surface.{FitsPlace, Surface, fits_place, lands_within_limits, placed_point}
use Rattle.mapping.specs.declared.geometry.Point.{Point}
use Rattle.mapping.specs.declared.geometry.Rect.{Rect}
use Rattle.mapping.specs.declared.page_map.PageMap.{PageMap}
use Rattle.dc_stack.specs.Extents.{IsExtent, IsPlaneBox, box_of}
use Rattle.dc_stack.specs.Figures.{box_corners}
use Rattle.dc_stack.specs.Mapped.{mapped_box, mapped_corners}
use Rattle.dc_stack.specs.OperationFault.{all_land_within, off_plane_fault}
use Rattle.dc_stack.specs.Placing.{plane_list}
use Rattle.dc_stack.proofs.CornerLemmas.{of_greater, of_lesser}
use Rattle.dc_stack.proofs.LandingLemmas.{off_unless}

and_true : (a b : Bool) → off_unless (a && (b && true)) ≡ off_unless (a && b)
and_true true true = refl
and_true true false = refl
and_true false b = refl

-- a page map keeps what lies between two coordinates
module _ (laws : BoxLaws) (map : PageMap) (box : Rect) (points : List Point) (tight : IsTight box points) where
  of_x : KeepsBetween (plane_coordinate (map_numbers map).x)
  of_x = laws.page_map (map_numbers map).x map.x.window_has_extent

  of_y : KeepsBetween (plane_coordinate (map_numbers map).y)
  of_y = laws.page_map (map_numbers map).y map.y.window_has_extent

  -- so the least box is mapped to the least one
  tight_on_plane : IsTight (mapped_box (map_numbers map) box) (plane_list map points)
  tight_on_plane = laws.boxes (plane_coordinate (map_numbers map).x) (plane_coordinate (map_numbers map).y) box points of_x of_y tight

  -- and all points land exactly where two of its corners do
  pub off_by_corners : (s : Surface) → ShowsFrame s → off_plane_fault (mapped_corners (map_numbers map) box) s ≡ off_plane_fault (plane_list map points) s
  off_by_corners s shows =
      let x = plane_coordinate (map_numbers map).x in
      let y = plane_coordinate (map_numbers map).y in
      let near = lands_within_limits (mapped_by x y (left_top_of box)) s in
      let far = lands_within_limits (mapped_by x y (right_bottom_of box)) s in
      and_true near far ∙ ap off_unless (sym (laws.lands x y s box points shows of_x of_y tight))

-- the box of two points is their least
pair_tight : BoxLaws → (p q : Point) → IsTight (box_between p q) (p ∷ q ∷ [])
pair_tight laws p q =
    let over : IsBoxOver (point_box p) (point_box q) (box_between p q) = record { left = refl; top = refl; right = refl; bottom = refl } in
    laws.joins (point_box p) (point_box q) (box_between p q) (p ∷ []) (q ∷ []) (laws.single p) (laws.single q) over

has_point : (box : Rect) (p : Point) → box.l ≤ℤ p.x → box.t ≤ℤ p.y → p.x ≤ℤ box.r → p.y ≤ℤ box.b → HasPoint box p
has_point box p left top right bottom = record { left = left; top = top; right = right; bottom = bottom }

-- a box in order is the least one around its corners
corners_tight : (box : Rect) → box.l ≤ℤ box.r → box.t ≤ℤ box.b → IsTight box (box_corners box)
corners_tight box wide high =
    let left_top : Point = record { x = box.l; y = box.t } in
    let right_top : Point = record { x = box.r; y = box.t } in
    let right_bottom : Point = record { x = box.r; y = box.b } in
    let left_bottom : Point = record { x = box.l; y = box.b } in
    let l : box.l ≤ℤ box.l = omega (arith, ints) in
    let t : box.t ≤ℤ box.t = omega (arith, ints) in
    let r : box.r ≤ℤ box.r = omega (arith, ints) in
    let b : box.b ≤ℤ box.b = omega (arith, ints) in
    record {
      all =
          All-cons (HasPoint box) left_top (right_top ∷ right_bottom ∷ left_bottom ∷ []) (has_point box left_top l t wide high)
          (All-cons (HasPoint box) right_top (right_bottom ∷ left_bottom ∷ []) (has_point box right_top wide t r high)
          (All-cons (HasPoint box) right_bottom (left_bottom ∷ []) (has_point box right_bottom wide high r b)
          (All-cons (HasPoint box) left_bottom [] (has_point box left_bottom l high wide b) (All-nil (HasPoint box)))));
      left = (0, left_top, omega arith, refl, refl);
      top = (0, left_top, omega arith, refl, refl);
      right = (1, right_top, omega arith, refl, refl);
      bottom = (2, right_bottom, omega arith, refl, refl);
    }

least_first : (v w : ℤ) → int_min v w ≤ℤ int_max v w
least_first v w = grind (arith, ints)

between_corners_tight : (p q : Point) → IsTight (box_between p q) (box_corners (box_between p q))
between_corners_tight p q = corners_tight (box_between p q) (least_first p.x q.x) (least_first p.y q.y)

-- a coordinate is one of the plane
abbrev IsWithinPlane : ℤ → Type 0
IsWithinPlane v = is_within plane_limit v ≡ true

corner_on_plane : (x y : ℤ) → IsWithinPlane x → IsWithinPlane y → is_on_plane (record { x = x; y = y }) ≡ true
corner_on_plane x y h k = and_from (is_within plane_limit x) (is_within plane_limit y) h k

column_of : (p : Point) → is_on_plane p ≡ true → IsWithinPlane p.x
column_of p h = (and_parts (is_within plane_limit p.x) (is_within plane_limit p.y) h).0

row_of : (p : Point) → is_on_plane p ≡ true → IsWithinPlane p.y
row_of p h = (and_parts (is_within plane_limit p.x) (is_within plane_limit p.y) h).1

-- boxes on the plane: of one point, of two, of two boxes, and of the page's least box
module _ (laws : BoxLaws) where
  pub point_plane_box : (p : Point) → is_on_plane p ≡ true → IsPlaneBox (point_box p) (p ∷ [])
  point_plane_box p on = record { least = laws.single p; near = on; far = on }

  pub pair_plane_box : (p q : Point) → is_on_plane p ≡ true → is_on_plane q ≡ true → IsPlaneBox (box_between p q) (p ∷ q ∷ [])
  pair_plane_box p q first second = record {
    least = pair_tight laws p q;
    near =
        corner_on_plane (int_min p.x q.x) (int_min p.y q.y)
        (of_lesser IsWithinPlane p.x q.x (column_of p first) (column_of q second)) (of_lesser IsWithinPlane p.y q.y (row_of p first) (row_of q second));
    far =
        corner_on_plane (int_max p.x q.x) (int_max p.y q.y)
        (of_greater IsWithinPlane p.x q.x (column_of p first) (column_of q second)) (of_greater IsWithinPlane p.y q.y (row_of p first) (row_of q second));
  }

  pub joined_plane_box : (first second both : Rect) (points others : List Point) → IsPlaneBox first points → IsPlaneBox second others → IsBoxOver first second both → IsPlaneBox both (points ++ others)
  joined_plane_box first second both points others f s over =
      let near_f = left_top_of first in
      let near_s = left_top_of second in
      let far_f = right_bottom_of first in
      let far_s = right_bottom_of second in
      record {
        least = laws.joins first second both points others f.least s.least over;
        near =
            corner_on_plane both.l both.t
            (subst IsWithinPlane (sym over.left) (of_lesser IsWithinPlane first.l second.l (column_of near_f f.near) (column_of near_s s.near)))
            (subst IsWithinPlane (sym over.top) (of_lesser IsWithinPlane first.t second.t (row_of near_f f.near) (row_of near_s s.near)));
        far =
            corner_on_plane both.r both.b
            (subst IsWithinPlane (sym over.right) (of_greater IsWithinPlane first.r second.r (column_of far_f f.far) (column_of far_s s.far)))
            (subst IsWithinPlane (sym over.bottom) (of_greater IsWithinPlane first.b second.b (row_of far_f f.far) (row_of far_s s.far)));
      }

  pub page_plane_box : (map : PageMap) (box plane : Rect) (points : List Point) → IsTight box points → plane ≡ mapped_box (map_numbers map) box → IsPlaneBox plane (mapped_corners (map_numbers map) box) → IsPlaneBox plane (plane_list map points)
  page_plane_box map box plane points tight at h = record {
    least = subst (λ (b : Rect). IsTight b (plane_list map points)) (sym at) (tight_on_plane laws map box points tight);
    near = h.near;
    far = h.far;
  }

-- the same of points that are equal
pub same_plane_box : (box : Rect) (p q r s : Point) → box ≡ box_between p q → p ≡ r → q ≡ s → IsPlaneBox (box_between p q) (p ∷ q ∷ []) → IsPlaneBox box (r ∷ s ∷ [])
same_plane_box box p q r s at first second h =
    subst (λ (b : Rect). IsPlaneBox b (r ∷ s ∷ [])) (sym at)
    (subst (λ (v : Point). IsPlaneBox (box_between p q) (v ∷ s ∷ [])) first (subst (λ (v : Point). IsPlaneBox (box_between p q) (p ∷ v ∷ [])) second h))

-- the box of two corners is that of all four
pub corners_plane_box : (p q : Point) (plane : Rect) → plane ≡ box_between p q → IsPlaneBox plane (p ∷ q ∷ []) → IsPlaneBox plane (box_corners (box_between p q))
corners_plane_box p q plane at h = record {
  least = subst (λ (b : Rect). IsTight b (box_corners (box_between p q))) (sym at) (between_corners_tight p q);
  near = h.near;
  far = h.far;
}

-- a drawing has the box of its points
pub least_of_extent : (extent : Option Rect) (points : List Point) → IsExtent extent points → IsBoundingBox (box_of extent) points
least_of_extent None points h = subst (IsBoundingBox no_box) (sym h) refl
least_of_extent (Some box) [] h = absurd (omega (arith, h.least.left.2))
least_of_extent (Some box) (p ∷ ps) h = h.least

-- points of the plane as they are
mapped_alone : (points : List Point) → map (mapped_by (λ v. v) (λ v. v)) points ≡ points
mapped_alone [] = refl
mapped_alone (p ∷ ps) = ap (λ rest. p ∷ rest) (mapped_alone ps)

-- all land where two corners of their box do
module _ (laws : BoxLaws) (box : Rect) (points : List Point) (s : Surface) (shows : ShowsFrame s) where
  by_corners : IsTight box points → all_land_within points s ≡ (lands_within_limits (left_top_of box) s && lands_within_limits (right_bottom_of box) s)
  by_corners tight =
      ap (λ ps. list_all (λ p. lands_within_limits p s) ps) (sym (mapped_alone points))
      ∙ laws.lands (λ v. v) (λ v. v) s box points shows (λ from v to h. h) (λ from v to h. h) tight

  on_plane_then : (near far near_fits far_fits : Bool) → near ≡ true → far ≡ true → (near_fits && far_fits) ≡ ((near && near_fits) && (far && far_fits))
  on_plane_then near far near_fits far_fits p q = rw (p, q) refl

  pub land_by_corners : IsPlaneBox box points → (fits_place (placed_point (left_top_of box) s) && fits_place (placed_point (right_bottom_of box) s)) ≡ all_land_within points s
  land_by_corners h =
      on_plane_then (is_on_plane (left_top_of box)) (is_on_plane (right_bottom_of box)) (fits_place (placed_point (left_top_of box) s)) (fits_place (placed_point (right_bottom_of box) s)) h.near h.far
      ∙ sym (by_corners h.least)

  -- so both of them fit where all land, and all are on the plane
  pub corners_fit : TestsAreLimits → IsPlaneBox box points → true ≡ all_land_within points s → FitsPlace (placed_point (left_top_of box) s) × FitsPlace (placed_point (right_bottom_of box) s)
  corners_fit tests h all =
      let near = left_top_of box in
      let far = right_bottom_of box in
      let both = and_parts (lands_within_limits near s) (lands_within_limits far s) (sym (by_corners h.least) ∙ sym all) in
      (((tests.lands near s).0 both.0).place, ((tests.lands far s).0 both.1).place)
