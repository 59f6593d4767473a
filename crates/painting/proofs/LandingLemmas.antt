-- Points of the page that land within the limits.
use Rattle.std.proofs.Common.{◌≡◌, ◌<◌, ℕ, zero, suc, slice_index_or, ℤ, pos, ◌≤ℤ◌, Bool, true, List, [], ◌∷◌, ◌++◌, arith, ap, subst, sym, ◌∙◌}
use Rattle.std.proofs.lemmas.Bool.{and_parts}
use Rattle.std.proofs.lemmas.Int.{ints}
use Rattle.std.proofs.lemmas.List.{append-nil}
use Rattle.std.proofs.lemmas.List.Elements.{All-cons, All-head, All-nil, All-rest, All-same}
use Rattle.std.proofs.lemmas.List.Folds.{list_all-append}
use Rattle.std.specs.Bool.{IsTrue}
use Rattle.std.specs.List.{list_all}
use Rattle.mapping.specs.Limits.{place_limit}
use Rattle.mapping.specs.PageMap.{map_numbers}
use Rattle.mapping.specs.PlaceOf.{surface_of}
use Rattle.mapping.specs.Surface.{FitsPlace, IsPlaceCoordinate, Surface, lands_true, lands_within_limits, placed_point}
use Rattle.mapping.specs.declared.geometry.Point.{Point}
use Rattle.mapping.specs.declared.geometry.Rect.{Rect}
use Rattle.mapping.specs.declared.place.Place.{Place}
use Rattle.dc_stack.specs.Drawing.{points_of_lists}
use Rattle.dc_stack.specs.Figures.{box_corners}
use Rattle.dc_stack.specs.Mapped.{mapped_list, mapped_lists, mapped_point}
use Rattle.dc_stack.specs.Projected.{is_projected, projected}
use Rattle.dc_stack.specs.declared.projection.Projection.{Projection}
use Rattle.span_fill.specs.Lines.{IsNear, IsNearPoint}
use Rattle.painting.specs.PlacedLines.{AllLand, AllListsLand}

one_more : (v : ℤ) → v ≤ℤ pos place_limit → v ≤ℤ pos (suc place_limit)
one_more v h = grind (arith, ints)

-- a number within the limit of placed coordinates is within the limits of lines
near_within : (v : ℤ) → IsPlaceCoordinate v → IsNear v
near_within v h = record { low = h.low; high = one_more v h.high }

-- a point of the plane that lands within the limits is placed within the limits of lines
pub landed_fits : (s : Surface) (p : Point) → lands_within_limits p s ≡ true → FitsPlace (placed_point p s)
landed_fits s p t = (lands_true p s t).place

pub landed_near : (s : Surface) (p : Point) → lands_within_limits p s ≡ true → IsNearPoint (placed_point p s)
landed_near s p t = let fits = landed_fits s p t in record { x = near_within _ fits.x; y = near_within _ fits.y }

-- the corners of a box whose edges are within the limits are within the limits of lines
pub corners_near : (box : Rect) → IsPlaceCoordinate box.l → IsPlaceCoordinate box.t → IsPlaceCoordinate box.r → IsPlaceCoordinate box.b → (k : ℕ) (d : Point) → k < 4 → IsNearPoint (slice_index_or (box_corners box) k d)
corners_near box l t r b zero d h = record { x = near_within box.l l; y = near_within box.t t }
corners_near box l t r b (suc zero) d h = record { x = near_within box.r r; y = near_within box.t t }
corners_near box l t r b (suc (suc zero)) d h = record { x = near_within box.r r; y = near_within box.b b }
corners_near box l t r b (suc (suc (suc zero))) d h = record { x = near_within box.l l; y = near_within box.b b }
corners_near box l t r b (suc (suc (suc (suc k)))) d h = absurd (omega (arith, h))

-- if this is the surface of a place, such a point fits there and lands where the place puts it
pub fits_there : (place : Place) (s : Surface) (p : Point) → surface_of place ≡ s → lands_within_limits p s ≡ true → FitsPlace (placed_point p (surface_of place))
fits_there place s p same t = subst (λ (r : Surface). FitsPlace (placed_point p r)) (sym same) (landed_fits s p t)

pub lands_place : (place : Place) (s : Surface) (p : Point) → surface_of place ≡ s → lands_within_limits p s ≡ true → lands_within_limits p (surface_of place) ≡ true
lands_place place s p same t = subst (λ (r : Surface). lands_within_limits p r ≡ true) (sym same) t

pub lands_there : (place : Place) (s : Surface) (p there : Point) → surface_of place ≡ s → there ≡ placed_point p (surface_of place) → there ≡ placed_point p s
lands_there place s p there same at = at ∙ ap (placed_point p) same

-- if two points land, each of them does
pub two_land : (s : Surface) (p q : Point) → list_all (λ r. lands_within_limits r s) (p ∷ q ∷ []) ≡ true → (lands_within_limits p s ≡ true) × (lands_within_limits q s ≡ true)
two_land s p q t =
    let a = and_parts (lands_within_limits p s) (list_all (λ r. lands_within_limits r s) (q ∷ [])) t in
    (a.0, (and_parts (lands_within_limits q s) true a.1).0)

module _ (by : Projection) where
  -- the same for a point of the page
  pub projected_near : (p : Point) → IsTrue (is_projected by p) → IsNearPoint (projected by p)
  projected_near p t = landed_near (surface_of by.place) (mapped_point (map_numbers by.map) p) t

  -- if all points land, so do the first and the others
  pub first_lands : (p : Point) (ps whole : List Point) → whole ≡ p ∷ ps → AllLand by whole → IsTrue (is_projected by p)
  first_lands p ps whole e h = All-head (λ q. IsTrue (is_projected by q)) p ps (All-same (λ q. IsTrue (is_projected by q)) (p ∷ ps) whole (sym e) h)

  pub others_land : (p : Point) (ps whole : List Point) → whole ≡ p ∷ ps → AllLand by whole → AllLand by ps
  others_land p ps whole e h = All-rest (λ q. IsTrue (is_projected by q)) p ps whole e h

  pub first_near : (p : Point) (ps whole : List Point) → whole ≡ p ∷ ps → AllLand by whole → IsNearPoint (projected by p)
  first_near p ps whole e h = projected_near p (first_lands p ps whole e h)

  -- the same for lists
  pub first_list_lands : (ps : List Point) (ls whole : List (List Point)) → whole ≡ ps ∷ ls → AllListsLand by whole → AllLand by ps
  first_list_lands ps ls whole e h = All-head (AllLand by) ps ls (All-same (AllLand by) (ps ∷ ls) whole (sym e) h)

  pub other_lists_land : (ps : List Point) (ls whole : List (List Point)) → whole ≡ ps ∷ ls → AllListsLand by whole → AllListsLand by ls
  other_lists_land ps ls whole e h = All-rest (AllLand by) ps ls whole e h

  module _ (s : Surface) (e : surface_of by.place ≡ s) where
    -- points of the page land where their points of the plane do
    pub list_lands : (ps : List Point) → list_all (λ p. lands_within_limits p s) (mapped_list (map_numbers by.map) ps) ≡ true → AllLand by ps
    list_lands [] t = All-nil (λ q. IsTrue (is_projected by q))
    list_lands (p ∷ ps) t =
        let there = mapped_point (map_numbers by.map) p in
        let parts = and_parts (lands_within_limits there s) (list_all (λ q. lands_within_limits q s) (mapped_list (map_numbers by.map) ps)) t in
        All-cons (λ q. IsTrue (is_projected by q)) p ps (subst (λ (r : Surface). lands_within_limits there r ≡ true) (sym e) parts.0) (list_lands ps parts.1)

    pub lists_land : (ls : List (List Point)) → list_all (λ p. lands_within_limits p s) (points_of_lists (mapped_lists (map_numbers by.map) ls)) ≡ true → AllListsLand by ls
    lists_land [] t = All-nil (AllLand by)
    lists_land (ps ∷ ls) t =
        let first = mapped_list (map_numbers by.map) ps in
        let others = points_of_lists (mapped_lists (map_numbers by.map) ls) in
        let test : Point → Bool = λ q. lands_within_limits q s in
        let parts = and_parts (list_all test first) (list_all test others) (sym (list_all-append test first others) ∙ t) in
        All-cons (AllLand by) ps ls (list_lands ps parts.0) (lists_land ls parts.1)

    -- the same for points after a first one that is within the limits of lines
    pub start_lands : (p : Point) (ps : List Point) → list_all (λ q. lands_within_limits q s) (points_of_lists ((p ∷ mapped_list (map_numbers by.map) ps) ∷ [])) ≡ true → lands_within_limits p s ≡ true
    start_lands p ps t = (and_parts (lands_within_limits p s) (list_all (λ q. lands_within_limits q s) (mapped_list (map_numbers by.map) ps ++ [])) t).0

    pub start_and_list_land : (p : Point) (ps : List Point) → list_all (λ q. lands_within_limits q s) (points_of_lists ((p ∷ mapped_list (map_numbers by.map) ps) ∷ [])) ≡ true → IsNearPoint (placed_point p s) × AllLand by ps
    start_and_list_land p ps t =
        let others = mapped_list (map_numbers by.map) ps in
        let test : Point → Bool = λ q. lands_within_limits q s in
        let all : list_all test (p ∷ others) ≡ true = ap (list_all test) (sym (append-nil (p ∷ others))) ∙ t in
        let parts = and_parts (test p) (list_all test others) all in
        (landed_near s p parts.0, list_lands ps parts.1)
