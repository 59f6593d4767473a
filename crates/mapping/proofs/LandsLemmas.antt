-- Points land within the limits exactly where two corners of the least box around them do.
use Rattle.std.proofs.Common.{◌≡◌, true, ◌&&◌, ℕ, ℤ, List, map, arith, inl, inr, subst, ◌∙◌}
use Rattle.std.specs.List.{All, Any, list_all}
use Rattle.std.proofs.lemmas.Bool.{and_from, and_parts}
use Rattle.std.proofs.lemmas.Int.{ints}
use Rattle.std.proofs.lemmas.List.Folds.{list_all-map}
use Rattle.std.proofs.lemmas.List.Sums.{AllPass-from_list_all, list_all-from_AllPass}
use Rattle.mapping.specs.Boxes.{HasPoint, IsBetween, IsTight, KeepsBetween, right_bottom_of, mapped_by, left_top_of}
use Rattle.mapping.specs.Limits.{IsFrameSide, IsWithin, place_limit, plane_limit}
use Rattle.mapping.specs.Plane.{IsPlaneCoordinate}
use Rattle.mapping.specs.PlacingLaws.{ShowsFrame}
use Rattle.mapping.specs.Surface.{IsPlaceCoordinate, Surface, lands_from, lands_true, lands_within_limits, placed}
use Rattle.mapping.specs.declared.geometry.Point.{Point}
use Rattle.mapping.specs.declared.geometry.Rect.{Rect}
use Rattle.mapping.proofs.BetweenLemmas.{place_keeps_between}
use Rattle.mapping.specs.TestLaws.{same_test}

-- a coordinate is one of the plane, and lands within the limit on a side
record Lands (side frame_side : ℕ) (v : ℤ) : Type 0 where
  plane : IsPlaneCoordinate v
  place : IsPlaceCoordinate (placed v side frame_side)

-- between two that do
within_between : (limit : ℕ) (u v w : ℤ) → IsBetween u v w → IsWithin limit u → IsWithin limit w → IsWithin limit v
within_between limit u v w between first second = elim between [
  | inl h ↦ let low = h.0 in let high = h.1 in let least = first.low in let most = second.high in record { low = omega (arith, ints, low, high, least, most); high = omega (arith, ints, low, high, least, most) }
  | inr h ↦ let low = h.0 in let high = h.1 in let least = second.low in let most = first.high in record { low = omega (arith, ints, low, high, least, most); high = omega (arith, ints, low, high, least, most) }
]

lands_between : (side frame_side : ℕ) (u v w : ℤ) → IsFrameSide frame_side → IsBetween u v w → Lands side frame_side u → Lands side frame_side w → Lands side frame_side v
lands_between side frame_side u v w allowed between first second = record {
  plane = within_between plane_limit u v w between first.plane second.plane;
  place = within_between place_limit _ _ _ (place_keeps_between side frame_side allowed u v w between) first.place second.place;
}

-- both coordinates of a point land
record BothLand (s : Surface) (point : Point) : Type 0 where
  x : Lands s.width s.frame_width point.x
  y : Lands s.height s.frame_height point.y

both_from_test : (s : Surface) (point : Point) → lands_within_limits point s ≡ true → BothLand s point
both_from_test s point t =
    let lands = lands_true point s t in
    record { x = record { plane = lands.plane.x; place = lands.place.x }; y = record { plane = lands.plane.y; place = lands.place.y } }

test_from_both : (s : Surface) (point : Point) → BothLand s point → lands_within_limits point s ≡ true
test_from_both s point both =
    lands_from point s (record {
      plane = record { x = both.x.plane; y = both.y.plane };
      place = record { x = both.x.place; y = both.y.place };
    })

-- what all have, one has that has something else too
met : (P Q : Point → Type 0) (R : Type 0) (xs : List Point) → All P xs → Any Q xs → ((x : Point) → P x → Q x → R) → R
met P Q R xs all (k, x, below, at, holds) use_it = use_it x (subst P at (all k x below)) holds

module _ (f g : ℤ → ℤ) (s : Surface) (box : Rect) (points : List Point) (shows : ShowsFrame s) (of_x : KeepsBetween f) (of_y : KeepsBetween g) (tight : IsTight box points) where
  -- where each image lands
  abbrev OfPoint : Point → Type 0
  OfPoint point = BothLand s (mapped_by f g point)

  abbrev near : Point
  near = mapped_by f g (left_top_of box)

  abbrev far : Point
  far = mapped_by f g (right_bottom_of box)

  column : (v : ℤ) → All OfPoint points → Any (λ point. point.x ≡ v) points → Lands s.width s.frame_width (f v)
  column v all some = met OfPoint (λ point. point.x ≡ v) _ points all some (λ point lands at. subst (λ (x : ℤ). Lands s.width s.frame_width (f x)) at lands.x)

  row : (v : ℤ) → All OfPoint points → Any (λ point. point.y ≡ v) points → Lands s.height s.frame_height (g v)
  row v all some = met OfPoint (λ point. point.y ≡ v) _ points all some (λ point lands at. subst (λ (y : ℤ). Lands s.height s.frame_height (g y)) at lands.y)

  -- so the corners land where all do
  corners_land : list_all (λ point. lands_within_limits (mapped_by f g point) s) points ≡ true → (lands_within_limits near s && lands_within_limits far s) ≡ true
  corners_land t =
      let pass = AllPass-from_list_all (λ point. lands_within_limits (mapped_by f g point) s) points t in
      let all : All OfPoint points = λ k d below. both_from_test s _ (pass k d below) in
      and_from (lands_within_limits near s) (lands_within_limits far s)
      (test_from_both s near (record { x = column box.l all tight.left; y = row box.t all tight.top }))
      (test_from_both s far (record { x = column box.r all tight.right; y = row box.b all tight.bottom }))

  -- and all where the corners do
  point_lands : (point : Point) → HasPoint box point → BothLand s near → BothLand s far → OfPoint point
  point_lands point has first second = record {
    x = lands_between _ _ _ _ _ shows.wide (of_x box.l point.x box.r (inl (has.left, has.right))) first.x second.x;
    y = lands_between _ _ _ _ _ shows.high (of_y box.t point.y box.b (inl (has.top, has.bottom))) first.y second.y;
  }

  all_land : (lands_within_limits near s && lands_within_limits far s) ≡ true → list_all (λ point. lands_within_limits (mapped_by f g point) s) points ≡ true
  all_land t =
      let parts = and_parts (lands_within_limits near s) (lands_within_limits far s) t in
      let first = both_from_test s near parts.0 in
      let second = both_from_test s far parts.1 in
      list_all-from_AllPass (λ point. lands_within_limits (mapped_by f g point) s) points (λ k d below. test_from_both s _ (point_lands _ (tight.all k d below) first second))

  pub lands_by_corners : list_all (λ point. lands_within_limits point s) (map (mapped_by f g) points) ≡ (lands_within_limits near s && lands_within_limits far s)
  lands_by_corners = list_all-map (λ point. lands_within_limits point s) (mapped_by f g) points ∙ same_test _ _ corners_land all_land
