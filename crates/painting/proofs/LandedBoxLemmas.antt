-- The pixels of a drawing lie in the box between the positions of its bounding box's corners on the surface.
use Rattle.std.proofs.Common.{◌≡◌, ℕ, ℤ, pos, negsuc, ◌+ℤ◌, ◌-ℤ◌, ◌≤ℤ◌, ◌<ℤ◌, true, ◌&&◌, List, [], ◌∷◌, map, arith, refl, ap, subst, sym, ◌∙◌}
use Rattle.std.proofs.lemmas.Bool.{and_from, and_parts}
use Rattle.std.proofs.lemmas.Int.{ints}
use Rattle.std.proofs.lemmas.List.Elements.{All-nil}
use Rattle.std.specs.Int.{int_max, int_min}
use Rattle.std.specs.List.{All, list_all}
use Rattle.mapping.specs.Boxes.{HasPoint, IsBoundingBox, IsTight, box_between, right_bottom_of, mapped_by, left_top_of, no_box}
use Rattle.mapping.specs.BoxLaws.{BoxLaws}
use Rattle.mapping.specs.Nibs.{reach_after, reach_before}
use Rattle.mapping.specs.PixelBoxes.{from_to_true, from_to_from, in_box, is_from_to}
use Rattle.mapping.specs.PlaceOf.{surface_of}
use Rattle.mapping.specs.PlacingLaws.{PlacingLaws, ShowsFrame}
use Rattle.mapping.specs.Surface.{FitsPlace, Surface, lands_true, lands_within_limits, placed_point}
use Rattle.mapping.specs.declared.geometry.Point.{Point}
use Rattle.mapping.specs.declared.geometry.Rect.{Rect}
use Rattle.mapping.specs.declared.nib.Nib.{Nib}
use Rattle.mapping.specs.declared.place.Place.{Place}
use Rattle.draw_ops.specs.declared.operation.RectangleEdges.TheVariants.{Inclusive}
use Rattle.preflight_cert.specs.DrawingBoxLaws.{DrawingBoxLaws, IsClosedShape, Reaches, shape_points}
use Rattle.preflight_cert.specs.Rectangles.{raised}
use Rattle.preflight_cert.specs.Shape.{Shape, in_shape, shape_nib}
use Rattle.span_fill.specs.WideStrokes.{widened}
use Rattle.painting.specs.Regions.{HasLanded}

least_low : (a b n v : ℤ) → (a -ℤ n) ≤ℤ v → (int_min a b -ℤ n) ≤ℤ v
least_low a b n v h = grind (arith, ints)

most_high : (a b n v : ℤ) → v ≤ℤ (b +ℤ n) → v <ℤ (int_max a b +ℤ pos 1 +ℤ n)
most_high a b n v h = grind (arith, ints)

same_points : (points : List Point) → map (mapped_by (λ v. v) (λ v. v)) points ≡ points
same_points [] = refl
same_points (p ∷ ps) = ap (λ (rest : List Point). p ∷ rest) (same_points ps)

-- what a nib reaches from the bounding box lies between the positions of its corners
pub reached_between : (nib : Nib) (s : Surface) (bounds : Rect) (x y : ℕ) → Reaches nib bounds s x y → in_box (widened nib (raised Inclusive (box_between (placed_point (left_top_of bounds) s) (placed_point (right_bottom_of bounds) s)))) x y ≡ true
reached_between nib s bounds x y reached =
    let near = placed_point (left_top_of bounds) s in
    let far = placed_point (right_bottom_of bounds) s in
    let pixel = reached.pixel in
    let left = pos (reach_before nib.x) in
    let top = pos (reach_before nib.y) in
    let right = pos (reach_after nib.x) in
    let bottom = pos (reach_after nib.y) in
    and_from (is_from_to (int_min near.x far.x -ℤ left) (int_max near.x far.x +ℤ pos 1 +ℤ right) x) (is_from_to (int_min near.y far.y -ℤ top) (int_max near.y far.y +ℤ pos 1 +ℤ bottom) y)
    (from_to_from _ _ x (least_low near.x far.x left (pos x) pixel.left) (most_high near.x far.x right (pos x) pixel.right))
    (from_to_from _ _ y (least_low near.y far.y top (pos y) pixel.top) (most_high near.y far.y bottom (pos y) pixel.bottom))

between_low : (a b n v : ℤ) → a ≤ℤ b → (int_min a b -ℤ n) ≤ℤ v → (a -ℤ n) ≤ℤ v
between_low a b n v h k = grind (arith, ints)

between_high : (a b n v : ℤ) → a ≤ℤ b → v <ℤ (int_max a b +ℤ pos 1 +ℤ n) → v ≤ℤ (b +ℤ n)
between_high a b n v h k = grind (arith, ints)

-- a box around no point reaches no pixel
pub none_in : (x y : ℕ) → in_box no_box x y ≡ true → ⊥
none_in x y h =
    let parts = and_parts (is_from_to (pos 0) (negsuc 0) x) (is_from_to (pos 0) (negsuc 0) y) h in
    let inside = from_to_true (pos 0) (negsuc 0) x parts.0 in
    let low = inside.0 in
    let high = inside.1 in
    omega (arith, ints, low, high)

pub shows : (place : Place) → ShowsFrame (surface_of place)
shows place = record { wide = place.frame.wide; high = place.frame.high }

module _ (laws : BoxLaws) (place : Place) (bounds : Rect) where
  abbrev s : Surface
  s = surface_of place

  -- if all points land within the limits, so do the corners
  corners_land : (points : List Point) → IsTight bounds points → list_all (λ point. lands_within_limits point s) points ≡ true → (lands_within_limits (left_top_of bounds) s && lands_within_limits (right_bottom_of bounds) s) ≡ true
  corners_land points tight within =
      let same = same_points points in
      let laid = laws.lands (λ v. v) (λ v. v) s bounds points (shows place) (λ from v to between. between) (λ from v to between. between) tight in
      sym laid ∙ ap (λ (ps : List Point). list_all (λ point. lands_within_limits point s) ps) same ∙ within

  -- if a corner doesn't land within the limits, nothing is reached
  pub none_reached :
      (nib : Nib) → (FitsPlace (placed_point (left_top_of bounds) s) → FitsPlace (placed_point (right_bottom_of bounds) s) → ⊥)
      → (points : List Point) → IsBoundingBox bounds points → list_all (λ point. lands_within_limits point s) points ≡ true → (x y : ℕ) → Reaches nib bounds s x y → ⊥
  none_reached nib off [] least within x y reached = empty (rw least at reached.wide)
    where
      empty : pos 0 ≤ℤ negsuc 0 → ⊥
      empty h = omega (arith, ints, h)
  none_reached nib off (p ∷ ps) least within x y reached =
      let both = and_parts (lands_within_limits (left_top_of bounds) s) (lands_within_limits (right_bottom_of bounds) s) (corners_land (p ∷ ps) least within) in
      off (lands_true (left_top_of bounds) s both.0).place (lands_true (right_bottom_of bounds) s both.1).place

-- if a box has a point, everything between the positions of its corners is reached
pub between_reached :
    (laws : PlacingLaws) (nib : Nib) (s : Surface) → ShowsFrame s → (bounds : Rect) → bounds.l ≤ℤ bounds.r → bounds.t ≤ℤ bounds.b
    → (x y : ℕ) → in_box (widened nib (raised Inclusive (box_between (placed_point (left_top_of bounds) s) (placed_point (right_bottom_of bounds) s)))) x y ≡ true
    → Reaches nib bounds s x y
between_reached laws nib s shown bounds wide high x y h =
    let near = placed_point (left_top_of bounds) s in
    let far = placed_point (right_bottom_of bounds) s in
    let left = pos (reach_before nib.x) in
    let top = pos (reach_before nib.y) in
    let right = pos (reach_after nib.x) in
    let bottom = pos (reach_after nib.y) in
    let parts = and_parts (is_from_to (int_min near.x far.x -ℤ left) (int_max near.x far.x +ℤ pos 1 +ℤ right) x) (is_from_to (int_min near.y far.y -ℤ top) (int_max near.y far.y +ℤ pos 1 +ℤ bottom) y) h in
    let column = from_to_true _ _ x parts.0 in
    let row = from_to_true _ _ y parts.1 in
    let across = laws.keeps_order s.width s.frame_width bounds.l bounds.r shown.wide wide in
    let down = laws.keeps_order s.height s.frame_height bounds.t bounds.b shown.high high in
    record {
      wide = wide;
      high = high;
      pixel = record {
        left = between_low near.x far.x left (pos x) across column.0;
        top = between_low near.y far.y top (pos y) down row.0;
        right = between_high near.x far.x right (pos x) across column.1;
        bottom = between_high near.y far.y bottom (pos y) down row.1;
      };
    }

-- the bounding box of points contains them
pub has_all : (bounds : Rect) (points : List Point) → IsBoundingBox bounds points → All (HasPoint bounds) points
has_all bounds [] least = All-nil (HasPoint bounds)
has_all bounds (p ∷ ps) least = least.all

-- a shape with this bounding box lies in the box that contains what it reaches
pub shape_landed :
    DrawingBoxLaws → (nib : Nib) (place : Place) (s : Surface) → surface_of place ≡ s → (bounds box : Rect) → HasLanded nib (surface_of place) bounds box
    → (points : List Point) → IsBoundingBox bounds points → list_all (λ point. lands_within_limits point s) points ≡ true
    → (shape : Shape) → shape_nib shape s ≡ nib → IsClosedShape shape → shape_points shape ≡ points → (x y : ℕ) → in_shape shape s x y ≡ true → in_box box x y ≡ true
shape_landed laws nib place s e bounds box landed points least within shape drawn closed reported x y h =
    let here : ShowsFrame s = subst ShowsFrame e (shows place) in
    let there : HasLanded nib s bounds box = subst (λ (r : Surface). HasLanded nib r bounds box) e landed in
    let all : All (HasPoint bounds) (shape_points shape) = subst (All (HasPoint bounds)) (sym reported) (has_all bounds points least) in
    let reached : Reaches nib bounds s x y = subst (λ (n : Nib). Reaches n bounds s x y) drawn (laws.shape shape bounds s x y here closed all h) in
    there.all points least within x y reached
