-- How page maps and places map the bounding boxes of points.
use Rattle.std.specs.Prelude.{◌≡◌, ◌≢◌, ◌&&◌, ◌++◌, ℕ, ℤ, pos, List, [], ◌∷◌, map}
use Rattle.std.specs.List.{list_all}
use Rattle.mapping.specs.Boxes.{IsBoxOver, IsTight, KeepsBetween, point_box, right_bottom_of, mapped_box_by, mapped_by, left_top_of}
use Rattle.mapping.specs.Limits.{IsFrameSide}
use Rattle.mapping.specs.Plane.{AxisNumbers, plane_coordinate}
use Rattle.mapping.specs.PlacingLaws.{ShowsFrame}
use Rattle.mapping.specs.Surface.{Surface, lands_within_limits, placed}
use Rattle.mapping.specs.declared.geometry.Point.{Point}
use Rattle.mapping.specs.declared.geometry.Rect.{Rect}

-- The bounding box of two lists of points is the bounding box of the two lists' boxes; so is that of a list and one
-- more point. A page map and a place map what lies between two coordinates to what lies between their images, on each
-- axis. If each axis is mapped so, the bounding box of points is mapped to the bounding box of their images, and the
-- images all land within the limits exactly if those of two corners do.
pub record BoxLaws : Type 0 where
  pub single : (point : Point) → IsTight (point_box point) (point ∷ [])
  pub joins :
      (first second both : Rect) (points others : List Point) → IsTight first points → IsTight second others → IsBoxOver first second both
      → IsTight both (points ++ others)
  pub page_map : (n : AxisNumbers) → n.window_extent ≢ pos 0 → KeepsBetween (plane_coordinate n)
  pub place : (side frame_side : ℕ) → IsFrameSide frame_side → KeepsBetween (λ v. placed v side frame_side)
  pub boxes :
      (f g : ℤ → ℤ) (box : Rect) (points : List Point) → KeepsBetween f → KeepsBetween g
      → IsTight box points → IsTight (mapped_box_by f g box) (map (mapped_by f g) points)
  pub lands :
      (f g : ℤ → ℤ) (s : Surface) (box : Rect) (points : List Point) → ShowsFrame s → KeepsBetween f → KeepsBetween g → IsTight box points
      → list_all (λ point. lands_within_limits point s) (map (mapped_by f g) points)
      ≡ (lands_within_limits (mapped_by f g (left_top_of box)) s && lands_within_limits (mapped_by f g (right_bottom_of box)) s)
