-- How placed coordinates depend on the point and on the surface's size.
use Rattle.std.specs.Prelude.{◌≡◌, ℕ, ℤ, ◌≤◌, ◌≤ℤ◌, IsTrue}
use Rattle.mapping.specs.declared.geometry.Point.{Point}
use Rattle.mapping.specs.Limits.{IsFrameSide}
use Rattle.mapping.specs.Surface.{Surface, lands_within_limits, placed}

-- a surface is at most as large as another, and shows a frame of the same size
pub record IsNoLarger (smaller larger : Surface) : Type 0 where
  pub width : smaller.width ≤ larger.width
  pub height : smaller.height ≤ larger.height
  pub frame_width : smaller.frame_width ≡ larger.frame_width
  pub frame_height : smaller.frame_height ≡ larger.frame_height

-- a surface shows a frame of a valid size
pub record ShowsFrame (s : Surface) : Type 0 where
  pub wide : IsFrameSide s.frame_width
  pub high : IsFrameSide s.frame_height

-- Placing preserves the order of coordinates, and a point that lands within the limits on a surface does so on each
-- surface that is no larger.
pub record PlacingLaws : Type 0 where
  pub keeps_order :
      (side frame_side : ℕ) (v w : ℤ) → IsFrameSide frame_side → v ≤ℤ w
      → placed v side frame_side ≤ℤ placed w side frame_side
  pub lands_on_smaller :
      (point : Point) (smaller larger : Surface) → ShowsFrame larger → IsNoLarger smaller larger
      → IsTrue (lands_within_limits point larger) → IsTrue (lands_within_limits point smaller)
