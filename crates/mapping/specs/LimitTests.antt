-- The tests of the limits.
use Rattle.std.specs.Prelude.{ℕ, ℤ, IsTrue, ◌↔◌}
use Rattle.mapping.specs.declared.geometry.Point.{Point}
use Rattle.mapping.specs.Limits.{IsWithin, is_within, IsSurfaceSide, is_surface_side, IsFrameSide, is_frame_side}
use Rattle.mapping.specs.Plane.{IsOnPlane, is_on_plane}
use Rattle.mapping.specs.Surface.{LandsWithinLimits, Surface, lands_within_limits}
use Rattle.mapping.specs.Nibs.{IsNib, is_nib}
use Rattle.mapping.specs.declared.nib.Nib.{Nib}

-- each test of a limit is true exactly if the limit holds
pub record TestsAreLimits : Type 0 where
  pub within : (limit : ℕ) (v : ℤ) → IsTrue (is_within limit v) ↔ IsWithin limit v
  pub on_plane : (point : Point) → IsTrue (is_on_plane point) ↔ IsOnPlane point
  pub lands : (point : Point) (s : Surface) → IsTrue (lands_within_limits point s) ↔ LandsWithinLimits point s
  pub surface_side : (side : ℕ) → IsTrue (is_surface_side side) ↔ IsSurfaceSide side
  pub frame_side : (side : ℕ) → IsTrue (is_frame_side side) ↔ IsFrameSide side
  pub nib : (nib : Nib) → IsTrue (is_nib nib) ↔ IsNib nib
