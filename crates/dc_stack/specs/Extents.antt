-- The bounding box of what an operation places on the plane, which doesn't depend on a surface.
use Rattle.std.specs.Prelude.{◌≡◌, ◌&&◌, Bool, List, [], ◌++◌, Option, Some, None, IsTrue}
use Rattle.mapping.specs.Boxes.{IsTight, right_bottom_of, left_top_of, no_box}
use Rattle.mapping.specs.Plane.{is_on_plane}
use Rattle.mapping.specs.PlacingLaws.{ShowsFrame}
use Rattle.mapping.specs.Surface.{Surface, fits_place, placed_point}
use Rattle.mapping.specs.declared.geometry.Point.{Point}
use Rattle.mapping.specs.declared.geometry.Rect.{Rect}
use Rattle.draw_ops.specs.declared.record_fault.RecordFault.{RecordFault}
use Rattle.dc_stack.specs.OperationFault.{off_plane_fault, points_fault}

-- a box is the bounding box of points, and lies on the plane
pub record IsPlaneBox (box : Rect) (points : List Point) : Type 0 where
  pub least : IsTight box points
  pub near : IsTrue (is_on_plane (left_top_of box))
  pub far : IsTrue (is_on_plane (right_bottom_of box))

-- the bounding box of points, which lies on the plane, if there is a point
abbrev pub IsExtent : Option Rect → List Point → Type 0
IsExtent None points = points ≡ []
IsExtent (Some box) points = IsPlaneBox box points

-- a box is the extent of two lists of points together, if these are the extents of both
abbrev pub JoinsExtents : Option Rect → Option Rect → Option Rect → Type 0
JoinsExtents first second both = (points others : List Point) → IsExtent first points → IsExtent second others → IsExtent both (points ++ others)

-- the top left and bottom right corners of a box land within the limits
abbrev pub do_corners_fit : Rect → Surface → Bool
do_corners_fit box s = fits_place (placed_point (left_top_of box) s) && fits_place (placed_point (right_bottom_of box) s)

-- the box of an extent; if there is none, the bounding box of no points
abbrev pub box_of : Option Rect → Rect
box_of None = no_box
box_of (Some box) = box

-- the points don't all lie on the plane, which is this fault on each surface
abbrev pub IsOffPlane : List Point → RecordFault → Type 0
IsOffPlane points fault = (s : Surface) → ShowsFrame s → Some fault ≡ off_plane_fault points s

-- there are more points than one drawing may have, or they don't all lie on the plane
abbrev pub IsRejected : List Point → RecordFault → Type 0
IsRejected points fault = (s : Surface) → ShowsFrame s → Some fault ≡ points_fault points s
