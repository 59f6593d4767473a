-- Where a page coordinate lands on the plane.
use Rattle.std.specs.Prelude.{◌≡◌, ℕ, ℤ, pos, ◌+ℤ◌, ◌-ℤ◌, ◌*ℤ◌, Bool, true, ◌&&◌}
use Rattle.std.proofs.lemmas.Bool.{and_from, and_parts}
use Rattle.mapping.specs.Floor.{floor_div}
use Rattle.mapping.specs.Limits.{plane_limit, IsWithin, is_within, within_from, within_true}
use Rattle.mapping.specs.declared.geometry.Point.{Point}
use Rattle.mapping.specs.declared.map_mode.MapMode.{MapMode}

-- the numbers of a page map on one axis; a unit of the frame has this many `parts`
pub record AxisNumbers : Type 0 where
  pub parts : ℕ
  pub window_origin : ℤ
  pub window_extent : ℤ
  pub viewport_origin : ℤ
  pub viewport_extent : ℤ
  pub corner : ℤ

-- the numbers of a page map, with its mode
pub record MapNumbers : Type 0 where
  pub mode : MapMode
  pub x : AxisNumbers
  pub y : AxisNumbers

-- The plane coordinate of a page coordinate. Its distance from the window's origin is scaled from the window's extent to
-- the viewport's, counted in parts and rounded down. The viewport's origin, relative to the frame's corner, is added in
-- parts.
abbrev pub plane_coordinate : AxisNumbers → ℤ → ℤ
plane_coordinate n v =
    floor_div ((v -ℤ n.window_origin) *ℤ pos n.parts *ℤ n.viewport_extent) n.window_extent
    +ℤ (n.viewport_origin -ℤ n.corner) *ℤ pos n.parts

-- the plane point of a page point, computed separately on each axis
abbrev pub plane_point : MapNumbers → ℤ → ℤ → Point
plane_point map x y = record { x = plane_coordinate map.x x; y = plane_coordinate map.y y }

-- the coordinate lies on the plane
abbrev pub IsPlaneCoordinate : ℤ → Type 0
IsPlaneCoordinate v = IsWithin plane_limit v

-- the point lies on the plane
pub record IsOnPlane (point : Point) : Type 0 where
  pub x : IsPlaneCoordinate point.x
  pub y : IsPlaneCoordinate point.y

-- whether the point lies on the plane
abbrev pub is_on_plane : Point → Bool
is_on_plane point = is_within plane_limit point.x && is_within plane_limit point.y

pub on_plane_true : (point : Point) → is_on_plane point ≡ true → IsOnPlane point
on_plane_true point test =
    let parts = and_parts (is_within plane_limit point.x) (is_within plane_limit point.y) test in
    record { x = within_true plane_limit point.x parts.0; y = within_true plane_limit point.y parts.1 }

pub on_plane_from : (point : Point) → IsOnPlane point → is_on_plane point ≡ true
on_plane_from point h =
    and_from (is_within plane_limit point.x) (is_within plane_limit point.y) (within_from plane_limit point.x h.x) (within_from plane_limit point.y h.y)
