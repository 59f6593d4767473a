-- Where a plane point lands on a surface.
use Rattle.std.specs.Prelude.{◌≡◌, ℕ, ℤ, pos, negsuc, ◌*ℤ◌, Bool, true, false, ◌&&◌, ◌==◌}
use Rattle.std.proofs.lemmas.Bool.{and_from, and_parts}
use Rattle.mapping.specs.Floor.{floor_div}
use Rattle.mapping.specs.Limits.{place_limit, IsWithin, is_within, within_from, within_true}
use Rattle.mapping.specs.Plane.{IsOnPlane, is_on_plane, on_plane_from, on_plane_true}
use Rattle.mapping.specs.declared.geometry.Point.{Point}

-- the size of a surface in pixels, and the size of the frame that it shows in plane units
pub record Surface : Type 0 where
  pub width : ℕ
  pub height : ℕ
  pub frame_width : ℕ
  pub frame_height : ℕ

-- the plane coordinate v, scaled from the frame's width or height to the surface's and rounded down
abbrev pub placed : ℤ → ℕ → ℕ → ℤ
placed v surface_side frame_side = floor_div (v *ℤ pos surface_side) (pos frame_side)

-- where a plane point lands: its column from its x and the widths, its row from its y and the heights
abbrev pub placed_point : Point → Surface → Point
placed_point point s = record { x = placed point.x s.width s.frame_width; y = placed point.y s.height s.frame_height }

-- the placed coordinate is within its limit
abbrev pub IsPlaceCoordinate : ℤ → Type 0
IsPlaceCoordinate v = IsWithin place_limit v

-- the placed point is within its limits
pub record FitsPlace (point : Point) : Type 0 where
  pub x : IsPlaceCoordinate point.x
  pub y : IsPlaceCoordinate point.y

-- whether the placed point is within its limits
abbrev pub fits_place : Point → Bool
fits_place point = is_within place_limit point.x && is_within place_limit point.y

pub fits_place_true : (point : Point) → fits_place point ≡ true → FitsPlace point
fits_place_true point test =
    let parts = and_parts (is_within place_limit point.x) (is_within place_limit point.y) test in
    record { x = within_true place_limit point.x parts.0; y = within_true place_limit point.y parts.1 }

pub fits_place_from : (point : Point) → FitsPlace point → fits_place point ≡ true
fits_place_from point h =
    and_from (is_within place_limit point.x) (is_within place_limit point.y) (within_from place_limit point.x h.x) (within_from place_limit point.y h.y)

-- the point lies on the plane and lands within the limits of placed coordinates
abbrev pub lands_within_limits : Point → Surface → Bool
lands_within_limits point s = is_on_plane point && fits_place (placed_point point s)

-- the point lies on the plane and lands within the limits of placed coordinates, as a fact
pub record LandsWithinLimits (point : Point) (s : Surface) : Type 0 where
  pub plane : IsOnPlane point
  pub place : FitsPlace (placed_point point s)

pub lands_true : (point : Point) (s : Surface) → lands_within_limits point s ≡ true → LandsWithinLimits point s
lands_true point s test =
    let parts = and_parts (is_on_plane point) (fits_place (placed_point point s)) test in
    record { plane = on_plane_true point parts.0; place = fits_place_true (placed_point point s) parts.1 }

pub lands_from : (point : Point) (s : Surface) → LandsWithinLimits point s → lands_within_limits point s ≡ true
lands_from point s h =
    and_from (is_on_plane point) (fits_place (placed_point point s)) (on_plane_from point h.plane) (fits_place_from (placed_point point s) h.place)

-- a placed coordinate is the column or row with this number
abbrev pub is_index : ℤ → ℕ → Bool
is_index (pos v) n = v == n
is_index (negsuc v) n = false

-- a placed point is the pixel in column x of row y
abbrev pub is_pixel : Point → ℕ → ℕ → Bool
is_pixel point x y = is_index point.x x && is_index point.y y
