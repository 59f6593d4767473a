-- Consecutive points, and the points of a view.
use Rattle.std.specs.Prelude.{ℕ, zero, suc, ◌/◌, List, [], ◌∷◌, length, drop}
use Rattle.mapping.specs.declared.geometry.Point.{Point}
use Rattle.point_views.specs.Numbers.{point_size, first_point}
use Rattle.point_views.specs.declared.numbers.NumberWidth.{NumberWidth}
use Rattle.point_views.specs.declared.points.Points.{Points}

-- the first n points in the bytes
abbrev pub points_in : NumberWidth → ℕ → List ℕ → List Point
points_in width zero bytes = []
points_in width (suc n) bytes = first_point width bytes ∷ points_in width n (drop (point_size width) bytes)

-- all points that the bytes contain
abbrev pub all_points_in : NumberWidth → List ℕ → List Point
all_points_in width bytes = points_in width (length bytes / point_size width) bytes

-- the points of a view: all that its bytes contain
abbrev pub points_of : Points → List Point
points_of points = all_points_in points.width points.bytes.now
