-- Lists of points in a record.
use Rattle.std.specs.Prelude.{ℕ, ◌*◌, nat_le, if◌then◌else◌, ◌==◌, List, length, drop, sum, Option, Some, None}
use Rattle.mapping.specs.declared.geometry.Point.{Point}
use Rattle.point_views.specs.Counts.{counts_in}
use Rattle.point_views.specs.Numbers.{number_size, point_size}
use Rattle.point_views.specs.Points.{points_in}
use Rattle.point_views.specs.Split.{split_by}
use Rattle.point_views.specs.declared.numbers.NumberWidth.{NumberWidth}

-- this many points, from an offset on, if the bytes contain them
abbrev pub points_at : NumberWidth → ℕ → List ℕ → ℕ → Option (List Point)
points_at width count bytes place =
    if nat_le (point_size width * count) (length (drop place bytes)) then Some (points_in width count (drop place bytes)) else None

-- this many counts, from an offset on, if the bytes contain them
abbrev pub counts_at : NumberWidth → ℕ → List ℕ → ℕ → Option (List ℕ)
counts_at width count bytes place =
    if nat_le (number_size width * count) (length (drop place bytes)) then Some (counts_in width count (drop place bytes)) else None

-- the points divided into lists with these lengths, if the lengths add up to the number of points
abbrev pub lists_by : Option (List ℕ) → Option (List Point) → Option (List (List Point))
lists_by None points = None
lists_by (Some counts) None = None
lists_by (Some counts) (Some points) = if sum counts == length points then Some (split_by counts points) else None
