-- The lists into which points are divided.
use Rattle.std.specs.Prelude.{List}
use Rattle.mapping.specs.declared.geometry.Point.{Point}
use Rattle.point_views.specs.Points.{all_points_in}
use Rattle.point_views.specs.Counts.{all_counts_in}
use Rattle.point_views.specs.Split.{split_by}
use Rattle.point_views.specs.declared.parted_points.PartedPoints.{PartedPoints}

-- the lists, each with as many points as its count says
abbrev pub parts_of : PartedPoints → List (List Point)
parts_of parted = split_by (all_counts_in parted.count_width parted.count_bytes.now) (all_points_in parted.point_width parted.point_bytes.now)
