-- The lists of points of a view.
use Rattle.std.specs.Prelude.{List, [], ◌∷◌}
use Rattle.mapping.specs.declared.geometry.Point.{Point}
use Rattle.point_views.specs.Points.{points_of}
use Rattle.point_views.specs.PartedPoints.{parts_of}
use Rattle.point_views.specs.declared.polys.Polys.{Polys}
use Rattle.point_views.specs.declared.polys.Polys.TheVariants.{One, Parted}

-- one list, or those into which points are divided
abbrev pub lists_of : Polys → List (List Point)
lists_of (One points) = points_of points ∷ []
lists_of (Parted parted) = parts_of parted
