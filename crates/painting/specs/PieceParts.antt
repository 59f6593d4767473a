-- The points of a piece in two parts: a few that are placed at once, and lists of page points that are placed one by
-- one.
use Rattle.std.specs.Prelude.{List, [], ◌∷◌}
use Rattle.mapping.specs.declared.geometry.Point.{Point}
use Rattle.point_views.specs.Points.{points_of}
use Rattle.point_views.specs.PartedPoints.{parts_of}
use Rattle.mapping.specs.Boxes.{box_between, left_top_of, right_bottom_of}
use Rattle.dc_stack.specs.Figures.{box_corners}
use Rattle.dc_stack.specs.Projected.{projected}
use Rattle.dc_stack.specs.declared.piece.PiecePoints.{PiecePoints}
use Rattle.dc_stack.specs.declared.piece.PiecePoints.TheVariants.{Point as OnePoint, List as OneList, Lists, Corners}
use Rattle.dc_stack.specs.declared.projection.Projection.{Projection}

-- the points that are placed at once, on the surface: one point, or the corners of a box
abbrev pub placed_part : Projection → PiecePoints → List Point
placed_part by (OnePoint point) = projected by point ∷ []
placed_part by (OneList points) = []
placed_part by (Lists parted) = []
placed_part by (Corners corners) = box_corners (box_between (projected by (left_top_of corners)) (projected by (right_bottom_of corners)))

-- the lists of page points
abbrev pub page_part : PiecePoints → List (List Point)
page_part (OnePoint point) = []
page_part (OneList points) = points_of points ∷ []
page_part (Lists parted) = parts_of parted
page_part (Corners corners) = []
