use Rattle.std.proofs.Common.{take}
use Rattle.mapping.specs.Boxes.{IsTight}
use Rattle.point_views.specs.Points.{points_of}
use Rattle.point_views.proofs.points.Points.bounds.Given as goal

-- the box is the least one around the points so far
abbrev pub invariant-loop-index : goal.invariant-loop-index
invariant-loop-index l = IsTight l.bounds (take l.index (points_of l.self))
