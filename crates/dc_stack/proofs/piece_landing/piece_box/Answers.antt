use Rattle.std.proofs.Common.{List, subst}
use Rattle.std.specs.Prelude.{IfOk}
use Rattle.mapping.specs.PageMap.{map_numbers}
use Rattle.mapping.specs.declared.geometry.Point.{Point}
use Rattle.point_views.specs.PartedPoints.{parts_of}
use Rattle.point_views.specs.Points.{points_of}
use Rattle.dc_stack.specs.Extents.{IsExtent}
use Rattle.dc_stack.proofs.ListLemmas.{points_mapped}
use Rattle.dc_stack.proofs.piece_landing.piece_box.Goals as goal

pub returns-in-Lists-clause-plane : goal.returns-in-Lists-clause-plane
returns-in-Lists-clause-plane c =
    let all = points_mapped (map_numbers c.args.map.now) (points_of c.points-points.result) (parts_of c.in-Lists.parted) c.points-points.ensures in
    rw c.in-Lists.is (subst (λ (points : List Point). IfOk c.plane_box-in-Lists.result (λ extent. IsExtent extent points)) all c.plane_box-in-Lists.ensures.extent)
