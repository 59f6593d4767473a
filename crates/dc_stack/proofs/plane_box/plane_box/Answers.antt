use Rattle.std.proofs.Common.{◌∙◌}
use Rattle.point_views.specs.Points.{points_of}
use Rattle.dc_stack.proofs.PlaneBoxLemmas.{off_by_corners, page_plane_box}
use Rattle.dc_stack.proofs.plane_box.plane_box.Goals as goal

pub returns-in-Ok-clause-extent : goal.returns-in-Ok-clause-extent
returns-in-Ok-clause-extent c =
    page_plane_box c.box_law.ensures c.args.map.now c.in-Some.page c.in-Ok.plane (points_of c.args.points) c.in-Some.ensures.tight c.in-Ok.ensures.plane c.in-Ok.ensures.extent

pub returns-in-Err-clause-off : goal.returns-in-Err-clause-off
returns-in-Err-clause-off c = λ s shows.
    c.in-Err.ensures.off s shows ∙ off_by_corners c.box_law.ensures c.args.map.now c.in-Some.page (points_of c.args.points) c.in-Some.ensures.tight s shows
