use Rattle.dc_stack.specs.Mapped.{left_top, right_bottom}
use Rattle.mapping.specs.PageMap.{map_numbers}
use Rattle.dc_stack.proofs.PlaneBoxLemmas.{same_plane_box}
use Rattle.dc_stack.proofs.placing.plane_rect.Goals as goal

pub returns-in-Ok-clause-extent : goal.returns-in-Ok-clause-extent
returns-in-Ok-clause-extent c =
    let map = map_numbers c.args.map.now in
    same_plane_box c.between.result c.in-Ok.first c.in-Ok.second (left_top map c.args.corners) (right_bottom map c.args.corners) c.between.ensures
    (rw c.left_top.ensures at c.in-Ok.ensures.first) (rw c.right_bottom.ensures at c.in-Ok.ensures.second) c.in-Ok.ensures.extent
