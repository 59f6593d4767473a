use Rattle.mapping.specs.PageMap.{map_numbers}
use Rattle.dc_stack.specs.Mapped.{left_top, right_bottom}
use Rattle.dc_stack.proofs.PlaneBoxLemmas.{corners_plane_box}
use Rattle.dc_stack.proofs.piece_landing.corners_box.Goals as goal

pub returns-in-Ok-clause-plane : goal.returns-in-Ok-clause-plane
returns-in-Ok-clause-plane c =
    let map = map_numbers c.args.map.now in
    corners_plane_box (left_top map c.args.corners) (right_bottom map c.args.corners) c.in-Ok.plane c.in-Ok.ensures.plane c.in-Ok.ensures.extent
