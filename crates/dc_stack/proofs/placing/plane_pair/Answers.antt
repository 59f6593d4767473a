use Rattle.std.proofs.Common.{[], ◌∷◌}
use Rattle.mapping.specs.PageMap.{map_numbers}
use Rattle.dc_stack.specs.Mapped.{mapped_point}
use Rattle.dc_stack.proofs.LandingLemmas.{first_point_off, later_off}
use Rattle.dc_stack.proofs.PlaneBoxLemmas.{pair_plane_box}
use Rattle.dc_stack.proofs.placing.plane_pair.Goals as goal

pub returns-in-Err-clause-off : goal.returns-in-Err-clause-off
returns-in-Err-clause-off c = λ s shows.
    let map = map_numbers c.args.map.now in
    first_point_off s (mapped_point map c.args.first) (mapped_point map c.args.second ∷ []) c.in-Err.fault (c.in-Err.ensures.off s shows)

pub returns-in-Err-plane_point-clause-off : goal.returns-in-Err-plane_point-clause-off
returns-in-Err-plane_point-clause-off c = λ s shows.
    let map = map_numbers c.args.map.now in
    later_off s (mapped_point map c.args.first) (mapped_point map c.args.second ∷ []) c.in-Err-plane_point.fault (c.in-Err-plane_point.ensures.off s shows)

pub returns-clause-extent : goal.returns-clause-extent
returns-clause-extent c =
    pair_plane_box c.box_law.ensures c.in-Ok.first c.in-Ok-plane_point.second c.in-Ok.ensures.on c.in-Ok-plane_point.ensures.on
