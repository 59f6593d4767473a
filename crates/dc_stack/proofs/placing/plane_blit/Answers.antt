use Rattle.std.proofs.Common.{[], ◌∷◌}
use Rattle.mapping.specs.PageMap.{map_numbers}
use Rattle.draw_ops.specs.Blits.{blit_value_of}
use Rattle.dc_stack.specs.Mapped.{opposite_corner, mapped_point}
use Rattle.dc_stack.proofs.LandingLemmas.{first_point_off, later_off}
use Rattle.dc_stack.proofs.PlaneBoxLemmas.{pair_plane_box}
use Rattle.dc_stack.proofs.placing.plane_blit.Goals as goal

pub returns-in-Err-clause-off : goal.returns-in-Err-clause-off
returns-in-Err-clause-off c = λ s shows.
    let map = map_numbers c.args.map.now in
    let asked = blit_value_of c.args.asked.now in
    first_point_off s (mapped_point map asked.corner) (mapped_point map (opposite_corner asked) ∷ []) c.in-Err.fault (c.in-Err.ensures.off s shows)

pub returns-in-Err-wide_plane_point-clause-off : goal.returns-in-Err-wide_plane_point-clause-off
returns-in-Err-wide_plane_point-clause-off c = λ s shows.
    let map = map_numbers c.args.map.now in
    let asked = blit_value_of c.args.asked.now in
    later_off s (mapped_point map asked.corner) (mapped_point map (opposite_corner asked) ∷ []) c.in-Err-wide_plane_point.fault
    ((rw (c.far_corner.ensures.x, c.far_corner.ensures.y) at c.in-Err-wide_plane_point.ensures.off) s shows)

pub returns-clause-second : goal.returns-clause-second
returns-clause-second c = rw (c.far_corner.ensures.x, c.far_corner.ensures.y) at c.in-Ok-wide_plane_point.ensures.plane

pub returns-clause-extent : goal.returns-clause-extent
returns-clause-extent c =
    pair_plane_box c.box_law.ensures c.in-Ok.first c.in-Ok-wide_plane_point.second c.in-Ok.ensures.on c.in-Ok-wide_plane_point.ensures.on
