use Rattle.std.proofs.Common.{◌≡◌, false, rules}
use Rattle.mapping.specs.PageMap.{map_numbers}
use Rattle.mapping.specs.Plane.{is_on_plane, plane_point}
use Rattle.dc_stack.proofs.LandingLemmas.{point_off}
use Rattle.dc_stack.proofs.placing.wide_plane_point.Goals as goal

pub returns-in-None-clause-off : goal.returns-in-None-clause-off
returns-in-None-clause-off c = λ s shows.
    let point = plane_point (map_numbers c.args.map.now) c.args.point.x c.args.point.y in
    let off : is_on_plane point ≡ false = search rules in
    point_off s point off
