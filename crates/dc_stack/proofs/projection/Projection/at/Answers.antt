use Rattle.mapping.specs.PageMap.{map_numbers}
use Rattle.mapping.specs.PlaceOf.{surface_of}
use Rattle.dc_stack.specs.Mapped.{mapped_point}
use Rattle.dc_stack.proofs.projection.Projection.at.Goals as goal

pub moved-requires-clause-there : goal.moved-requires-clause-there
moved-requires-clause-there c =
    let point = mapped_point (map_numbers c.args.self.now.map) c.args.point in
    ((c.limits_law.ensures.lands point (surface_of c.args.self.now.place)).0 c.requires).plane

pub at-requires : goal.at-requires
at-requires c =
    let point = mapped_point (map_numbers c.args.self.now.map) c.args.point in
    rw c.moved.ensures ((c.limits_law.ensures.lands point (surface_of c.args.self.now.place)).0 c.requires).place
