use Rattle.mapping.specs.PageMap.{map_numbers}
use Rattle.mapping.specs.PlaceOf.{surface_of}
use Rattle.dc_stack.specs.Mapped.{mapped_point}
use Rattle.dc_stack.proofs.projection.Projection.scaled_at.Goals as goal

pub at_in_units-requires-clause-there : goal.at_in_units-requires-clause-there
at_in_units-requires-clause-there c =
    let point = mapped_point (map_numbers c.args.self.now.map) c.args.point in
    ((c.limits_law.ensures.lands point (surface_of c.args.self.now.place)).0 c.requires).plane

pub at-requires : goal.at-requires
at-requires c =
    let point = mapped_point (map_numbers c.args.self.now.map) c.args.point in
    rw c.at_in_units.ensures ((c.limits_law.ensures.lands point (surface_of c.args.self.now.place)).0 c.requires).place
