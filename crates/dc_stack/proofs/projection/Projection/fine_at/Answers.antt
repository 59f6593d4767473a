use Rattle.mapping.specs.PageMap.{map_numbers}
use Rattle.mapping.specs.PlaceOf.{surface_of}
use Rattle.dc_stack.specs.Mapped.{mapped_point}
use Rattle.dc_stack.proofs.projection.Projection.fine_at.Goals as goal

pub at_in_parts-requires : goal.at_in_parts-requires
at_in_parts-requires c =
    let point = mapped_point (map_numbers c.args.self.now.map) c.args.point in
    ((c.limits_law.ensures.lands point (surface_of c.args.self.now.place)).0 c.requires).plane

pub at-requires : goal.at-requires
at-requires c =
    let point = mapped_point (map_numbers c.args.self.now.map) c.args.point in
    rw c.at_in_parts.ensures ((c.limits_law.ensures.lands point (surface_of c.args.self.now.place)).0 c.requires).place
