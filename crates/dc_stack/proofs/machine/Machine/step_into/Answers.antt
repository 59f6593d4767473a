use Rattle.mapping.specs.PlaceOf.{surface_of}
use Rattle.dc_stack.proofs.machine.Machine.step_into.Goals as goal

pub invariant_of-self : goal.invariant_of-self
invariant_of-self g c =
    let call = c.forget.ensures in
    record {
      clips = c.self.invariant.clips;
      gathered = call.gathered;
      points = call.lands (surface_of c.self.inside.place) c.self.invariant.points;
    }
