use Rattle.mapping.specs.PlaceOf.{surface_of}
use Rattle.dc_stack.proofs.machine.Machine.move_to.Goals as goal

pub invariant_of-self : goal.invariant_of-self
invariant_of-self g c =
    let call = c.end_figure.ensures in
    record {
      clips = record { now = c.self.invariant.clips.now; saved = c.self.invariant.clips.saved };
      gathered = call.gathered;
      points = call.lands (surface_of c.self.inside.place) c.self.invariant.points;
    }
