use Rattle.std.proofs.Common.{◌≡◌, true, false, refl, rules, sym, ◌∙◌}
use Rattle.mapping.specs.PlaceOf.{surface_of}
use Rattle.mapping.specs.PlacingLaws.{ShowsFrame}
use Rattle.dc_stack.proofs.BoxLemmas.{keeps_placed}
use Rattle.dc_stack.proofs.FaultOrder.{or_none}
use Rattle.dc_stack.proofs.machine.Machine.intersect_clip.Goals as goal

pub invariant_of-self : goal.invariant_of-self
invariant_of-self g c =
    let place = c.self.inside.place in
    let shows : ShowsFrame (surface_of place) = record { wide = place.frame.wide; high = place.frame.high } in
    record {
      clips = record {
        now = keeps_placed c.placing_law.ensures (surface_of place) shows c.self.inside.dc.clip c.keep.new.self c.in-Ok.landed c.keep.ensures.placed c.keep.ensures.plane c.in-Ok.ensures.placed c.self.invariant.clips.now;
        saved = c.self.invariant.clips.saved;
      };
      gathered = c.self.invariant.gathered;
      points = c.self.invariant.points;
    }

pub returns-in-Ok-clause-plays : goal.returns-in-Ok-clause-plays
returns-in-Ok-clause-plays g c =
    rw (← c.self.view_is) (record {
      stepped = record { no_fault = or_none _ ∙ sym c.in-Ok.ensures.fault; state = rw (c.keep.ensures.plane, c.in-Ok.ensures.plane) refl; needs = search rules };
      drawn = refl;
      placed = tt;
      nib = tt;
      extent = c.in-Ok.ensures.extent;
      figures = λ (e : false ≡ true). cc;
    })
