use Rattle.std.proofs.Common.{[], ◌∷◌, arith, refl}
use Rattle.mapping.specs.PlaceOf.{surface_of}
use Rattle.mapping.specs.PlacingLaws.{ShowsFrame}
use Rattle.dc_stack.specs.Drawing.{lists_painted}
use Rattle.dc_stack.specs.Extents.{IsPlaneBox}
use Rattle.dc_stack.specs.declared.draw.Mark.TheVariants.{Line}
use Rattle.dc_stack.specs.declared.draw.Painting.TheVariants.{Stroke}
use Rattle.dc_stack.proofs.ListLemmas.{never_too_many}
use Rattle.dc_stack.proofs.MarkingLemmas.{draws_marked, rejects_off}
use Rattle.dc_stack.proofs.machine.Machine.draw_pair.Goals as goal

pub returns-in-Ok-clause-draws : goal.returns-in-Ok-clause-draws
returns-in-Ok-clause-draws g c =
    let from = c.in-Ok.from in
    let to = c.in-Ok.to in
    let boxed : IsPlaneBox c.between-extent.result (from ∷ to ∷ []) = rw c.between-extent.ensures c.in-Ok.ensures.extent in
    let marks = rw (← c.self.view_is) at c.make_draw.ensures.marks in
    let drawn = draws_marked (Line from to) (lists_painted Stroke ((from ∷ to ∷ []) ∷ [])) _ 2 (λ pieces. refl) refl refl (never_too_many 2 (omega arith)) boxed _ _ _ tt marks in
    rw (← c.self.view_is) (rw (c.in-Ok.ensures.first, c.in-Ok.ensures.second) at drawn)

pub returns-in-Err-clause-draws : goal.returns-in-Err-clause-draws
returns-in-Err-clause-draws g c =
    let place = c.self.inside.place in
    let shows : ShowsFrame (surface_of place) = record { wide = place.frame.wide; high = place.frame.high } in
    rw (← c.self.view_is)
    (rejects_off _ _ _ c.in-Err.fault (never_too_many 2 (omega arith)) (c.in-Err.ensures.off (surface_of place) shows) (record { state = refl; painted = refl; plane_extent = refl; needs = refl }))
