use Rattle.std.proofs.Common.{[], ◌∷◌, arith, refl}
use Rattle.mapping.specs.PlaceOf.{surface_of}
use Rattle.mapping.specs.PlacingLaws.{ShowsFrame}
use Rattle.dc_stack.specs.Drawing.{rectangle_between}
use Rattle.dc_stack.specs.Extents.{IsPlaneBox}
use Rattle.dc_stack.specs.declared.draw.Mark.TheVariants.{Rectangle}
use Rattle.dc_stack.proofs.ListLemmas.{never_too_many}
use Rattle.dc_stack.proofs.MarkingLemmas.{draws_marked, rejects_off}
use Rattle.dc_stack.proofs.machine.Machine.draw_rectangle.Goals as goal

pub returns-in-Ok-clause-draws : goal.returns-in-Ok-clause-draws
returns-in-Ok-clause-draws g c =
    let first = c.in-Ok.first in
    let second = c.in-Ok.second in
    let boxed : IsPlaneBox c.between.result (first ∷ second ∷ []) = rw c.between.ensures c.in-Ok.ensures.extent in
    let marks = rw (← c.self.view_is) at c.make_draw.ensures.marks in
    let drawn = draws_marked (Rectangle first second c.args.edges) (rectangle_between first second c.args.edges) _ 4 (λ pieces. refl) refl refl (never_too_many 4 (omega arith)) boxed _ _ _ tt marks in
    let near = rw c.left_top.ensures at c.in-Ok.ensures.first in
    let far = rw c.right_bottom.ensures at c.in-Ok.ensures.second in
    rw (← c.self.view_is) (rw (near, far) at drawn)

pub returns-in-Err-clause-draws : goal.returns-in-Err-clause-draws
returns-in-Err-clause-draws g c =
    let place = c.self.inside.place in
    let shows : ShowsFrame (surface_of place) = record { wide = place.frame.wide; high = place.frame.high } in
    let off = rw (c.left_top.ensures, c.right_bottom.ensures) at c.in-Err.ensures.off in
    rw (← c.self.view_is)
    (rejects_off _ _ _ c.in-Err.fault (never_too_many 4 (omega arith)) (off (surface_of place) shows) (record { state = refl; painted = refl; plane_extent = refl; needs = refl }))
