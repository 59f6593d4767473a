use Rattle.std.proofs.Common.{length, ap, refl, sym, ◌∙◌, subst}
use Rattle.mapping.specs.PageMap.{map_numbers}
use Rattle.mapping.specs.PlaceOf.{surface_of}
use Rattle.mapping.specs.PlacingLaws.{ShowsFrame}
use Rattle.point_views.specs.Polys.{lists_of}
use Rattle.dc_stack.specs.Drawing.{lists_painted}
use Rattle.dc_stack.specs.Extents.{IsExtent}
use Rattle.dc_stack.specs.Mapped.{mapped_lists}
use Rattle.dc_stack.proofs.ListLemmas.{points_listed}
use Rattle.dc_stack.proofs.MarkingLemmas.{draws_marked, rejects_lists}
use Rattle.dc_stack.proofs.machine.Machine.draw_lists.Goals as goal

pub returns-in-Ok-clause-draws : goal.returns-in-Ok-clause-draws
returns-in-Ok-clause-draws g c =
    let on_plane = mapped_lists (map_numbers c.self.inside.dc.map) (lists_of c.args.lists) in
    let points = points_listed on_plane in
    let counted = c.in-Ok.ensures.count ∙ sym (ap length points) in
    let boxed = subst (IsExtent c.in-Ok.plane.extent) (sym points) c.in-Ok.ensures.extent in
    let marks = rw (← c.self.view_is) at c.make_draw.ensures.marks in
    rw (← c.self.view_is) (draws_marked _ (lists_painted c.args.painting on_plane) _ c.in-Ok.plane.count (λ pieces. refl) refl counted c.in-Ok.ensures.few boxed _ _ _ tt marks)

pub returns-in-Err-clause-draws : goal.returns-in-Err-clause-draws
returns-in-Err-clause-draws g c =
    let s = surface_of c.self.inside.place in
    let shows : ShowsFrame s = record { wide = c.self.inside.place.frame.wide; high = c.self.inside.place.frame.high } in
    let on_plane = mapped_lists (map_numbers c.self.inside.dc.map) (lists_of c.args.lists) in
    rw (← c.self.view_is)
    (rejects_lists c.args.painting on_plane _ _ c.in-Err.fault (sym (c.in-Err.ensures.rejected s shows)) (record { state = refl; painted = refl; plane_extent = refl; needs = refl }))
