use Rattle.std.proofs.Common.{ap, refl, sym, ◌∙◌}
use Rattle.mapping.specs.PageMap.{map_numbers}
use Rattle.mapping.specs.PlaceOf.{surface_of}
use Rattle.mapping.specs.PlacingLaws.{ShowsFrame}
use Rattle.point_views.specs.Points.{points_of}
use Rattle.dc_stack.specs.Drawing.{going_on}
use Rattle.dc_stack.specs.Mapped.{mapped_lists}
use Rattle.dc_stack.specs.Next.{end_of}
use Rattle.dc_stack.specs.declared.draw.Painting.TheVariants.{Stroke}
use Rattle.dc_stack.specs.State.{with_position}
use Rattle.dc_stack.proofs.ListLemmas.{has_points, through_fault}
use Rattle.dc_stack.proofs.MarkingLemmas.{draws_through, rejects_lists}
use Rattle.dc_stack.proofs.machine.Machine.draw_lines.Goals as goal

pub returns-in-Ok-make_draw-clause-draws : goal.returns-in-Ok-make_draw-clause-draws
returns-in-Ok-make_draw-clause-draws g c =
    let some = has_points (points_of c.args.points) _ c.is_empty.ensures c.if-is_empty.false in
    let lines = c.in-Ok.lines in
    let marks = rw (← c.self.view_is) at c.make_draw.ensures.marks in
    let drawn = draws_through c.self.inside.dc.map c.self.inside.dc.position lines.0 c.args.points lines.1.extent lines.1.count _ _ _ some c.in-Ok.ensures.from c.in-Ok.ensures.count c.in-Ok.ensures.few c.in-Ok.ensures.extent marks in
    let reported = rw (c.in-Ok-make_draw.is, ← c.self-2.view_is) at drawn in
    rw (← c.self.view_is) (record {
      no_fault = reported.no_fault;
      state = rw c.end_of-self-inside.ensures (ap (with_position (end_of c.self.inside.dc.position (points_of c.args.points))) reported.state);
      needs = reported.needs;
      drawn = reported.drawn;
      placed = reported.placed;
      nib = reported.nib;
      apart = reported.apart;
      extent = reported.extent;
    })

pub returns-in-Err-make_draw-clause-draws : goal.returns-in-Err-make_draw-clause-draws
returns-in-Err-make_draw-clause-draws g c =
    let some = has_points (points_of c.args.points) _ c.is_empty.ensures c.if-is_empty.false in
    let lines = c.in-Ok.lines in
    let marks = rw (← c.self.view_is) at c.make_draw.ensures.marks in
    let drawn = draws_through c.self.inside.dc.map c.self.inside.dc.position lines.0 c.args.points lines.1.extent lines.1.count _ _ _ some c.in-Ok.ensures.from c.in-Ok.ensures.count c.in-Ok.ensures.few c.in-Ok.ensures.extent marks in
    rw (← c.self.view_is) (rw c.in-Err-make_draw.is at drawn)

pub returns-in-Err-clause-draws : goal.returns-in-Err-clause-draws
returns-in-Err-clause-draws g c =
    let map = map_numbers c.self.inside.dc.map in
    let s = surface_of c.self.inside.place in
    let shows : ShowsFrame s = record { wide = c.self.inside.place.frame.wide; high = c.self.inside.place.frame.high } in
    let start = c.self.inside.dc.position in
    let points = points_of c.args.points in
    let some = has_points points _ c.is_empty.ensures c.if-is_empty.false in
    rw (← c.self.view_is)
    (rejects_lists Stroke (mapped_lists map (going_on start points)) _ _ c.in-Err.fault (through_fault map start points s some ∙ sym (c.in-Err.ensures.rejected s shows)) (record { state = refl; painted = refl; plane_extent = refl; needs = refl }))
