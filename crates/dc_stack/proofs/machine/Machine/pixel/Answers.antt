use Rattle.std.proofs.Common.{[], ◌∷◌, arith, inl, refl, sym, ap}
use Rattle.std.specs.Option.{option_map}
use Rattle.draw_ops.specs.Operation.{pixel}
use Rattle.draw_ops.specs.declared.fault.Fault.TheVariants.{Record}
use Rattle.mapping.specs.PageMap.{map_numbers}
use Rattle.mapping.specs.PlaceOf.{surface_of}
use Rattle.mapping.specs.PlacingLaws.{ShowsFrame}
use Rattle.dc_stack.specs.Drawing.{dot}
use Rattle.dc_stack.specs.Extents.{IsPlaneBox}
use Rattle.dc_stack.specs.Mapped.{mapped_point}
use Rattle.dc_stack.specs.declared.draw.Mark.TheVariants.{Dot}
use Rattle.dc_stack.proofs.FaultOrder.{first_of_both}
use Rattle.dc_stack.proofs.ListLemmas.{few_then, never_too_many}
use Rattle.dc_stack.proofs.MarkingLemmas.{draws_marked, plays_drawn}
use Rattle.dc_stack.proofs.PlaneBoxLemmas.{point_plane_box}
use Rattle.dc_stack.proofs.machine.Machine.pixel.Goals as goal

pub returns-in-Ok-clause-plays : goal.returns-in-Ok-clause-plays
returns-in-Ok-clause-plays g c =
    let old = c.self.inside in
    let value = dot c.in-Ok.at c.args.colour in
    let same = ap (λ point. dot point c.args.colour) c.in-Ok.ensures.plane in
    let boxed : IsPlaneBox c.around-extent.result (c.in-Ok.at ∷ []) = rw c.around-extent.ensures (point_plane_box c.box_law.ensures c.in-Ok.at c.in-Ok.ensures.on) in
    let marks = rw (← c.self.view_is) at c.make_draw.ensures.marks in
    let drawn = draws_marked (Dot c.in-Ok.at c.args.colour) value _ 0 (λ pieces. refl) refl refl (never_too_many 0 (omega arith)) boxed _ _ _ tt marks in
    rw (← c.self.view_is) (plays_drawn (pixel c.args.point c.args.colour) (dot (mapped_point (map_numbers old.dc.map) c.args.point) c.args.colour) old.dc.position _ _ refl refl refl
    (rw (few_then 0 (omega arith)) refl) refl _ (rw same at drawn))

pub returns-in-Err-clause-plays : goal.returns-in-Err-clause-plays
returns-in-Err-clause-plays g c =
    let place = c.self.inside.place in
    let shows : ShowsFrame (surface_of place) = record { wide = place.frame.wide; high = place.frame.high } in
    rw (← c.self.view_is) (record {
      rejected = inl (ap (option_map Record) (first_of_both _ _ _ (sym (c.in-Err.ensures.off (surface_of place) shows))));
      kept = record { state = refl; painted = refl; plane_extent = refl; needs = refl };
    })
