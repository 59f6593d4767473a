use Rattle.std.proofs.Common.{◌≡◌, [], ◌∷◌, None, arith, inl, refl, rules, sym, ap}
use Rattle.std.specs.Option.{option_map}
use Rattle.draw_ops.specs.Blits.{blit_value_of, source_of}
use Rattle.draw_ops.specs.Operation.{blit}
use Rattle.draw_ops.specs.declared.fault.Fault.TheVariants.{Record}
use Rattle.mapping.specs.PageMap.{map_numbers}
use Rattle.mapping.specs.PlaceOf.{surface_of}
use Rattle.mapping.specs.PlacingLaws.{ShowsFrame}
use Rattle.dc_stack.specs.Drawing.{blit_between}
use Rattle.dc_stack.specs.Extents.{IsPlaneBox}
use Rattle.dc_stack.specs.Mapped.{mapped_point, opposite_corner}
use Rattle.dc_stack.specs.OperationFault.{source_fault}
use Rattle.dc_stack.proofs.BlitLemmas.{readable}
use Rattle.dc_stack.proofs.FaultOrder.{first_of_both}
use Rattle.dc_stack.proofs.ListLemmas.{few_then, never_too_many}
use Rattle.dc_stack.proofs.MarkingLemmas.{draws_marked, plays_drawn}
use Rattle.dc_stack.proofs.machine.Machine.blit.Goals as goal

pub returns-clause-plays : goal.returns-clause-plays
returns-clause-plays g c =
    let asked = c.args.asked.now in
    let old = c.self.inside in
    let map = map_numbers old.dc.map in
    let value = blit_value_of asked in
    let table = asked.operation.table in
    let source = source_of asked.source in
    let none : source_fault table source ≡ None = search rules in
    let boxed : IsPlaneBox c.between.result (c.in-Ok.corners.0 ∷ c.in-Ok.corners.1 ∷ []) = rw c.between.ensures c.in-Ok.ensures.extent in
    let marks = rw (← c.self.view_is) at c.make_draw.ensures.marks in
    let drawn = draws_marked _ (blit_between c.in-Ok.corners.0 c.in-Ok.corners.1 table source) _ 0 (λ pieces. refl) refl refl (never_too_many 0 (omega arith)) boxed _ _ _ (readable table source none) marks in
    rw (← c.self.view_is) (plays_drawn (blit value) (blit_between (mapped_point map value.corner) (mapped_point map (opposite_corner value)) table source) old.dc.position _ _ refl refl refl
    (rw (none, few_then 0 (omega arith)) refl) refl _ (rw (c.in-Ok.ensures.first, c.in-Ok.ensures.second) at drawn))

pub returns-in-Err-clause-plays : goal.returns-in-Err-clause-plays
returns-in-Err-clause-plays g c =
    let asked = c.args.asked.now in
    let place = c.self.inside.place in
    let shows : ShowsFrame (surface_of place) = record { wide = place.frame.wide; high = place.frame.high } in
    let none : source_fault asked.operation.table (source_of asked.source) ≡ None = search rules in
    rw (← c.self.view_is) (record {
      rejected = inl (rw none (ap (option_map Record) (first_of_both _ _ _ (sym (c.in-Err.ensures.off (surface_of place) shows)))));
      kept = record { state = refl; painted = refl; plane_extent = refl; needs = refl };
    })
