use Rattle.std.proofs.Common.{◌+◌, ◌*◌, ap, sym, ◌∙◌, refl, arith}
use Rattle.raster_ops.proofs.StepLemmas.{left_below, next_divided}
use Rattle.raster_ops.proofs.steps.ColumnSteps.next.Goals as goal

pub invariant_of-result : goal.invariant_of-result
invariant_of-result c =
    let s = c.args.self in
    let twice = 2 * s.side in
    record {
      some = s.some;
      few = s.few;
      short = s.short;
      divided = next_divided s.count (2 * s.side) s.place s.quotient s.rest s.whole s.part s.divided s.moves _ c.lowered.result c.lowered.ensures ∙ ap (λ q. q * (2 * s.side) + c.lowered.result) (sym c.raised.ensures);
      rest_below = left_below (2 * s.side) (s.rest + s.part) c.lowered.result _ refl (let r = s.rest_below in let p = s.part_below in omega arith) c.lowered.ensures;
      moves = s.moves;
      part_below = s.part_below;
    }
