-- Two edges more: the span between them, and the same of the others.
use Rattle.std.proofs.Common.{◌+◌, ◌<◌, length, pos, false, refl, sym, ◌∙◌, arith}
use Rattle.span_fill.specs.declared.edge.ActiveEdge.{ActiveEdge}
use Rattle.span_fill.proofs.PairLemmas.{has_pair_at, swept_pairs}
use Rattle.span_fill.proofs.sweep.sweep_pairs.Goals as goal

-- an edge where there is none
abbrev none : ActiveEdge
none = record { bottom = 0; is_down = false; column = pos 0; rest = pos 0; divisor = pos 0; step = pos 0; more = pos 0 }

pub loop-from-preserved : goal.loop-from-preserved
loop-from-preserved c =
    let edges = c.args.edges.now in
    let place = c.loop-from.place in
    let pair = c.loop-from-test.ensures in
    let within : place + 1 < length edges = pair.within refl in
    let over = sym (has_pair_at c.args.rule edges place none within) ∙ sym pair.pair in
    record {
      spans = swept_pairs c.args.rule c.args.interval.to edges place c.loop-from.at c.loop-from.run none c.column_after-from.result c.column_after-at.result c.put_part-run.result c.loop-from.spans.items c.put_part-run.new.spans.items _ within over c.column_after-from.ensures c.column_after-at.ensures c.put_part-run.ensures.run c.put_part-run.ensures.spans c.loop-from.invariant.spans;
      within = omega (arith, within);
      length = omega arith;
      capacity = omega arith;
    }
