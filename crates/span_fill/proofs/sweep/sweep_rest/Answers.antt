-- One edge more: what it ends, and the same of the others.
use Rattle.std.proofs.Common.{arith}
use Rattle.std.proofs.lemmas.Bool.Decides.{nat_tests}
use Rattle.span_fill.proofs.SweepLemmas.{swept_step}
use Rattle.span_fill.proofs.sweep.sweep_rest.Goals as goal

pub loop-next-preserved : goal.loop-next-preserved
loop-next-preserved c = record {
  spans = swept_step c.args.rule c.args.rest.to c.args.edges.now c.loop-next.next c.loop-next.at c.loop-next.downs c.loop-next.ups c.loop-next.run _ c.loop-next.spans.items c.put_part-run.new.spans.items _ c.is_inside_at.result c.column_after-column.result c.counted-downs.result c.counted-ups.result c.put_part-run.result (omega arith) c.is_inside_at.ensures c.column_after-column.ensures c.put_part-run.ensures.run c.counted-downs.ensures c.counted-ups.ensures c.put_part-run.ensures.spans c.loop-next.invariant.spans;
  counts = grind (arith, nat_tests);
  length = omega arith;
  capacity = omega arith;
}
