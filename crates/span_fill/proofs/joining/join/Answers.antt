-- One part more, and none at the end.
use Rattle.std.proofs.Common.{arith}
use Rattle.span_fill.proofs.JoiningLemmas.{joined_step}
use Rattle.span_fill.proofs.joining.join.Goals as goal

pub loop-part-preserved : goal.loop-part-preserved
loop-part-preserved c = record {
  spans = joined_step c.args.interval.to c.args.parts.now c.loop-part.part-index c.loop-part.run c.put_part-run.result _ c.loop-part.spans.items c.put_part-run.new.spans.items _ c.after-from.result c.after-to.result (omega arith) c.after-from.ensures c.after-to.ensures c.put_part-run.ensures.run c.put_part-run.ensures.spans c.loop-part.invariant.spans;
  length = omega arith;
  capacity = omega arith;
}
