-- The one span between two edges is what a sweep over them gives.
use Rattle.std.proofs.Common.{sym}
use Rattle.span_fill.proofs.SweepLemmas.{swept_two}
use Rattle.span_fill.proofs.sweep.sweep.Goals as goal

pub returns-then-is_over_after-clause-spans : goal.returns-then-is_over_after-clause-spans
returns-then-is_over_after-clause-spans c =
    swept_two c.args.rule c.args.interval.to c.args.interval.from c.args.edges.now _ c.column_after-from.result c.column_after-to.result c.args.spans.now.items c.put_run.new.spans.items c.if-edges-eq2.true (sym c.if-is_over_after.ensures) c.column_after-from.ensures c.column_after-to.ensures c.put_run.ensures.spans
