-- One column more.
use Rattle.std.proofs.Common.{◌+◌, ◌≤◌, refl, arith}
use Rattle.span_fill.specs.ColumnTables.{flag_at}
use Rattle.span_fill.proofs.CountLemmas.{apart_more, exact_more, row_ended}
use Rattle.span_fill.proofs.SweepLemmas.{longer_order}
use Rattle.span_fill.proofs.column_table.put_flagged.Goals as goal

pub loop-column-preserved : goal.loop-column-preserved
loop-column-preserved c =
    let column = c.loop-column.column in
    let first = c.args.interval.from in
    let run = c.loop-column.run in
    let there = c.loop-column.invariant in
    let inside = flag_at c.args.flags.now c.args.first column c.args.row in
    let low : first ≤ column = omega (arith, there.length) in
    let end : column + 1 ≤ c.args.interval.to = omega (arith, c.loop-column-test.true) in
    let order = longer_order inside run column (column + 1) there.order there.after (omega arith) in
    record {
      order = rw c.put_part-run.ensures.run order.0;
      after = rw c.put_part-run.ensures.run order.1;
      apart = apart_more first c.args.interval.to column c.loop-column.spans.items c.put_part-run.new.spans.items run c.put_part-run.result inside there.order there.after end c.put_part-run.ensures.run c.put_part-run.ensures.spans there.apart;
      exact = exact_more (λ x. flag_at c.args.flags.now c.args.first x c.args.row) first column c.loop-column.spans.items c.put_part-run.new.spans.items run c.put_part-run.result inside there.order there.after low refl c.put_part-run.ensures.run c.put_part-run.ensures.spans there.exact;
      length = omega (arith, there.length, c.put_part-run.ensures.length);
      capacity = omega (arith, there.capacity, c.put_part-run.ensures.capacity);
    }

pub returns-clause-spans : goal.returns-clause-spans
returns-clause-spans c =
    let there = c.loop-column.invariant in
    row_ended (λ x. flag_at c.args.flags.now c.args.first x c.args.row) c.args.interval c.loop-column.column c.loop-column.spans.items c.put_run.new.spans.items c.loop-column.run there.order there.after (omega (arith, c.loop-column-test.false, c.loop-column.auto.column-end, c.requires.order)) c.put_run.ensures.spans there.apart there.exact
