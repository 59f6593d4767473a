-- A span that lies within another does so with its ends in order.
use Rattle.std.proofs.Common.{arith}
use Rattle.std.proofs.lemmas.Bool.{and_from, and_parts}
use Rattle.span_fill.specs.Spans.{in_span}
use Rattle.painting.proofs.TestLemmas.{column_from, column_true}
use Rattle.painting.proofs.reached_part.ordered.Goals as goal

pub returns-clause-part : goal.returns-clause-part
returns-clause-part c =
    let within = c.requires.within in
    let columns = c.ordered_span.ensures in
    let rows = c.ordered_span-2.ensures in
    let from = columns.from in
    let to = columns.to c.args.drawn.columns.to within.left_end within.right in
    let top = rows.from in
    let bottom = rows.to c.args.drawn.rows.to within.top_end within.bottom in
    let left = within.left in
    let left_end = within.left_end in
    let above = within.top in
    let above_end = within.top_end in
    let side = c.requires.columns.to in
    let height = c.requires.rows.to in
    record {
      columns = record { order = columns.order; from = omega (arith, from, left_end, side); to = omega (arith, to, side) };
      rows = record { order = rows.order; from = omega (arith, top, above_end, height); to = omega (arith, bottom, height) };
      right = to;
      top = omega (arith, top, above);
      bottom = bottom;
      all = λ x y inside.
          let parts = and_parts (in_span c.ordered_span.result x) (in_span c.ordered_span-2.result y) inside in
          let column = column_true c.ordered_span.result.from c.ordered_span.result.to x parts.0 in
          let row = column_true c.ordered_span-2.result.from c.ordered_span-2.result.to y parts.1 in
          let x_low = column.0 in
          let x_high = column.1 in
          let y_low = row.0 in
          let y_high = row.1 in
          and_from (in_span c.args.drawn.columns x) (in_span c.args.drawn.rows y)
          (column_from c.args.drawn.columns.from c.args.drawn.columns.to x (omega (arith, x_low, from, left)) (omega (arith, x_high, to)))
          (column_from c.args.drawn.rows.from c.args.drawn.rows.to y (omega (arith, y_low, top, above)) (omega (arith, y_high, bottom)));
    }
