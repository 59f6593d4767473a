use Rattle.std.proofs.Common.{◌≡◌, ◌%◌, arith, length, refl, ◌∙◌}
use Rattle.std.proofs.lemmas.List.{get_or_default}
use Rattle.painting.specs.RowOps.{repeated_row_op}
use Rattle.painting.specs.declared.row_op.RowOp.TheVariants.{Nothing}
use Rattle.painting.proofs.row_painter.RowPainter.put_row.Goals as goal

pub returns-in-Same-clause-painted : goal.returns-in-Same-clause-painted
returns-in-Same-clause-painted c = record {
  row_op = c.in-Same.row_op;
  is_row_op = record { test = λ x. rw c.in-Same.is refl; colour = λ x old low high i. rw c.in-Same.is refl };
  painted = rw c.cut_boxes-cuts.ensures at c.put_spans.ensures.pixels;
}

pub returns-in-EachRow-clause-painted : goal.returns-in-EachRow-clause-painted
returns-in-EachRow-clause-painted c =
    let is_row_op = c.new_row-row_op.ensures in
    record {
      row_op = c.new_row-row_op.result;
      is_row_op = record {
        test = λ x. is_row_op.test x ∙ rw c.in-EachRow.is refl;
        colour = λ x old low high i. is_row_op.colour x old low high i ∙ rw c.in-EachRow.is refl;
      };
      painted = rw c.cut_boxes-cuts.ensures at c.put_spans-in-EachRow.ensures.pixels;
    }

pub returns-in-Repeated-clause-painted : goal.returns-in-Repeated-clause-painted
returns-in-Repeated-clause-painted c =
    let row_ops = c.in-Repeated.hatch.now.row_ops in
    let eight : length row_ops ≡ 8 = rw c.in-Repeated.is at c.requires.eight in
    let given = c.index-row_ops-y.result in
    let is : given ≡ repeated_row_op row_ops c.args.y = c.index-row_ops-y.is ∙ get_or_default row_ops (c.args.y % 8) c.index-row_ops-y.result Nothing (omega (arith, eight)) in
    record {
      row_op = given;
      is_row_op = record { test = λ x. rw (c.in-Repeated.is, is) refl; colour = λ x old low high i. rw (c.in-Repeated.is, is) refl };
      painted = rw c.cut_boxes-cuts.ensures at c.put_spans-in-Repeated.ensures.pixels;
    }
