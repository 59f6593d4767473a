-- The bits of the row are set where the columns are.
use Rattle.std.proofs.Common.{◌+◌, ◌-◌, arith}
use Rattle.span_fill.specs.BitRows.{has_bit}
use Rattle.span_fill.proofs.MaskRowLemmas.{row_set}
use Rattle.span_fill.proofs.MaskRunLemmas.{counted_from, none_set}
use Rattle.span_fill.proofs.mask_marks.mark_seen.Goals as goal

pub returns-then-width-eq0-clause-columns : goal.returns-then-width-eq0-clause-columns
returns-then-width-eq0-clause-columns c = λ x i wide high.
    let none = c.if-width-eq0.true in
    none_set (has_bit c.args.bits.now x i) i c.args.row c.args.columns (x + c.args.frame.region.columns.from) (omega (arith, none))

pub returns-then-width-le64-clause-columns : goal.returns-then-width-le64-clause-columns
returns-then-width-le64-clause-columns c = λ x i wide high.
    let part = c.requires.part in
    let order = part.order in
    row_set (has_bit c.args.bits.now x i) i c.args.row
    (counted_from c.args.columns c.args.frame.region.columns.from (c.args.columns.to - c.args.columns.from) x part.first (omega (arith, order)))
    (c.set_run.ensures.bits x i (rw c.requires.size.column_count wide) (rw c.requires.size.row_count high))

pub returns-else-width-le64-clause-columns : goal.returns-else-width-le64-clause-columns
returns-else-width-le64-clause-columns c = λ x i wide high.
    let part = c.requires.part in
    let order = part.order in
    row_set (has_bit c.args.bits.now x i) i c.args.row
    (counted_from c.args.columns c.args.frame.region.columns.from (c.args.columns.to - c.args.columns.from) x part.first (omega (arith, order)))
    (c.set.ensures.bits x i (rw c.requires.size.column_count wide) (rw c.requires.size.row_count high))
