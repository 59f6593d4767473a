use Rattle.std.proofs.Common.{◌≡◌}
use Rattle.painting.specs.Parts.{part_has, work_of}
use Rattle.painting.specs.RowPainters.{painter_paint}
use Rattle.painting.proofs.RowLemmas.{HasRowsPainted}
use Rattle.painting.proofs.outline_rows.paint_rows.Given as goal

-- the rows so far are painted, and the buffer is at the next
abbrev pub invariant-loop-y : goal.invariant-loop-y
invariant-loop-y l = record {
  lines : l.rows.lines ≡ l.fn.scratch.rows.lines;
  work : l.rows.work ≡ work_of l.part;
  next : l.rows.next ≡ l.y;
  capacity : l.rows.capacity ≡ l.fn.scratch.rows.capacity;
  clip : l.row_painter.clip ≡ l.painter.clip;
  row_ops : l.row_painter.row_ops ≡ l.painter.row_ops;
  painted : HasRowsPainted (painter_paint l.painter) (part_has l.part l.fn.scratch.rows.lines) l.y l.fn.canvas l.canvas;
}
