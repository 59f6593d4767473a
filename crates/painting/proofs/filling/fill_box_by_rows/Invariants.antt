use Rattle.std.proofs.Common.{◌≡◌}
use Rattle.std.specs.Prelude.{IfSome}
use Rattle.mapping.specs.PixelBoxes.{in_box}
use Rattle.painting.specs.RowPainters.{painter_paint}
use Rattle.painting.specs.SourceRows.{HoldsRow}
use Rattle.painting.proofs.RowLemmas.{HasRowsPainted}
use Rattle.painting.proofs.filling.fill_box_by_rows.Given as goal

-- the rows so far are painted, and the colours gathered last are kept
abbrev pub invariant-loop-y : goal.invariant-loop-y
invariant-loop-y l = record {
  clip : l.painter.clip ≡ l.initial.painter.clip;
  row_ops : l.painter.row_ops ≡ l.initial.painter.row_ops;
  painted : HasRowsPainted (painter_paint l.initial.painter) (in_box l.fn.inside) l.y l.fn.canvas l.canvas;
  held : IfSome l.kept (λ it. IfSome l.paint.source (λ reader. HoldsRow reader it.columns it.row l.scratch.sources.value));
}
