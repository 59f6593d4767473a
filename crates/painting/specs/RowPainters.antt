-- Painters of a shape's rows, as paints.
use Rattle.std.specs.Prelude.{◌≡◌, ℕ, Bool, List, Option, None, IfSome, length}
use Rattle.mapping.specs.declared.geometry.Colour.{Colour}
use Rattle.dc_stack.specs.Values.{placed_value}
use Rattle.raster_ops.specs.Readers.{row_read}
use Rattle.raster_ops.specs.declared.sources.SourceReader.{SourceReader}
use Rattle.span_fill.specs.declared.span.Span.{Span}
use Rattle.painting.specs.FillStyles.{fill_style_paint}
use Rattle.painting.specs.Painted.{PaintValue}
use Rattle.painting.specs.RowOps.{inked, is_inked, repeated_row_op}
use Rattle.painting.specs.SourceRows.{HoldsRow}
use Rattle.painting.specs.declared.row_painter.RowOps.{RowOps}
use Rattle.painting.specs.declared.row_painter.RowOps.TheVariants.{EachRow, Repeated, Same}
use Rattle.painting.specs.declared.row_painter.RowPainter.{RowPainter}

-- the row operations write a pixel
abbrev pub row_ops_have : RowOps → ℕ → ℕ → Bool
row_ops_have (Same row_op) x y = is_inked row_op x
row_ops_have (Repeated hatch) x y = is_inked (repeated_row_op hatch.now.row_ops y) x
row_ops_have (EachRow paint) x y = (fill_style_paint paint.now).has x y

-- the new colour of a pixel that the row operations write
abbrev pub row_ops_make : RowOps → ℕ → ℕ → Colour → Colour
row_ops_make (Same row_op) x y old = inked row_op x old
row_ops_make (Repeated hatch) x y old = inked (repeated_row_op hatch.now.row_ops y) x old
row_ops_make (EachRow paint) x y old = (fill_style_paint paint.now).makes x y old

-- a painter of rows as a paint
abbrev pub painter_paint : RowPainter → PaintValue
painter_paint painter = record {
  clip = placed_value painter.clip.now;
  has = row_ops_have painter.row_ops;
  makes = row_ops_make painter.row_ops;
}

-- row operations that repeat are eight
abbrev pub HasEight : RowOps → Type 0
HasEight (Same row_op) = Unit
HasEight (Repeated hatch) = length hatch.now.row_ops ≡ 8
HasEight (EachRow paint) = Unit

-- the row operations have no source
abbrev pub ReadsNothing : RowOps → Type 0
ReadsNothing (Same row_op) = Unit
ReadsNothing (Repeated hatch) = Unit
ReadsNothing (EachRow paint) = paint.now.source ≡ None

-- the source colours of these columns of a row are gathered, if there is a source
abbrev pub HoldsSource : Option SourceReader → Span → ℕ → List Colour → Type 0
HoldsSource source columns y sources = IfSome source (λ reader. HoldsRow reader columns (row_read reader y) sources)

-- the source colours that the row operations need are gathered
abbrev pub HoldsRead : RowOps → Span → ℕ → List Colour → Type 0
HoldsRead (Same row_op) columns y sources = Unit
HoldsRead (Repeated hatch) columns y sources = Unit
HoldsRead (EachRow paint) columns y sources = HoldsSource paint.now.source columns y sources

-- source colours gathered for a reader are those that the row operations need
abbrev pub ReadsAs : Option SourceReader → RowOps → Type 0
ReadsAs source row_ops = (columns : Span) (y : ℕ) (sources : List Colour) → HoldsSource source columns y sources → HoldsRead row_ops columns y sources
