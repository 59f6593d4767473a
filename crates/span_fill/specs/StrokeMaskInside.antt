-- The fields of a stroke's mask.
use Rattle.std.specs.Prelude.{◌≤◌}
use Rattle.span_fill.specs.StrokeMasks.{IsMaskRegion, height_of, width_of}
use Rattle.span_fill.specs.declared.stroke_mask.StrokeMask.TheInside.{Inside}

-- there are bits for each pixel of the region, and the position is one of its rows and columns, or their end
pub record IsStrokeMask (a : Inside) : Type 0 where
  pub region : IsMaskRegion a.region
  pub bit_rows : height_of a.region ≤ a.bits.rows
  pub bit_columns : width_of a.region ≤ a.bits.columns
  pub row_first : a.region.rows.from ≤ a.row
  pub row_last : a.row ≤ a.region.rows.to
  pub column_first : a.region.columns.from ≤ a.column
  pub column_last : a.column ≤ a.region.columns.to
