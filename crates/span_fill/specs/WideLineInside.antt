-- The fields of a wide line.
use Rattle.std.specs.Prelude.{pos, negsuc, ◌≤ℤ◌}
use Rattle.mapping.specs.Nibs.{IsNib}
use Rattle.span_fill.specs.StrokeRows.{IsPassed}
use Rattle.span_fill.specs.declared.wide_line.WideLine.TheInside.{Inside}

-- its strip is at the next row, if there is one, and the remaining rows are within the limits
pub record IsWideLine (a : Inside) : Type 0 where
  pub nib : IsNib a.nib
  pub edge : IsPassed a.nib a.next a.edge.seen.to a.edge
  pub low : negsuc 4095 ≤ℤ a.next
  pub high : a.edge.seen.to ≤ℤ pos 12288
