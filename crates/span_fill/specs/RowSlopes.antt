-- How a line's crossing moves from row to row.
use Rattle.std.specs.Prelude.{zero, suc, ◌^◌, ◌≤◌, ℤ, pos, negsuc, neg_ℤ, ◌+ℤ◌, ◌-ℤ◌, ◌*ℤ◌, ◌≤ℤ◌, Bool, true, false, if◌then◌else◌, int_lt, unsigned_abs}
use Rattle.mapping.specs.declared.geometry.Point.{Point}
use Rattle.span_fill.specs.MajorLines.{length_of, rise_of}
use Rattle.span_fill.specs.declared.major_line.MajorLine.{MajorLine}
use Rattle.span_fill.specs.declared.row_slope.RowSlope.{RowSlope}

-- the progress of a line along its minor axis while the coordinate on its major axis grows by its length
abbrev pub turn_of : MajorLine → ℤ
turn_of major = if int_lt major.from_u major.to_u then rise_of major else neg_ℤ (rise_of major)

-- the numbers of a y-major line, which has one column in a row
abbrev pub y_major_row_slope : ℤ → ℤ → RowSlope
y_major_row_slope long turn = record { step = pos 2 *ℤ turn; base = long; divisor = pos 2 *ℤ long }

-- The numbers of an x-major line. In a row, it has the columns from here to before its position in the next row, or, if
-- it goes up to the right, from there to before here. A horizontal line has all of its columns in one row.
abbrev pub x_major_row_slope : Bool → ℤ → ℤ → RowSlope
x_major_row_slope forwards long (pos zero) =
    if forwards then record { step = long; base = pos 0; divisor = pos 1 } else record { step = neg_ℤ long; base = pos 1; divisor = pos 1 }
x_major_row_slope forwards long (pos (suc turn)) =
    record { step = pos 2 *ℤ long; base = pos 2 *ℤ pos (suc turn) -ℤ pos 1 -ℤ long; divisor = pos 2 *ℤ pos (suc turn) }
x_major_row_slope forwards long (negsuc turn) =
    record { step = neg_ℤ (pos 2 *ℤ long); base = long -ℤ pos 2 *ℤ negsuc turn; divisor = neg_ℤ (pos 2 *ℤ negsuc turn) }

-- the numbers of a line
abbrev pub row_slope_of : Bool → MajorLine → RowSlope
row_slope_of true major = y_major_row_slope (pos (length_of major)) (turn_of major)
row_slope_of false major = x_major_row_slope (int_lt major.from_u major.to_u) (pos (length_of major)) (turn_of major)

-- the numbers are small, as for lines between placed points
pub record IsSmallRowSlope (slope : RowSlope) : Type 0 where
  pub step : unsigned_abs slope.step ≤ 2 ^ 31
  pub base : unsigned_abs slope.base ≤ 2 ^ 31
  pub divisor_low : pos 1 ≤ℤ slope.divisor
  pub divisor_high : slope.divisor ≤ℤ pos (2 ^ 31)

-- the dividend in a row
abbrev pub total_of : RowSlope → Point → ℤ → ℤ
total_of slope start row = slope.step *ℤ (row -ℤ start.y) +ℤ slope.base +ℤ slope.divisor *ℤ start.x
