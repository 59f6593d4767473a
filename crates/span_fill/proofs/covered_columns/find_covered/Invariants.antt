-- The last row has columns that are set in each of the rows read so far, and those are in all rows that they cover.
use Rattle.std.proofs.Common.{◌≡◌, ℕ, ◌+◌, ◌-◌, ◌<◌, ◌≤◌, true}
use Rattle.span_fill.specs.BitRows.{HasSize, has_bit}
use Rattle.span_fill.specs.MaskCovers.{is_covered, last_row}
use Rattle.span_fill.specs.MaskFrames.{depth_of}
use Rattle.span_fill.specs.StrokeMasks.{height_of, width_of}
use Rattle.span_fill.proofs.covered_columns.find_covered.Given as goal

abbrev pub invariant-loop-row : goal.invariant-loop-row
invariant-loop-row l = record {
  low : depth_of l.fn.frame ≤ l.row + 1;
  same : (x i : ℕ) → x < width_of l.fn.frame.region → i < last_row l.fn.frame → has_bit l.bits x i ≡ has_bit l.fn.bits x i;
  known : (x y : ℕ) → x < width_of l.fn.frame.region → y < height_of l.fn.frame.region → y + depth_of l.fn.frame ≤ l.row → has_bit l.bits x (last_row l.fn.frame) ≡ true
      → is_covered l.fn.frame l.fn.bits x y ≡ true;
  size : HasSize l.bits l.fn.bits.rows l.fn.bits.columns;
}

abbrev pub decreases-loop-row : goal.decreases-loop-row
decreases-loop-row l = (l.height + l.depth) - l.row
