-- The rows before the next are marked, and behind the last that the nib covers something of there is none.
use Rattle.std.proofs.Common.{◌≡◌, ℕ, ◌*◌, ◌<◌, ◌+◌, ◌||◌, false, ℤ, ◌-ℤ◌, ◌≤ℤ◌, ◌<ℤ◌}
use Rattle.std.specs.Prelude.{unsigned_abs}
use Rattle.span_fill.specs.BitRows.{HasSize, has_bit}
use Rattle.span_fill.specs.MaskFrames.{marks_in, row_at}
use Rattle.span_fill.specs.StrokeMasks.{height_of, width_of}
use Rattle.span_fill.specs.WideStrokes.{on_wide_line, row_of}
use Rattle.span_fill.proofs.MarkLemmas.{rows_before}
use Rattle.span_fill.proofs.mask_marks.mark_wide_rows.Given as goal

abbrev pub invariant-loop-row : goal.invariant-loop-row
invariant-loop-row l = record {
  marked : (x i : ℕ) → x < width_of l.frame.region → i < 2 * height_of l.frame.region
      → has_bit l.bits x i ≡ (has_bit l.initial.bits x i || marks_in l.frame l.fn.line l.from (rows_before l.frame l.from l.count l.rows.next) x i);
  line : l.rows.line ≡ l.fn.line;
  nib : l.rows.nib ≡ row_of l.frame.nib;
  first : row_at l.frame l.from ≤ℤ l.rows.next;
  last : l.rows.end ≤ℤ row_at l.frame (l.from + l.count);
  after : (x y : ℤ) → row_at l.frame l.from ≤ℤ y → l.rows.end ≤ℤ y → y <ℤ row_at l.frame (l.from + l.count) → on_wide_line (row_of l.frame.nib) l.fn.line x y ≡ false;
  size : HasSize l.bits l.initial.bits.rows l.initial.bits.columns;
}

abbrev pub decreases-loop-row : goal.decreases-loop-row
decreases-loop-row l = unsigned_abs (l.rows.end -ℤ l.rows.next)
