-- The pixels of the steps taken so far are marked, and nothing else was.
use Rattle.std.proofs.Common.{◌≡◌, ℕ, ◌+◌, ◌-◌, ◌*◌, ◌<◌, ◌||◌, true, pos, ◌-ℤ◌}
use Rattle.std.specs.Prelude.{IsTrue, unsigned_abs}
use Rattle.span_fill.specs.BitRows.{HasSize, has_bit}
use Rattle.span_fill.specs.MaskFrames.{first_row, marks_in, mask_row}
use Rattle.span_fill.specs.MaskMarks.{IsAround}
use Rattle.span_fill.specs.Spans.{in_region}
use Rattle.span_fill.specs.StrokeMasks.{height_of, width_of}
use Rattle.span_fill.specs.Strokes.{on_line, step_at}
use Rattle.span_fill.proofs.mask_marks.mark_steps.Given as goal

abbrev pub invariant-loop-pixel : goal.invariant-loop-pixel
invariant-loop-pixel l = record {
  sound : (x i : ℕ) → x < width_of l.fn.frame.region → i < 2 * height_of l.fn.frame.region → has_bit l.bits x i ≡ true
      → (has_bit l.initial.bits x i || marks_in l.fn.frame l.fn.line l.fn.from l.fn.count x i) ≡ true;
  kept : (x i : ℕ) → x < width_of l.fn.frame.region → i < 2 * height_of l.fn.frame.region → has_bit l.initial.bits x i ≡ true → has_bit l.bits x i ≡ true;
  taken : (u v : ℕ) → IsTrue (on_line l.fn.line (pos u) (pos v)) → IsTrue (in_region l.steps.region u v) → step_at l.fn.line (pos u) (pos v) < l.steps.next
      → (x : ℕ) → x < width_of l.fn.frame.region → IsAround l.fn.frame.nib u (x + l.fn.frame.region.columns.from)
      → has_bit l.bits x (mask_row l.fn.frame (unsigned_abs (pos v -ℤ first_row l.fn.frame))) ≡ true;
  last : (u v : ℕ) → IsTrue (on_line l.fn.line (pos u) (pos v)) → IsTrue (in_region l.steps.region u v) → step_at l.fn.line (pos u) (pos v) < l.steps.end;
  line : l.steps.line ≡ l.fn.line;
  region : l.steps.region ≡ l.initial.steps.region;
  size : HasSize l.bits l.initial.bits.rows l.initial.bits.columns;
}

abbrev pub decreases-loop-pixel : goal.decreases-loop-pixel
decreases-loop-pixel l = l.steps.end - l.steps.next
