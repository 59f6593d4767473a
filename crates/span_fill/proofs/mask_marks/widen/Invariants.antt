-- Each row that has so many rows behind it has what they had.
use Rattle.std.proofs.Common.{◌≡◌, ℕ, ◌+◌, ◌-◌, ◌<◌, ◌≤◌}
use Rattle.span_fill.specs.BitRows.{HasSize, has_bit}
use Rattle.span_fill.specs.WideStrokes.{any_below}
use Rattle.span_fill.proofs.mask_marks.widen.Given as goal

abbrev pub invariant-loop-reach : goal.invariant-loop-reach
invariant-loop-reach l = record {
  some : 1 ≤ l.reach;
  within : l.reach ≤ l.depth;
  widened : (x i : ℕ) → x < l.initial.bits.columns → i + l.reach ≤ l.rows
      → has_bit l.bits x i ≡ any_below (λ d. has_bit l.initial.bits x (i + d)) l.reach;
  size : HasSize l.bits l.initial.bits.rows l.initial.bits.columns;
}

abbrev pub decreases-loop-reach : goal.decreases-loop-reach
decreases-loop-reach l = l.depth - l.reach
