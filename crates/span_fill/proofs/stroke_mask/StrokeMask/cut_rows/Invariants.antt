-- Of the rows so far nothing remains in the columns, and the others are what they were.
use Rattle.std.proofs.Common.{◌≡◌, ℕ, ◌&&◌, nat_le, nat_lt, not}
use Rattle.span_fill.specs.Spans.{in_span}
use Rattle.span_fill.specs.StrokeMasks.{to_come}
use Rattle.span_fill.proofs.stroke_mask.StrokeMask.cut_rows.Given as goal

abbrev pub invariant-loop-y : goal.invariant-loop-y
invariant-loop-y l = record {
  region : l.self.region ≡ l.initial.self.region;
  rest : (x i : ℕ) → to_come l.self x i ≡ (to_come l.initial.self x i && not (in_span l.part.columns x && (nat_le l.part.rows.from i && nat_lt i l.y)));
}
