-- The spans and the run have the columns so far that are inside.
use Rattle.std.proofs.Common.{◌≡◌, ℕ, ◌+◌, ◌≤◌, ◌&&◌, ◌||◌, nat_le, nat_lt, List, ◌++◌}
use Rattle.smallvec.specs.SmallVec.{small_vec_len}
use Rattle.span_fill.specs.ColumnTables.{flag_at}
use Rattle.span_fill.specs.Spans.{AreApart, in_span, in_spans}
use Rattle.span_fill.specs.declared.span.Span.{Span}
use Rattle.span_fill.proofs.column_table.put_flagged.Given as goal

abbrev pub invariant-loop-column : goal.invariant-loop-column
invariant-loop-column l = record {
  order : l.run.from ≤ l.run.to;
  after : l.run.to ≤ l.column;
  apart : (others : List Span) → AreApart l.run.from l.fn.interval.to others → AreApart l.fn.interval.from l.fn.interval.to (l.spans.items ++ others);
  exact : (x : ℕ) → (in_spans l.spans.items x || in_span l.run x) ≡ (nat_le l.fn.interval.from x && (nat_lt x l.column && flag_at l.flags l.first x l.row));
  length : small_vec_len l.spans + l.fn.interval.from ≤ l.column;
  capacity : l.spans.capacity ≡ l.fn.spans.capacity;
}
