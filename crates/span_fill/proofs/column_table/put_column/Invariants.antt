-- The flags of the rows so far.
use Rattle.std.proofs.Common.{◌≡◌, ℕ, suc, ◌+◌, ◌<◌, false, length, slice_index_or, take, vec_capacity}
use Rattle.span_fill.specs.ColumnTables.{AnswersWinding}
use Rattle.span_fill.specs.Windings.{total}
use Rattle.span_fill.proofs.column_table.put_column.Given as goal

abbrev pub invariant-loop-row : goal.invariant-loop-row
invariant-loop-row l = record {
  sum : l.sum ≡ total (take l.row l.changes);
  kept : (k : ℕ) → k < length l.fn.flags.items → slice_index_or l.flags.items k false ≡ slice_index_or l.fn.flags.items k false;
  added : (y : ℕ) → y < l.row → AnswersWinding l.rule (total (take (suc y) l.changes)) (slice_index_or l.flags.items (length l.fn.flags.items + y) false);
  length : length l.flags.items ≡ length l.fn.flags.items + l.row;
  capacity : vec_capacity l.flags ≡ vec_capacity l.fn.flags;
}
