-- The flags of the columns so far.
use Rattle.std.proofs.Common.{◌≡◌, ℕ, ◌-◌, ◌*◌, ◌<◌, ◌≤◌, vec_len, vec_capacity}
use Rattle.span_fill.specs.ColumnTables.{flag_at}
use Rattle.span_fill.specs.Fill.{in_fill}
use Rattle.span_fill.proofs.column_table.put_table.Given as goal

abbrev pub invariant-loop-column : goal.invariant-loop-column
invariant-loop-column l = record {
  flags : (x y : ℕ) → l.fn.columns.from ≤ x → x < l.column → y < 8192 → flag_at l.flags.items l.fn.columns.from x y ≡ in_fill l.rule l.lines x y;
  length : vec_len l.flags ≡ (l.column - l.fn.columns.from) * 8192;
  changes_capacity : vec_capacity l.changes ≡ vec_capacity l.fn.changes;
  flags_capacity : vec_capacity l.flags ≡ vec_capacity l.fn.flags;
}
