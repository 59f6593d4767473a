-- The rows so far have no change.
use Rattle.std.proofs.Common.{◌≡◌, vec_len, vec_capacity}
use Rattle.std.specs.List.{All}
use Rattle.mapping.specs.Limits.{IsWithin}
use Rattle.span_fill.proofs.winding.clear_changes.Given as goal

abbrev pub invariant-loop : goal.invariant-loop
invariant-loop l = record {
  none : All (IsWithin 0) l.changes.items;
  length : vec_len l.changes ≡ l.counter;
  capacity : vec_capacity l.changes ≡ vec_capacity l.fn.changes;
}
