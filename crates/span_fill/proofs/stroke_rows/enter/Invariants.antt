-- What begins is after what is there, and what waits still waits.
use Rattle.std.proofs.Common.{◌≡◌, pos, ◌+◌, ◌-◌, ◌≤◌, drop, length, vec_len, vec_capacity}
use Rattle.std.specs.List.{All}
use Rattle.span_fill.specs.StrokeRows.{HaveTogether, IsActive, IsWaiting}
use Rattle.span_fill.proofs.stroke_rows.enter.Given as goal

abbrev pub invariant-loop-edge : goal.invariant-loop-edge
invariant-loop-edge l = record {
  active : All (IsActive l.nib (pos l.row) (pos 8192)) l.active.items;
  waiting : All (IsWaiting l.nib (pos l.row) (pos 8192)) (drop l.next l.waiting);
  have : HaveTogether l.nib l.initial.active.items (drop l.begun l.waiting) l.active.items (drop l.next l.waiting);
  within : l.next ≤ length l.waiting;
  length : vec_len l.active + (length l.waiting - l.next) ≤ vec_len l.initial.active + (length l.waiting - l.begun);
  capacity : vec_capacity l.active ≡ vec_capacity l.initial.active;
}

abbrev pub decreases-loop-edge : goal.decreases-loop-edge
decreases-loop-edge l = length l.waiting - l.next
