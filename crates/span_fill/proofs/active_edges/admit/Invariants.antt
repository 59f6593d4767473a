-- What begins is behind what is there, and what waits still waits.
use Rattle.std.proofs.Common.{◌≡◌, ◌+◌, ◌-◌, ◌≤◌, ◌++◌, drop, length, vec_len, vec_capacity}
use Rattle.std.specs.List.{filter}
use Rattle.span_fill.specs.Admitting.{beginning_edges}
use Rattle.span_fill.specs.Edges.{begins_after}
use Rattle.span_fill.proofs.active_edges.admit.Given as goal

abbrev pub invariant-loop-edge : goal.invariant-loop-edge
invariant-loop-edge l = record {
  active : l.active.items ++ beginning_edges l.row (drop l.next l.edges) ≡ l.initial.active.items ++ beginning_edges l.row (drop l.begun l.edges);
  left : filter (begins_after l.row) (drop l.next l.edges) ≡ filter (begins_after l.row) (drop l.begun l.edges);
  within : l.next ≤ length l.edges;
  length : vec_len l.active + (length l.edges - l.next) ≤ vec_len l.initial.active + (length l.edges - l.begun);
  capacity : vec_capacity l.active ≡ vec_capacity l.initial.active;
}

abbrev pub decreases-loop-edge : goal.decreases-loop-edge
decreases-loop-edge l = length l.edges - l.next
