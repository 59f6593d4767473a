-- The edges of the others are still to come.
use Rattle.std.proofs.Common.{◌≡◌, ◌≤◌, ◌++◌, drop, vec_len, vec_capacity}
use Rattle.std.specs.List.{filter}
use Rattle.span_fill.specs.Edges.{edges_from, ends_after}
use Rattle.span_fill.proofs.edge_list.collect_edges.Given as goal

abbrev pub invariant-loop-line : goal.invariant-loop-line
invariant-loop-line l = record {
  edges : l.edges.items ++ filter (ends_after l.row) (edges_from l.number (drop l.line-index l.lines)) ≡ filter (ends_after l.row) (edges_from 0 l.lines);
  number : l.number ≡ l.line-index;
  length : vec_len l.edges ≤ l.line-index;
  capacity : vec_capacity l.edges ≡ vec_capacity l.initial.edges;
}
