-- The crossings of the others are still to come.
use Rattle.std.proofs.Common.{◌≡◌, ◌≤◌, ◌++◌, drop, vec_len, vec_capacity}
use Rattle.span_fill.specs.Crossings.{crossings_from, crossings_of}
use Rattle.span_fill.proofs.crossings.put_crossings.Given as goal

abbrev pub invariant-loop-line : goal.invariant-loop-line
invariant-loop-line l = record {
  crossings : l.crossings.items ++ crossings_from l.number (drop l.line-index l.lines) l.row ≡ crossings_of l.lines l.row;
  number : l.number ≡ l.line-index;
  length : vec_len l.crossings ≤ l.line-index;
  capacity : vec_capacity l.crossings ≡ vec_capacity l.initial.crossings;
}
