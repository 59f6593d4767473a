-- The outline's other lines are still to come.
use Rattle.std.proofs.Common.{◌≡◌, ◌++◌, length, vec_capacity}
use Rattle.std.specs.List.{All}
use Rattle.span_fill.specs.Lines.{HasNearEnds}
use Rattle.span_fill.proofs.outline.copy_lines.Given as goal

abbrev pub invariant-loop-line : goal.invariant-loop-line
invariant-loop-line g l = record {
  lines : l.lines.items ++ g.O.Outline.lines l.outline ≡ g.O.Outline.lines l.fn.outline;
  near : All HasNearEnds l.lines.items;
  capacity : vec_capacity l.lines ≡ vec_capacity l.initial.lines;
}

abbrev pub decreases-loop-line : goal.decreases-loop-line
decreases-loop-line g l = length (g.O.Outline.lines l.outline)
