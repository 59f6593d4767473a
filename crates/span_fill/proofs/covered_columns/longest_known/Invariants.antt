-- The longest span so far has columns whose bits are set.
use Rattle.std.proofs.Common.{◌-◌, ◌+◌, ◌≤◌}
use Rattle.span_fill.specs.MaskCovers.{AreKnown}
use Rattle.span_fill.specs.Spans.{in_span}
use Rattle.span_fill.proofs.covered_columns.longest_known.Given as goal

abbrev pub invariant-loop-column : goal.invariant-loop-column
invariant-loop-column l = record {
  order : l.longest.from ≤ l.longest.to;
  few : l.column ≤ l.width + 1;
  known : AreKnown l.fn.frame l.fn.bits (in_span l.longest);
}

abbrev pub decreases-loop-column : goal.decreases-loop-column
decreases-loop-column l = l.width - l.column
