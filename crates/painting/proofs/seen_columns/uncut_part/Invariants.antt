use Rattle.std.proofs.Common.{◌≡◌, ℕ, ◌≤◌, true}
use Rattle.span_fill.specs.Spans.{in_span}
use Rattle.painting.specs.Strips.{is_uncut, placed_boxes}
use Rattle.painting.proofs.seen_columns.uncut_part.Given as goal

-- the part has the columns that no box cuts out
abbrev pub invariant-loop-cut : goal.invariant-loop-cut
invariant-loop-cut l = record {
  all : (x : ℕ) → in_span l.fn.columns x ≡ true → is_uncut (placed_boxes l.cuts) x l.y ≡ true → in_span l.part x ≡ true;
  first : l.fn.columns.from ≤ l.part.from;
  order : l.part.from ≤ l.part.to;
  last : l.part.to ≤ l.fn.columns.to;
}
