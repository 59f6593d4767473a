-- Of the rows that were left nothing was to come.
use Rattle.std.proofs.Common.{◌≡◌, ℕ, ◌≤◌}
use Rattle.span_fill.specs.StrokeMasks.{pixels_left, to_come}
use Rattle.span_fill.proofs.stroke_mask.StrokeMask.next_span.Given as goal

abbrev pub invariant-loop-self : goal.invariant-loop-self
invariant-loop-self l = record {
  region : l.self.region ≡ l.initial.self.region;
  same : (x y : ℕ) → to_come l.self x y ≡ to_come l.initial.self x y;
  left : pixels_left l.self ≤ pixels_left l.initial.self;
}

abbrev pub decreases-loop-self : goal.decreases-loop-self
decreases-loop-self l = pixels_left l.self
