-- What spans contain, as facts.
use Rattle.std.specs.Prelude.{ℕ, ◌<◌, ◌≤◌, ℤ, pos, ◌≤ℤ◌, ◌<ℤ◌}
use Rattle.span_fill.specs.declared.span.Span.{Span}

-- the span contains k
abbrev pub IsIn : Span → ℕ → Type 0
IsIn span k = (span.from ≤ k) × (k < span.to)

-- the span contains the coordinate
abbrev pub SpanHas : Span → ℤ → Type 0
SpanHas span z = (pos span.from ≤ℤ z) × (z <ℤ pos span.to)
