-- The fields of steps.
use Rattle.std.specs.Prelude.{◌≡◌, ℕ, ◌+◌, ◌^◌, ◌<◌, ◌≤◌, ℤ, Bool}
use Rattle.span_fill.specs.Clips.{SpanHas}
use Rattle.span_fill.specs.FixedWalks.{HasFew, IsFixed}
use Rattle.span_fill.specs.MajorLines.{IsOn, IsPixelOf, across_span, along_span, major_of, length_of, major_step}
use Rattle.span_fill.specs.Numberings.{IsNumbered}
use Rattle.span_fill.specs.Strokes.{is_y_major}
use Rattle.span_fill.specs.declared.line.Line.{Line}
use Rattle.span_fill.specs.declared.span.Region.{Region}
use Rattle.span_fill.specs.declared.steps.LineSteps.TheInside.{Inside}
use Rattle.span_fill.specs.declared.walk.Walk.{Walk}

-- the walk is at the next step, and the pixels of the remaining steps are within the region
pub record IsUnderway (line : Line) (region : Region) (y_major : Bool) (next end : ℕ) (walk : Walk) : Type 0 where
  pub axis : y_major ≡ is_y_major line
  pub short : length_of (major_of y_major line) ≤ 2 ^ 29 + 2
  pub ends : end ≤ length_of (major_of y_major line)
  pub columns : region.columns.to ≤ 8192
  pub rows : region.rows.to ≤ 8192
  pub stands : next < end → IsOn (major_of y_major line) next walk
  pub along :
      (u v : ℤ) → IsPixelOf (major_of y_major line) u v → next ≤ major_step (major_of y_major line) u → major_step (major_of y_major line) u < end
      → SpanHas (along_span y_major region) u
  pub across :
      (u v : ℤ) → IsPixelOf (major_of y_major line) u v → next ≤ major_step (major_of y_major line) u → major_step (major_of y_major line) u < end
      → SpanHas (across_span y_major region) v

-- This holds for all values of the type: there is a walk at the next step, of which the position is the one in fixed
-- point, after so many steps.
pub record AreSteps (steps : Inside) : Type 0 where
  pub walk : Walk
  pub taken : ℕ
  pub way : IsUnderway steps.line steps.region steps.y_major steps.next steps.end walk
  pub fixed : steps.next < steps.end → IsFixed taken walk steps.position
  pub few : steps.next < steps.end → HasFew taken walk
  pub numbers : steps.next < steps.end → IsNumbered steps.grid steps.y_major steps.position steps.numbering
