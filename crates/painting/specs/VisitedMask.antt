-- Visited masks: one bit for each pixel of a box.
use Rattle.std.specs.Prelude.{◌==◌, ℕ, ◌+◌, ◌-◌, ◌*◌, ◌/◌, ◌%◌, Bool, ◌&&◌, List, slice_index_or}
use Rattle.std.specs.Int.{bit_at}
use Rattle.span_fill.specs.Spans.{in_region}
use Rattle.span_fill.specs.declared.span.Region.{Region}
use Rattle.span_fill.specs.declared.span.Span.{Span}

-- a box, and the words of its mask
pub record VisitedMaskState : Type 0 where
  pub region : Region
  pub words : List ℕ

-- the most pixels of a box
abbrev pub visited_mask_limit : ℕ
visited_mask_limit = 1048576

-- how many numbers a span has
abbrev pub span_width : Span → ℕ
span_width span = span.to - span.from

-- how many pixels a box has
abbrev pub pixel_count : Region → ℕ
pixel_count region = span_width region.columns * span_width region.rows

-- the number of a pixel of a box, counted row by row
abbrev pub pixel_number : Region → ℕ → ℕ → ℕ
pixel_number region x y = (y - region.rows.from) * span_width region.columns + (x - region.columns.from)

-- a bit in words of 64 bits
abbrev pub has_bit : List ℕ → ℕ → Bool
has_bit words number = bit_at (slice_index_or words (number / 64) 0) (number % 64) == 1

-- the pixel of the box is marked as visited
abbrev pub is_taken : VisitedMaskState → ℕ → ℕ → Bool
is_taken visited x y = in_region visited.region x y && has_bit visited.words (pixel_number visited.region x y)
