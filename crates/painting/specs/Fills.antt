-- The inside of lines that a row buffer fills.
use Rattle.std.specs.Prelude.{◌≡◌, ℕ, suc, ◌≤◌, Bool, true, false, ◌&&◌, List, drop, slice_index_or}
use Rattle.mapping.specs.declared.geometry.Colour.{Colour}
use Rattle.canvas.specs.CanvasState.{CanvasState}
use Rattle.canvas.specs.Writing.{Repaints}
use Rattle.span_fill.specs.Fill.{in_fill}
use Rattle.span_fill.specs.RowState.{RowWork, filling, idle, stroking}
use Rattle.span_fill.specs.Spans.{in_region, in_span, in_spans}
use Rattle.span_fill.specs.declared.line.Line.{Line}
use Rattle.span_fill.specs.declared.span.Region.{Region}
use Rattle.span_fill.specs.declared.span.Span.{Span}

-- the pixel is inside the lines, if they are filled
abbrev pub is_filled : RowWork → List Line → ℕ → ℕ → Bool
is_filled idle lines x y = false
is_filled (filling rule) lines x y = in_fill rule lines x y
is_filled (stroking nib) lines x y = false

-- the work is a fill
abbrev pub is_filling : RowWork → Bool
is_filling idle = false
is_filling (filling rule) = true
is_filling (stroking nib) = false

-- the pixels of a shape in a region were written in one colour, each once
abbrev pub PutsShape : Region → (ℕ → ℕ → Bool) → Colour → CanvasState → CanvasState → Type 0
PutsShape region shape colour old new = Repaints (λ x y. in_region region x y && shape x y) (λ x y c. colour) old new

-- a span without a column
abbrev pub no_columns : Span
no_columns = record { from = 0; to = 0 }

-- none of these spans, from an index on, shares a column with a later one
abbrev pub AreSeparateFrom : ℕ → List Span → Type 0
AreSeparateFrom from spans = (k x : ℕ) → from ≤ k → (in_span (slice_index_or spans k no_columns) x && in_spans (drop (suc k) spans) x) ≡ false
