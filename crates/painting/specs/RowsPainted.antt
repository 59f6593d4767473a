-- What is painted of a shape, row by row.
use Rattle.std.specs.Prelude.{◌≡◌, ℕ, ◌≤◌, ◌<◌, Bool, true, ◌&&◌, ◌==◌, nat_lt, List}
use Rattle.mapping.specs.declared.geometry.Colour.{Colour}
use Rattle.canvas.specs.CanvasState.{CanvasState}
use Rattle.canvas.specs.Writing.{Repaints}
use Rattle.span_fill.specs.Spans.{in_spans}
use Rattle.span_fill.specs.declared.span.Span.{Span}
use Rattle.painting.specs.Painted.{PaintValue, paints}
use Rattle.painting.specs.RowOps.{inked, is_inked, repeated_row_op}
use Rattle.painting.specs.Strips.{is_painted}
use Rattle.painting.specs.declared.row_op.RowOp.{RowOp}

-- a paint writes the pixel of a shape, in a row above this one
abbrev pub paints_above : PaintValue → (ℕ → ℕ → Bool) → ℕ → ℕ → ℕ → Bool
paints_above paint shape y column row = paints paint shape column row && nat_lt row y

-- a paint writes the pixel of a shape, in this row
abbrev pub paints_row : PaintValue → (ℕ → ℕ → Bool) → ℕ → ℕ → ℕ → Bool
paints_row paint shape y column row = paints paint shape column row && row == y

-- a row operation writes the same pixels of a row as a paint does, in the same colours within these columns
pub record IsRowOp (paint : PaintValue) (columns : Span) (y : ℕ) (row_op : RowOp) : Type 0 where
  pub test : (x : ℕ) → is_inked row_op x ≡ paint.has x y
  pub colour : (x : ℕ) (old : Colour) → columns.from ≤ x → x < columns.to → is_inked row_op x ≡ true → inked row_op x old ≡ paint.makes x y old

-- a paint gives every pixel this colour
pub record IsSameColour (paint : PaintValue) (colour : Colour) : Type 0 where
  pub test : (x y : ℕ) → paint.has x y ≡ true
  pub makes : (x y : ℕ) (old : Colour) → paint.makes x y old ≡ colour

-- a row operation writes the same as a paint does, in every row
pub record IsSameRowOp (paint : PaintValue) (row_op : RowOp) : Type 0 where
  pub test : (x y : ℕ) → is_inked row_op x ≡ paint.has x y
  pub colour : (x y : ℕ) (old : Colour) → inked row_op x old ≡ paint.makes x y old

-- eight row operations, which repeat by row, write the same as a paint does
pub record AreRepeatedRowOps (paint : PaintValue) (row_ops : List RowOp) : Type 0 where
  pub test : (x y : ℕ) → is_inked (repeated_row_op row_ops y) x ≡ paint.has x y
  pub colour : (x y : ℕ) (old : Colour) → paint.has x y ≡ true → inked (repeated_row_op row_ops y) x old ≡ paint.makes x y old

-- the pixels in these spans of a row were painted, by a row operation that does what the paint does there
pub record PaintsSpans (paint : PaintValue) (columns : Span) (y : ℕ) (spans : List Span) (old new : CanvasState) : Type 0 where
  pub row_op : RowOp
  pub is_row_op : IsRowOp paint columns y row_op
  pub painted : Repaints (is_painted row_op paint.clip.cuts y (in_spans spans)) (λ column row c. inked row_op column c) old new
