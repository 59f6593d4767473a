-- The parts of an outline that can be painted.
use Rattle.std.specs.Prelude.{◌≡◌, ℕ, ◌≤◌, Bool, List}
use Rattle.canvas.specs.CanvasState.{CanvasState}
use Rattle.dc_stack.specs.Values.{placed_value}
use Rattle.dc_stack.specs.declared.clip.Clip.{Clip}
use Rattle.span_fill.specs.Fill.{in_fill}
use Rattle.span_fill.specs.RowState.{RowState, RowWork, filling, stroking}
use Rattle.span_fill.specs.WideStrokes.{in_wide_stroke}
use Rattle.span_fill.specs.declared.line.Line.{Line}
use Rattle.span_fill.specs.declared.span.Span.{Span}
use Rattle.painting.specs.Regions.{HasVisible}
use Rattle.painting.specs.declared.outline_rows.Part.{Part}
use Rattle.painting.specs.declared.outline_rows.Part.TheVariants.{Inside, Lines}

-- the part of an outline with these lines contains the pixel
abbrev pub part_has : Part → List Line → ℕ → ℕ → Bool
part_has (Inside rule) lines = in_fill rule lines
part_has (Lines nib) lines = in_wide_stroke nib lines

-- what a row buffer computes for a part
abbrev pub work_of : Part → RowWork
work_of (Inside rule) = filling rule
work_of (Lines nib) = stroking nib

-- a row buffer has begun with a part at the first of these rows, and the rows and columns contain everything of it that
-- is visible under a clip
pub record HasPart (part : Part) (rows : Span) (clip : Clip) (columns : Span) (buffer : RowState) (canvas : CanvasState) : Type 0 where
  pub work : buffer.work ≡ work_of part
  pub next : buffer.next ≡ rows.from
  pub order : columns.from ≤ columns.to
  pub side : rows.to ≤ 8192
  pub visible : HasVisible (placed_value clip) (part_has part buffer.lines) canvas (record { columns = columns; rows = rows })
