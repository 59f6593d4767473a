-- Which pixels of a row are painted, and which may be.
use Rattle.std.specs.Prelude.{ℕ, ◌+◌, ◌-◌, ◌*◌, ◌<◌, ◌≤◌, ◌^◌, Bool, ◌&&◌, ◌==◌, not, List, map, if◌then◌else◌}
use Rattle.std.specs.List.{list_any}
use Rattle.canvas.specs.CanvasState.{CanvasState, HasRow}
use Rattle.canvas.specs.Writing.{Repaints, in_cells, in_row_span}
use Rattle.canvas.specs.WritingLaws.{IsWhole}
use Rattle.mapping.specs.Mixes.{mixed_by}
use Rattle.mapping.specs.Pixels.{is_cell}
use Rattle.mapping.specs.declared.geometry.Colour.{Colour}
use Rattle.mapping.specs.declared.geometry.Rect.{Rect}
use Rattle.mapping.specs.PixelBoxes.{in_box}
use Rattle.mapping.specs.declared.mix.Mix.{Mix}
use Rattle.dc_stack.specs.declared.clip.ClipBox.{ClipBox}
use Rattle.span_fill.specs.declared.span.Span.{Span}
use Rattle.painting.specs.RowOps.{inked, is_inked}
use Rattle.painting.specs.declared.row_op.RowOp.{RowOp}

-- columns of a row may be painted: the canvas has them, and its count can grow by two writes of each without overflow
pub record MayPaint (canvas : CanvasState) (y : ℕ) (columns : Span) : Type 0 where
  pub whole : IsWhole canvas
  pub order : columns.from ≤ columns.to
  pub width : columns.to ≤ canvas.width
  pub row : HasRow canvas y
  pub countable : canvas.writes + 2 * (columns.to - columns.from) < 2 ^ 64

-- at most one write of each of the columns was counted
abbrev pub CountsOnce : Span → CanvasState → CanvasState → Type 0
CountsOnce columns old new = new.writes ≤ old.writes + (columns.to - columns.from)

-- the pixel lies in row y, in these columns
abbrev pub in_columns : ℕ → Span → ℕ → ℕ → Bool
in_columns y columns column row = in_row_span y columns.from columns.to column row

-- no box that the clip cuts out contains the pixel
abbrev pub is_uncut : List Rect → ℕ → ℕ → Bool
is_uncut cuts x y = not (list_any (λ box. in_box box x y) cuts)

-- the pixel lies in row y and in one of the columns, no box cuts it out, and the row operation writes it
abbrev pub is_painted : RowOp → List Rect → ℕ → (ℕ → Bool) → ℕ → ℕ → Bool
is_painted row_op cuts y columns column row = row == y && columns column && is_uncut cuts column row && is_inked row_op column

-- the boxes that a clip cuts out, on the surface
abbrev pub placed_boxes : List ClipBox → List Rect
placed_boxes cuts = map (λ (b : ClipBox). b.placed) cuts

-- a row operation was applied to these columns of row y, except where a box cuts them out
abbrev pub PutsRowOp : RowOp → List Rect → ℕ → (ℕ → Bool) → CanvasState → CanvasState → Type 0
PutsRowOp row_op cuts y columns old new = Repaints (is_painted row_op cuts y columns) (λ column row c. inked row_op column c) old new

-- these columns of row y were changed by f
abbrev pub MakesColumns : ℕ → Span → (ℕ → Colour → Colour) → CanvasState → CanvasState → Type 0
MakesColumns y columns f old new = Repaints (in_columns y columns) (λ column row c. f column c) old new

-- the cells among these columns of row y were changed by f
abbrev pub MakesCells : ℕ → Span → ℕ → (ℕ → Colour → Colour) → CanvasState → CanvasState → Type 0
MakesCells y columns cells f old new = Repaints (in_cells y columns.from columns.to cells) (λ column row c. f column c) old new

-- the result of one mix for a cell, and of another for a gap between cells
abbrev pub mixed_cells : ℕ → Mix → Mix → ℕ → Colour → Colour
mixed_cells cells mix gaps column old = if is_cell cells column then mixed_by mix old else mixed_by gaps old
