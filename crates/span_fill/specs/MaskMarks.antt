-- Lines marked in rows of bits, and rows widened.
use Rattle.std.specs.Prelude.{◌≡◌, ℕ, ◌+◌, ◌*◌, ◌<◌, Bool, false, ◌&&◌, ◌||◌, nat_eq, ◌-ℤ◌, unsigned_abs, ◌≤◌, pos, List}
use Rattle.mapping.specs.Nibs.{reach_after, reach_before}
use Rattle.mapping.specs.declared.geometry.Rect.{Rect}
use Rattle.mapping.specs.declared.nib.Nib.{Nib}
use Rattle.span_fill.specs.BitRows.{BitRowsState, HasSize, has_bit}
use Rattle.span_fill.specs.MaskFrames.{first_row, marks, marks_in, mask_row}
use Rattle.span_fill.specs.Spans.{in_span}
use Rattle.span_fill.specs.StrokeMasks.{height_of, width_of}
use Rattle.span_fill.specs.WideStrokes.{any_below, in_wide_stroke}
use Rattle.span_fill.specs.declared.line.Line.{Line}
use Rattle.span_fill.specs.declared.mask_frame.MaskFrame.{MaskFrame}
use Rattle.span_fill.specs.declared.span.Span.{Span}
use Rattle.span_fill.specs.declared.wide_line.WideRow.{WideRow}

-- there are bits for the region's columns, and for twice its rows
abbrev pub HasRows : MaskFrame → BitRowsState → Type 0
HasRows frame bits = HasSize bits (2 * height_of frame.region) (width_of frame.region)

-- none of the mask's bits is set
abbrev pub IsClear : MaskFrame → BitRowsState → Type 0
IsClear frame bits = (x i : ℕ) → x < width_of frame.region → i < 2 * height_of frame.region → has_bit bits x i ≡ false

-- the bits that pass a test are set too, and no others change
abbrev pub SetsToo : MaskFrame → (ℕ → ℕ → Bool) → BitRowsState → BitRowsState → Type 0
SetsToo frame test old new =
    (x i : ℕ) → x < width_of frame.region → i < 2 * height_of frame.region → has_bit new x i ≡ (has_bit old x i || test x i)

-- columns of a surface are set in a row of the mask
abbrev pub MarksColumns : MaskFrame → Span → ℕ → BitRowsState → BitRowsState → Type 0
MarksColumns frame columns row = SetsToo frame (λ x i. nat_eq i row && in_span columns (x + frame.region.columns.from))

-- what a row of a line covers is set, in that row's row of the mask
abbrev pub MarksRow : MaskFrame → WideRow → BitRowsState → BitRowsState → Type 0
MarksRow frame row = MarksColumns frame row.columns (mask_row frame (unsigned_abs (row.y -ℤ first_row frame)))

-- what the nib's columns cover along a line, in some rows of lines, is set
abbrev pub MarksRows : MaskFrame → Line → ℕ → ℕ → BitRowsState → BitRowsState → Type 0
MarksRows frame line from count = SetsToo frame (λ x i. marks_in frame line from count x i)

-- what the nib's columns cover along a line is set
abbrev pub MarksLine : MaskFrame → Line → BitRowsState → BitRowsState → Type 0
MarksLine frame line = SetsToo frame (λ x i. marks frame line x i)

-- a box of the largest surface
abbrev pub largest_surface : Rect
largest_surface = record { l = pos 0; t = pos 0; r = pos 8191; b = pos 8191 }

-- a nib's columns, around the column x, contain the column n
abbrev pub IsAround : Nib → ℕ → ℕ → Type 0
IsAround nib x n = (x ≤ n + reach_before nib.x) × (n ≤ x + reach_after nib.x)

-- all of some columns are among others
pub record IsPart (columns others : Span) : Type 0 where
  pub first : others.from ≤ columns.from
  pub order : columns.from ≤ columns.to
  pub last : columns.to ≤ others.to

-- each of the first rows has what it and the rows after it had, this many rows in all
abbrev pub Widens : ℕ → ℕ → BitRowsState → BitRowsState → Type 0
Widens height depth old new =
    (x i : ℕ) → x < old.columns → i < height → has_bit new x i ≡ any_below (λ d. has_bit old x (i + d)) depth

-- the region's bits are what the nib covers along some lines
abbrev pub HasStroke : MaskFrame → List Line → BitRowsState → Type 0
HasStroke frame lines bits =
    (x y : ℕ) → x < width_of frame.region → y < height_of frame.region
    → has_bit bits x y ≡ in_wide_stroke frame.nib lines (x + frame.region.columns.from) (y + frame.region.rows.from)
