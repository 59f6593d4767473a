-- What a mask covers once its rows are widened, and in which columns that is the whole region.
use Rattle.std.specs.Prelude.{◌≡◌, ℕ, ◌+◌, ◌-◌, ◌*◌, ◌<◌, ℤ, pos, ◌+ℤ◌, ◌≤ℤ◌, ◌<ℤ◌, Bool, true, ◌||◌, List}
use Rattle.mapping.specs.Nibs.{reach_after}
use Rattle.mapping.specs.declared.nib.Nib.{Nib}
use Rattle.span_fill.specs.BitRows.{BitRowsState, has_bit}
use Rattle.span_fill.specs.MaskFrames.{depth_of, marks_in, row_at}
use Rattle.span_fill.specs.Spans.{in_span}
use Rattle.span_fill.specs.StrokeMasks.{height_of, width_of}
use Rattle.span_fill.specs.WideStrokes.{any_below, in_wide_stroke, on_wide_line, row_of}
use Rattle.span_fill.specs.declared.line.Line.{Line}
use Rattle.span_fill.specs.declared.mask_frame.MaskFrame.{MaskFrame}
use Rattle.span_fill.specs.declared.span.Span.{Span}

-- one of the rows of the mask that cover row y of the region has the column's bit
abbrev pub is_covered : MaskFrame → BitRowsState → ℕ → ℕ → Bool
is_covered frame bits x y = any_below (λ d. has_bit bits x (y + d)) (depth_of frame)

-- the pixels that pass a test are covered too, and no others change
abbrev pub CoversToo : MaskFrame → (ℕ → ℕ → Bool) → BitRowsState → BitRowsState → Type 0
CoversToo frame test old new =
    (x y : ℕ) → x < width_of frame.region → y < height_of frame.region → is_covered frame new x y ≡ (is_covered frame old x y || test x y)

-- the same pixels are covered
abbrev pub IsCoveredAlike : MaskFrame → BitRowsState → BitRowsState → Type 0
IsCoveredAlike frame old new = (x y : ℕ) → x < width_of frame.region → y < height_of frame.region → is_covered frame new x y ≡ is_covered frame old x y

-- all pixels in a span of columns are covered
abbrev pub IsSpanCovered : MaskFrame → BitRowsState → Span → Type 0
IsSpanCovered frame bits columns =
    (x y : ℕ) → x < width_of frame.region → y < height_of frame.region → in_span columns x ≡ true → is_covered frame bits x y ≡ true

-- what the nib covers along a line is covered
abbrev pub CoversLine : MaskFrame → Line → BitRowsState → BitRowsState → Type 0
CoversLine frame line =
    CoversToo frame (λ x y. on_wide_line frame.nib line (pos (x + frame.region.columns.from)) (pos (y + frame.region.rows.from)))

-- what the nib covers along some lines is covered
abbrev pub CoversLines : MaskFrame → List Line → BitRowsState → BitRowsState → Type 0
CoversLines frame lines =
    CoversToo frame (λ x y. in_wide_stroke frame.nib lines (x + frame.region.columns.from) (y + frame.region.rows.from))

-- what the nib's columns cover along a line in some rows of lines, in one of the rows of the mask for row y of the region
abbrev pub covers_in : MaskFrame → Line → ℕ → ℕ → ℕ → ℕ → Bool
covers_in frame line from count x y = any_below (λ d. marks_in frame line from count x (y + d)) (depth_of frame)

-- it is covered
abbrev pub CoversRows : MaskFrame → Line → ℕ → ℕ → BitRowsState → BitRowsState → Type 0
CoversRows frame line from count = CoversToo frame (covers_in frame line from count)

-- the last row of the mask, which no row of lines has
abbrev pub last_row : MaskFrame → ℕ
last_row frame = 2 * height_of frame.region - 1

-- the columns that are set in the last row are covered in each row of the region
abbrev pub KnowsCovered : MaskFrame → BitRowsState → Type 0
KnowsCovered frame bits =
    (x y : ℕ) → x < width_of frame.region → y < height_of frame.region → has_bit bits x (last_row frame) ≡ true → is_covered frame bits x y ≡ true

-- the last row is unchanged
abbrev pub KeepsLastRow : MaskFrame → BitRowsState → BitRowsState → Type 0
KeepsLastRow frame old new = (x : ℕ) → x < width_of frame.region → has_bit new x (last_row frame) ≡ has_bit old x (last_row frame)

-- the columns of the region that pass a test are set in the last row
abbrev pub AreKnown : MaskFrame → BitRowsState → (ℕ → Bool) → Type 0
AreKnown frame bits test = (x : ℕ) → x < width_of frame.region → test x ≡ true → has_bit bits x (last_row frame) ≡ true

-- the columns of the region that pass a test are among these, which are counted from its first one
abbrev pub AreAmong : MaskFrame → (ℕ → Bool) → Span → Type 0
AreAmong frame test columns = (x : ℕ) → x < width_of frame.region → test x ≡ true → in_span columns x ≡ true

-- columns of a surface have those of the region that pass a test
abbrev pub HoldsColumns : MaskFrame → (ℕ → Bool) → Span → Type 0
HoldsColumns frame test columns =
    (x : ℕ) → x < width_of frame.region → test x ≡ true → in_span columns (x + frame.region.columns.from) ≡ true

-- columns of a surface have those of the region from one number to another, inclusive
abbrev pub HoldsAllBetween : MaskFrame → ℤ → ℤ → Span → Type 0
HoldsAllBetween frame first last columns =
    (x : ℕ) → x < width_of frame.region → first ≤ℤ pos (x + frame.region.columns.from) → pos (x + frame.region.columns.from) ≤ℤ last
    → in_span columns (x + frame.region.columns.from) ≡ true

-- the nib's columns cover the region's column in one of some rows of lines
abbrev pub is_in_rows : MaskFrame → Line → ℕ → ℕ → ℕ → Bool
is_in_rows frame line from count x =
    any_below (λ k. on_wide_line (row_of frame.nib) line (pos (x + frame.region.columns.from)) (row_at frame (from + k))) count

-- the nib covers the region's column along a line, in some row of the region
abbrev pub is_in_region : MaskFrame → Line → ℕ → Bool
is_in_region frame line x =
    any_below (λ y. on_wide_line frame.nib line (pos (x + frame.region.columns.from)) (pos (y + frame.region.rows.from))) (height_of frame.region)

-- a nib with this many rows, and the row of lines from which it reaches as many rows of lines, from one on
abbrev pub tall_nib : MaskFrame → ℕ → Nib
tall_nib frame count = record { x = frame.nib.x; y = count }

abbrev pub tall_row : MaskFrame → ℕ → ℕ → ℤ
tall_row frame from count = row_at frame from +ℤ pos (reach_after count)

-- both ends of a line lie in rows before this one
abbrev pub EndsBefore : ℤ → Line → Type 0
EndsBefore row line = (line.from.y <ℤ row) × (line.to.y <ℤ row)

-- both ends of a line lie in this row or in rows after it
abbrev pub EndsFrom : ℤ → Line → Type 0
EndsFrom row line = (row ≤ℤ line.from.y) × (row ≤ℤ line.to.y)
