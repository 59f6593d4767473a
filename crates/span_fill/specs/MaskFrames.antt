-- The rows of a mask for rows of lines.
use Rattle.std.specs.Prelude.{◌≡◌, ℕ, ◌+◌, ◌-◌, ◌<◌, min, max, ℤ, pos, ◌+ℤ◌, ◌-ℤ◌, ◌≤ℤ◌, ◌<ℤ◌, Bool, ◌&&◌, nat_eq, IsTrue}
use Rattle.mapping.specs.Nibs.{IsNib, reach_after}
use Rattle.mapping.specs.declared.nib.Nib.{Nib}
use Rattle.span_fill.specs.Spans.{in_region, in_span}
use Rattle.span_fill.specs.StrokeMasks.{IsMaskRegion, height_of, width_of}
use Rattle.span_fill.specs.WideStrokes.{any_below, on_wide_line, row_of}
use Rattle.span_fill.specs.declared.line.Line.{Line}
use Rattle.span_fill.specs.declared.mask_frame.MaskFrame.{MaskFrame}
use Rattle.span_fill.specs.declared.span.Region.{Region}
use Rattle.span_fill.specs.declared.span.Span.{Span}

-- a valid nib and a part of a surface
pub record IsMaskFrame (frame : MaskFrame) : Type 0 where
  pub nib : IsNib frame.nib
  pub region : IsMaskRegion frame.region

-- the first row of lines from which the nib reaches the region, and the row this many rows after it
abbrev pub first_row : MaskFrame → ℤ
first_row frame = pos frame.region.rows.from -ℤ pos (reach_after frame.nib.y)

abbrev pub row_at : MaskFrame → ℕ → ℤ
row_at frame q = first_row frame +ℤ pos q

-- the number of rows of lines from which the nib reaches the region
abbrev pub row_count : MaskFrame → ℕ
row_count frame = height_of frame.region + (frame.nib.y - 1)

-- how many rows of the mask cover a row of the region
abbrev pub depth_of : MaskFrame → ℕ
depth_of frame = min frame.nib.y (height_of frame.region)

-- how many rows of lines don't have their own row in the mask
abbrev pub spare_of : MaskFrame → ℕ
spare_of frame = frame.nib.y - depth_of frame

-- The row of the mask for row q of lines, counted from the first one. All rows from which the nib reaches the whole
-- region share one.
abbrev pub mask_row : MaskFrame → ℕ → ℕ
mask_row frame q = max (min q (height_of frame.region - 1)) (q - spare_of frame)

-- A nib of the same width, and the row along which it moves, which covers at once what the nib's columns cover in all
-- rows of lines that share one.
abbrev pub shared_nib : MaskFrame → Nib
shared_nib frame = record { x = frame.nib.x; y = spare_of frame + 1 }

abbrev pub shared_row : MaskFrame → ℤ
shared_row frame = row_at frame (height_of frame.region - 1 + reach_after (spare_of frame + 1))

-- a region has each pixel of the largest surface in some rows of lines
abbrev pub HasSurfaceRows : MaskFrame → ℕ → ℕ → Region → Type 0
HasSurfaceRows frame from count region =
    (x y : ℕ) → x < 8192 → y < 8192 → row_at frame from ≤ℤ pos y → pos y <ℤ row_at frame (from + count) → IsTrue (in_region region x y)

-- a region lies in some rows of lines
abbrev pub LiesInRows : MaskFrame → ℕ → ℕ → Region → Type 0
LiesInRows frame from count region =
    (x y : ℕ) → IsTrue (in_region region x y) → (row_at frame from ≤ℤ pos y) × (pos y <ℤ row_at frame (from + count))

-- these columns are the part of a surface's columns in a region, counted from the region's first column
abbrev pub IsPartOf : Region → Span → Span → Type 0
IsPartOf region columns part =
    (x : ℕ) → x < width_of region → in_span part x ≡ in_span columns (x + region.columns.from)

-- the nib's columns cover the region's column x in row q of lines, and row i of the mask is that row's
abbrev pub marks_at : MaskFrame → Line → ℕ → ℕ → ℕ → Bool
marks_at frame line x i q =
    nat_eq i (mask_row frame q) && on_wide_line (row_of frame.nib) line (pos (x + frame.region.columns.from)) (row_at frame q)

-- the nib's columns cover a column in one of some rows of lines, and the row of the mask is that row's
abbrev pub marks_in : MaskFrame → Line → ℕ → ℕ → ℕ → ℕ → Bool
marks_in frame line from count x i = any_below (λ k. marks_at frame line x i (from + k)) count

-- the nib's columns cover a column in one of all rows of lines, and the row of the mask is that row's
abbrev pub marks : MaskFrame → Line → ℕ → ℕ → Bool
marks frame line x i = any_below (λ q. marks_at frame line x i q) (row_count frame)
