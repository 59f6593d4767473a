-- What is known before the first pixel of a line that is marked.
use Rattle.std.specs.Prelude.{◌≡◌, ℕ, ◌+◌, ◌<◌, ◌≤◌, ℤ, pos, ◌+ℤ◌, ◌-ℤ◌, ◌≤ℤ◌, ◌<ℤ◌, unsigned_abs}
use Rattle.mapping.specs.Nibs.{reach_after, reach_before}
use Rattle.span_fill.specs.MaskFrames.{first_row, mask_row}
use Rattle.span_fill.specs.declared.line.Line.{Line}
use Rattle.span_fill.specs.declared.mask_frame.MaskFrame.{MaskFrame}
use Rattle.span_fill.specs.declared.mask_runs.Runs.{Runs}
use Rattle.span_fill.specs.declared.wide_line.WideRow.{WideRow}

-- the nib's columns around column x lie in the region
abbrev pub IsInside : MaskFrame → ℤ → Type 0
IsInside frame x =
    ((pos frame.region.columns.from +ℤ pos (reach_before frame.nib.x)) ≤ℤ x) × ((x +ℤ pos (reach_after frame.nib.x)) <ℤ pos frame.region.columns.to)

-- the rows of the mask for some rows of lines are so many rows behind these
abbrev pub IsBehind : MaskFrame → ℕ → ℕ → ℕ → Type 0
IsBehind frame from count shift = (k : ℕ) → k < count → mask_row frame (from + k) + shift ≡ from + k

-- the row of the mask for a row is so many rows behind it
abbrev pub IsShiftOf : MaskFrame → ℤ → ℕ → Type 0
IsShiftOf frame row shift = mask_row frame (unsigned_abs (row -ℤ first_row frame)) + shift ≡ unsigned_abs (row -ℤ first_row frame)

-- the nib has few columns, and they lie in the region around each end of the line
pub record AreRuns (frame : MaskFrame) (line : Line) (runs : Runs) : Type 0 where
  pub width : runs.width ≡ frame.nib.x
  pub few : frame.nib.x ≤ 64
  pub first_end : IsInside frame line.from.x
  pub last_end : IsInside frame line.to.x

-- a row has as many columns as are known, from 1 to 64, all of them in the region, and its row of the mask is known too
pub record IsRunOf (frame : MaskFrame) (row : WideRow) (runs : Runs) : Type 0 where
  pub first : frame.region.columns.from ≤ row.columns.from
  pub last : row.columns.to ≤ frame.region.columns.to
  pub some : 1 ≤ runs.width
  pub few : runs.width ≤ 64
  pub width : row.columns.to ≡ row.columns.from + runs.width
  pub own : IsShiftOf frame row.y runs.shift
