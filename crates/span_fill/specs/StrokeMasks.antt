-- The mask of a stroke, and what remains of it.
use Rattle.std.specs.Prelude.{◌≡◌, ℕ, ◌+◌, ◌-◌, ◌*◌, ◌<◌, ◌≤◌, Bool, true, false, ◌&&◌, ◌||◌, nat_eq, nat_le, nat_lt, IsTrue, List, Option, Some, None}
use Rattle.mapping.specs.declared.nib.Nib.{Nib}
use Rattle.span_fill.specs.BitRows.{BitRowsState, has_bit, has_capacity}
use Rattle.span_fill.specs.Spans.{in_region, in_span}
use Rattle.span_fill.specs.WideStrokes.{in_wide_stroke}
use Rattle.span_fill.specs.declared.line.Line.{Line}
use Rattle.span_fill.specs.declared.span.Region.{Region}
use Rattle.span_fill.specs.declared.span.Span.{Span}
use Rattle.span_fill.specs.declared.stroke_mask.RowSpan.{RowSpan}

-- the bits of a region, row by row, and the position of the remaining pixels
pub record StrokeMaskState : Type 0 where
  pub bits : BitRowsState
  pub region : Region
  pub row : ℕ
  pub column : ℕ

-- a pixel lies in a later row than this one, or in this one from a column on
abbrev pub comes_from : ℕ → ℕ → ℕ → ℕ → Bool
comes_from row column x y = nat_lt row y || (nat_eq row y && nat_le column x)

-- the bit of a region's pixel (x, y) is set
abbrev pub is_marked : BitRowsState → Region → ℕ → ℕ → Bool
is_marked bits region x y = has_bit bits (x - region.columns.from) (y - region.rows.from)

-- the pixel (x, y) remains
abbrev pub to_come : StrokeMaskState → ℕ → ℕ → Bool
to_come m x y = in_region m.region x y && (comes_from m.row m.column x y && is_marked m.bits m.region x y)

-- the region is part of a surface
pub record IsMaskRegion (region : Region) : Type 0 where
  pub columns : region.columns.from ≤ region.columns.to
  pub columns_end : region.columns.to ≤ 8192
  pub rows : region.rows.from ≤ region.rows.to
  pub rows_end : region.rows.to ≤ 8192

-- the number of columns, or rows, of a region
abbrev pub width_of : Region → ℕ
width_of region = region.columns.to - region.columns.from

abbrev pub height_of : Region → ℕ
height_of region = region.rows.to - region.rows.from

-- the numbers of a span, in order, lie in another span
pub record IsPartOfSpan (part whole : Span) : Type 0 where
  pub first : whole.from ≤ part.from
  pub order : part.from ≤ part.to
  pub last : part.to ≤ whole.to

-- a mask has memory for the region: for its columns, and for twice its rows
abbrev pub HasMaskCapacity : Region → Type 0
HasMaskCapacity region = IsTrue (has_capacity (2 * height_of region) (width_of region))

-- the rows of a region before this one
abbrev pub rows_before : Region → ℕ → Region
rows_before region to = record { columns = region.columns; rows = record { from = region.rows.from; to = to } }

-- the span contains the pixel (x, y)
abbrev pub in_row_span : RowSpan → ℕ → ℕ → Bool
in_row_span span x y = nat_eq y span.y && in_span span.columns x

-- a bound on the number of remaining columns, if each row of a surface has up to 8,192
abbrev pub pixels_left : StrokeMaskState → ℕ
pixels_left m = 8193 * (m.region.rows.to - m.row) + (m.region.columns.to - m.column)

-- what remains is what a nib covers in a region along some lines
abbrev pub HasStrokeToCome : Nib → Region → List Line → StrokeMaskState → Type 0
HasStrokeToCome nib region lines m = (x y : ℕ) → to_come m x y ≡ (in_region region x y && in_wide_stroke nib lines x y)

-- The span lies in the region and has a pixel. Its pixels remained before and don't any more, and no others changed.
-- Those that still remain come after it, and aren't adjacent to it.
pub record TakesSpan (old new : StrokeMaskState) (span : RowSpan) : Type 0 where
  pub region : new.region ≡ old.region
  pub row_first : old.region.rows.from ≤ span.y
  pub row_last : span.y < old.region.rows.to
  pub first : old.region.columns.from ≤ span.columns.from
  pub some : span.columns.from < span.columns.to
  pub last : span.columns.to ≤ old.region.columns.to
  pub were : (x y : ℕ) → in_row_span span x y ≡ true → to_come old x y ≡ true
  pub taken : (x y : ℕ) → in_row_span span x y ≡ true → to_come new x y ≡ false
  pub others : (x y : ℕ) → in_row_span span x y ≡ false → to_come new x y ≡ to_come old x y
  pub after : (x y : ℕ) → to_come new x y ≡ true → comes_from span.y span.columns.to x y ≡ true
  pub apart : to_come new span.columns.to span.y ≡ false
  pub less : pixels_left new < pixels_left old

-- the next span is returned; or nothing, if nothing remains
abbrev pub GivesSpan : StrokeMaskState → Option RowSpan → StrokeMaskState → Type 0
GivesSpan old None new = ((x y : ℕ) → to_come old x y ≡ false) × ((x y : ℕ) → to_come new x y ≡ false)
GivesSpan old (Some span) new = TakesSpan old new span

-- The columns are the next ones of the row that are set: from the position on, none before them is set, nor is the one
-- after them.
pub record IsNextRun (m : StrokeMaskState) (run : Span) : Type 0 where
  pub first : m.column ≤ run.from
  pub some : run.from < run.to
  pub last : run.to ≤ m.region.columns.to
  pub before : (x : ℕ) → m.column ≤ x → x < run.from → is_marked m.bits m.region x m.row ≡ false
  pub set : (x : ℕ) → run.from ≤ x → x < run.to → is_marked m.bits m.region x m.row ≡ true
  pub after : run.to < m.region.columns.to → is_marked m.bits m.region run.to m.row ≡ false

-- the next set columns of the row are returned; or nothing, if no more are set
abbrev pub GivesRun : StrokeMaskState → Option Span → Type 0
GivesRun m None = (x : ℕ) → m.column ≤ x → x < m.region.columns.to → is_marked m.bits m.region x m.row ≡ false
GivesRun m (Some run) = IsNextRun m run

-- the row is finished, since nothing of it remains, and everything else still remains
pub record LeavesRow (old new : StrokeMaskState) : Type 0 where
  pub region : new.region ≡ old.region
  pub same : (x y : ℕ) → to_come new x y ≡ to_come old x y
  pub less : pixels_left new < pixels_left old

-- the next span of the row is returned, or the row is finished
abbrev pub GivesSpanOfRow : StrokeMaskState → Option RowSpan → StrokeMaskState → Type 0
GivesSpanOfRow old None new = LeavesRow old new
GivesSpanOfRow old (Some span) new = TakesSpan old new span
