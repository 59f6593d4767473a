-- Lines with a nib, one row at a time.
use Rattle.std.specs.Prelude.{◌≡◌, ◌↔◌, ℕ, ◌≤◌, ℤ, pos, negsuc, neg_ℤ, ◌+ℤ◌, ◌-ℤ◌, ◌≤ℤ◌, ◌<ℤ◌, Bool, true, false, if◌then◌else◌, int_le, IsTrue}
use Rattle.std.specs.Int.{int_div_euclid, int_max, int_min}
use Rattle.mapping.specs.Nibs.{reach_before, reach_after}
use Rattle.mapping.specs.declared.geometry.Point.{Point}
use Rattle.mapping.specs.declared.nib.Nib.{Nib}
use Rattle.span_fill.specs.MajorLines.{IsPixelOf, major_of, length_of}
use Rattle.span_fill.specs.Steppers.{StepperCanMove, IsStepper, IsStepperIncrement}
use Rattle.span_fill.specs.Lines.{HasNearEnds}
use Rattle.span_fill.specs.RowSlopes.{IsSmallRowSlope, row_slope_of, total_of}
use Rattle.span_fill.specs.Strokes.{is_y_major, is_towards, on_line}
use Rattle.span_fill.specs.WideStrokes.{on_wide_line}
use Rattle.span_fill.specs.declared.major_line.MajorLine.{MajorLine}
use Rattle.span_fill.specs.declared.line.Line.{Line}
use Rattle.span_fill.specs.declared.row_slope.RowSlope.{RowSlope}
use Rattle.span_fill.specs.declared.stepper.Stepper.{Stepper}
use Rattle.span_fill.specs.declared.wide_edge.WideEdge.{WideEdge}
use Rattle.span_fill.specs.declared.bounds.CoordinateRange.{CoordinateRange}

-- where the columns of several rows begin; the first row has the first column, and the last row (or, unless the line is
-- y-major, the row after it) has the second
abbrev pub low_over : ℤ → ℤ → ℤ
low_over first last = if int_le first last then first else last

-- where the columns of several rows end
abbrev pub high_over : Bool → ℤ → ℤ → ℤ
high_over true first last = (if int_le first last then last else first) +ℤ pos 1
high_over false first last = if int_le first last then last else first

-- the column of a line in a row, or its first one there
abbrev pub column_in : RowSlope → Point → ℤ → ℤ
column_in slope start row = int_div_euclid (total_of slope start row) slope.divisor

-- a line is at a row: a y-major line has the row, and a horizontal line lies in it
pub record IsRowOf (y_major : Bool) (line : Line) (row : ℤ) : Type 0 where
  pub towards : y_major ≡ true → is_towards line.from.y line.to.y row ≡ true
  pub horizontal : line.from.y ≡ line.to.y → row ≡ line.from.y

-- the row for the end of the last row's columns
abbrev pub last_in : Bool → ℤ → ℕ → ℤ
last_in true top n = top +ℤ pos n
last_in false top n = top +ℤ pos n +ℤ pos 1

-- the rows of a line: all of its pixels lie in them, and each is one of its rows
pub record HasRows (y_major : Bool) (line : Line) (from to : ℤ) : Type 0 where
  pub inside : (row : ℤ) → from ≤ℤ row → row <ℤ to → IsRowOf y_major line row
  pub all : (u row : ℤ) → on_line line u row ≡ true → (from ≤ℤ row) × (row <ℤ to)

-- the columns of a line: all of its pixels lie in them, and, unless it is y-major, each is between its ends
pub record HasColumns (y_major : Bool) (line : Line) (from to : ℤ) : Type 0 where
  pub inside : y_major ≡ false → (u : ℤ) → from ≤ℤ u → u <ℤ to → is_towards line.from.x line.to.x u ≡ true
  pub all : (u row : ℤ) → on_line line u row ≡ true → (from ≤ℤ u) × (u <ℤ to)

-- a line that has pixels, with its numbers
pub record IsDrawn (y_major : Bool) (line : Line) : Type 0 where
  pub axis : y_major ≡ is_y_major line
  pub some : 1 ≤ length_of (major_of y_major line)
  pub divides : pos 1 ≤ℤ (row_slope_of y_major (major_of y_major line)).divisor
  pub near : y_major ≡ true → (neg_ℤ (row_slope_of y_major (major_of y_major line)).divisor ≤ℤ (row_slope_of y_major (major_of y_major line)).step)
      × ((row_slope_of y_major (major_of y_major line)).step ≤ℤ (row_slope_of y_major (major_of y_major line)).divisor)

-- these are the first and the last of a line's rows that a nib reaches from row y
pub record IsWindow (nib : Nib) (y from to top bottom : ℤ) : Type 0 where
  pub order : top ≤ℤ bottom
  pub top_seen : (y -ℤ pos (reach_after nib.y)) ≤ℤ top
  pub top_has : from ≤ℤ top
  pub bottom_seen : bottom ≤ℤ (y +ℤ pos (reach_before nib.y))
  pub bottom_has : bottom <ℤ to
  pub least : (row : ℤ) → from ≤ℤ row → (y -ℤ pos (reach_after nib.y)) ≤ℤ row → top ≤ℤ row
  pub most : (row : ℤ) → row <ℤ to → row ≤ℤ (y +ℤ pos (reach_before nib.y)) → row ≤ℤ bottom

-- x lies between two columns, or within the nib's reach of a column between them
pub record LiesNear (nib : Nib) (low high x : ℤ) : Type 0 where
  pub some : low <ℤ high
  pub left : (low -ℤ pos (reach_before nib.x)) ≤ℤ x
  pub right : x <ℤ (high +ℤ pos (reach_after nib.x))

-- the range of a line on its major axis
pub record IsRun (major : MajorLine) (from to : ℤ) : Type 0 where
  pub exact : (u : ℤ) → IsTrue (is_towards major.from_u major.to_u u) ↔ ((from ≤ℤ u) × (u <ℤ to))

-- the range of a line on its minor axis
pub record IsHull (major : MajorLine) (from to : ℤ) : Type 0 where
  pub within : (u v : ℤ) → IsPixelOf major u v → (from ≤ℤ v) × (v <ℤ to)
  pub horizontal : major.from_v ≡ major.to_v → (from ≡ major.from_v) × (to ≡ major.from_v +ℤ pos 1)

-- the greater, or the smaller, of two bounds
pub record IsGreater (a b m : ℤ) : Type 0 where
  pub first : a ≤ℤ m
  pub second : b ≤ℤ m
  pub least : (u : ℤ) → a ≤ℤ u → b ≤ℤ u → m ≤ℤ u

pub record IsLesser (a b m : ℤ) : Type 0 where
  pub first : m ≤ℤ a
  pub second : m ≤ℤ b
  pub most : (u : ℤ) → u ≤ℤ a → u ≤ℤ b → u ≤ℤ m

-- the intersection of two ranges
pub record IsMeet (low_a low_b high_a high_b low high : ℤ) : Type 0 where
  pub low_first : low_a ≤ℤ low
  pub low_second : low_b ≤ℤ low
  pub high_first : high ≤ℤ high_a
  pub high_second : high ≤ℤ high_b
  pub least : (u : ℤ) → low_a ≤ℤ u → low_b ≤ℤ u → low ≤ℤ u
  pub most : (u : ℤ) → u <ℤ high_a → u <ℤ high_b → u <ℤ high

-- the first row, from one row on, that a nib reaches from a row
abbrev pub top_of : Nib → ℤ → ℤ → ℤ
top_of nib row from = int_max (row -ℤ pos (reach_after nib.y)) from

-- the last row, before one row, that a nib reaches from a row
abbrev pub bottom_of : Nib → ℤ → ℤ → ℤ
bottom_of nib row to = int_min (row +ℤ pos (reach_before nib.y)) (to -ℤ pos 1)

-- the row where the columns of a last row end; for a line that isn't y-major, where the next row begins
abbrev pub end_row : Bool → ℤ → ℤ
end_row true bottom = bottom
end_row false bottom = bottom +ℤ pos 1

-- where a line crosses a row, if the last row before it ends at one crossing, and this row at another
abbrev pub crossing_of : Bool → Stepper → Stepper → Stepper
crossing_of y_major before here = if y_major then here else before

-- the numbers of a strip's line
abbrev pub wide_edge_row_slope : WideEdge → RowSlope
wide_edge_row_slope edge = row_slope_of edge.y_major (major_of edge.y_major edge.line)

-- A strip is at a row: its crossings are those of the first and the last of its line's rows that the nib reaches from
-- there.
pub record IsAtRow (nib : Nib) (row : ℤ) (edge : WideEdge) : Type 0 where
  pub drawn : IsDrawn edge.y_major edge.line
  pub rows : HasRows edge.y_major edge.line edge.rows.from edge.rows.to
  pub columns : HasColumns edge.y_major edge.line edge.columns.from edge.columns.to
  pub near : HasNearEnds edge.line
  pub small : IsSmallRowSlope (wide_edge_row_slope edge)
  pub order : top_of nib row edge.rows.from ≤ℤ bottom_of nib row edge.rows.to
  pub step : IsStepperIncrement (wide_edge_row_slope edge).step (wide_edge_row_slope edge).divisor edge.step
  pub first_moves : StepperCanMove edge.step edge.first
  pub last_moves : StepperCanMove edge.step edge.last
  pub first : IsStepper (total_of (wide_edge_row_slope edge) edge.line.from (top_of nib row edge.rows.from)) (wide_edge_row_slope edge).divisor edge.first
  pub last :
      IsStepper (total_of (wide_edge_row_slope edge) edge.line.from (end_row edge.y_major (bottom_of nib row edge.rows.to))) (wide_edge_row_slope edge).divisor
      edge.last

-- the nib covers nothing in a row
abbrev pub MissesRow : Nib → Line → ℤ → Type 0
MissesRow nib line row = (x : ℤ) → IsTrue (on_wide_line nib line x row) → ⊥

-- where the columns that a strip's line has in the reached rows begin, and where they end
abbrev pub part_low : WideEdge → ℤ
part_low s = int_max (low_over s.first.column s.last.column) s.columns.from

abbrev pub part_high : WideEdge → ℤ
part_high s = int_min (high_over s.y_major s.first.column s.last.column) s.columns.to

-- a range contains a row
abbrev pub HasRow : CoordinateRange → ℤ → Type 0
HasRow range y = (range.from ≤ℤ y) × (y <ℤ range.to)

-- where the columns of a row begin: a y-major line has one column, others have those between its column and that of the
-- next row
abbrev pub low_of : Bool → ℤ → ℤ → ℤ
low_of y_major column next = if y_major then column else (if int_le column next then column else next)

-- where the columns of a row end
abbrev pub high_of : Bool → ℤ → ℤ → ℤ
high_of y_major column next = if y_major then column +ℤ pos 1 else (if int_le column next then next else column)

-- a row of the surface, or one from which a nib reaches it
pub record IsNearRow (row : ℤ) : Type 0 where
  pub low : negsuc 4095 ≤ℤ row
  pub high : row <ℤ pos 12288

-- a nib reaches some of these rows from row y
pub record ReachesRows (nib : Nib) (rows : CoordinateRange) (y : ℤ) : Type 0 where
  pub first : (rows.from -ℤ pos (reach_before nib.y)) ≤ℤ y
  pub last : y <ℤ (rows.to +ℤ pos (reach_after nib.y))
