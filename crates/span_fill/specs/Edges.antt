-- Edges: lines as a fill sees them, and where they cross a row.
use Rattle.std.specs.Prelude.{ℕ, ◌+◌, ◌^◌, suc, ℤ, pos, negsuc, ◌+ℤ◌, ◌-ℤ◌, ◌*ℤ◌, ◌≤ℤ◌, ◌<ℤ◌, Bool, true, false, min, if◌then◌else◌, nat_le, nat_lt, int_le, int_lt, List, [], ◌∷◌, ◌++◌, map, filter}
use Rattle.mapping.specs.Floor.{floor_div}
use Rattle.mapping.specs.Limits.{IsWithin}
use Rattle.mapping.specs.declared.geometry.Point.{Point}
use Rattle.span_fill.specs.Fill.{across, crossing_dividend, crossing_divisor, down, has_row}
use Rattle.span_fill.specs.Lines.{IsNearPoint}
use Rattle.span_fill.specs.declared.edge.ActiveEdge.{ActiveEdge}
use Rattle.span_fill.specs.declared.edge.Edge.{Edge}
use Rattle.span_fill.specs.declared.line.Line.{Line}

-- a line as an edge with this number, if it isn't horizontal
abbrev pub edges_of_line : ℕ → Line → List Edge
edges_of_line number line =
    if int_lt line.from.y line.to.y then record { line = number; is_down = true; upper = line.from; lower = line.to } ∷ []
    else (if int_lt line.to.y line.from.y then record { line = number; is_down = false; upper = line.to; lower = line.from } ∷ [] else [])

-- the edges of some lines; the first line has this number
abbrev pub edges_from : ℕ → List Line → List Edge
edges_from number [] = []
edges_from number (line ∷ lines) = edges_of_line number line ++ edges_from (suc number) lines

-- an edge has its ends in order, both within the limits of lines
pub record IsEdge (edge : Edge) : Type 0 where
  pub upper : IsNearPoint edge.upper
  pub lower : IsNearPoint edge.lower
  pub order : edge.upper.y <ℤ edge.lower.y

-- the centre of row y lies between the edge's ends
abbrev pub crosses_row : ℕ → Edge → Bool
crosses_row y edge = has_row edge.upper edge.lower y

-- the row of a coordinate, or row 0 if it is negative
abbrev pub near_row : ℤ → ℕ
near_row (pos n) = n
near_row (negsuc n) = 0

-- the first row whose centre isn't above the edge
abbrev pub edge_first_row : Edge → ℕ
edge_first_row edge = near_row edge.upper.y

-- the edge begins after row y
abbrev pub begins_after : ℕ → Edge → Bool
begins_after y edge = nat_lt y (edge_first_row edge)

-- the edge begins at row y or above it
abbrev pub begins_by : ℕ → Edge → Bool
begins_by y edge = nat_le (edge_first_row edge) y

-- the edge ends after row y
abbrev pub ends_after : ℕ → Edge → Bool
ends_after y edge = nat_lt y (near_row edge.lower.y)

-- a number, limited to the range of columns
abbrev pub near_column : ℤ → ℕ
near_column (pos n) = min n 8192
near_column (negsuc n) = 0

-- The first column whose centre isn't to the left of a line's crossing is the floor of this number by
-- `crossing_divisor`.
abbrev pub column_dividend : Point → Point → ℕ → ℤ
column_dividend upper lower y = crossing_dividend upper lower y +ℤ down upper lower -ℤ pos 1

-- the remainder of a floor division
abbrev pub remainder_of : ℤ → ℤ → ℤ
remainder_of dividend divisor = dividend -ℤ floor_div dividend divisor *ℤ divisor

-- the active edge with this column
abbrev pub active_with : Edge → ℤ → ℤ → ActiveEdge
active_with edge column rest = record {
  bottom = near_row edge.lower.y;
  is_down = edge.is_down;
  column = column;
  rest = rest;
  divisor = crossing_divisor edge.upper edge.lower;
  step = floor_div (pos 2 *ℤ across edge.upper edge.lower) (crossing_divisor edge.upper edge.lower);
  more = remainder_of (pos 2 *ℤ across edge.upper edge.lower) (crossing_divisor edge.upper edge.lower);
}

-- the edge at its crossing with row y
abbrev pub active_at : ℕ → Edge → ActiveEdge
active_at y edge =
    active_with edge (floor_div (column_dividend edge.upper edge.lower y) (crossing_divisor edge.upper edge.lower)) (remainder_of (column_dividend edge.upper edge.lower y) (crossing_divisor edge.upper edge.lower))

-- those of the edges that cross row y, at their crossings
abbrev pub active_edges : ℕ → List Edge → List ActiveEdge
active_edges y edges = map (active_at y) (filter (crosses_row y) edges)

-- the edge's column, limited to the range of columns
abbrev pub column_of : ActiveEdge → ℕ
column_of edge = near_column edge.column

-- one more row takes the fraction past a whole column
abbrev pub is_over : ActiveEdge → Bool
is_over edge = int_le edge.divisor (edge.rest +ℤ edge.more)

-- the column in the next row
abbrev pub moved_column : ActiveEdge → ℤ
moved_column edge = edge.column +ℤ edge.step +ℤ (if is_over edge then pos 1 else pos 0)

-- the remainder of the fraction in the next row
abbrev pub moved_rest : ActiveEdge → ℤ
moved_rest edge = edge.rest +ℤ edge.more -ℤ (if is_over edge then edge.divisor else pos 0)

-- the edge in the next row
abbrev pub moved : ActiveEdge → ActiveEdge
moved edge = record edge { column = moved_column edge; rest = moved_rest edge }

-- the edge still crosses row y
abbrev pub goes_to : ℕ → ActiveEdge → Bool
goes_to y edge = nat_lt y edge.bottom

-- the edge's numbers form a fraction, and one more row causes no overflow
pub record EdgeCanMove (edge : ActiveEdge) : Type 0 where
  pub column : IsWithin (2 ^ 62 + 2 ^ 31) edge.column
  pub step : IsWithin (2 ^ 31) edge.step
  pub divisor : edge.divisor ≤ℤ pos (2 ^ 31)
  pub rest_low : pos 0 ≤ℤ edge.rest
  pub rest_high : edge.rest <ℤ edge.divisor
  pub more_low : pos 0 ≤ℤ edge.more
  pub more_high : edge.more <ℤ edge.divisor
