-- The fields of a row buffer.
use Rattle.std.specs.Prelude.{◌≡◌, ℕ, ◌+◌, ◌-◌, ◌^◌, ◌<◌, ◌≤◌, ℤ, Bool, true, false, IsTrue, List, drop, length, filter, vec_capacity}
use Rattle.std.specs.List.{All}
use Rattle.std.specs.List.Sorted.{IsNonDecreasingBy, IsPermutation}
use Rattle.mapping.specs.declared.nib.Nib.{Nib}
use Rattle.span_fill.specs.ColumnTables.{AreTabled, HasTableCapacity}
use Rattle.span_fill.specs.CountedRows.{most_counts}
use Rattle.span_fill.specs.Edges.{IsEdge, active_edges, begins_after, column_of, edges_from, edge_first_row}
use Rattle.span_fill.specs.Events.{IsQuietAbove}
use Rattle.span_fill.specs.Lines.{HasNearEnds}
use Rattle.span_fill.specs.RowState.{IsFillingWork, IsStrokingWork, RowState, RowWork, filling, idle, stroking}
use Rattle.span_fill.specs.StrokeRows.{lines_have}
use Rattle.span_fill.specs.Stroking.{AreStrokes, HasStrokeCapacity, stroke_count, strokes_have}
use Rattle.span_fill.specs.declared.edge.ActiveEdge.{ActiveEdge}
use Rattle.span_fill.specs.declared.edge.Edge.{Edge}
use Rattle.span_fill.specs.declared.fill_rule.FillRule.{FillRule}
use Rattle.span_fill.specs.declared.line.Line.{Line}
use Rattle.span_fill.specs.declared.row_buf.RowBuf.TheInside.{Inside}
use Rattle.span_fill.specs.declared.row_buf.Work.{Work}
use Rattle.span_fill.specs.declared.strokes.Strokes.{Strokes}
use Rattle.span_fill.specs.declared.row_buf.Work.TheVariants.{Filling, Idle, Stroking}

-- the work, with its rule or nib
abbrev pub row_work : Work → FillRule → Nib → RowWork
row_work Idle rule nib = idle
row_work Filling rule nib = filling rule
row_work Stroking rule nib = stroking nib

-- what callers see of the fields
abbrev pub row_state : Inside → RowState
row_state a = record { lines = a.lines.items; work = row_work a.work a.rule a.strokes.nib; next = a.next; spans = a.spans.items; crossings = a.crossings.items; capacity = a.capacity }

-- there is memory for this number of lines
pub record HasCapacity (a : Inside) : Type 0 where
  pub limit : a.capacity ≤ 2 ^ 20
  pub lines : a.capacity ≤ vec_capacity a.lines
  pub edges : a.capacity ≤ vec_capacity a.edges
  pub active : a.capacity ≤ vec_capacity a.active
  pub crossings : a.capacity ≤ vec_capacity a.crossings
  pub counts : most_counts a.capacity ≤ vec_capacity a.counts
  pub table : HasTableCapacity a.capacity a.table
  pub spans : a.capacity + 2 ≤ a.spans.capacity
  pub strokes : HasStrokeCapacity a.capacity a.strokes

-- the edges of the lines: the active ones cross row y, and are sorted by their columns if `is_sorted`; the waiting ones
-- are sorted by their rows; and the rows above `event` have the same active edges
pub record IsFilling (lines : List Line) (y capacity : ℕ) (edges : List Edge) (begun : ℕ) (active : List ActiveEdge) (is_sorted : Bool) (event : ℕ) : Type 0 where
  pub row : y ≤ 8192
  pub are_edges : All IsEdge edges
  pub ordered : IsNonDecreasingBy edge_first_row edges
  pub within : begun ≤ length edges
  pub waits : IsPermutation (filter (begins_after y) (edges_from 0 lines)) (drop begun edges)
  pub crosses : IsPermutation (active_edges y (edges_from 0 lines)) active
  pub sorted : IsTrue is_sorted → IsNonDecreasingBy column_of active
  pub count : length active + (length edges - begun) ≤ capacity
  pub quiet : IsQuietAbove event active (drop begun edges)

-- the strips of the lines: those that have row y, and the waiting ones; their pixels are those of the lines in the
-- remaining rows
pub record IsStroking (lines : List Line) (y capacity : ℕ) (strokes : Strokes) : Type 0 where
  pub row : y ≤ 8192
  pub are : AreStrokes y strokes
  pub have : (x : ℤ) (n : ℕ) → y ≤ n → n < 8192 → strokes_have strokes x n ≡ lines_have strokes.nib lines x n
  pub count : stroke_count strokes ≤ capacity

-- unsorted edges that are so many that they are counted in each row, and no row is known to have the same edges
pub record AreCountedAlways (edges : List ActiveEdge) (is_sorted : Bool) (event : ℕ) : Type 0 where
  pub many : 8256 ≤ length edges
  pub unsorted : is_sorted ≡ false
  pub none : event ≡ 0

-- the buffer has memory for its lines, and its edges, its table or its strips are those of its work
pub record IsRowBuf (a : Inside) : Type 0 where
  pub capacity : HasCapacity a
  pub count : length a.lines.items ≤ a.capacity
  pub near : All HasNearEnds a.lines.items
  pub row : a.next ≤ 8192
  pub filling : IsFillingWork (row_work a.work a.rule a.strokes.nib) → a.table.is_used ≡ false → IsFilling a.lines.items a.next a.capacity a.edges.items a.begun a.active.items a.is_sorted a.event
  pub tabled : IsFillingWork (row_work a.work a.rule a.strokes.nib) → a.table.is_used ≡ true → AreTabled a.rule a.lines.items a.table
  pub counted : a.table.is_used ≡ true → AreCountedAlways a.active.items a.is_sorted a.event
  pub stroking : IsStrokingWork (row_work a.work a.rule a.strokes.nib) → IsStroking a.lines.items a.next a.capacity a.strokes
