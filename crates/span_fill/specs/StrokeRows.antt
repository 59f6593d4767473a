-- Strips that are at a row, and strips that wait for their first one.
use Rattle.std.specs.Prelude.{◌≡◌, ℕ, ◌+◌, ◌<◌, ◌≤◌, ℤ, pos, ◌≤ℤ◌, ◌<ℤ◌, Bool, true, false, ◌||◌, List, ◌∷◌, drop, length}
use Rattle.std.specs.List.{All, list_any}
use Rattle.mapping.specs.declared.nib.Nib.{Nib}
use Rattle.span_fill.specs.Spans.{in_spans}
use Rattle.span_fill.specs.WideEdges.{HasRow, IsAtRow, ReachesRows}
use Rattle.span_fill.specs.WideStrokes.{on_wide_line}
use Rattle.span_fill.specs.declared.line.Line.{Line}
use Rattle.span_fill.specs.declared.span.Span.{Span}
use Rattle.span_fill.specs.declared.wide_edge.WideEdge.{WideEdge}

-- the nib covers the pixel along one of the strips' lines
abbrev pub wide_edges_have : Nib → List WideEdge → ℤ → ℕ → Bool
wide_edges_have nib wide_edges x y = list_any (λ edge. on_wide_line nib edge.line x (pos y)) wide_edges

-- the nib covers the pixel along one of the lines
abbrev pub lines_have : Nib → List Line → ℤ → ℕ → Bool
lines_have nib lines x y = list_any (λ line. on_wide_line nib line x (pos y)) lines

-- the rows of a range in which the nib covers something of a strip's line
pub record HasSeen (from to : ℤ) (nib : Nib) (edge : WideEdge) : Type 0 where
  pub reaches : (y : ℤ) → HasRow edge.seen y → ReachesRows nib edge.rows y
  pub all : (x y : ℤ) → from ≤ℤ y → y <ℤ to → on_wide_line nib edge.line x y ≡ true → HasRow edge.seen y
  pub within : edge.seen.to ≤ℤ to

-- from a row on, the new strips have the same pixels as the old ones
abbrev pub HaveSameFrom : Nib → ℕ → List WideEdge → List WideEdge → Type 0
HaveSameFrom nib row old new = (x : ℤ) (y : ℕ) → row ≤ y → y < 8192 → wide_edges_have nib new x y ≡ wide_edges_have nib old x y

-- from a row on, the new strips have the pixels of the old ones and what a nib covers along a line
abbrev pub HaveLineFrom : Nib → ℕ → Line → List WideEdge → List WideEdge → Type 0
HaveLineFrom nib row line old new =
    (x : ℤ) (y : ℕ) → row ≤ y → y < 8192 → wide_edges_have nib new x y ≡ (wide_edges_have nib old x y || on_wide_line nib line x (pos y))

-- in a row, the new spans have the columns of the old ones and what a nib covers along a line
abbrev pub HaveLineOfRow : Nib → ℕ → Line → List Span → List Span → Type 0
HaveLineOfRow nib row line old new = (x : ℕ) → x < 8192 → in_spans new x ≡ (in_spans old x || on_wide_line nib line (pos x) (pos row))

-- two lists of strips together have the same pixels as two others
abbrev pub HaveTogether : Nib → List WideEdge → List WideEdge → List WideEdge → List WideEdge → Type 0
HaveTogether nib old_first old_second first second =
    (x : ℤ) (y : ℕ) → (wide_edges_have nib first x y || wide_edges_have nib second x y) ≡ (wide_edges_have nib old_first x y || wide_edges_have nib old_second x y)

-- a strip has this row, and is at it
pub record IsActive (nib : Nib) (row to : ℤ) (edge : WideEdge) : Type 0 where
  pub seen : HasSeen row to nib edge
  pub at : IsAtRow nib row edge
  pub inside : HasRow edge.seen row

-- a strip had an earlier row, and is at this one if it has it
pub record IsPassed (nib : Nib) (row to : ℤ) (edge : WideEdge) : Type 0 where
  pub seen : HasSeen row to nib edge
  pub at : row <ℤ edge.seen.to → IsAtRow nib row edge
  pub begun : edge.seen.from ≤ℤ row

-- a strip has no row before this one, and is at its first row
pub record IsWaiting (nib : Nib) (row to : ℤ) (edge : WideEdge) : Type 0 where
  pub seen : HasSeen row to nib edge
  pub at : IsAtRow nib edge.seen.from edge
  pub begins : row ≤ℤ edge.seen.from
  pub some : edge.seen.from <ℤ edge.seen.to

-- a nib covers nothing of a line in the rows of a range
abbrev pub IsPast : Nib → ℤ → ℤ → Line → Type 0
IsPast nib from to line = (x y : ℤ) → from ≤ℤ y → y <ℤ to → on_wide_line nib line x y ≡ false

-- the strip is that of a line, in the rows of a range
pub record IsBegun (nib : Nib) (from to : ℤ) (line : Line) (edge : WideEdge) : Type 0 where
  pub line_is : edge.line ≡ line
  pub waiting : IsWaiting nib from to edge

-- this strip is the next, and begins at the row
pub record BeginsWideEdge (nib : Nib) (row to : ℤ) (wide_edges : List WideEdge) (next : ℕ) (edge : WideEdge) : Type 0 where
  pub within : next < length wide_edges
  pub first : drop next wide_edges ≡ edge ∷ drop (next + 1) wide_edges
  pub active : IsActive nib row to edge

-- a strip begins after the row
pub record IsAfter (nib : Nib) (row to : ℤ) (edge : WideEdge) : Type 0 where
  pub waiting : IsWaiting nib row to edge
  pub after : row <ℤ edge.seen.from

-- all of the strips begin after the row
abbrev pub AllAfter : Nib → ℤ → ℤ → List WideEdge → Type 0
AllAfter nib row to wide_edges = All (IsAfter nib row to) wide_edges
