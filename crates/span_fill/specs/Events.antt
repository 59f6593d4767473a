-- The rows in which edges end or begin.
use Rattle.std.specs.Prelude.{ℕ, ◌≤◌, min, List, [], ◌∷◌}
use Rattle.std.specs.List.{All}
use Rattle.span_fill.specs.Edges.{edge_first_row}
use Rattle.span_fill.specs.declared.edge.ActiveEdge.{ActiveEdge}
use Rattle.span_fill.specs.declared.edge.Edge.{Edge}

-- the row in which the first of the edges begins, or one below all rows if there is none
abbrev pub first_begin : List Edge → ℕ
first_begin [] = 8193
first_begin (edge ∷ edges) = edge_first_row edge

-- the first row in which one of the edges has ended, or this one if it is above that
abbrev pub first_end : ℕ → List ActiveEdge → ℕ
first_end row [] = row
first_end row (edge ∷ edges) = first_end (min row edge.bottom) edges

-- in the rows above this one, none of the active edges ends and none of the waiting ones begins
pub record IsQuietAbove (event : ℕ) (active : List ActiveEdge) (waiting : List Edge) : Type 0 where
  pub stay : All (λ edge. event ≤ edge.bottom) active
  pub wait : All (λ edge. event ≤ edge_first_row edge) waiting
