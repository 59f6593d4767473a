-- Edges that begin, sorted by their first rows.
use Rattle.std.specs.Prelude.{◌≡◌, ℕ, ◌+◌, ◌<◌, true, false, List, [], ◌∷◌, drop, length, filter, map}
use Rattle.span_fill.specs.Edges.{IsEdge, active_at, begins_after, begins_by}
use Rattle.span_fill.specs.declared.edge.ActiveEdge.{ActiveEdge}
use Rattle.span_fill.specs.declared.edge.Edge.{Edge}

-- this edge is the next, and begins at row y or above it
pub record BeginsEdge (y : ℕ) (edges : List Edge) (next : ℕ) (edge : Edge) : Type 0 where
  pub within : next < length edges
  pub first : drop next edges ≡ edge ∷ drop (next + 1) edges
  pub begins : begins_by y edge ≡ true
  pub waits : begins_after y edge ≡ false
  pub is_edge : IsEdge edge

-- the edges that begin at row y or above it, at their crossings with it
abbrev pub beginning_edges : ℕ → List Edge → List ActiveEdge
beginning_edges y edges = map (active_at y) (filter (begins_by y) edges)

-- all of the edges begin after row y
pub record NoneBegins (y : ℕ) (edges : List Edge) : Type 0 where
  pub none : filter (begins_by y) edges ≡ []
  pub others : filter (begins_after y) edges ≡ edges
