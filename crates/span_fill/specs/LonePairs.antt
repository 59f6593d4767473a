-- Rows that only two edges cross.
use Rattle.std.specs.Prelude.{ℕ, Bool, false, ◌&&◌, nat_le, nat_lt, max, min, List, [], ◌∷◌}
use Rattle.span_fill.specs.Edges.{column_of}
use Rattle.span_fill.specs.Sweep.{is_over_after}
use Rattle.span_fill.specs.declared.edge.ActiveEdge.{ActiveEdge}
use Rattle.span_fill.specs.declared.fill_rule.FillRule.{FillRule}

-- there are two edges, and no pixel after both is inside
abbrev pub is_lone_pair : FillRule → List ActiveEdge → Bool
is_lone_pair rule [] = false
is_lone_pair rule (one ∷ []) = false
is_lone_pair rule (one ∷ other ∷ []) = is_over_after rule one other
is_lone_pair rule (one ∷ other ∷ next ∷ edges) = false

-- column x is between two edges, in any order
abbrev pub is_between : ActiveEdge → ActiveEdge → ℕ → Bool
is_between one other x = nat_le (min (column_of one) (column_of other)) x && nat_lt x (max (column_of one) (column_of other))
