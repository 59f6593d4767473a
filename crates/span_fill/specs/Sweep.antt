-- The spans of a row, from the edges that cross it, sorted by the columns where they do.
use Rattle.std.specs.Prelude.{ℕ, ◌+◌, ◌≤◌, Bool, true, false, ◌&&◌, ◌==◌, not, nat_le, nat_lt, max, min, if◌then◌else◌, List, [], ◌∷◌, ◌++◌}
use Rattle.span_fill.specs.Edges.{column_of}
use Rattle.span_fill.specs.Fill.{is_inside}
use Rattle.span_fill.specs.declared.edge.ActiveEdge.{ActiveEdge}
use Rattle.span_fill.specs.declared.fill_rule.FillRule.{FillRule}
use Rattle.span_fill.specs.declared.fill_rule.FillRule.TheVariants.{EvenOdd, NonZero}
use Rattle.span_fill.specs.declared.span.Span.{Span}

-- how many of the edges that run downwards cross the row at column x or before
abbrev pub downwards_at : List ActiveEdge → ℕ → ℕ
downwards_at [] x = 0
downwards_at (edge ∷ edges) x = (if edge.is_down && nat_le (column_of edge) x then 1 else 0) + downwards_at edges x

-- how many of the edges that run upwards cross the row at column x or before
abbrev pub upwards_at : List ActiveEdge → ℕ → ℕ
upwards_at [] x = 0
upwards_at (edge ∷ edges) x = (if not edge.is_down && nat_le (column_of edge) x then 1 else 0) + upwards_at edges x

-- column x of the row is inside
abbrev pub is_inside_of : FillRule → List ActiveEdge → ℕ → Bool
is_inside_of rule edges x = is_inside rule (downwards_at edges x) (upwards_at edges x)

-- no edge crosses before this column
abbrev pub CrossFrom : ℕ → List ActiveEdge → Type 0
CrossFrom column [] = Unit
CrossFrom column (edge ∷ edges) = (column ≤ column_of edge) × CrossFrom column edges

-- the edges are sorted by their columns
abbrev pub AreSorted : List ActiveEdge → Type 0
AreSorted [] = Unit
AreSorted (edge ∷ edges) = CrossFrom (column_of edge) edges × AreSorted edges

-- if only two edges cross the row, no pixel after both is inside
abbrev pub is_over_after : FillRule → ActiveEdge → ActiveEdge → Bool
is_over_after EvenOdd left right = true
is_over_after NonZero left right = if left.is_down then not right.is_down else right.is_down

-- there are at least two edges, and no pixel after the first two is inside
abbrev pub has_pair : FillRule → List ActiveEdge → Bool
has_pair rule [] = false
has_pair rule (left ∷ []) = false
has_pair rule (left ∷ right ∷ edges) = is_over_after rule left right

-- an empty run at a column
abbrev pub run_at : ℕ → Span
run_at column = record { from = column; to = column }

-- the run as a list, empty if it has no column
abbrev pub run_spans : Span → List Span
run_spans run = if nat_lt run.from run.to then run ∷ [] else []

-- the columns are inside, and there are some
abbrev pub is_part : Bool → ℕ → ℕ → Bool
is_part inside from to = inside && nat_lt from to

-- the run, with the columns if they are inside: extended, or a new one
abbrev pub longer_run : Bool → Span → ℕ → ℕ → Span
longer_run inside run from to =
    if is_part inside from to then record { from = if run.to == from then run.from else from; to = to } else run

-- the spans that these columns end: the run, if they begin another
abbrev pub ended_spans : Bool → Span → ℕ → ℕ → List Span
ended_spans inside run from to = if is_part inside from to && not (run.to == from) then run_spans run else []

-- the spans from column `at` on, after this many edges, with a run that hasn't ended
abbrev pub swept : FillRule → ℕ → List ActiveEdge → ℕ → ℕ → ℕ → Span → List Span
swept rule end [] at downs ups run =
    ended_spans (is_inside rule downs ups) run at end ++ run_spans (longer_run (is_inside rule downs ups) run at end)
swept rule end (edge ∷ edges) at downs ups run =
    ended_spans (is_inside rule downs ups) run at (max at (min (column_of edge) end))
    ++ swept rule end edges (max at (min (column_of edge) end)) (downs + (if edge.is_down then 1 else 0)) (ups + (if not edge.is_down then 1 else 0)) (longer_run (is_inside rule downs ups) run at (max at (min (column_of edge) end)))

-- the spans of a row within an interval
abbrev pub swept_within : FillRule → List ActiveEdge → Span → List Span
swept_within rule edges interval = swept rule interval.to edges interval.from 0 0 (run_at interval.from)
