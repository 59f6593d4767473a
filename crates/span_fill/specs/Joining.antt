-- Columns of several lines, joined to spans.
use Rattle.std.specs.Prelude.{ℕ, ◌≤◌, true, max, min, List, [], ◌∷◌, ◌++◌}
use Rattle.span_fill.specs.Sweep.{ended_spans, longer_run, run_spans}
use Rattle.span_fill.specs.declared.span.Span.{Span}

-- a column, limited to be after a run and within the rest of the interval
abbrev pub column_after : Span → ℕ → ℕ → ℕ
column_after run column end = max run.to (min column end)

-- the spans of these columns and of a run before them that hasn't ended
abbrev pub joined : ℕ → List Span → Span → List Span
joined end [] run = run_spans run
joined end (part ∷ parts) run =
    ended_spans true run (column_after run part.from end) (column_after run part.to end)
    ++ joined end parts (longer_run true run (column_after run part.from end) (column_after run part.to end))

-- none of the parts begins before this column
abbrev pub BeginFrom : ℕ → List Span → Type 0
BeginFrom column [] = Unit {0}
BeginFrom column (part ∷ parts) = (column ≤ part.from) × BeginFrom column parts

-- the parts are sorted by where they begin
abbrev pub AreInOrder : List Span → Type 0
AreInOrder [] = Unit {0}
AreInOrder (part ∷ parts) = BeginFrom part.from parts × AreInOrder parts
