-- A row buffer as callers see it.
use Rattle.std.specs.Prelude.{◌≡◌, ℕ, ◌+◌, ◌&&◌, List, [], Option, Some, None}
use Rattle.std.specs.List.Sorted.{IsPermutation}
use Rattle.span_fill.specs.Crossings.{crossings_of}
use Rattle.span_fill.specs.Fill.{in_fill}
use Rattle.span_fill.specs.Spans.{AreRow, in_span}
use Rattle.span_fill.specs.WideStrokes.{in_wide_stroke}
use Rattle.mapping.specs.declared.nib.Nib.{Nib}
use Rattle.span_fill.specs.declared.crossing.Crossing.{Crossing}
use Rattle.span_fill.specs.declared.fill_rule.FillRule.{FillRule}
use Rattle.span_fill.specs.declared.line.Line.{Line}
use Rattle.span_fill.specs.declared.span.Span.{Span}

-- the work of a row buffer: nothing, the inside of its lines, or the lines themselves
pub data RowWork : Type 0 where
  idle : RowWork
  filling : FillRule → RowWork
  stroking : Nib → RowWork

-- the lines, the work, the next row, the spans of the row before, the crossings that were found last, and the number of
-- lines for which there is memory
pub record RowState : Type 0 where
  pub lines : List Line
  pub work : RowWork
  pub next : ℕ
  pub spans : List Span
  pub crossings : List Crossing
  pub capacity : ℕ

-- the work is the inside of the lines
abbrev pub IsFillingWork : RowWork → Type 0
IsFillingWork idle = ⊥
IsFillingWork (filling rule) = Unit {0}
IsFillingWork (stroking nib) = ⊥

-- the work is the lines themselves
abbrev pub IsStrokingWork : RowWork → Type 0
IsStrokingWork idle = ⊥
IsStrokingWork (filling rule) = ⊥
IsStrokingWork (stroking nib) = Unit {0}

-- the spans are those of the row within the interval
abbrev pub FillsRow : RowWork → List Line → ℕ → Span → List Span → Type 0
FillsRow idle lines y interval spans = ⊥
FillsRow (filling rule) lines y interval spans = AreRow (λ x. in_fill rule lines x y) interval spans
FillsRow (stroking nib) lines y interval spans = AreRow (λ x. in_wide_stroke nib lines x y) interval spans

-- the span is what is inside of the row within the interval
abbrev pub FillsLoneSpan : RowWork → List Line → ℕ → Span → Span → Type 0
FillsLoneSpan idle lines y interval span = ⊥
FillsLoneSpan (filling rule) lines y interval span = (x : ℕ) → in_span span x ≡ (in_span interval x && in_fill rule lines x y)
FillsLoneSpan (stroking nib) lines y interval span = ⊥

-- the buffer continues its work
pub record SameWork (old new : RowState) : Type 0 where
  pub lines : new.lines ≡ old.lines
  pub work : new.work ≡ old.work
  pub capacity : new.capacity ≡ old.capacity

-- the span is all of the next row, and the buffer advances to the row after it
pub record GivesLone (old : RowState) (interval span : Span) (new : RowState) : Type 0 where
  pub filled : FillsLoneSpan old.work old.lines old.next interval span
  pub next : new.next ≡ old.next + 1
  pub spans : new.spans ≡ old.spans
  pub same : SameWork old new

-- the only span of the next row, or nothing, and then nothing changes
abbrev pub GivesLoneSpan : RowState → Span → Option Span → RowState → Type 0
GivesLoneSpan old interval None new = new ≡ old
GivesLoneSpan old interval (Some span) new = GivesLone old interval span new

-- the crossings of the next row were found, each once and in no particular order, and nothing else differs
pub record HasFoundCrossings (old new : RowState) : Type 0 where
  pub crossings : IsPermutation new.crossings (crossings_of old.lines old.next)
  pub lines : new.lines ≡ old.lines
  pub work : new.work ≡ old.work
  pub next : new.next ≡ old.next
  pub spans : new.spans ≡ old.spans
  pub capacity : new.capacity ≡ old.capacity

-- nothing differs except the capacity
pub record DiffersInCapacity (old new : RowState) : Type 0 where
  pub lines : new.lines ≡ old.lines
  pub work : new.work ≡ old.work
  pub next : new.next ≡ old.next
  pub spans : new.spans ≡ old.spans

-- the fill of these lines begins at row y
pub record BeginsFill (rule : FillRule) (given : List Line) (y size : ℕ) (new : RowState) : Type 0 where
  pub lines : new.lines ≡ given
  pub work : new.work ≡ filling rule
  pub next : new.next ≡ y
  pub spans : new.spans ≡ []
  pub capacity : new.capacity ≡ size

-- the stroke of these lines begins at row y
pub record BeginsStroke (nib : Nib) (given : List Line) (y size : ℕ) (new : RowState) : Type 0 where
  pub lines : new.lines ≡ given
  pub work : new.work ≡ stroking nib
  pub next : new.next ≡ y
  pub spans : new.spans ≡ []
  pub capacity : new.capacity ≡ size

-- the buffer has these lines, and no work
pub record KeepsLines (given : List Line) (size : ℕ) (new : RowState) : Type 0 where
  pub lines : new.lines ≡ given
  pub work : new.work ≡ idle
  pub spans : new.spans ≡ []
  pub capacity : new.capacity ≡ size
