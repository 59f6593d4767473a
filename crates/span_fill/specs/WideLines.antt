-- What a nib covers along one line, row by row.
use Rattle.std.specs.Prelude.{◌≡◌, ℕ, ◌≤◌, ◌↔◌, ℤ, pos, ◌+ℤ◌, ◌≤ℤ◌, ◌<ℤ◌, true, IsTrue, Option, Some, None}
use Rattle.mapping.specs.declared.nib.Nib.{Nib}
use Rattle.span_fill.specs.Clips.{IsIn}
use Rattle.span_fill.specs.WideStrokes.{on_wide_line}
use Rattle.span_fill.specs.declared.line.Line.{Line}
use Rattle.span_fill.specs.declared.span.Span.{Span}
use Rattle.span_fill.specs.declared.wide_line.WideRow.{WideRow}

-- the line, the nib, and the remaining rows: from `next` to before `end`
pub record WideLineState : Type 0 where
  pub line : Line
  pub nib : Nib
  pub next : ℤ
  pub end : ℤ

-- All rows of a range in which the nib covers something remain, and no rows outside the range.
pub record HasAllRows (from to : ℤ) (w : WideLineState) : Type 0 where
  pub first : from ≤ℤ w.next
  pub last : w.end ≤ℤ to
  pub all : (x y : ℤ) → from ≤ℤ y → y <ℤ to → on_wide_line w.nib w.line x y ≡ true → (w.next ≤ℤ y) × (y <ℤ w.end)

-- all columns of the largest surface
abbrev pub all_columns : Span
all_columns = record { from = 0; to = 8192 }

-- the next row is returned, with those among some columns that the nib covers there, and the rows behind it remain
pub record TakesRowAmong (columns : Span) (old new : WideLineState) (given : WideRow) : Type 0 where
  pub left : old.next <ℤ old.end
  pub row : given.y ≡ old.next
  pub exact : (x : ℕ) → IsIn columns x → IsIn given.columns x ↔ IsTrue (on_wide_line old.nib old.line (pos x) old.next)
  pub first : columns.from ≤ given.columns.from
  pub order : given.columns.from ≤ given.columns.to
  pub last : given.columns.to ≤ columns.to
  pub line : new.line ≡ old.line
  pub nib : new.nib ≡ old.nib
  pub next : new.next ≡ old.next +ℤ pos 1
  pub end : new.end ≡ old.end

-- the next row is returned with those among some columns, or nothing after the last one
abbrev pub GivesRowAmong : Span → WideLineState → Option WideRow → WideLineState → Type 0
GivesRowAmong columns old None new = (old.end ≤ℤ old.next) × (new ≡ old)
GivesRowAmong columns old (Some row) new = TakesRowAmong columns old new row
