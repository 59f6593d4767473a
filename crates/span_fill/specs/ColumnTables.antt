-- Tables of the pixels of a few columns that are inside, column by column.
use Rattle.std.specs.Prelude.{◌≡◌, ℕ, suc, ◌+◌, ◌-◌, ◌*◌, ◌^◌, ◌<◌, ◌≤◌, ℤ, pos, ◌-ℤ◌, Bool, false, List, length, slice_index_or, take, vec_capacity}
use Rattle.mapping.specs.Limits.{IsWithin}
use Rattle.span_fill.specs.Fill.{in_fill, is_inside}
use Rattle.span_fill.specs.Windings.{total}
use Rattle.span_fill.specs.declared.column_table.ColumnTable.{ColumnTable}
use Rattle.span_fill.specs.declared.fill_rule.FillRule.{FillRule}
use Rattle.span_fill.specs.declared.line.Line.{Line}
use Rattle.span_fill.specs.declared.span.Span.{Span}

-- the flag of the pixel (x, y) in a table that begins with this column
abbrev pub flag_at : List Bool → ℕ → ℕ → ℕ → Bool
flag_at flags first x y = slice_index_or flags ((x - first) * 8192 + y) false

-- the flags of these columns say which pixels are inside
abbrev pub AreFlags : FillRule → List Line → Span → List Bool → Type 0
AreFlags rule lines columns flags =
    (x y : ℕ) → columns.from ≤ x → x < columns.to → y < 8192 → flag_at flags columns.from x y ≡ in_fill rule lines x y

-- the result is that for each pixel with such a winding
abbrev pub AnswersWinding : FillRule → ℤ → Bool → Type 0
AnswersWinding rule sum answer = (downs ups : ℕ) → sum ≡ pos downs -ℤ pos ups → answer ≡ is_inside rule downs ups

-- none of the sums of changes is large
abbrev pub AreSmallSums : List ℤ → Type 0
AreSmallSums changes = (n : ℕ) → n ≤ 8192 → IsWithin (2 ^ 20) (total (take n changes))

-- the new flags, after the old ones, are those for the sums of the changes
pub record AddsColumn (rule : FillRule) (changes : List ℤ) (old new : List Bool) : Type 0 where
  pub kept : (k : ℕ) → k < length old → slice_index_or new k false ≡ slice_index_or old k false
  pub added : (y : ℕ) → y < 8192 → AnswersWinding rule (total (take (suc y) changes)) (slice_index_or new (length old + y) false)
  pub length : length new ≡ length old + 8192

-- the table has the inside of these lines
pub record AreTabled (rule : FillRule) (lines : List Line) (table : ColumnTable) : Type 0 where
  pub many : 4096 ≤ length lines
  pub order : table.columns.from ≤ table.columns.to
  pub few : table.columns.to ≤ table.columns.from + 256
  pub end : table.columns.to ≤ 8192
  pub length : length table.flags.items ≡ (table.columns.to - table.columns.from) * 8192
  pub flags : AreFlags rule lines table.columns table.flags.items

-- there is memory for a table, if it can be used for this many lines
pub record HasTableCapacity (lines : ℕ) (table : ColumnTable) : Type 0 where
  pub changes : 4096 ≤ lines → 8193 ≤ vec_capacity table.changes
  pub flags : 4096 ≤ lines → 2 ^ 21 ≤ vec_capacity table.flags

-- the memory is enough for the same number of lines
abbrev pub HasSameTableCapacity : ColumnTable → ColumnTable → Type 0
HasSameTableCapacity old new = (lines : ℕ) → HasTableCapacity lines old → HasTableCapacity lines new

-- the columns of the interval are among the table's
pub record HasColumns (table : ColumnTable) (interval : Span) : Type 0 where
  pub first : table.columns.from ≤ interval.from
  pub last : interval.to ≤ table.columns.to

-- a table can be made for the columns of the interval
pub record CanBeTabled (lines : ℕ) (interval : Span) : Type 0 where
  pub many : 4096 ≤ lines
  pub order : interval.from ≤ interval.to
  pub few : interval.to ≤ interval.from + 256
