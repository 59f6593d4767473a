-- The rows in which a line lies to the left of a column's pixels.
use Rattle.std.specs.Prelude.{◌≡◌, ℕ, ◌+◌, ◌*◌, ◌<◌, ℤ, pos, ◌-ℤ◌, ◌*ℤ◌, ◌&&◌, nat_lt, int_le, int_lt}
use Rattle.mapping.specs.declared.geometry.Point.{Point}
use Rattle.span_fill.specs.Fill.{down, has_row, is_crossed}
use Rattle.span_fill.specs.Spans.{in_span}
use Rattle.span_fill.specs.declared.span.Span.{Span}

-- the rows where the line crosses at or to the left of the centre of column x are exactly these
abbrev pub HasCrossedRows : Point → Point → ℕ → Span → Type 0
HasCrossedRows upper lower x rows = (y : ℕ) → y < 8192 → in_span rows y ≡ is_crossed upper lower x y

-- these are the line's rows up to the one this far below its upper end
abbrev pub HasRowsTo : Point → Point → ℤ → Span → Type 0
HasRowsTo upper lower last rows = (y : ℕ) → y < 8192 → in_span rows y ≡ (has_row upper lower y && int_le (pos y -ℤ upper.y) last)

-- these are the line's rows after the one this far below its upper end
abbrev pub HasRowsAfter : Point → Point → ℤ → Span → Type 0
HasRowsAfter upper lower last rows = (y : ℕ) → y < 8192 → in_span rows y ≡ (has_row upper lower y && int_lt last (pos y -ℤ upper.y))

-- these are the rows of the surface from one number to before another
abbrev pub HasRowsFrom : ℤ → ℤ → Span → Type 0
HasRowsFrom from to rows = (y : ℕ) → y < 8192 → in_span rows y ≡ (int_le from (pos y) && int_lt (pos y) to)

-- the rows of the surface above a number are those above this row
abbrev pub IsRowOf : ℤ → ℕ → Type 0
IsRowOf number row = (y : ℕ) → y < 8192 → nat_lt y row ≡ int_lt (pos y) number

-- the multiple of a number is at most the dividend exactly for this number and smaller ones
abbrev pub IsLastMultiple : ℤ → ℤ → ℤ → Type 0
IsLastMultiple dividend divisor last = (k : ℤ) → int_le k last ≡ int_le (k *ℤ divisor) dividend

-- the distance of the centre of column x to the right of the upper end, in half columns, times the line's height
abbrev pub reach_of : Point → Point → ℕ → ℤ
reach_of upper lower x = (pos (2 * x + 1) -ℤ pos 2 *ℤ upper.x) *ℤ down upper lower
