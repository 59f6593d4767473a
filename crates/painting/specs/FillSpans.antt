-- The remaining spans of a fill.
use Rattle.std.specs.Prelude.{◌≡◌, ℕ, suc, ◌+◌, ◌-◌, ◌*◌, Bool, ◌&&◌, ◌||◌, ◌==◌, nat_le, nat_lt, drop, length}
use Rattle.span_fill.specs.RowState.{RowState}
use Rattle.span_fill.specs.Spans.{in_span, in_spans}
use Rattle.span_fill.specs.declared.span.Span.{Span}
use Rattle.painting.specs.Fills.{is_filled}
use Rattle.painting.specs.declared.fill_spans.FillSpans.{FillSpans}

-- the pixel lies in a span of the latest row that wasn't returned
abbrev pub in_latest : RowState → ℕ → ℕ → ℕ → Bool
in_latest rows returned x y = suc y == rows.next && in_spans (drop returned rows.spans) x

-- the pixel lies in a later row, before `end`, and is inside
abbrev pub in_later : RowState → Span → ℕ → ℕ → ℕ → Bool
in_later rows columns end x y = (nat_le rows.next y && nat_lt y end) && (in_span columns x && is_filled rows.work rows.lines x y)

-- the pixel remains
abbrev pub remains : RowState → Span → ℕ → ℕ → ℕ → ℕ → Bool
remains rows columns end returned x y = in_latest rows returned x y || in_later rows columns end x y

abbrev pub is_to_come : FillSpans → ℕ → ℕ → Bool
is_to_come fill = remains fill.rows.now fill.columns fill.end fill.returned

-- a bound on the number of remaining spans, if each row of a surface has at most 8,192
abbrev pub spans_left : RowState → ℕ → ℕ → ℕ
spans_left rows end returned = 8193 * (end - rows.next) + (length rows.spans - returned)

abbrev pub steps_left : FillSpans → ℕ
steps_left fill = spans_left fill.rows.now fill.end fill.returned

-- the row buffer is the same, with the same lines and capacity
pub record EndsFill (start end : FillSpans) : Type 0 where
  pub same : end.rows.ghost_name ≡ start.rows.ghost_name
  pub lines : end.rows.now.lines ≡ start.rows.now.lines
  pub capacity : end.rows.now.capacity ≡ start.rows.now.capacity
