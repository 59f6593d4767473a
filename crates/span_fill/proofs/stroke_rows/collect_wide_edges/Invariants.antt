-- So far the strips are those of the lines before.
use Rattle.std.proofs.Common.{◌≡◌, ℕ, ◌<◌, ◌≤◌, ℤ, pos, take, vec_len, vec_capacity}
use Rattle.std.specs.List.{All}
use Rattle.span_fill.specs.StrokeRows.{IsWaiting, lines_have, wide_edges_have}
use Rattle.span_fill.proofs.stroke_rows.collect_wide_edges.Given as goal

abbrev pub invariant-loop-line : goal.invariant-loop-line
invariant-loop-line l = record {
  waiting : All (IsWaiting l.nib (pos l.row) (pos 8192)) l.wide_edges.items;
  have : (x : ℤ) (y : ℕ) → l.row ≤ y → y < 8192 → wide_edges_have l.nib l.wide_edges.items x y ≡ lines_have l.nib (take l.line-index l.lines) x y;
  length : vec_len l.wide_edges ≤ l.line-index;
  capacity : vec_capacity l.wide_edges ≡ vec_capacity l.initial.wide_edges;
}
