-- So far the columns are those of the strips before, which are one row on, and the others aren't yet.
use Rattle.std.proofs.Common.{◌≡◌, ℕ, ◌+◌, ◌<◌, pos, drop, map, take, vec_len, vec_capacity}
use Rattle.std.specs.List.{All}
use Rattle.span_fill.specs.Spans.{in_spans}
use Rattle.span_fill.specs.StrokeRows.{IsPassed, wide_edges_have}
use Rattle.span_fill.proofs.stroke_rows.draw_wide_edges.Given as goal

abbrev pub invariant-loop-edge : goal.invariant-loop-edge
invariant-loop-edge l = record {
  parts : (x : ℕ) → x < 8192 → in_spans l.parts.items x ≡ wide_edges_have l.nib (take l.edge-index l.fn.active) (pos x) l.row;
  passed : All (IsPassed l.nib (pos (l.row + 1)) (pos 8192)) (take l.edge-index l.active);
  others : drop l.edge-index l.active ≡ drop l.edge-index l.fn.active;
  lines : map (λ edge. edge.line) l.active ≡ map (λ edge. edge.line) l.fn.active;
  parts_length : vec_len l.parts ≡ l.edge-index;
  parts_capacity : vec_capacity l.parts ≡ vec_capacity l.initial.parts;
}
