-- What is covered, with what the lines to come cover, is what was and what all lines cover.
use Rattle.std.proofs.Common.{◌≡◌, ℕ, ◌+◌, ◌<◌, ◌||◌, IfSome, length}
use Rattle.span_fill.specs.BitRows.{HasSize}
use Rattle.span_fill.specs.MaskCovers.{IsSpanCovered, KnowsCovered, is_covered}
use Rattle.span_fill.specs.StrokeMasks.{height_of, width_of}
use Rattle.span_fill.specs.WideStrokes.{in_wide_stroke}
use Rattle.span_fill.proofs.mask_cover.cover_lines.Given as goal

abbrev pub invariant-loop-line : goal.invariant-loop-line
invariant-loop-line g l = record {
  covered : (x y : ℕ) → x < width_of l.fn.frame.region → y < height_of l.fn.frame.region
      → (is_covered l.fn.frame l.bits x y || in_wide_stroke l.fn.frame.nib (g.O.Outline.lines l.outline) (x + l.fn.frame.region.columns.from) (y + l.fn.frame.region.rows.from))
      ≡ (is_covered l.fn.frame l.initial.bits x y || in_wide_stroke l.fn.frame.nib (g.O.Outline.lines l.fn.outline) (x + l.fn.frame.region.columns.from) (y + l.fn.frame.region.rows.from));
  known : KnowsCovered l.fn.frame l.bits;
  columns : IfSome l.known (IsSpanCovered l.fn.frame l.bits);
  size : HasSize l.bits l.initial.bits.rows l.initial.bits.columns;
}

abbrev pub decreases-loop-line : goal.decreases-loop-line
decreases-loop-line g l = length (g.O.Outline.lines l.outline)
