-- The rows of the region before the rest are mixed.
use Rattle.std.proofs.Common.{◌≡◌, ◌-◌, ◌≤◌}
use Rattle.painting.specs.WideSpans.{MixesUncutWide}
use Rattle.painting.proofs.MaskStrokeLemmas.{before}
use Rattle.painting.proofs.mask_stroking.mix_parts.Given as goal

abbrev pub invariant-loop-rest : goal.invariant-loop-rest
invariant-loop-rest g l = record {
  columns : l.rest.columns ≡ l.fn.drawn.columns;
  low : l.fn.drawn.rows.from ≤ l.rest.rows.from;
  high : l.rest.rows.from ≤ l.fn.drawn.rows.to;
  end : l.rest.rows.to ≡ l.fn.drawn.rows.to;
  mixed : MixesUncutWide (before l.fn.drawn l.rest.rows.from) l.fn.stroke (g.O.Outline.lines l.fn.outline) l.fn.canvas l.canvas;
}

abbrev pub decreases-loop-rest : goal.decreases-loop-rest
decreases-loop-rest g l = l.rest.rows.to - l.rest.rows.from
