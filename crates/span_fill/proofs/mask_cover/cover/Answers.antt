-- Marked, the rows of lines cover what the nib does, and widened they have it.
use Rattle.std.proofs.Common.{◌+◌, ◌||◌, ap, ◌∙◌, arith}
use Rattle.span_fill.specs.BitRows.{has_bit}
use Rattle.span_fill.specs.MaskFrames.{depth_of}
use Rattle.span_fill.specs.WideStrokes.{any_below, in_wide_stroke}
use Rattle.span_fill.proofs.AnyLemmas.{any_none}
use Rattle.span_fill.proofs.mask_cover.cover.Goals as goal

pub returns-clause-stroke : goal.returns-clause-stroke
returns-clause-stroke g c = λ x y wide high.
    let size = c.cover_lines.ensures.size in
    let f = c.requires.size.column_count in
    let e = size.column_count in
    let h = c.height-height.ensures.height in
    c.widen.ensures.rows x y (omega (arith, wide, e, f)) (omega (arith, high, h))
    ∙ ap (any_below (λ d. has_bit c.cover_lines.new.bits x (y + d))) c.depth.ensures
    ∙ c.cover_lines.ensures.lines x y wide high
    ∙ ap (λ b. b || in_wide_stroke c.args.frame.nib (g.O.Outline.lines c.args.outline.now) (x + c.args.frame.region.columns.from) (y + c.args.frame.region.rows.from))
    (any_none (λ d. has_bit c.args.bits.now x (y + d)) (depth_of c.args.frame) (λ d below. c.requires.clear x (y + d) wide (omega (arith, high, below))))
