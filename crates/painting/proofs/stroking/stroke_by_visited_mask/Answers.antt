use Rattle.std.proofs.Common.{◌&&◌, Bool, refl, ap, sym, ◌∙◌}
use Rattle.mapping.specs.Mixes.{mixed_by}
use Rattle.dc_stack.specs.Values.{placed_value}
use Rattle.span_fill.specs.Spans.{in_region}
use Rattle.span_fill.specs.Strokes.{in_stroke}
use Rattle.span_fill.specs.WideStrokes.{in_wide_stroke, one_pixel}
use Rattle.painting.specs.Painted.{paints}
use Rattle.painting.specs.PenStrokes.{stroke_paint}
use Rattle.painting.proofs.RowLemmas.{few_written}
use Rattle.painting.proofs.VisibleLemmas.{seen_uncut}
use Rattle.painting.proofs.stroking.stroke_by_visited_mask.Goals as goal

pub returns-clause-pixels : goal.returns-clause-pixels
returns-clause-pixels g c =
    let stroke = c.args.stroke.now in
    let lines = g.O.Outline.lines c.args.outline in
    let shape = in_wide_stroke one_pixel lines in
    let region = c.args.visited.now.region in
    c.writing_law.ensures.same (λ x y. in_region region x y && in_stroke lines x y) (paints (stroke_paint stroke) shape) (λ x y old. mixed_by stroke.mix old) (stroke_paint stroke).makes c.args.canvas.now c.visit_lines.new.canvas c.whole_law.ensures.whole
    (λ x y held. ap (λ (b : Bool). in_region region x y && b) (sym (c.wide_stroke_law.ensures.one lines x y)) ∙ seen_uncut (placed_value stroke.clip.now) stroke.mix shape c.args.canvas.now region c.requires.visible c.requires.uncut x y held)
    (λ x y old held t. refl)
    c.visit_lines.ensures

pub returns-clause-few : goal.returns-clause-few
returns-clause-few g c = few_written c.writing_law.ensures _ _ c.args.canvas.now c.visit_lines.new.canvas c.visit_lines.ensures c.whole_law.ensures.pixels
