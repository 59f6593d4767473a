use Rattle.std.proofs.Common.{sym, ◌∙◌}
use Rattle.std.proofs.lemmas.Bool.{and_parts}
use Rattle.dc_stack.specs.Values.{placed_value}
use Rattle.painting.specs.LinePixels.{is_to_step}
use Rattle.painting.proofs.LinePixelLemmas.{to_step_inside}
use Rattle.painting.proofs.LineStepLemmas.{stepped, stepped_clipped}
use Rattle.painting.proofs.VisibleLemmas.{no_cuts, region_pixel}
use Rattle.painting.proofs.line_steps.step_line.Goals as goal

pub mix_each-requires-clause-held : goal.mix_each-requires-clause-held
mix_each-requires-clause-held c = λ x y h.
    region_pixel c.args.canvas.now c.visible.result c.visible.ensures.held x y (rw c.numbered-steps.ensures.region at (to_step_inside c.numbered-steps.result x y h))

pub returns-then-is_empty : goal.returns-then-is_empty
returns-then-is_empty c =
    stepped c.writing_law.ensures (placed_value c.args.stroke.now.clip.now) c.args.stroke.now.mix c.args.line c.numbered-steps.result c.visible.result c.args.canvas.now c.mix_each.new.self c.whole_law.ensures.whole c.visible.ensures.held c.visible.ensures.kept c.numbered-steps.ensures.line c.numbered-steps.ensures.region c.numbered-steps.ensures.all
    (no_cuts c.args.stroke.now.clip.now c.cut_boxes.result.now c.cut_boxes.ensures (sym c.is_empty.ensures ∙ c.if-is_empty.true))
    c.mix_each.ensures.pixels

pub mix_uncut-requires-clause-held : goal.mix_uncut-requires-clause-held
mix_uncut-requires-clause-held c = λ x y h.
    let there = (and_parts (is_to_step c.numbered-steps.result x y) _ h).0 in
    region_pixel c.args.canvas.now c.visible.result c.visible.ensures.held x y (rw c.numbered-steps.ensures.region at (to_step_inside c.numbered-steps.result x y there))

pub returns : goal.returns
returns c =
    stepped_clipped c.writing_law.ensures (placed_value c.args.stroke.now.clip.now) c.args.stroke.now.mix c.args.line c.numbered-steps.result c.visible.result c.args.canvas.now c.mix_uncut.new.canvas c.whole_law.ensures.whole c.visible.ensures.held c.visible.ensures.kept c.numbered-steps.ensures.line c.numbered-steps.ensures.region c.numbered-steps.ensures.all
    c.mix_uncut.ensures
