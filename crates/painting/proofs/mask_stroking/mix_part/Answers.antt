-- The remaining spans of the mask are what the region has of the stroke, without what the boxes cut out.
use Rattle.std.proofs.Common.{◌≡◌, ◌&&◌, Bool, List, true, refl, ap, subst, ◌∙◌}
use Rattle.std.proofs.Math.Bool.{and_assoc}
use Rattle.std.proofs.lemmas.Bool.{and_parts}
use Rattle.mapping.specs.Mixes.{mixed_by}
use Rattle.dc_stack.specs.declared.clip.ClipBox.{ClipBox}
use Rattle.span_fill.specs.Spans.{in_region}
use Rattle.span_fill.specs.StrokeMasks.{comes_from, is_marked, to_come}
use Rattle.span_fill.specs.WideStrokes.{in_wide_stroke}
use Rattle.span_fill.specs.declared.span.Region.{Region}
use Rattle.painting.specs.Strips.{is_uncut, placed_boxes}
use Rattle.painting.specs.WideSpans.{is_uncut_wide}
use Rattle.painting.proofs.VisibleLemmas.{region_pixel}
use Rattle.painting.proofs.mask_stroking.mix_part.Goals as goal

pub mix_each_span-requires-clause-held : goal.mix_each_span-requires-clause-held
mix_each_span-requires-clause-held g c = λ x y h.
    let left = c.cut_boxes.new.mask in
    let inside = (and_parts (in_region left.region x y) (comes_from left.row left.column x y && is_marked left.bits left.region x y) h).0 in
    region_pixel c.args.canvas.now c.args.part c.requires.held x y (subst (λ (r : Region). in_region r x y ≡ true) c.cut_boxes.ensures.region inside)

pub returns : goal.returns
returns g c =
    let stroke = c.args.stroke.now in
    let lines = g.O.Outline.lines c.args.outline in
    c.writing_law.ensures.same (to_come c.cut_boxes.new.mask) (is_uncut_wide c.args.part stroke lines) (λ x y old. mixed_by stroke.mix old) (λ x y old. mixed_by stroke.mix old) c.args.canvas.now c.mix_each_span.new.self c.whole_law.ensures.whole
    (λ x y pixel.
    c.cut_boxes.ensures.rest x y
    ∙ ap (λ (b : Bool). b && is_uncut (placed_boxes c.cut_boxes-cuts.result.now) x y) (c.begin.ensures.stroke x y)
    ∙ and_assoc (in_region c.args.part x y) (in_wide_stroke stroke.nib lines x y) (is_uncut (placed_boxes c.cut_boxes-cuts.result.now) x y)
    ∙ ap (λ (boxes : List ClipBox). in_region c.args.part x y && (in_wide_stroke stroke.nib lines x y && is_uncut (placed_boxes boxes) x y)) c.cut_boxes-cuts.ensures)
    (λ x y old pixel t. refl)
    c.mix_each_span.ensures.pixels
