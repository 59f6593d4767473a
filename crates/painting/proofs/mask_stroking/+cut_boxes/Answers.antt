-- The first box is cut out, and then the others are.
use Rattle.std.proofs.Common.{◌≡◌, ◌∷◌, ◌&&◌, Bool, ap, subst, sym, ◌∙◌}
use Rattle.std.specs.List.{list_any}
use Rattle.mapping.specs.PixelBoxes.{in_box, is_from_to}
use Rattle.span_fill.specs.Spans.{in_span}
use Rattle.span_fill.specs.StrokeMasks.{to_come}
use Rattle.span_fill.specs.declared.span.Region.{Region}
use Rattle.painting.specs.Strips.{is_uncut, placed_boxes}
use Rattle.painting.proofs.MaskStrokeLemmas.{cut_one, cut_rest}
use Rattle.painting.proofs.mask_stroking.+cut_boxes.Goals as goal

pub returns-clause-rest : goal.returns-clause-rest
returns-clause-rest t c = λ x y.
    let cut : c.args.cuts.now ≡ c.in-Some.first.now ∷ c.in-Some.rest.now = c.in-Some.ensures.cases.0 in
    let box = c.in-Some.first.now.placed in
    let hidden = c.common-hidden.result in
    let columns = subst (λ (r : Region). in_span hidden.columns x ≡ (in_span r.columns x && is_from_to box.l box.r x)) (sym c.requires.region) (c.common-hidden.ensures.has_columns x) in
    let rows = subst (λ (r : Region). in_span hidden.rows y ≡ (in_span r.rows y && is_from_to box.t box.b y)) (sym c.requires.region) (c.common-hidden.ensures.has_rows y) in
    rw cut
    (c.cut_boxes.ensures.rest x y
    ∙ ap (λ (b : Bool). b && is_uncut (placed_boxes c.in-Some.rest.now) x y) (c.cut.ensures.rest x y ∙ cut_one c.args.mask.now hidden box x y columns rows)
    ∙ cut_rest (to_come c.args.mask.now x y) (in_box box x y) (list_any (λ b. in_box b x y) (placed_boxes c.in-Some.rest.now)))
