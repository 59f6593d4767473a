-- What the region has is what the box has of it.
use Rattle.std.proofs.Common.{◌≡◌, Bool, true, false, ◌&&◌, refl, sym}
use Rattle.mapping.specs.PixelBoxes.{in_box}
use Rattle.span_fill.specs.Spans.{in_region}
use Rattle.painting.specs.FillStyles.{fill_style_paint}
use Rattle.painting.specs.Fills.{PutsShape}
use Rattle.painting.proofs.RowLemmas.{few_written}
use Rattle.painting.proofs.VisibleLemmas.{no_cuts, painted_uncut}
use Rattle.painting.proofs.filling.fill_box.Goals as goal

both : (part whole : Bool) → (part ≡ true → whole ≡ true) → part ≡ (part && whole)
both true whole within = sym (within refl)
both false whole within = refl

pub returns-in-Some-true-clause-pixels : goal.returns-in-Some-true-clause-pixels
returns-in-Some-true-clause-pixels c =
    let paint = c.args.paint.now in
    let shape = in_box c.args.inside in
    let drawn = c.visible_in-drawn in
    let colour = c.in-Some-true.colour in
    let put : PutsShape drawn.result shape colour c.args.canvas.now c.put_region.new.canvas =
    c.writing_law.ensures.same (in_region drawn.result) (λ x y. in_region drawn.result x y && shape x y) (λ x y old. colour) (λ x y old. colour) c.args.canvas.now c.put_region.new.canvas c.whole_law.ensures.whole
    (λ x y held. both (in_region drawn.result x y) (shape x y) (drawn.ensures.boxed x y))
    (λ x y old held t. refl)
    c.put_region.ensures.pixels in
    painted_uncut c.writing_law.ensures (fill_style_paint paint) colour shape c.args.canvas.now c.put_region.new.canvas drawn.result c.whole_law.ensures.whole drawn.ensures.visible
    (no_cuts paint.clip.now c.cut_boxes.result.now c.cut_boxes.ensures (sym c.in-Some-true.ensures'))
    c.in-Some-true.ensures
    put

pub returns-in-Some-true-clause-few : goal.returns-in-Some-true-clause-few
returns-in-Some-true-clause-few c = few_written c.writing_law.ensures _ _ c.args.canvas.now c.put_region.new.canvas c.put_region.ensures.pixels c.whole_law.ensures.pixels
