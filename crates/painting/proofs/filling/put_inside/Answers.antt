-- What the spans have is what is inside in the region.
use Rattle.std.proofs.Common.{◌&&◌, refl}
use Rattle.span_fill.specs.Spans.{in_region}
use Rattle.painting.specs.FillSpans.{remains}
use Rattle.painting.specs.Fills.{is_filled}
use Rattle.painting.proofs.FillSpanLemmas.{all_remain}
use Rattle.painting.proofs.filling.put_inside.Goals as goal

pub returns-clause-pixels : goal.returns-clause-pixels
returns-clause-pixels c =
    let rows = c.args.rows.now in
    let drawn = c.args.drawn in
    c.writing_law.ensures.same (remains rows drawn.columns drawn.rows.to 0) (λ x y. in_region drawn x y && is_filled rows.work rows.lines x y) (λ x y old. c.args.colour) (λ x y old. c.args.colour) c.args.canvas.now c.put_each_span.new.self c.whole_law.ensures.whole
    (λ x y held. all_remain rows drawn c.requires.begun c.requires.next x y)
    (λ x y old held t. refl)
    c.put_each_span.ensures.pixels
