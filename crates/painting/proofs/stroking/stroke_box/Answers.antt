use Rattle.std.proofs.Common.{◌≡◌, ◌&&◌, true, false, List, ap, sym, ◌∙◌}
use Rattle.std.proofs.lemmas.Bool.{and_parts, true≢false}
use Rattle.dc_stack.specs.Clip.{in_boxes}
use Rattle.dc_stack.specs.Values.{placed_value}
use Rattle.span_fill.specs.WideStrokes.{in_wide_stroke}
use Rattle.span_fill.specs.declared.line.Line.{Line}
use Rattle.painting.specs.PenStrokes.{stroke_paint}
use Rattle.preflight_cert.specs.Rectangles.{has_inside, rectangle_lines}
use Rattle.painting.proofs.RectangleLemmas.{no_stroke, stroke_within}
use Rattle.painting.proofs.RowLemmas.{nothing_painted}
use Rattle.painting.proofs.stroking.stroke_box.Goals as goal

pub returns-then-not-has_inside-clause-pixels : goal.returns-then-not-has_inside-clause-pixels
returns-then-not-has_inside-clause-pixels c =
    let clip = placed_value c.args.stroke.now.clip.now in
    let nib = c.args.stroke.now.nib in
    let shape = in_wide_stroke nib (rectangle_lines c.args.inside) in
    let none : has_inside c.args.inside ≡ false = sym c.if-not-has_inside.ensures in
    nothing_painted (stroke_paint c.args.stroke.now) shape c.writing_law.ensures c.args.canvas.now c.whole_law.ensures.whole
    (λ x y held h.
    let painted = and_parts (in_boxes clip x y && shape x y) true h in
    let there = and_parts (in_boxes clip x y) (shape x y) painted.0 in
    true≢false (sym there.1 ∙ no_stroke nib c.args.inside x y none))

pub stroke_lines-requires-clause-within : goal.stroke_lines-requires-clause-within
stroke_lines-requires-clause-within c = λ x y h.
    let some : has_inside c.args.inside ≡ true = sym c.if-not-has_inside.ensures in
    let nib = c.args.stroke.now.nib in
    let there = ap (λ (lines : List Line). in_wide_stroke nib lines x y) c.box_lines-around.ensures.lines in
    rw c.widened.ensures (stroke_within c.args.inside some c.wide_stroke_law.ensures nib x y (sym there ∙ h))

pub returns-clause-pixels : goal.returns-clause-pixels
returns-clause-pixels c = rw c.box_lines-around.ensures.lines at c.stroke_lines.ensures.pixels
