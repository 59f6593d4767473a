use Rattle.std.proofs.Common.{◌≡◌, rules, sym, subst}
use Rattle.mapping.specs.declared.nib.Nib.{Nib}
use Rattle.span_fill.specs.WideStrokes.{in_wide_stroke, one_pixel}
use Rattle.painting.specs.Painted.{PaintsShape}
use Rattle.painting.specs.PenStrokes.{stroke_paint}
use Rattle.painting.specs.Regions.{HoldShape}
use Rattle.painting.proofs.stroking.stroke_lines.Goals as goal

pub stroke_thin_lines-requires-clause-within : goal.stroke_thin_lines-requires-clause-within
stroke_thin_lines-requires-clause-within g c =
    let thin : c.args.stroke.now.nib ≡ one_pixel = search rules in
    subst (λ (nib : Nib). HoldShape c.args.lines.bounds (in_wide_stroke nib (g.O.Outline.lines c.args.lines.outline))) thin c.requires.within

pub returns-then-eq-clause-pixels : goal.returns-then-eq-clause-pixels
returns-then-eq-clause-pixels g c =
    let thin : c.args.stroke.now.nib ≡ one_pixel = search rules in
    subst (λ (nib : Nib). PaintsShape (stroke_paint c.args.stroke.now) (in_wide_stroke nib (g.O.Outline.lines c.args.lines.outline)) c.args.canvas.now c.stroke_thin_lines.new.canvas) (sym thin)
    c.stroke_thin_lines.ensures.pixels
