use Rattle.std.proofs.Common.{◌≡◌, rules, sym, subst}
use Rattle.mapping.specs.declared.nib.Nib.{Nib}
use Rattle.span_fill.specs.WideStrokes.{in_wide_stroke, one_pixel}
use Rattle.painting.specs.Painted.{PaintsShape}
use Rattle.painting.specs.PenStrokes.{stroke_paint}
use Rattle.painting.specs.StrokedLines.{HasStroke}
use Rattle.painting.proofs.stroking.stroke_kept.Goals as goal

pub stroke_kept_thin-requires-clause-visible : goal.stroke_kept_thin-requires-clause-visible
stroke_kept_thin-requires-clause-visible c =
    let stroke = c.args.stroke.now in
    let thin : stroke.nib ≡ one_pixel = search rules in
    subst (λ (nib : Nib). HasStroke nib stroke c.args.scratch.now.rows.lines c.args.canvas.now c.args.drawn) thin c.requires.visible

pub returns-then-eq-clause-pixels : goal.returns-then-eq-clause-pixels
returns-then-eq-clause-pixels c =
    let stroke = c.args.stroke.now in
    let thin : stroke.nib ≡ one_pixel = search rules in
    subst (λ (nib : Nib). PaintsShape (stroke_paint stroke) (in_wide_stroke nib c.args.scratch.now.rows.lines) c.args.canvas.now c.stroke_kept_thin.new.canvas) (sym thin) c.stroke_kept_thin.ensures.pixels
