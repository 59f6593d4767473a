use Rattle.std.proofs.Common.{◌≡◌, ◌||◌, true, false, Bool, List, pos, refl, sym, ap, ◌∙◌}
use Rattle.span_fill.specs.Strokes.{in_stroke, on_line}
use Rattle.span_fill.specs.WideStrokes.{in_wide_stroke, one_pixel}
use Rattle.span_fill.specs.declared.line.Line.{Line}
use Rattle.painting.specs.PenStrokes.{stroke_paint}
use Rattle.painting.proofs.RegionLemmas.{none_seen}
use Rattle.painting.proofs.RowLemmas.{few_written}
use Rattle.painting.proofs.VisibleLemmas.{painted_shape, seen_within}
use Rattle.painting.proofs.stroking.stroke_thin_lines.Goals as goal

-- a lone line is a stroke
or_nothing : (b : Bool) → b ≡ (b || false)
or_nothing true = refl
or_nothing false = refl

pub returns-in-Some-clause-pixels : goal.returns-in-Some-clause-pixels
returns-in-Some-clause-pixels g c =
    let line = c.in-Some.line in
    let lines = g.O.Outline.lines c.args.lines.outline in
    painted_shape c.writing_law.ensures (stroke_paint c.args.stroke.now) (λ x y. on_line line (pos x) (pos y)) (in_wide_stroke one_pixel lines) c.args.canvas.now c.step_line.new.canvas c.whole_law.ensures.whole
    (λ x y. or_nothing (on_line line (pos x) (pos y)) ∙ ap (λ (all : List Line). in_stroke all x y) (sym c.in-Some.ensures.alone) ∙ sym (c.wide_stroke_law.ensures.one lines x y))
    c.step_line.ensures

pub returns-in-Some-clause-few : goal.returns-in-Some-clause-few
returns-in-Some-clause-few g c = few_written c.writing_law.ensures _ _ c.args.canvas.now c.step_line.new.canvas c.step_line.ensures c.whole_law.ensures.pixels

-- what is visible of the lines lies in the region
pub returns-then-has_no_pixel-clause-pixels : goal.returns-then-has_no_pixel-clause-pixels
returns-then-has_no_pixel-clause-pixels g c =
    let shape = in_wide_stroke one_pixel (g.O.Outline.lines c.args.lines.outline) in
    none_seen (stroke_paint c.args.stroke.now) shape c.args.canvas.now c.writing_law.ensures c.whole_law.ensures.whole c.visible_in-drawn.result
    (seen_within _ _ shape c.args.canvas.now c.visible_in-drawn.result (c.on_surface.ensures shape c.requires.within) c.visible_in-drawn.ensures.visible) (c.has_no_pixel.ensures.none c.if-has_no_pixel.true)

pub stroke_kept_thin-requires-clause-visible : goal.stroke_kept_thin-requires-clause-visible
stroke_kept_thin-requires-clause-visible g c =
    let shape = in_wide_stroke one_pixel (g.O.Outline.lines c.args.lines.outline) in
    rw c.keep.ensures.lines (seen_within _ _ shape c.args.canvas.now c.visible_in-drawn.result (c.on_surface.ensures shape c.requires.within) c.visible_in-drawn.ensures.visible)

pub returns-clause-pixels : goal.returns-clause-pixels
returns-clause-pixels g c = rw c.keep.ensures.lines at c.stroke_kept_thin.ensures.pixels
