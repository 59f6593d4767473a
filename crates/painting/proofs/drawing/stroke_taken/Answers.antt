use Rattle.std.proofs.Common.{◌∙◌, sym}
use Rattle.mapping.specs.Nibs.{nib_of}
use Rattle.dc_stack.specs.Drawing.{mark_points, tools_of}
use Rattle.dc_stack.specs.Draws.{mark_of}
use Rattle.preflight_cert.specs.Paint.{solid}
use Rattle.preflight_cert.specs.Shape.{stroke_of}
use Rattle.preflight_cert.specs.StrokedOutline.{outline_lines}
use Rattle.span_fill.specs.WideStrokes.{in_wide_stroke}
use Rattle.painting.specs.PenStrokes.{stroke_paint}
use Rattle.painting.proofs.DrawingLemmas.{painted_layer, pen_nib, pen_strokes}
use Rattle.painting.proofs.LandedBoxLemmas.{shape_landed}
use Rattle.painting.proofs.TakenLineLemmas.{same_stroke, taken_outline, taken_stroke}
use Rattle.painting.proofs.VisibleLemmas.{seen_within}
use Rattle.painting.proofs.drawing.stroke_taken.Goals as goal

pub stroke_kept-requires-clause-visible : goal.stroke_kept-requires-clause-visible
stroke_kept-requires-clause-visible g c =
    let machine = c.args.machine.now in
    let drawn = c.args.drawn in
    let mark = mark_of machine.painted drawn in
    let s = machine.surface in
    let tools = tools_of machine.state.dc in
    let pen = c.requires.pen in
    let lines = c.args.scratch.now.rows.lines in
    let taken = taken_stroke machine drawn.mark lines c.requires.closed c.requires.taken in
    let outline = taken_outline machine.painted drawn.mark in
    let placed = c.requires.may.placed in
    let nib = pen_nib mark tools s pen.width pen.colour c.args.stroke.now.nib drawn.nib c.requires.nib c.requires.may.nib.is taken.strokes pen.pen in
    let same = same_stroke c.args.stroke.now.nib (nib_of pen.width tools.map s) lines (outline_lines outline s) nib taken.are in
    let shape = in_wide_stroke c.args.stroke.now.nib lines in
    seen_within _ _ shape c.args.canvas.now c.visible_in-region.result
    (c.on_surface.ensures shape (λ box landed x y h.
    shape_landed c.drawing_box_law.ensures drawn.nib c.place.result s c.place.ensures drawn.bounds box landed (mark_points mark) placed.least placed.within
    (stroke_of pen.width tools.map outline) (sym nib ∙ c.requires.nib) tt taken.points x y (sym (same x y) ∙ h)))
    c.visible_in-region.ensures.visible

pub returns-clause-drawn : goal.returns-clause-drawn
returns-clause-drawn g c =
    let machine = c.args.machine.now in
    let drawn = c.args.drawn in
    let s = machine.surface in
    let tools = tools_of machine.state.dc in
    let pen = c.requires.pen in
    let lines = c.args.scratch.now.rows.lines in
    let taken = taken_stroke machine drawn.mark lines c.requires.closed c.requires.taken in
    let outline = taken_outline machine.painted drawn.mark in
    let nib = pen_nib (mark_of machine.painted drawn) tools s pen.width pen.colour c.args.stroke.now.nib drawn.nib c.requires.nib c.requires.may.nib.is taken.strokes pen.pen in
    let same = same_stroke c.args.stroke.now.nib (nib_of pen.width tools.map s) lines (outline_lines outline s) nib taken.are in
    let painted = painted_layer c.writing_law.ensures s c.args.canvas.now c.stroke_kept.new.canvas c.whole_law.ensures.whole c.requires.may.held (solid pen.colour) tools (stroke_paint c.args.stroke.now) pen.paint _ (stroke_of pen.width tools.map outline)
    same c.stroke_kept.ensures.pixels c.stroke_kept.ensures.few in
    rw (taken.layers tools, pen_strokes outline tools pen.width pen.colour pen.pen) painted
