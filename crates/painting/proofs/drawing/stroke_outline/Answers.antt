use Rattle.std.proofs.Common.{◌≡◌, ◌∙◌, ap, refl, sym, rules, arith, [], ◌∷◌, Some}
use Rattle.mapping.specs.Surface.{Surface, placed_point}
use Rattle.dc_stack.specs.Drawing.{figures_painted, rectangle_between, tools_of}
use Rattle.dc_stack.specs.declared.draw.Painting.TheVariants.{Stroke}
use Rattle.dc_stack.specs.Draws.{figures_drawn}
use Rattle.dc_stack.specs.Figures.{figures_of_lists, points_of_figures}
use Rattle.preflight_cert.specs.Outlines.{line_from}
use Rattle.preflight_cert.specs.Paint.{solid}
use Rattle.preflight_cert.specs.Rectangles.{rectangle_on}
use Rattle.preflight_cert.specs.Shape.{stroke_of}
use Rattle.preflight_cert.specs.StrokedOutline.{along, round}
use Rattle.painting.specs.FigureEnds.{stroked_ends}
use Rattle.painting.specs.FigureOutlines.{outline_left}
use Rattle.painting.specs.PenStrokes.{stroke_paint}
use Rattle.painting.proofs.DrawingLemmas.{painted_layer, pen_nib, pen_strokes}
use Rattle.painting.proofs.LandedBoxLemmas.{shape_landed}
use Rattle.painting.proofs.LandingLemmas.{lands_place, two_land}
use Rattle.painting.proofs.PaintedFigureLemmas.{few_to_count, lines_few, lines_painted, stroke_reported, stroked_lines, stroked_outline, strokes_figures}
use Rattle.painting.proofs.drawing.stroke_outline.Goals as goal

pub new-requires-clause-to : goal.new-requires-clause-to
new-requires-clause-to g c =
    let both = two_land c.args.machine.now.surface c.in-Line.from c.in-Line.to (rw c.in-Line.is at c.requires.may.placed.within) in
    lands_place c.place-place.result c.args.machine.now.surface c.in-Line.to c.place-place.ensures both.1

pub stroke_lines-requires-clause-within : goal.stroke_lines-requires-clause-within
stroke_lines-requires-clause-within g c =
    let s = c.args.machine.now.surface in
    let figures = figures_of_lists ((c.in-Line.from ∷ c.in-Line.to ∷ []) ∷ []) in
    let least = rw c.in-Line.is at c.requires.may.placed.least in
    let within = rw c.in-Line.is at c.requires.may.placed.within in
    let lines = c.new.ensures ∙ ap (λ (r : Surface). line_from (placed_point c.in-Line.from r) (placed_point c.in-Line.to r) ∷ []) c.place-place.ensures in
    let pen = c.requires.pen in
    let tools = tools_of c.args.machine.now.state.dc in
    let reported = rw c.in-Line.is at c.requires.may.nib.is in
    let nib = pen_nib (figures_painted Stroke figures) tools s pen.width pen.colour c.args.stroke.now.nib c.args.drawn.nib c.requires.nib reported refl pen.pen in
    λ box landed x y h.
    shape_landed c.drawing_box_law.ensures c.args.drawn.nib c.place-place.result s c.place-place.ensures c.args.drawn.bounds box landed (points_of_figures figures) least within
    (stroke_of pen.width tools.map (along figures)) (sym nib ∙ c.requires.nib) tt refl x y
    (rw (nib, lines) at h)

pub new-requires-in-Some : goal.new-requires-in-Some
new-requires-in-Some g c =
    let borrowed = rw c.in-Figures.is at c.requires.may.placed.ready in
    let land = rw c.in-Figures.is at c.requires.may.placed.within in
    let few = few_to_count _ (rw c.in-Figures.is at c.requires.may.placed.few) in
    search (borrowed, land, few, rules)

pub stroke_lines-requires-in-Some-clause-capacity : goal.stroke_lines-requires-in-Some-clause-capacity
stroke_lines-requires-in-Some-clause-capacity g c =
    let enough = rw c.in-Figures.is at c.requires.may.lines in
    let counted = lines_few c.args.machine.now.surface (figures_drawn c.args.machine.now.painted c.in-Figures.points) c.in-Some.ends (outline_left c.new-in-Some.result) c.new-in-Some.ensures in
    omega (arith, enough, counted)

pub stroke_lines-requires-in-Some-clause-within : goal.stroke_lines-requires-in-Some-clause-within
stroke_lines-requires-in-Some-clause-within g c =
    let s = c.args.machine.now.surface in
    let ends = c.in-Some.ends in
    let figures = figures_drawn c.args.machine.now.painted c.in-Figures.points in
    let least = rw c.in-Figures.is at c.requires.may.placed.least in
    let within = rw c.in-Figures.is at c.requires.may.placed.within in
    let pen = c.requires.pen in
    let tools = tools_of c.args.machine.now.state.dc in
    let reported = rw c.in-Figures.is at c.requires.may.nib.is in
    let asked : stroked_ends c.in-Figures.painting ≡ Some ends = search rules in
    let nib = pen_nib (figures_painted c.in-Figures.painting figures) tools s pen.width pen.colour c.args.stroke.now.nib c.args.drawn.nib c.requires.nib reported (lines_painted c.in-Figures.painting ends asked) pen.pen in
    let lines = c.new-in-Some.ensures ∙ stroked_lines s ends figures in
    λ box landed x y h.
    shape_landed c.drawing_box_law.ensures c.args.drawn.nib c.place-place.result s c.place-place.ensures c.args.drawn.bounds box landed (points_of_figures figures) least within
    (stroke_of pen.width tools.map (stroked_outline ends figures)) (sym nib ∙ c.requires.nib) tt (stroke_reported ends figures) x y
    (rw (nib, lines) at h)

pub placed_box-requires-clause-second : goal.placed_box-requires-clause-second
placed_box-requires-clause-second g c =
    let both = two_land c.args.machine.now.surface c.in-Rectangle.first c.in-Rectangle.second (rw c.in-Rectangle.is at c.requires.may.placed.within) in
    lands_place c.place-place.result c.args.machine.now.surface c.in-Rectangle.second c.place-place.ensures both.1

pub returns-in-Line-clause-drawn : goal.returns-in-Line-clause-drawn
returns-in-Line-clause-drawn g c =
    let s = c.args.machine.now.surface in
    let tools = tools_of c.args.machine.now.state.dc in
    let pen = c.requires.pen in
    let figures = figures_of_lists ((c.in-Line.from ∷ c.in-Line.to ∷ []) ∷ []) in
    let outline = along figures in
    let reported = rw c.in-Line.is at c.requires.may.nib.is in
    let nib = pen_nib (figures_painted Stroke figures) tools s pen.width pen.colour c.args.stroke.now.nib c.args.drawn.nib c.requires.nib reported refl pen.pen in
    let lines = c.new.ensures ∙ ap (λ (r : Surface). line_from (placed_point c.in-Line.from r) (placed_point c.in-Line.to r) ∷ []) c.place-place.ensures in
    let drawn = painted_layer c.writing_law.ensures s c.args.canvas.now c.stroke_lines.new.canvas c.whole_law.ensures.whole c.requires.may.held (solid pen.colour) tools (stroke_paint c.args.stroke.now) pen.paint _ (stroke_of pen.width tools.map outline)
    (λ x y. rw (nib, lines) refl) c.stroke_lines.ensures.pixels c.stroke_lines.ensures.few in
    rw (c.in-Line.is, pen_strokes outline tools pen.width pen.colour pen.pen) drawn

pub returns-in-Some-clause-drawn : goal.returns-in-Some-clause-drawn
returns-in-Some-clause-drawn g c =
    let s = c.args.machine.now.surface in
    let tools = tools_of c.args.machine.now.state.dc in
    let pen = c.requires.pen in
    let ends = c.in-Some.ends in
    let figures = figures_drawn c.args.machine.now.painted c.in-Figures.points in
    let asked : stroked_ends c.in-Figures.painting ≡ Some ends = search rules in
    let outline = stroked_outline ends figures in
    let reported = rw c.in-Figures.is at c.requires.may.nib.is in
    let nib = pen_nib (figures_painted c.in-Figures.painting figures) tools s pen.width pen.colour c.args.stroke.now.nib c.args.drawn.nib c.requires.nib reported (lines_painted c.in-Figures.painting ends asked) pen.pen in
    let lines = c.new-in-Some.ensures ∙ stroked_lines s ends figures in
    let drawn = painted_layer c.writing_law.ensures s c.args.canvas.now c.stroke_lines-in-Some.new.canvas c.whole_law.ensures.whole c.requires.may.held (solid pen.colour) tools (stroke_paint c.args.stroke.now) pen.paint _ (stroke_of pen.width tools.map outline)
    (λ x y. rw (nib, lines) refl) c.stroke_lines-in-Some.ensures.pixels c.stroke_lines-in-Some.ensures.few in
    rw (c.in-Figures.is, strokes_figures c.in-Figures.painting ends figures tools asked, pen_strokes outline tools pen.width pen.colour pen.pen) drawn

pub returns-in-Rectangle-clause-drawn : goal.returns-in-Rectangle-clause-drawn
returns-in-Rectangle-clause-drawn g c =
    let s = c.args.machine.now.surface in
    let tools = tools_of c.args.machine.now.state.dc in
    let pen = c.requires.pen in
    let outline = round c.in-Rectangle.first c.in-Rectangle.second c.in-Rectangle.edges in
    let reported = rw c.in-Rectangle.is at c.requires.may.nib.is in
    let nib = pen_nib (rectangle_between c.in-Rectangle.first c.in-Rectangle.second c.in-Rectangle.edges) tools s pen.width pen.colour c.args.stroke.now.nib c.args.drawn.nib c.requires.nib reported refl pen.pen in
    let inside = c.placed_box.ensures.value ∙ ap (λ (r : Surface). rectangle_on r c.in-Rectangle.first c.in-Rectangle.second c.in-Rectangle.edges) c.place-place.ensures in
    let drawn = painted_layer c.writing_law.ensures s c.args.canvas.now c.stroke_box.new.canvas c.whole_law.ensures.whole c.requires.may.held (solid pen.colour) tools (stroke_paint c.args.stroke.now) pen.paint _ (stroke_of pen.width tools.map outline)
    (λ x y. rw (nib, inside) refl) c.stroke_box.ensures.pixels c.stroke_box.ensures.few in
    rw (c.in-Rectangle.is, pen_strokes outline tools pen.width pen.colour pen.pen) drawn
