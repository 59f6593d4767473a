use Rattle.std.proofs.Common.{◌∙◌, ap, refl, rules, arith, sym, List}
use Rattle.mapping.specs.Surface.{Surface}
use Rattle.mapping.specs.declared.geometry.Rect.{Rect}
use Rattle.mapping.specs.PixelBoxes.{in_box}
use Rattle.dc_stack.specs.Draws.{figures_drawn}
use Rattle.dc_stack.specs.Drawing.{tools_of}
use Rattle.dc_stack.specs.Figures.{points_of_figures}
use Rattle.dc_stack.specs.State.{DcValue}
use Rattle.preflight_cert.specs.FigureLines.{all_closed}
use Rattle.preflight_cert.specs.Layer.{brushed_now}
use Rattle.preflight_cert.specs.Rectangles.{rectangle_on}
use Rattle.preflight_cert.specs.Shape.{fill_rule_of, inside_figures, inside_rectangle}
use Rattle.span_fill.specs.Fill.{in_fill}
use Rattle.span_fill.specs.declared.line.Line.{Line}
use Rattle.painting.specs.FillStyles.{fill_style_paint}
use Rattle.painting.specs.FigureOutlines.{outline_left}
use Rattle.painting.specs.declared.list_lines.Ends.TheVariants.{Closed}
use Rattle.painting.proofs.DrawingLemmas.{brush_fills, painted_layer}
use Rattle.painting.proofs.FigureLemmas.{closed_lines_along}
use Rattle.painting.proofs.LandedBoxLemmas.{shape_landed}
use Rattle.painting.proofs.LandingLemmas.{lands_place, two_land}
use Rattle.painting.proofs.PaintedFigureLemmas.{few_to_count, figures_closed, fills_figures, lines_few, points_closed}
use Rattle.span_fill.specs.WideStrokes.{one_pixel}
use Rattle.painting.proofs.drawing.fill.Goals as goal

pub new-outline-requires : goal.new-outline-requires
new-outline-requires g c =
    let borrowed = rw c.in-Figures.is at c.requires.may.placed.ready in
    let land = rw c.in-Figures.is at c.requires.may.placed.within in
    let few = few_to_count _ (rw c.in-Figures.is at c.requires.may.placed.few) in
    search (borrowed, land, few, rules)

pub fill_inside-requires : goal.fill_inside-requires
fill_inside-requires g c =
    let s = c.args.machine.now.surface in
    let figures = figures_drawn c.args.machine.now.painted c.in-Figures.points in
    let rule = fill_rule_of c.with-paint.result.modes.fill_mode in
    let shape = inside_figures c.with-paint.result.modes.fill_mode (all_closed figures) in
    let lines = c.new-outline.ensures ∙ closed_lines_along s figures in
    let least = rw c.in-Figures.is at c.requires.may.placed.least in
    let within = rw c.in-Figures.is at c.requires.may.placed.within in
    let enough = rw c.in-Figures.is at c.requires.may.lines in
    let counted = lines_few s figures Closed (outline_left c.new-outline.result) c.new-outline.ensures in
    record {
      countable = c.requires.countable;
      alone = c.with-paint.ensures.alone;
      capacity = omega (arith, enough, counted);
      within = λ x y h.
          shape_landed c.drawing_box_law.ensures one_pixel c.place-place.result s c.place-place.ensures c.args.drawn.bounds c.landed_box.result c.landed_box.ensures (points_of_figures figures) least within
          shape refl (figures_closed figures) (points_closed figures) x y (sym (ap (λ (list : List Line). in_fill rule list x y) lines) ∙ h);
    }

pub placed_box-inside-requires : goal.placed_box-inside-requires
placed_box-inside-requires g c =
    let s = c.args.machine.now.surface in
    let both = two_land s c.in-Rectangle.first c.in-Rectangle.second (rw c.in-Rectangle.is at c.requires.may.placed.within) in
    record {
      first = lands_place c.place-place.result s c.in-Rectangle.first c.place-place.ensures both.0;
      second = lands_place c.place-place.result s c.in-Rectangle.second c.place-place.ensures both.1;
    }

pub returns-in_default-painting-clause-drawn : goal.returns-in_default-painting-clause-drawn
returns-in_default-painting-clause-drawn g c =
    let s = c.args.machine.now.surface in
    let tools = tools_of c.args.machine.now.state.dc in
    let brush = ap (λ (d : DcValue). d.selected.brush.object) c.dc.ensures.value in
    let asked = rw brush at c.with-paint.ensures.paint in
    let figures = figures_drawn c.args.machine.now.painted c.in-Figures.points in
    let shape = inside_figures tools.modes.fill_mode (all_closed figures) in
    let lines = c.new-outline.ensures ∙ closed_lines_along s figures in
    let drawn = painted_layer c.writing_law.ensures s c.args.canvas.now c.fill_inside.new.canvas c.whole_law.ensures.whole c.requires.may.held (brushed_now tools.brush tools) tools (fill_style_paint c.with-paint.result) asked _ shape
    (λ x y. rw (c.with-paint.ensures.modes, lines) refl) c.fill_inside.ensures.pixels c.fill_inside.ensures.few in
    rw (c.in-Figures.is, fills_figures c.in-Figures.painting figures tools c.in_default-painting.not-Stroke, brush_fills c.dc.result.now.selected.brush shape tools c.in_default.not-Null brush) drawn

-- the row buffer has taken the lines of the closed figures
pub returns-in_default-painting-clause-taken : goal.returns-in_default-painting-clause-taken
returns-in_default-painting-clause-taken g c = λ taken. rw c.in-Figures.is (c.fill_inside.ensures.taken taken ∙ c.new-outline.ensures)

pub returns-in-Rectangle-clause-drawn : goal.returns-in-Rectangle-clause-drawn
returns-in-Rectangle-clause-drawn g c =
    let s = c.args.machine.now.surface in
    let tools = tools_of c.args.machine.now.state.dc in
    let brush = ap (λ (d : DcValue). d.selected.brush.object) c.dc.ensures.value in
    let asked = rw brush at c.with-paint.ensures.paint in
    let shape = inside_rectangle c.in-Rectangle.first c.in-Rectangle.second c.in-Rectangle.edges in
    let drawn = painted_layer c.writing_law.ensures s c.args.canvas.now c.fill_box.new.canvas c.whole_law.ensures.whole c.requires.may.held (brushed_now tools.brush tools) tools (fill_style_paint c.with-paint.result) asked _ shape
    (λ x y. ap (λ (box : Rect). in_box box x y) c.placed_box-inside.ensures.value ∙ ap (λ (r : Surface). in_box (rectangle_on r c.in-Rectangle.first c.in-Rectangle.second c.in-Rectangle.edges) x y) c.place-place.ensures) c.fill_box.ensures.pixels c.fill_box.ensures.few in
    rw (c.in-Rectangle.is, brush_fills c.dc.result.now.selected.brush shape tools c.in_default.not-Null brush) drawn
