use Rattle.std.proofs.Common.{arith, sym, ◌∙◌}
use Rattle.dc_stack.specs.Values.{placed_value}
use Rattle.span_fill.specs.Fill.{in_fill}
use Rattle.preflight_cert.specs.Shape.{fill_rule_of}
use Rattle.painting.specs.FillStyles.{fill_style_paint}
use Rattle.painting.specs.RowPainters.{painter_paint}
use Rattle.painting.proofs.RegionLemmas.{none_seen}
use Rattle.painting.proofs.RowLemmas.{few_written}
use Rattle.painting.proofs.VisibleLemmas.{no_cuts, painted_same, painted_uncut, seen_within}
use Rattle.painting.proofs.filling.fill_inside.Goals as goal

pub returns-then-has_no_pixel-clause-pixels : goal.returns-then-has_no_pixel-clause-pixels
returns-then-has_no_pixel-clause-pixels g c =
    none_seen (fill_style_paint c.args.paint.now) (in_fill (fill_rule_of c.args.paint.now.modes.fill_mode) (g.O.Outline.lines c.args.outline)) c.args.canvas.now c.writing_law.ensures c.whole_law.ensures.whole c.visible_in-drawn.result
    (seen_within _ _ _ c.args.canvas.now c.visible_in-drawn.result c.requires.within c.visible_in-drawn.ensures.visible) (c.has_no_pixel.ensures.none c.if-has_no_pixel.true)

pub paint_rows-requires-clause-begun : goal.paint_rows-requires-clause-begun
paint_rows-requires-clause-begun g c =
    let begun = c.begin_fill.ensures in
    let painter = c.painter-painter.ensures in
    let some = c.has_no_pixel.ensures.columns c.if-has_no_pixel.false in
    let side = c.visible_in-drawn.ensures.rows.to in
    let lines = g.O.Outline.lines c.args.outline in
    let visible = seen_within (placed_value c.args.paint.now.clip.now) _ (in_fill (fill_rule_of c.args.paint.now.modes.fill_mode) lines) c.args.canvas.now c.visible_in-drawn.result c.requires.within c.visible_in-drawn.ensures.visible in
    record {
      work = begun.work;
      next = begun.next;
      order = rw painter.columns (omega (arith, some));
      side = omega (arith, side);
      visible = rw (painter.clip, painter.columns, begun.lines, c.rule_of-rule.ensures) visible;
    }

pub returns-clause-pixels : goal.returns-clause-pixels
returns-clause-pixels g c =
    painted_same c.writing_law.ensures (painter_paint c.painter-painter.result) (fill_style_paint c.args.paint.now) (in_fill (fill_rule_of c.args.paint.now.modes.fill_mode) (g.O.Outline.lines c.args.outline)) c.args.canvas.now c.paint_rows.new.canvas c.whole_law.ensures.whole
    c.painter-painter.ensures.paint
    (rw (c.begin_fill.ensures.lines, c.rule_of-rule.ensures) at c.paint_rows.ensures.pixels)

pub returns-in-Some-true-clause-pixels : goal.returns-in-Some-true-clause-pixels
returns-in-Some-true-clause-pixels g c =
    let paint = c.args.paint.now in
    let lines = g.O.Outline.lines c.args.outline in
    let shape = in_fill (fill_rule_of paint.modes.fill_mode) lines in
    let begun = c.begin_fill.ensures in
    let visible = seen_within (placed_value paint.clip.now) _ shape c.args.canvas.now c.visible_in-drawn.result c.requires.within c.visible_in-drawn.ensures.visible in
    painted_uncut c.writing_law.ensures (fill_style_paint paint) c.in-Some-true.colour shape c.args.canvas.now c.put_inside.new.canvas c.visible_in-drawn.result c.whole_law.ensures.whole visible
    (no_cuts paint.clip.now c.cut_boxes.result.now c.cut_boxes.ensures (sym c.in-Some-true.ensures'))
    c.in-Some-true.ensures
    (rw (begun.work, begun.lines, c.rule_of-rule.ensures) at c.put_inside.ensures.pixels)

pub returns-in-Some-true-clause-few : goal.returns-in-Some-true-clause-few
returns-in-Some-true-clause-few g c = few_written c.writing_law.ensures _ _ c.args.canvas.now c.put_inside.new.canvas c.put_inside.ensures.pixels c.whole_law.ensures.pixels

pub returns-in-Some-true-clause-taken : goal.returns-in-Some-true-clause-taken
returns-in-Some-true-clause-taken g c = λ taken. c.put_inside.ensures.lines ∙ c.begin_fill.ensures.lines

pub returns-clause-taken : goal.returns-clause-taken
returns-clause-taken g c = λ taken. c.paint_rows.ensures.lines ∙ c.begin_fill.ensures.lines
