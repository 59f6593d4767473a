-- What a region has of a lone line is what is stroked, if nothing is cut out.
use Rattle.std.proofs.Common.{List, subst, sym}
use Rattle.dc_stack.specs.Values.{placed_value}
use Rattle.span_fill.specs.WideStrokes.{in_wide_stroke}
use Rattle.span_fill.specs.declared.line.Line.{Line}
use Rattle.painting.specs.PenStrokes.{stroke_paint}
use Rattle.painting.specs.WideSpans.{MixesWide}
use Rattle.painting.proofs.ReachedPartLemmas.{visible_part}
use Rattle.painting.proofs.RegionLemmas.{none_seen}
use Rattle.painting.proofs.RowLemmas.{few_written}
use Rattle.painting.proofs.VisibleLemmas.{seen_within}
use Rattle.painting.proofs.WideSpanLemmas.{painted_wide}
use Rattle.painting.proofs.wide_stroking.stroke_wide_lines.Goals as goal

pub returns-in-Some-clause-pixels : goal.returns-in-Some-clause-pixels
returns-in-Some-clause-pixels g c =
    let stroke = c.args.stroke.now in
    let lines = g.O.Outline.lines c.args.lines.outline in
    let shape = in_wide_stroke stroke.nib lines in
    let drawn = c.visible_in-drawn in
    let visible = seen_within _ _ shape c.args.canvas.now drawn.result (c.on_surface.ensures shape c.requires.within) drawn.ensures.visible in
    painted_wide c.writing_law.ensures (placed_value stroke.clip.now) stroke.mix stroke.nib lines drawn.result c.args.canvas.now c.mix_wide_line.new.canvas c.whole_law.ensures.whole visible c.in-Some.ensures.uncut
    (subst (λ (all : List Line). MixesWide drawn.result stroke.nib all stroke.mix c.args.canvas.now c.mix_wide_line.new.canvas) (sym c.in-Some.ensures.alone) c.mix_wide_line.ensures)

pub returns-in-Some-clause-few : goal.returns-in-Some-clause-few
returns-in-Some-clause-few g c = few_written c.writing_law.ensures _ _ c.args.canvas.now c.mix_wide_line.new.canvas c.mix_wide_line.ensures c.whole_law.ensures.pixels

-- what is visible of the lines lies in the region
pub returns-then-has_no_pixel-clause-pixels : goal.returns-then-has_no_pixel-clause-pixels
returns-then-has_no_pixel-clause-pixels g c =
    let stroke = c.args.stroke.now in
    let shape = in_wide_stroke stroke.nib (g.O.Outline.lines c.args.lines.outline) in
    let drawn = c.visible_in-drawn in
    none_seen (stroke_paint stroke) shape c.args.canvas.now c.writing_law.ensures c.whole_law.ensures.whole drawn.result
    (seen_within _ _ shape c.args.canvas.now drawn.result (c.on_surface.ensures shape c.requires.within) drawn.ensures.visible) (c.has_no_pixel.ensures.none c.if-has_no_pixel.true)

pub stroke_by_mask-requires-clause-visible : goal.stroke_by_mask-requires-clause-visible
stroke_by_mask-requires-clause-visible g c =
    let stroke = c.args.stroke.now in
    let shape = in_wide_stroke stroke.nib (g.O.Outline.lines c.args.lines.outline) in
    let drawn = c.visible_in-drawn in
    visible_part (placed_value stroke.clip.now) shape c.args.canvas.now drawn.result c.reached_of-part.result (seen_within _ _ shape c.args.canvas.now drawn.result (c.on_surface.ensures shape c.requires.within) drawn.ensures.visible)
    c.reached_of-part.ensures.part c.reached_of-part.ensures.all

pub stroke_kept_wide-requires-clause-visible : goal.stroke_kept_wide-requires-clause-visible
stroke_kept_wide-requires-clause-visible g c =
    let shape = in_wide_stroke c.args.stroke.now.nib (g.O.Outline.lines c.args.lines.outline) in
    let drawn = c.visible_in-drawn in
    rw c.keep.ensures.lines (seen_within _ _ shape c.args.canvas.now drawn.result (c.on_surface.ensures shape c.requires.within) drawn.ensures.visible)

pub returns-clause-pixels : goal.returns-clause-pixels
returns-clause-pixels g c = rw c.keep.ensures.lines at c.stroke_kept_wide.ensures.pixels
