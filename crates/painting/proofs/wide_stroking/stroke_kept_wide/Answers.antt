use Rattle.dc_stack.specs.Values.{placed_value}
use Rattle.span_fill.specs.WideStrokes.{in_wide_stroke}
use Rattle.painting.proofs.ReachedPartLemmas.{visible_part}
use Rattle.painting.proofs.wide_stroking.stroke_kept_wide.Goals as goal

pub stroke_by_mask-requires-clause-visible : goal.stroke_by_mask-requires-clause-visible
stroke_by_mask-requires-clause-visible c =
    let stroke = c.args.stroke.now in
    let shape = in_wide_stroke stroke.nib c.args.scratch.now.rows.lines in
    let part = c.reached_of-part in
    rw c.lines.ensures.lines
    (visible_part (placed_value stroke.clip.now) shape c.args.canvas.now c.args.drawn part.result c.requires.visible part.ensures.part (rw c.lines.ensures.lines at part.ensures.all))

pub returns-in-Some-clause-pixels : goal.returns-in-Some-clause-pixels
returns-in-Some-clause-pixels c = rw c.lines.ensures.lines at c.stroke_by_mask.ensures.pixels

pub paint_begun-requires-clause-begun : goal.paint_begun-requires-clause-begun
paint_begun-requires-clause-begun c =
    let begun = c.begin_kept_stroke.ensures in
    record {
      work = begun.work;
      next = begun.next;
      order = c.requires.columns.order;
      side = c.requires.rows.to;
      visible = rw begun.lines c.requires.visible;
    }

pub returns-clause-pixels : goal.returns-clause-pixels
returns-clause-pixels c = rw c.begin_kept_stroke.ensures.lines at c.paint_begun.ensures.pixels
