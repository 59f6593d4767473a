use Rattle.painting.proofs.stroking.stroke_kept_thin.Goals as goal

pub stroke_by_visited_mask-requires-clause-visible : goal.stroke_by_visited_mask-requires-clause-visible
stroke_by_visited_mask-requires-clause-visible c = rw (c.begin_visited_mask.ensures.region c.if-begin_visited_mask.true, c.lines.ensures.lines) c.requires.visible

pub returns-then-begin_visited_mask-clause-pixels : goal.returns-then-begin_visited_mask-clause-pixels
returns-then-begin_visited_mask-clause-pixels c = rw c.lines.ensures.lines at c.stroke_by_visited_mask.ensures.pixels

pub paint_begun-requires-clause-begun : goal.paint_begun-requires-clause-begun
paint_begun-requires-clause-begun c =
    let begun = c.begin_kept_stroke.ensures in
    record {
      work = begun.work;
      next = begun.next;
      order = c.requires.columns.order;
      side = c.requires.rows.to;
      visible = rw (c.requires.nib, begun.lines) c.requires.visible;
    }

pub returns-clause-pixels : goal.returns-clause-pixels
returns-clause-pixels c = rw (c.requires.nib, c.begin_kept_stroke.ensures.lines) at c.paint_begun.ensures.pixels
