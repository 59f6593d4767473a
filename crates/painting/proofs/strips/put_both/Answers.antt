use Rattle.std.proofs.Common.{arith}
use Rattle.painting.proofs.StripLemmas.{both_mixed, by_cells}
use Rattle.painting.proofs.strips.put_both.Goals as goal

pub returns-clause-pixels : goal.returns-clause-pixels
returns-clause-pixels c =
    both_mixed c.writing_law.ensures c.args.cells c.args.part.y c.args.part.columns.from c.args.part.columns.to c.args.mix c.args.gaps c.args.canvas.now c.mix_cells.new.self c.mix_cells-2.new.self c.ranges.cells.fits c.requires.whole
    c.mix_cells.ensures.pixels
    c.mix_cells-2.ensures.pixels

pub returns-clause-count : goal.returns-clause-count
returns-clause-count c =
    let made =
    both_mixed c.writing_law.ensures c.args.cells c.args.part.y c.args.part.columns.from c.args.part.columns.to c.args.mix c.args.gaps c.args.canvas.now c.mix_cells.new.self c.mix_cells-2.new.self c.ranges.cells.fits c.requires.whole
    c.mix_cells.ensures.pixels
    c.mix_cells-2.ensures.pixels in
    let counted = c.writing_law.ensures.span c.args.part.y c.args.part.columns.from c.args.part.columns.to (by_cells c.args.cells c.args.mix c.args.gaps) c.args.canvas.now c.mix_cells-2.new.self c.requires.whole c.requires.row c.requires.order c.requires.width made in
    omega (arith, counted)
