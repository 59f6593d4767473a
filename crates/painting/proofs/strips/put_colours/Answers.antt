use Rattle.std.proofs.Common.{rules}
use Rattle.painting.proofs.MixLemmas.{part_put}
use Rattle.painting.proofs.strips.put_colours.Goals as goal

pub returns-clause-pixels : goal.returns-clause-pixels
returns-clause-pixels c =
    let side = c.whole_law.ensures.side in
    part_put c.writing_law.ensures c.args.colours.now c.args.y c.args.columns.from c.args.columns.to c.args.canvas.now c.put_row.new.self c.requires.whole (search (rules, side)) c.requires.order c.put_row.ensures.pixels
