use Rattle.std.proofs.Common.{rules}
use Rattle.painting.proofs.MixLemmas.{part_mixed}
use Rattle.painting.proofs.strips.put_mixes.Goals as goal

pub returns-clause-pixels : goal.returns-clause-pixels
returns-clause-pixels c =
    let side = c.whole_law.ensures.side in
    part_mixed c.writing_law.ensures c.args.keeps.now c.args.flips.now c.args.y c.args.columns.from c.args.columns.to c.args.canvas.now c.mix_row.new.self c.requires.whole (search (rules, side)) c.requires.order c.mix_row.ensures.pixels
