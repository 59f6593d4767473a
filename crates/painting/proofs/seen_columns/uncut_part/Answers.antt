use Rattle.std.proofs.Common.{arith}
use Rattle.painting.proofs.SeenColumnLemmas.{not_cut}
use Rattle.painting.proofs.seen_columns.uncut_part.Goals as goal

pub loop-cut-preserved : goal.loop-cut-preserved
loop-cut-preserved c =
    let so_far = c.loop-cut.invariant in
    let less = c.less-part.ensures in
    let first_so_far = so_far.first in
    let last_so_far = so_far.last in
    let first = less.first in
    let last = less.last in
    record {
      all = λ x h uncut. less.all x (so_far.all x h uncut) (not_cut c.args.cuts.now x c.args.y c.loop-cut.cut-index _ c.loop-cut-test.true uncut);
      first = omega (arith, first_so_far, first);
      order = less.order;
      last = omega (arith, last_so_far, last);
    }
