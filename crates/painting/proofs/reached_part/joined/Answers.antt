-- Both lie within the region.
use Rattle.std.proofs.Common.{arith}
use Rattle.painting.proofs.reached_part.joined.Goals as goal

pub returns-clause-within : goal.returns-clause-within
returns-clause-within c = λ drawn reached part.
    let low = c.hull.ensures.low in
    let top = c.hull-2.ensures.low in
    let a = reached.left_end in
    let b = reached.top_end in
    record {
      left = c.hull.ensures.least drawn.columns.from reached.left part.left;
      left_end = omega (arith, low, a);
      right = c.hull.ensures.most drawn.columns.to reached.right part.right;
      top = c.hull-2.ensures.least drawn.rows.from reached.top part.top;
      top_end = omega (arith, top, b);
      bottom = c.hull-2.ensures.most drawn.rows.to reached.bottom part.bottom;
    }
